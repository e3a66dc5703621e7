use Rattle.std.proofs.Common.{◌≡◌, length, take}
use Rattle.parser.proofs.Counted.{CountedSoFar}
use Rattle.parser.proofs.read_counted.Given as goal

abbrev pub invariant-loop-count : goal.invariant-loop-count
invariant-loop-count l =
    (length l.count-items ≡ l.resources)
    × CountedSoFar l.resources l.count-index l.initial.rest l.rest (take l.count-index l.count-items)
