use Rattle.std.proofs.Common.{◌≡◌, length, take}
use Rattle.plan.specs.Limits.{is_capacity, capacity_form}
use Rattle.format.specs.Parse.{a_count}
use Rattle.parser.proofs.Readers.{ReadSoFar}
use Rattle.parser.proofs.Lines.capacity_lines.Given as goal

abbrev pub invariant-loop-capacity : goal.invariant-loop-capacity
invariant-loop-capacity l =
    (length l.capacity-items ≡ l.resources)
    × ReadSoFar (a_count capacity_form (is_capacity 2)) l.resources l.capacity-index l.initial.self.number
    l.initial.self.rest.now l.self.number l.self.rest.now (take l.capacity-index l.capacity-items)
