use Rattle.std.proofs.Common.{◌≡◌, length}
use Rattle.plan.specs.Limits.{most_resources}
use Rattle.parser.proofs.Kept.{KeptSoFar}
use Rattle.parser.proofs.units_of.Given as goal

abbrev pub invariant-loop-i : goal.invariant-loop-i
invariant-loop-i l = (length l.units ≡ most_resources) × KeptSoFar l.counts l.units l.i
