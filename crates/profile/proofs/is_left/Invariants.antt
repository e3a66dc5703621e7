use Rattle.profile.proofs.Units.{Left}
use Rattle.profile.proofs.is_left.Given as goal

-- `is_left` meets its contract. The loop's invariant: the units of the first resources are left.
abbrev pub invariant-loop-r : goal.invariant-loop-r
invariant-loop-r l = Left l.table l.set l.i l.r
