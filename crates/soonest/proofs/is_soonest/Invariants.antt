use Prim.Native.Nat.{◌-◌}
use Rattle.plan.specs.Limits.{latest_possible}
use Rattle.soonest.proofs.Waits.{Waits}
use Rattle.soonest.proofs.is_soonest.Given as goal

-- `is_soonest` meets its contract. The loop's invariant: j fits on no tick before t.
abbrev pub invariant-loop-t : goal.invariant-loop-t
invariant-loop-t l = Waits l.table l.work l.before l.j l.t

abbrev pub decreases-loop-t : goal.decreases-loop-t
decreases-loop-t l = latest_possible - l.t
