use Prim.Native.Nat.{ℕ, ◌-◌}
use Rattle.plan.specs.Limits.{latest_possible}
use Rattle.profile.specs.Room.{Late}
use Rattle.profile.proofs.Beside.{Falling}
use Rattle.profile.proofs.fit_beside.Given as goal

-- `fit_beside` meets its contract. The loop's invariant: i fits on no tick from x up to `tick`, and `beside` are those
-- that run then.
abbrev pub invariant-loop-tick : goal.invariant-loop-tick
invariant-loop-tick l =
    (set : ℕ) → Late l.table l.work set l.live l.i l.x l.start → Falling l.table l.work set l.i l.x l.start l.tick l.beside

abbrev pub decreases-loop-tick : goal.decreases-loop-tick
decreases-loop-tick l = latest_possible - l.tick
