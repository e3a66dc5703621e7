use Prim.Native.Nat.{◌*◌, ◌≤◌}
use mathlib.Core.Bool.{cond}
use mathlib.Core.Path.{◌≡◌}
use lib.ListN.{get_or}
use Rattle.base.specs.Below.{sum_below}
use Rattle.feasibility.specs.Model.{row, runs_at}
use Rattle.feasibility.proofs.Candidate.held_at.Given as goal

-- The units of all activities below `i` are summed.
abbrev pub invariant-loop-i : goal.invariant-loop-i
invariant-loop-i l =
    (l.held ≡ sum_below l.i (λ k. cond (runs_at l.self l.tick k) (get_or (row l.self k).units l.r 0) 0))
    × (l.held ≤ 255 * l.i)
