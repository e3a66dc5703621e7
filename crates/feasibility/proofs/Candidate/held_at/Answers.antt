use Prim.Native.Nat.{ℕ}
use mathlib.Core.Bool.{cond}
use mathlib.Core.Path.{◌≡◌, sym, ap, ◌∙◌}
use native.Mathlib.Omega.{arith}
use lib.ListN.{get_or}
use Rattle.base.proofs.Bools.{cond_true, cond_false}
use Rattle.base.specs.Below.{sum_below}
use Rattle.feasibility.specs.Model.{row, runs_at, held_at}
use Rattle.feasibility.proofs.Right.{sum_none, sum_more}
use Rattle.feasibility.proofs.Candidate.held_at.Goals as goal
use Rattle.feasibility.proofs.Candidate.held_at.Goals.{Start, then-runs_at, else-runs_at}

-- What each activity holds.
abbrev holds : Start → ℕ → ℕ
holds c k = let s = c.args.self.now in cond (runs_at s c.args.tick k) (get_or (row s k).units c.args.r 0) 0

pub loop-i-init : goal.loop-i-init
loop-i-init c = (sum_none (holds (goal.at.loop-i-init c).Start), omega arith)

pub loop-i-preserved : goal.loop-i-preserved
loop-i-preserved c =
    let f = holds (goal.at.loop-i-preserved c).Start in
    elim c.if-runs_at.branch [
      | then-runs_at w ↦
          let e : f c.loop-i.i ≡ get_or (row c.args.self.now c.loop-i.i).units c.args.r 0 =
          cond_true _ _ (sym c.runs_at.ensures ∙ w.if-runs_at.true) in
          (sum_more f c.loop-i.i c.loop-i.invariant.0 (omega arith), omega arith)
      | else-runs_at w ↦
          let e : f c.loop-i.i ≡ 0 = cond_false _ _ (sym c.runs_at.ensures ∙ w.if-runs_at.false) in
          (sum_more f c.loop-i.i c.loop-i.invariant.0 (omega arith), omega arith)
    ]

pub returns : goal.returns
unfolding held_at
returns c =
    c.loop-i.invariant.0
    ∙ ap (λ (n : ℕ). sum_below n (holds (goal.at.returns c).Start)) (omega arith)
