use Rattle.std.proofs.Common.{rules, arith}
use borrow.Author.Tests.{ltb-true, ltb-false}
use mathlib.Core.Path.{sym}
use Rattle.plan.specs.Limits.{most_resources}
use Prim.Native.Nat.{◌<◌}
use Rattle.profile.proofs.Units.{left_none, left_more, left_all, left_not, units_few}
use Rattle.profile.proofs.is_left.Goals as goal
use Rattle.profile.proofs.is_left.Goals.{else-own-ne0-via-then-own-ne0+else-table-r, else-own-ne0-via-else-own-ne0}

pub loop-r-init : goal.loop-r-init
loop-r-init c = search (rules, left_none)

pub overflow_add-units_of : goal.overflow_add-units_of
overflow_add-units_of c =
    let low : c.loop-r.r < most_resources = omega arith in
    omega (arith, units_few _ c.args.set _ c.requires.2 low, c.requires.2.units c.args.i _ c.requires.1 low)

pub returns-then-table-r : goal.returns-then-table-r
returns-then-table-r c =
    sym (left_not _ _ _ c.loop-r.r _ c.units_at-own.ensures (omega arith) (omega arith) (omega (arith, ltb-true)))

pub loop-r-preserved : goal.loop-r-preserved
loop-r-preserved c =
    left_more _ _ _ c.loop-r.r _ c.units_at-own.ensures (omega arith)
    (elim c.else-own-ne0.branch [
      | else-own-ne0-via-then-own-ne0+else-table-r w ↦ λ some. omega (arith, ltb-false)
      | else-own-ne0-via-else-own-ne0 w ↦ λ some. absurd (omega arith)
    ])
    c.loop-r.invariant

pub returns : goal.returns
returns c = sym (left_all _ _ _ c.loop-r.r c.loop-r.invariant (omega arith))
