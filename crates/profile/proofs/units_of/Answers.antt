use Prim.Native.Nat.{◌+◌}
use native.Mathlib.Omega.{arith}
use mathlib.Core.Path.{ap}
use Rattle.sets.proofs.Members.{members, ended}
use Rattle.sets.proofs.Turns.{none_left}
use Rattle.instance.specs.Table.{units_at}
use Rattle.profile.proofs.Folds.{fold_above, fold_taken}
use Rattle.profile.proofs.Units.{units_fold, units_few}
use Rattle.profile.proofs.units_of.Goals as goal

pub loop-k-init : goal.loop-k-init
loop-k-init c =
    rw (c.into_iter-k-iterator.ensures.into_iter_gives, c.activities-k-items.ensures)
    (omega arith, units_fold c.args.table.now c.args.set c.args.r)

pub loop-k-preserved : goal.loop-k-preserved
loop-k-preserved c =
    fold_taken _ c.loop-k.invariant c.in-Some.ensures.steps
    (ap (c.loop-k.units +◌) c.units_at-units.ensures)

pub overflow_add-units : goal.overflow_add-units
overflow_add-units c =
    let a = c.args in
    let sum = fold_taken (λ x k. x + units_at a.table.now k a.r) c.loop-k.invariant c.in-Some.ensures.steps
    (ap (c.loop-k.units +◌) c.units_at-units.ensures) in
    let above = fold_above (λ k. units_at a.table.now k a.r) (members c.next.new.self.left)
    (c.loop-k.units + c.units_at-units.result) in
    omega (arith, sum.1, units_few a.table.now a.set a.r c.requires.2 c.requires.1)

pub returns : goal.returns
returns c = ended _ (none_left c.in-None.ensures.steps) c.loop-k.invariant.1
