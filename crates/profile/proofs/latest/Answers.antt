use native.Mathlib.Omega.{arith}
use Prim.Native.Nat.{max}
use mathlib.Core.Path.{ap, ◌∙◌}
use Rattle.sets.proofs.Members.{ended}
use Rattle.sets.proofs.Turns.{none_left}
use Rattle.profile.proofs.Folds.{latest_fold, fold_taken}
use Rattle.profile.proofs.latest.Goals as goal

pub loop-i-init : goal.loop-i-init
loop-i-init c =
    rw (c.into_iter-i-iterator.ensures.into_iter_gives, c.activities-i-items.ensures)
    (omega arith, latest_fold c.args.work.now c.args.set)

pub loop-i-preserved : goal.loop-i-preserved
loop-i-preserved c =
    fold_taken _ c.loop-i.invariant c.in-Some.ensures.steps
    (c.max-last.ensures ∙ ap (max c.loop-i.last) c.end_of.ensures)

pub returns : goal.returns
returns c = ended _ (none_left c.in-None.ensures.steps) c.loop-i.invariant.1
