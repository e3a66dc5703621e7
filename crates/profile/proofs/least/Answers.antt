use Prim.Native.Nat.{min}
use native.Mathlib.Omega.{arith}
use mathlib.Core.Path.{ap, ◌∙◌}
use Rattle.sets.proofs.Turns.{turned, taken, none_left}
use Rattle.profile.proofs.Ends.{lowering, lower, lowered}
use Rattle.profile.proofs.least.Goals as goal

pub loop-i-init : goal.loop-i-init
loop-i-init c =
    rw (c.into_iter-i-iterator.ensures.into_iter_gives, c.activities-i-items.ensures)
    (lowering _ _ _ (turned _ _ _ c.requires.1 (omega arith) c.lowest.ensures c.after_lowest.ensures)
    c.end_of-first.ensures)

pub loop-i-preserved : goal.loop-i-preserved
loop-i-preserved c =
    lower _ _ _ (taken c.loop-i.invariant.low c.in-Some.ensures.steps)
    (c.min-first.ensures ∙ ap (min c.loop-i.first) c.end_of.ensures)
    c.loop-i.invariant

pub returns : goal.returns
returns c = lowered _ _ (none_left c.in-None.ensures.steps) c.loop-i.invariant
