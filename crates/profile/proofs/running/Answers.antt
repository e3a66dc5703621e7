use mathlib.Core.Path.{ap, ◌∙◌}
use native.Mathlib.Omega.{arith}
use borrow.Author.Tests.{leb-true, leb-false}
use lib.Bits.{bit_or}
use Rattle.sets.proofs.Turns.{taken, none_left, gather_none, gather_more, gather_less}
use Rattle.profile.proofs.Runs.{runs_yes, runs_later, runs_ended, running_are}
use Rattle.profile.proofs.running.Goals as goal
use Rattle.profile.proofs.running.Goals.{else-first-end-via-then-first-end+else-end-last, else-first-end-via-else-first-end}

pub loop-k-init : goal.loop-k-init
loop-k-init c =
    rw (c.into_iter-k-iterator.ensures.into_iter_gives, c.activities-k-items.ensures) (gather_none _ _ c.requires.0)

pub loop-k-preserved-then-end-last : goal.loop-k-preserved-then-end-last
loop-k-preserved-then-end-last c =
    let a = c.args in
    gather_more _ _ (taken c.loop-k.invariant.rest_low c.in-Some.ensures.steps) c.loop-k.invariant _
    (runs_yes a.table.now a.work.now a.first a.last c.in-Some.k c.end_of-end.ensures (omega arith)
    (omega (arith, leb-true)))
    (c.union-on.ensures ∙ ap (bit_or c.loop-k.on) c.single.ensures)

pub loop-k-preserved : goal.loop-k-preserved
loop-k-preserved c =
    let a = c.args in
    gather_less _ _ (taken c.loop-k.invariant.rest_low c.in-Some.ensures.steps) c.loop-k.invariant
    (elim c.else-first-end.branch [
      | else-first-end-via-then-first-end+else-end-last w ↦
          runs_later a.table.now a.work.now a.first a.last c.in-Some.k c.end_of-end.ensures (omega (arith, leb-false))
      | else-first-end-via-else-first-end w ↦
          runs_ended a.table.now a.work.now a.first a.last c.in-Some.k c.end_of-end.ensures (omega arith)
    ])

pub returns : goal.returns
returns c = running_are _ _ _ _ _ (none_left c.in-None.ensures.steps) c.loop-k.invariant
