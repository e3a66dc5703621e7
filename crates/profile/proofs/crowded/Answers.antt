use Rattle.std.proofs.Common.{arith, ap, ◌-◌}
use Rattle.sets.proofs.Turns.{taken, none_left, passed_more, passed_all}
use Rattle.instance.specs.Table.{duration_at}
use Rattle.profile.proofs.Fits.{blocked_full, passable_before, passable_room, passable_all}
use Rattle.profile.proofs.crowded.Goals as goal

pub returns-then-first-ne0 : goal.returns-then-first-ne0
returns-then-first-ne0 c =
    blocked_full _ _ _ _ _ c.args.x _ (omega arith) (omega (arith, c.requires.0.laid.long c.args.i))
    c.if-first-ne0.true c.full_until-first.ensures

pub overflow_sub-start : goal.overflow_sub-start
overflow_sub-start c =
    let there = (taken c.loop-k.invariant.low c.in-Some.ensures.steps).there in
    omega (arith, c.requires.0.started _ (c.loop-k.invariant.inside _ there))

pub returns-then-until-ne0 : goal.returns-then-until-ne0
returns-then-until-ne0 c =
    let there = (taken c.loop-k.invariant.low c.in-Some.ensures.steps).there in
    blocked_full _ _ _ _ _ (c.end_of.result - duration_at c.args.table.now c.in-Some.k) _ (omega arith)
    (omega (arith, c.requires.2 _ (c.loop-k.invariant.inside _ there)))
    c.if-until-ne0.true c.full_until-until.ensures

pub loop-k-preserved-else-until-ne0 : goal.loop-k-preserved-else-until-ne0
loop-k-preserved-else-until-ne0 c =
    passed_more _ _ (taken c.loop-k.invariant.low c.in-Some.ensures.steps)
    (passable_room _ _ _ _ _ _ _ (ap (◌- duration_at c.args.table.now c.in-Some.k) c.end_of.ensures)
    (c.full_until-until.ensures.left c.if-until-ne0.false))
    c.loop-k.invariant

pub loop-k-preserved : goal.loop-k-preserved
loop-k-preserved c =
    let a = c.args in
    passed_more _ _ (taken c.loop-k.invariant.low c.in-Some.ensures.steps)
    (passable_before a.table.now a.work.now a.set a.i a.x c.in-Some.k _
    (ap (◌- duration_at a.table.now c.in-Some.k) c.end_of.ensures)
    c.if-x-start.false)
    c.loop-k.invariant

pub returns : goal.returns
returns c =
    passable_all _ _ _ _ _ c.requires.0 (c.full_until-first.ensures.left c.if-first-ne0.false)
    (passed_all _ _ (none_left c.in-None.ensures.steps) c.loop-k.invariant)
