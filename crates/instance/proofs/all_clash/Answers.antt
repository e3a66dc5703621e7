use native.Mathlib.Omega.{arith}
use Rattle.sets.proofs.Turns.{Turn, taken, none_left, passed_more}
use Rattle.instance.proofs.Clashes.{Faced, faced, not_faced, all_faced}
use Rattle.instance.proofs.all_clash.Goals as goal
use Rattle.instance.proofs.all_clash.Goals.{In-Some}

turn : (l : In-Some) → Turn l.loop-i.i-iterator.left l.next.new.self.left l.in-Some.i
turn l = taken l.loop-i.invariant.low l.in-Some.ensures.steps

pub overflow_add-i : goal.overflow_add-i
overflow_add-i c = omega (arith, (turn (goal.at.overflow_add-i c).In-Some).below)

pub offset_bounds-table-i : goal.offset_bounds-table-i
offset_bounds-table-i c = omega (arith, (turn (goal.at.offset_bounds-table-i c).In-Some).below)

pub bounds-table-i : goal.bounds-table-i
bounds-table-i c = omega (arith, (turn (goal.at.bounds-table-i c).In-Some).below)

pub single-requires : goal.single-requires
single-requires c = (turn (goal.at.single-requires c).In-Some).below

pub returns-then-minus-ne0 : goal.returns-then-minus-ne0
returns-then-minus-ne0 c =
    let t = turn (goal.at.returns-then-minus-ne0 c).In-Some in
    not_faced c.args.table.now c.args.set c.in-Some.i (cc (c.union.ensures, c.single.ensures)) c.minus.ensures
    c.requires c.if-minus-ne0.true (c.loop-i.invariant.inside c.in-Some.i t.there)

pub loop-i-preserved : goal.loop-i-preserved
loop-i-preserved c =
    let a = c.args in
    passed_more (Faced a.table.now a.set) a.set (turn (goal.at.loop-i-preserved c).In-Some)
    (faced a.table.now a.set c.in-Some.i (cc (c.union.ensures, c.single.ensures)) c.minus.ensures
    c.if-minus-ne0.false)
    c.loop-i.invariant

pub returns : goal.returns
returns c = all_faced (none_left c.in-None.ensures.steps) c.loop-i.invariant
