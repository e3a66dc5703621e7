use native.Mathlib.Omega.{arith}
use Rattle.sets.proofs.Turns.{Turn, taken, none_left}
use Rattle.instance.proofs.Merging.{joining_none, joining_more, joining_all}
use Rattle.instance.proofs.joined.Goals as goal
use Rattle.instance.proofs.joined.Goals.{In-Some}

turn : (l : In-Some) → Turn l.loop-i.i-iterator.left l.next.new.self.left l.in-Some.i
turn l = taken l.loop-i.invariant.low l.in-Some.ensures.steps

pub loop-i-init : goal.loop-i-init
loop-i-init c =
    rw (c.into_iter-i-iterator.ensures.into_iter_gives, c.activities-i-items.ensures)
    (joining_none c.args.table.now c.args.set c.requires.0)

pub overflow_add-i : goal.overflow_add-i
overflow_add-i c = omega (arith, (turn (goal.at.overflow_add-i c).In-Some).below)

pub offset_bounds-table-i : goal.offset_bounds-table-i
offset_bounds-table-i c = omega (arith, (turn (goal.at.offset_bounds-table-i c).In-Some).below)

pub bounds-table-i : goal.bounds-table-i
bounds-table-i c = omega (arith, (turn (goal.at.bounds-table-i c).In-Some).below)

pub loop-i-preserved : goal.loop-i-preserved
loop-i-preserved c =
    joining_more c.loop-i.invariant (turn (goal.at.loop-i-preserved c).In-Some) c.requires.1 c.union-all.ensures

pub returns : goal.returns
returns c = joining_all c.loop-i.invariant (none_left c.in-None.ensures.steps)
