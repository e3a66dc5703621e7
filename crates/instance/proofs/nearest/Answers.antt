use native.Mathlib.Omega.{arith}
use Rattle.sets.proofs.Turns.{Turn, taken}
use Rattle.instance.proofs.Links.{nearing_more}
use Rattle.instance.proofs.nearest.Goals as goal
use Rattle.instance.proofs.nearest.Goals.{In-Some}

turn : (l : In-Some) → Turn l.loop-i.i-iterator.left l.next.new.self.left l.in-Some.i
turn l = taken l.loop-i.invariant.low l.in-Some.ensures.steps

pub overflow_add-i : goal.overflow_add-i
overflow_add-i c = omega (arith, (turn (goal.at.overflow_add-i c).In-Some).below)

pub offset_bounds-table-i : goal.offset_bounds-table-i
offset_bounds-table-i c = omega (arith, (turn (goal.at.offset_bounds-table-i c).In-Some).below)

pub bounds-table-i : goal.bounds-table-i
bounds-table-i c = omega (arith, (turn (goal.at.bounds-table-i c).In-Some).below)

pub loop-i-preserved : goal.loop-i-preserved
loop-i-preserved c =
    nearing_more c.loop-i.invariant (turn (goal.at.loop-i-preserved c).In-Some) c.minus-near.ensures
