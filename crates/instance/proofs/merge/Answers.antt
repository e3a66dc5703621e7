use native.Mathlib.Omega.{arith}
use mathlib.Core.Path.{refl}
use Rattle.sets.proofs.Turns.{Turn, taken, none_left}
use Rattle.instance.proofs.Stores.{storing_more, storing_all}
use Rattle.instance.proofs.merge.Goals as goal
use Rattle.instance.proofs.merge.Goals.{In-Some}

turn : (l : In-Some) → Turn l.loop-i.i-iterator.left l.next.new.self.left l.in-Some.i
turn l = taken l.loop-i.invariant.low l.in-Some.ensures.steps

pub overflow_add-table : goal.overflow_add-table
overflow_add-table c = omega (arith, (turn (goal.at.overflow_add-table c).In-Some).below)

pub offset_bounds-table-i : goal.offset_bounds-table-i
offset_bounds-table-i c = omega (arith, (turn (goal.at.offset_bounds-table-i c).In-Some).below)

pub bounds-table-i : goal.bounds-table-i
bounds-table-i c = omega (arith, (turn (goal.at.bounds-table-i c).In-Some).below)

pub loop-i-preserved : goal.loop-i-preserved
loop-i-preserved c =
    storing_more c.loop-i.invariant c.args.set (turn (goal.at.loop-i-preserved c).In-Some) (omega (arith, c.requires.0))
    refl

pub returns : goal.returns
returns c = storing_all c.loop-i.invariant (none_left c.in-None.ensures.steps)
