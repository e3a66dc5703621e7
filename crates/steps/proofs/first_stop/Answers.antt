use native.Mathlib.Omega.{arith}
use Prim.Native.Nat.{◌+◌, ◌<◌}
use Rattle.sets.specs.Sets.{most}
use Rattle.sets.proofs.Turns.{Turn, taken, none_left}
use Rattle.instance.specs.Table.{acts_of, duration_at, own_at}
use Rattle.steps.proofs.Loops.{own_below, stopping, stop_sooner, stop_on, stop_after, stop_last}
use Rattle.steps.proofs.first_stop.Goals as goal
use Rattle.steps.proofs.first_stop.Goals.{In-Some}

-- The lowest member has been taken off.
turn : (l : In-Some) → Turn l.loop-i.i-iterator.left l.next.new.self.left l.in-Some.i
turn l = taken l.loop-i.invariant.stop.low l.in-Some.ensures.steps

-- It is an activity, and its component has a number.
own : (l : In-Some) → l.in-Some.i < acts_of l.args.table.now
own l =
    let i = l.in-Some.i in
    l.requires.3 i (l.loop-i.invariant.stop.inside i (turn l).there)

below : (l : In-Some) → own_at l.args.table.now l.in-Some.i < most
below l =
    own_below l.args.table.now l.requires.0 l.in-Some.i (own l)

pub loop-i-init : goal.loop-i-init
loop-i-init c =
    let a = c.args in
    rw (c.into_iter-i-iterator.ensures.into_iter_gives, c.activities-i-items.ensures)
    (stopping a.table.now a.work.now a.set a.first c.requires.2)

pub component_of-requires : goal.component_of-requires
component_of-requires c = (c.requires.0, own (goal.at.component_of-requires c).In-Some)

pub soon_of-requires : goal.soon_of-requires
soon_of-requires c = (c.requires.0, own (goal.at.soon_of-requires c).In-Some)

pub loop-i-preserved-then-end-tick : goal.loop-i-preserved-then-end-tick
loop-i-preserved-then-end-tick c =
    let a = c.args in
    let at = goal.at.loop-i-preserved-then-end-tick c in
    stop_sooner a.table.now a.work.now a.set a.first c.loop-i.invariant (turn at.In-Some) (below at.In-Some)
    (c.soon_of.result + duration_at a.table.now c.in-Some.i)
    c.single-own.result
    (omega arith)
    c.if-end-tick.true
    (cc)

pub loop-i-preserved-then-end-tick-2 : goal.loop-i-preserved-then-end-tick-2
loop-i-preserved-then-end-tick-2 c =
    let a = c.args in
    let at = goal.at.loop-i-preserved-then-end-tick-2 c in
    stop_on a.table.now a.work.now a.set a.first c.loop-i.invariant (turn at.In-Some) (below at.In-Some)
    c.union-due.result
    (omega arith)
    (cc)

pub loop-i-preserved : goal.loop-i-preserved
loop-i-preserved c =
    let a = c.args in
    stop_after a.table.now a.work.now a.set a.first c.loop-i.invariant
    (turn (goal.at.loop-i-preserved c).In-Some)
    (omega arith)

pub returns : goal.returns
returns c =
    let a = c.args in
    stop_last a.table.now a.work.now a.set a.first c.loop-i.invariant (none_left c.in-None.ensures.steps)
