use native.Mathlib.Omega.{arith}
use Rattle.sets.proofs.Turns.{Turn, taken, none_left}
use Rattle.steps.proofs.Loops.{expiring, expire_ended, expire_on, expired}
use Rattle.steps.proofs.expire.Goals as goal
use Rattle.steps.proofs.expire.Goals.{In-Some}

-- The lowest member has been taken off.
turn : (l : In-Some) → Turn l.loop-i.i-iterator.left l.next.new.self.left l.in-Some.i
turn l = taken l.loop-i.invariant.marks.rest_low l.in-Some.ensures.steps

pub loop-i-init : goal.loop-i-init
loop-i-init c =
    let a = c.args in
    rw (c.into_iter-i-iterator.ensures.into_iter_gives, c.activities-i-items.ensures, c.running.ensures)
    (expiring a.work.now a.line c.requires)

pub loop-i-preserved-then-end-line : goal.loop-i-preserved-then-end-line
loop-i-preserved-then-end-line c =
    let a = c.args in
    expire_ended a.work.now a.line c.loop-i.invariant (turn (goal.at.loop-i-preserved-then-end-line c).In-Some) c.minus-term.result
    (omega arith)
    (cc)

pub loop-i-preserved : goal.loop-i-preserved
loop-i-preserved c =
    let a = c.args in
    expire_on a.work.now a.line c.loop-i.invariant (turn (goal.at.loop-i-preserved c).In-Some) c.min-first.result
    (omega arith)
    (cc)

pub returns : goal.returns
returns c =
    let a = c.args in
    expired a.work.now a.line c.loop-i.invariant (none_left c.in-None.ensures.steps)
