use mathlib.Core.Bool.{not}
use mathlib.Core.Path.{sym, ap, ◌∙◌}
use Rattle.sets.proofs.Turns.{Turn, taken, none_left}
use Rattle.completion.proofs.Readied.{readying, readied, ready_less, ready_more}
use Rattle.completion.proofs.make_ready.Goals as goal
use Rattle.completion.proofs.make_ready.Goals.{In-Some}

-- The lowest member has been taken off.
turn : (l : In-Some) → Turn l.loop-j.j-iterator.left l.next.new.self.left l.in-Some.j
turn l = taken l.loop-j.invariant.marks.rest_low l.in-Some.ensures.steps

pub loop-j-init : goal.loop-j-init
loop-j-init c =
    let a = c.args in
    rw (c.into_iter-j-iterator.ensures.into_iter_gives, c.activities-j-items.ensures)
    (readying a.table.now a.tick a.left a.new a.work.now c.requires.0 c.requires.3)

pub loop-j-preserved-then-not-meets : goal.loop-j-preserved-then-not-meets
loop-j-preserved-then-not-meets c =
    let a = c.args in
    ready_more a.table.now a.tick a.left a.new a.work.now c.loop-j.invariant
    (turn (goal.at.loop-j-preserved-then-not-meets c).In-Some)
    (ap not (sym c.meets.ensures) ∙ ap not c.if-not-meets.true)
    c.requires.1
    (cc)
    c.store_ready.ensures
    (cc)

pub loop-j-preserved : goal.loop-j-preserved
loop-j-preserved c =
    let a = c.args in
    ready_less a.table.now a.tick a.left a.new a.work.now c.loop-j.invariant
    (turn (goal.at.loop-j-preserved c).In-Some)
    (ap not (sym c.meets.ensures ∙ c.if-not-meets.false))

pub returns : goal.returns
returns c =
    let a = c.args in
    readied a.table.now a.tick a.left a.new a.work.now c.loop-j.invariant (none_left c.in-None.ensures.steps)
