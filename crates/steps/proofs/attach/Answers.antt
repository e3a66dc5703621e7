use mathlib.Core.Bool.{Bool, true, not, ◌&&◌, and-false}
use mathlib.Core.Path.{◌≡◌, sym, ap, ◌∙◌}
use Prim.Native.Nat.{◌<◌}
use Rattle.base.proofs.Bools.{both}
use Rattle.sets.specs.Sets.{meet, has}
use Rattle.sets.proofs.Turns.{Turn, taken, none_left}
use Rattle.instance.specs.Table.{acts_of, preds_at}
use Rattle.steps.specs.Steps.{is_free}
use Rattle.steps.proofs.Loops.{minus_parts}
use Rattle.steps.proofs.Ready.{attaching, attached, free_now, attach_less, attach_more}
use Rattle.steps.proofs.attach.Goals as goal
use Rattle.steps.proofs.attach.Goals.{else-not-meets-via-then-not-meets+else-is_free, else-not-meets-via-else-not-meets}
use Rattle.steps.proofs.attach.Goals.{In-Some}

-- The lowest member has been taken off.
turn : (l : In-Some) → Turn l.loop-i.i-iterator.left l.next.new.self.left l.in-Some.i
turn l = taken l.loop-i.invariant.marks.rest_low l.in-Some.ensures.steps

-- It is left, and an activity.
left : (l : In-Some) → has l.args.line.left l.in-Some.i ≡ true
left l =
    let a = l.args in
    let i = l.in-Some.i in
    (minus_parts a.line.left a.line.placed i (l.loop-i.invariant.marks.inside i (turn l).there)).0

own : (l : In-Some) → l.in-Some.i < acts_of l.args.table.now
own l = l.requires.0.left l.in-Some.i (left l)

pub loop-i-init : goal.loop-i-init
loop-i-init c =
    let a = c.args in
    rw (c.into_iter-i-iterator.ensures.into_iter_gives, c.activities-i-items.ensures, c.waiting.ensures)
    (attaching a.table.now a.line a.work.now c.requires.0 c.requires.1)

pub is_free-requires : goal.is_free-requires
is_free-requires c =
    (c.loop-i.invariant.sets, c.loop-i.invariant.runs, left (goal.at.is_free-requires c).In-Some)

pub loop-i-preserved-then-is_free : goal.loop-i-preserved-then-is_free
loop-i-preserved-then-is_free c =
    let a = c.args in
    let at = goal.at.loop-i-preserved-then-is_free c in
    attach_more a.table.now a.line a.work.now c.loop-i.invariant (turn at.In-Some) c.store_ready.new.work
    c.union-placed.result
    (both (ap not (sym c.meets.ensures) ∙ ap not c.if-not-meets.true)
    (free_now a.table.now a.line a.work.now c.loop-i.invariant (own at.In-Some) c.is_free.ensures c.if-is_free.true))
    c.requires.2
    c.store_ready.ensures
    (cc)

pub loop-i-preserved : goal.loop-i-preserved
loop-i-preserved c =
    let a = c.args in
    let at = goal.at.loop-i-preserved c in
    let held : Bool = not (meet (preds_at a.table.now c.in-Some.i) a.line.term) in
    attach_less a.table.now a.line a.work.now c.loop-i.invariant (turn at.In-Some)
    (elim c.else-not-meets.branch [
      | else-not-meets-via-then-not-meets+else-is_free w ↦
          ap (held &&◌)
          (free_now a.table.now a.line a.work.now c.loop-i.invariant (own at.In-Some) w.is_free.ensures
          w.if-is_free.false)
          ∙ and-false held
      | else-not-meets-via-else-not-meets w ↦
          ap (◌&& is_free a.table.now a.work.now a.line c.in-Some.i)
          (ap not (sym c.meets.ensures) ∙ ap not w.if-not-meets.false)
    ])

pub returns : goal.returns
returns c =
    let a = c.args in
    attached a.table.now a.line a.work.now c.loop-i.invariant (none_left c.in-None.ensures.steps)
