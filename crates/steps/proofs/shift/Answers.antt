use Rattle.std.proofs.Common.{rules}
use native.Mathlib.Omega.{arith}
use mathlib.Core.Logic.{inl, inr}
use Prim.Native.Nat.{◌+◌, ◌-◌}
use Rattle.sets.proofs.Turns.{Turn, taken, none_left}
use Rattle.instance.specs.Table.{duration_at}
use Rattle.profile.specs.Work.{ready_from}
use Rattle.steps.proofs.Ready.{settled, Fitted, Parts, live_low, shifting}
use Rattle.steps.proofs.Ready.{shift_late, fitted, fits_still, shift_passed, shift_behind, shifted_all}
use Rattle.steps.proofs.shift.Goals as goal
use Rattle.steps.proofs.shift.Goals.{In-Some, Joined-from-end, then-from-end+then-start-from, else-from-end, else-from-end-via-then-from-end+else-start-from, else-from-end-via-else-from-end}

-- The lowest member has been taken off.
turn : (l : In-Some) → Turn l.loop-k.k-iterator.left l.next.new.self.left l.in-Some.k
turn l = taken l.loop-k.invariant.1.marks.rest_low l.in-Some.ensures.steps

-- It has been shifted, or fits where it stands.
moved : (c : Joined-from-end) → Turn c.loop-k.k-iterator.left c.next.new.self.left c.in-Some.k
    → Fitted c.args.table.now c.args.line c.args.j c.args.work.now c.loop-k.work c.if-from-end.work c.in-Some.k
moved c took =
    let k = c.in-Some.k in
    let p = c.loop-k.invariant.0 in
    let so_far = c.loop-k.invariant.1 in
    let x = c.ready_of-from.result in
    let is = c.ready_of-from.ensures in
    let there = took.there in
    elim c.if-from-end.branch [
      | then-from-end+then-start-from w ↦
          fitted p so_far k there c.if-from-end.work x w.fit_beside-next.result is
          (w.fit_beside-next.ensures (settled c.args.table.now c.args.line c.args.j)
          (shift_late p so_far k there x is (search rules)))
          (cc)
      | else-from-end w ↦
          fits_still p so_far k there c.if-from-end.work x is
          (elim w.else-from-end.branch [
            | else-from-end-via-then-from-end+else-start-from v ↦ inr (search rules)
            | else-from-end-via-else-from-end v ↦ inl v.if-from-end.false
          ])
          w.work-is
    ]

pub loop-k-init : goal.loop-k-init
loop-k-init c =
    let a = c.args in
    let p : Parts a.table.now a.line a.j a.work.now c.end_of-end.result
    (c.end_of-end.result - duration_at a.table.now a.j) c.common-live.result c.minus-passed.result c.common.result =
    record {
      sets = c.requires.0;
      last = c.requires.2;
      lives = c.common-live.ensures;
      ended = c.end_of-end.ensures;
      begun = cc;
      outside = c.minus-passed.ensures;
      others = cc;
    } in
    rw (c.into_iter-k-iterator.ensures.into_iter_gives, c.activities-k-items.ensures) (p, shifting p)

pub fit_beside-next-requires : goal.fit_beside-next-requires
fit_beside-next-requires c =
    let a = c.args in
    let k = c.in-Some.k in
    let p = c.loop-k.invariant.0 in
    let so_far = c.loop-k.invariant.1 in (
      live_low p,
      omega (arith, c.ready_of-from.ensures, so_far.timed.times (ready_from + k)),
      (
        settled a.table.now a.line a.j,
        shift_late p so_far k (turn (goal.at.fit_beside-next-requires c).In-Some).there c.ready_of-from.result
            c.ready_of-from.ensures (search rules),
      ),
    )

pub loop-k-preserved-then-is_ahead : goal.loop-k-preserved-then-is_ahead
loop-k-preserved-then-is_ahead c =
    let at = goal.at.loop-k-preserved-then-is_ahead c in
    let (p, so_far) = c.loop-k.invariant in
    let took = turn at.In-Some in (
      p,
      shift_passed p so_far took (moved at.Joined-from-end took) c.union-passed.result c.ready_of.ensures
          c.is_ahead.ensures c.if-is_ahead.true (cc),
    )

pub loop-k-preserved : goal.loop-k-preserved
loop-k-preserved c =
    let at = goal.at.loop-k-preserved c in
    let (p, so_far) = c.loop-k.invariant in
    let took = turn at.In-Some in (
      p,
      shift_behind p so_far took (moved at.Joined-from-end took) c.ready_of.ensures c.is_ahead.ensures
          c.if-is_ahead.false,
    )

pub returns : goal.returns
returns c =
    let (p, so_far) = c.loop-k.invariant in
    shifted_all p so_far (none_left c.in-None.ensures.steps)
