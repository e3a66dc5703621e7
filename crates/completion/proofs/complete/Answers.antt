use native.Mathlib.Omega.{arith}
use Prim.Native.Nat.{◌<◌}
use lib.Pow.{pow_pos}
use Rattle.sets.specs.Sets.{most}
use Rattle.sets.proofs.Laws.{minus_low}
use Rattle.completion.proofs.Readied.{timed_set}
use Rattle.completion.proofs.Counted.{tick_early}
use Rattle.completion.proofs.Turned.{turning, completing_on}
use Rattle.completion.proofs.Started.{completing_start}
use Rattle.completion.proofs.Found.{leaf_here, active_here, explored, explored_alone}
use Rattle.completion.proofs.complete.Goals as goal

pub make_ready-first-requires : goal.make_ready-first-requires
make_ready-first-requires c =
    let a = c.args in
    let (d, at) = c.requires.3 in (
      omega (arith, c.waiting.ensures, minus_low a.line.left a.line.placed at.sets.left_low),
      omega (arith, tick_early a.table.now c.requires.0.whole a.line a.work.now d at),
      c.requires.0.whole.linked,
      at.sets.timed,
    )

pub loop-cands-init : goal.loop-cands-init
loop-cands-init c =
    let a = c.args in
    turning c.requires.0.whole c.requires.1 c.requires.3
    (λ d at.
    completing_start a.table.now c.requires.0.whole a.line a.work.now d at c.waiting.ensures
    c.make_ready-first.ensures c.loose.ensures c.union-cands.ensures c.requires.2)

pub overflow_add-end : goal.overflow_add-end
overflow_add-end c = record {
  fits = rw (c.soon_of.ensures, c.lowest-i.ensures) (omega (arith, c.loop-cands.invariant.early c.loop-cands-test.true));
}

pub store_end-requires : goal.store_end-requires
store_end-requires c = omega (arith, c.loop-cands.invariant.low c.loop-cands-test.true)

pub without-rest-requires : goal.without-rest-requires
without-rest-requires c =
    rw c.lowest-i.ensures (c.loop-cands.invariant.low c.loop-cands-test.true, c.loop-cands.invariant.there c.loop-cands-test.true)

pub overflow_add-i : goal.overflow_add-i
overflow_add-i c = record { fits = omega (arith, c.loop-cands.invariant.low c.loop-cands-test.true) }

pub offset_bounds-table-i-in-loop-cands : goal.offset_bounds-table-i-in-loop-cands
offset_bounds-table-i-in-loop-cands c = record { fits = omega (arith, c.loop-cands.invariant.low c.loop-cands-test.true) }

pub bounds-table-i-in-loop-cands : goal.bounds-table-i-in-loop-cands
bounds-table-i-in-loop-cands c = omega (arith, c.loop-cands.invariant.low c.loop-cands-test.true)

pub make_ready-next-requires : goal.make_ready-next-requires
make_ready-next-requires c =
    let a = c.args in
    let (d, at) = c.requires.3 in
    let here = c.loop-cands.invariant in
    let so_far = here.whichever d at in
    let low : c.lowest-i.result < most = omega (arith, here.low c.loop-cands-test.true) in (
      c.requires.0.whole.linked.next_low c.lowest-i.result low,
      omega (arith, tick_early a.table.now c.requires.0.whole a.line a.work.now d at),
      c.requires.0.whole.linked,
      timed_set so_far.beside.timed
          (rw (c.soon_of.ensures, c.lowest-i.ensures) (here.early c.loop-cands-test.true))
          (omega (arith, so_far.beside.timed.size, low))
          c.store_end.ensures,
    )

pub loop-cands-smaller : goal.loop-cands-smaller
loop-cands-smaller c = omega (arith, c.without-rest.ensures, pow_pos c.lowest-i.result, c.loop-cands.invariant.some c.loop-cands-test.true)

pub loop-cands-preserved : goal.loop-cands-preserved
loop-cands-preserved c =
    let a = c.args in
    turning c.requires.0.whole c.requires.1 c.requires.3
    (λ d at.
    completing_on a.table.now c.requires.0.whole a.line a.work.now d at c.requires.1
    (c.loop-cands.invariant.whichever d at)
    c.loop-cands-test.true c.lowest-i.ensures
    c.soon_of.ensures
    c.store_end.ensures
    c.max-last.ensures
    c.without-rest.ensures
    c.make_ready-next.ensures
    c.after_lowest.ensures
    c.union-cands-in-loop-cands.ensures)

pub leave-requires : goal.leave-requires
leave-requires c =
    let a = c.args in
    let (d, at) = c.requires.3 in
    leaf_here a.table.now c.requires.0.whole a.line a.work.now d at (c.loop-cands.invariant.whichever d at)
    c.loop-cands-test.false c.requires.0.tally

pub leave_new-requires : goal.leave_new-requires
leave_new-requires c =
    let a = c.args in
    let (d, at) = c.requires.3 in
    let so_far = c.loop-cands.invariant.whichever d at in (
      leaf_here a.table.now c.requires.0.whole a.line a.work.now d at so_far c.loop-cands-test.false
          c.requires.0.tally,
      c.requires.0.prior,
      active_here a.table.now c.requires.0.whole a.line a.work.now d at so_far c.loop-cands-test.false,
    )

pub returns-then-table-eq0 : goal.returns-then-table-eq0
returns-then-table-eq0 c =
    let a = c.args in
    let (d, at) = c.requires.3 in
    explored_alone a.table.now c.requires.0.whole a.line a.work.now a.book.now d at
    c.loop-cands.invariant.whichever
    c.loop-cands-test.false
    c.if-table-eq0.true
    c.leave.ensures.tally
    c.leave.ensures.area_after

pub returns-else-table-eq0 : goal.returns-else-table-eq0
returns-else-table-eq0 c =
    let a = c.args in
    let (d, at) = c.requires.3 in
    explored a.table.now c.requires.0.whole a.line a.work.now a.book.now d at c.loop-cands.invariant.whichever
    c.loop-cands-test.false
    c.leave_new.ensures.tally
    c.leave_new.ensures.area_after
