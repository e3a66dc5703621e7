-- `order` meets its contract. The measure is the number of activities left; the loop's invariant is `Going`.
use Prim.Native.Nat.{ℕ, ◌+◌, ◌≤◌, ◌<◌}
use native.Mathlib.Omega.{arith}
use mathlib.Core.List.{List}
use mathlib.Core.Bool.{Bool, true}
use mathlib.Core.Path.{◌≡◌, sym, ap, ◌∙◌, subst}
use borrow.Author.Tests.{ltb-true}
use Rattle.plan.specs.Limits.{latest_possible}
use Rattle.sets.specs.Sets.{most, has, size}
use Rattle.sets.proofs.Laws.{size_without}
use Rattle.sets.proofs.Members.{two_left}
use Rattle.sets.proofs.Turns.{Turn, taken, none_left}
use Rattle.schedule.specs.Schedule.{Starts, moved}
use Rattle.branching.proofs.Room.{adding}
use Rattle.instance.specs.Table.{duration_at, cap_of}
use Rattle.tally.specs.Seen.{kept_of, tally_of}
use Rattle.unbranched.specs.Position.{Given}
use Rattle.ordering.specs.Lone.{from_at, Lone, Ordered}
use Rattle.ordering.proofs.Lone.{lone_alone, stop_early, stored_lone}
use Rattle.ordering.proofs.Lone.{taken as chosen}
use Rattle.ordering.proofs.Ordered.{Going, going_first, going_on, going_last, passed}
use Rattle.ordering.proofs.+order.Goals as goal
use Rattle.ordering.proofs.+order.Goals.{In-Some, After-max, After-without-fewer}

-- the end of the activity, once it is known, and where it is stored
abbrev end_of_lem : {t : ℕ} → After-max t → ℕ
end_of_lem c = c.max.result + duration_at c.args.table.now c.in-Some.j

abbrev stop_of : {t : ℕ} → After-without-fewer t → ℕ
stop_of c = c.max.result + duration_at c.args.table.now c.in-Some.j

turn : {t : ℕ} (c : In-Some t) → Turn c.loop-j.j-iterator.left c.next.new.self.left c.in-Some.j
turn c = taken c.loop-j.invariant.inside c.in-Some.ensures.steps

low : {t : ℕ} (c : In-Some t) → c.in-Some.j < most
low c = (turn c).below

member : {t : ℕ} (c : In-Some t) → has c.args.left c.in-Some.j ≡ true
member c = c.loop-j.invariant.within c.in-Some.j (turn c).there

ends_at : {t : ℕ} (c : After-max t)
    → end_of_lem c
    ≡ from_at c.loop-j.work c.args.free c.in-Some.j + duration_at c.args.table.now c.in-Some.j
ends_at c = omega (arith, c.max.ensures, c.ready_of.ensures)

end_early : {t : ℕ} (c : After-max t) → has c.args.left c.in-Some.j ≡ true → end_of_lem c ≤ latest_possible
end_early c there =
    let given = c.requires in
    stop_early c.args.table.now given.0.whole (lone_alone c.loop-j.invariant.beside given.2.2) c.in-Some.j
    there (ends_at c)

off : {t : ℕ} (c : After-without-fewer t) → c.in-Some.j < most → has c.args.left c.in-Some.j ≡ true
    → Turn c.args.left c.without-fewer.result c.in-Some.j
off c few there =
    chosen c.args.left c.without-fewer.result c.in-Some.j c.requires.2.2.low few there c.without-fewer.ensures

-- what is frozen below
below_at : {t : ℕ} (c : After-without-fewer t)
    → let s = c.args in
    let j = c.in-Some.j in
    Turn s.left c.without-fewer.result j
    → stop_of c ≡ from_at c.loop-j.work s.free j + duration_at s.table.now j
    → (F : ℕ → Bool) (S : Starts)
    → Lone s.table.now s.left s.free s.latest s.work.now F S
    → Lone s.table.now c.without-fewer.result (stop_of c) c.max-last.result c.store_end.new.work
    (adding F j) (moved S j (from_at c.loop-j.work s.free j))
below_at c turn ends F S lone =
    let s = c.args in
    let j = c.in-Some.j in
    subst
    (λ (w : List ℕ).
    Lone s.table.now c.without-fewer.result (stop_of c) c.max-last.result w (adding F j)
    (moved S j (from_at c.loop-j.work s.free j)))
    (sym c.store_end.ensures)
    (stored_lone s.table.now c.requires.0.whole (lone_alone c.loop-j.invariant.beside lone) j turn.there
    ends turn c.max-last.ensures)

-- two are left, and so one is left below
more_left : {t : ℕ} (c : After-without-fewer t) → has c.args.left c.in-Some.j ≡ true
    → 0 < c.without-fewer.result
more_left c there =
    let given = c.requires in
    omega (
      arith,
      c.without-fewer.ensures,
      two_left c.args.left given.2.2.low given.1 c.in-Some.j there,
    )

below-given : {t : ℕ} (c : After-without-fewer t) → Given c.args.table.now c.args.book.now c.loop-j.cells
below-given c =
    let given = c.requires.0 in
    record { whole = given.whole; prior = given.prior; tally = c.loop-j.invariant.tally }

-- a branch has been searched
went_on : {t : ℕ} (c : After-without-fewer t) {w cells area : List ℕ}
    → let a = c.args in
    let j = c.in-Some.j in
    Turn a.left c.without-fewer.result j
    → stop_of c ≡ from_at c.loop-j.work a.free j + duration_at a.table.now j
    → Ordered a.table.now a.book.now c.without-fewer.result (stop_of c) c.max-last.result
    (kept_of c.loop-j.cells c.loop-j.area) c.store_end.new.work w cells area
    → Going a.table.now a.book.now a.left a.free a.latest (kept_of a.cells.now a.area.now) a.work.now w cells area
    c.next.new.self.left
went_on c {w} {cells} {area} turn ends done =
    let a = c.args in
    going_on a.table.now a.book.now c.requires.0.whole a.left a.free a.latest
    c.loop-j.invariant c.in-Some.ensures.steps turn
    ends c.max-last.ensures
    (subst
    (λ (x : List ℕ).
    Ordered a.table.now a.book.now c.without-fewer.result (stop_of c) c.max-last.result
    (kept_of c.loop-j.cells c.loop-j.area) x w cells area)
    c.store_end.ensures done)

pub returns-then-is_over : goal.returns-then-is_over
returns-then-is_over t c =
    let a = c.args in
    let given = c.requires in
    passed a.table.now a.book.now given.0.whole a.left a.free a.latest
    given.2.2.timed given.0.tally
    (ltb-true (cap_of a.table.now) (tally_of a.cells.now).count
    (sym c.is_over.ensures ∙ c.if-is_over.true))

pub loop-j-init : goal.loop-j-init
loop-j-init t c =
    let a = c.args in
    let given = c.requires in
    rw (c.into_iter-j-iterator.ensures.into_iter_gives, c.activities-j-items.ensures)
    (going_first a.table.now a.book.now given.0.whole a.left a.free a.latest given.2.2.timed given.0.tally
    given.2.2.low)

pub ready_of-requires : goal.ready_of-requires
ready_of-requires t c = omega (arith, low (goal.at.ready_of-requires t c).In-Some)

pub offset_bounds-table-j : goal.offset_bounds-table-j
offset_bounds-table-j t c = omega (arith, low (goal.at.offset_bounds-table-j t c).In-Some)

pub bounds-table-j : goal.bounds-table-j
bounds-table-j t c = omega (arith, low (goal.at.bounds-table-j t c).In-Some)

pub overflow_add-end : goal.overflow_add-end
overflow_add-end t c =
    let p = goal.at.overflow_add-end t c in
    omega (arith, end_early p.After-max (member p.In-Some))

pub store_end-requires : goal.store_end-requires
store_end-requires t c = omega (arith, low (goal.at.store_end-requires t c).In-Some)

pub without-fewer-requires : goal.without-fewer-requires
without-fewer-requires t c =
    let p = (goal.at.without-fewer-requires t c).In-Some in (low p, member p)

pub after_lowest-requires : goal.after_lowest-requires
after_lowest-requires t c =
    let p = goal.at.after_lowest-requires t c in
    more_left p.After-without-fewer (member p.In-Some)

pub finish-requires : goal.finish-requires
finish-requires t c =
    let p = goal.at.finish-requires t c in
    let b = p.After-without-fewer in
    let l = p.In-Some in
    let s = c.args in
    let j = c.in-Some.j in
    let lone = c.requires.2 in (
      below-given b,
      more_left b (member l),
      sym c.after_lowest.ensures ∙ c.if-after_lowest-eq0.true,
      (
        adding lone.0 j,
        moved lone.1 j (from_at c.loop-j.work s.free j),
        below_at b (off b (low l) (member l)) (ends_at p.After-max) lone.0 lone.1 lone.2,
      ),
    )

pub loop-j-preserved-then-after_lowest-eq0 : goal.loop-j-preserved-then-after_lowest-eq0
loop-j-preserved-then-after_lowest-eq0 t c =
    let p = goal.at.loop-j-preserved-then-after_lowest-eq0 t c in
    let b = p.After-without-fewer in
    let l = p.In-Some in
    went_on b (off b (low l) (member l)) (ends_at p.After-max) c.finish.ensures

pub order-requires : goal.order-requires
order-requires t c =
    let p = goal.at.order-requires t c in
    let b = p.After-without-fewer in
    let l = p.In-Some in
    let s = c.args in
    let j = c.in-Some.j in
    let lone = c.requires.2 in (
      omega (
        arith,
        size_without most s.left j (low l) (member l),
        ap (λ (x : ℕ). size x most) c.without-fewer.ensures,
        c.decreases,
      ),
      (
        below-given b,
        omega (arith, c.after_lowest.ensures, c.if-after_lowest-eq0.false),
        (
          adding lone.0 j,
          moved lone.1 j (from_at c.loop-j.work s.free j),
          below_at b (off b (low l) (member l)) (ends_at p.After-max) lone.0 lone.1 lone.2,
        ),
      ),
    )

pub loop-j-preserved : goal.loop-j-preserved
loop-j-preserved t c =
    let p = goal.at.loop-j-preserved t c in
    let b = p.After-without-fewer in
    let l = p.In-Some in
    went_on b (off b (low l) (member l)) (ends_at p.After-max) c.order.ensures

pub returns : goal.returns
returns t c =
    let a = c.args in
    let given = c.requires in
    going_last a.table.now a.book.now given.0.whole a.left a.free a.latest
    c.loop-j.invariant (none_left c.in-None.ensures.steps) given.2.2.low given.1
