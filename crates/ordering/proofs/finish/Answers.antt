use Prim.Native.Nat.{ℕ, ◌+◌, ◌≤◌}
use native.Mathlib.Omega.{arith}
use mathlib.Core.Bool.{Bool}
use mathlib.Core.List.{List}
use mathlib.Core.Path.{◌≡◌, sym, ap, ◌∙◌, subst}
use Rattle.plan.specs.Limits.{latest_possible}
use Rattle.sets.proofs.Turns.{Turn, turned}
use Rattle.schedule.specs.Schedule.{Starts, moved}
use Rattle.branching.proofs.Room.{adding}
use Rattle.instance.specs.Table.{duration_at}
use Rattle.profile.specs.Work.{Timed}
use Rattle.soonest.specs.Row.{row_in}
use Rattle.tally.specs.Seen.{kept_of, IsTally, seen_in}
use Rattle.tally.specs.Leaf.{Leaf}
use Rattle.tally.proofs.Passed.{seen_first}
use Rattle.ordering.specs.Lone.{from_at, Lone, Ordered}
use Rattle.ordering.proofs.Lone.{stop_early, stored_lone}
use Rattle.ordering.proofs.Rows.{whole_leaf, whole_active}
use Rattle.ordering.proofs.Ordered.{finished}
use Rattle.ordering.proofs.finish.Goals as goal
use Rattle.ordering.proofs.finish.Goals.{After-max, After-max-last, After-lowest-i}

abbrev end_of_lem : After-max → ℕ
end_of_lem c = c.max.result + duration_at c.args.table.now c.lowest-i.result

abbrev one_of : After-max-last → ℕ
one_of c = c.lowest-i.result

abbrev work-of : After-max-last → List ℕ
work-of c = c.store_end.new.work

-- nothing is left below
turn : (c : After-lowest-i) → Turn c.args.left 0 c.lowest-i.result
turn c =
    let pre = c.requires in
    turned c.args.left 0 c.lowest-i.result pre.3.2.low (λ e. omega (arith, pre.1))
    c.lowest-i.ensures (sym pre.2)

ends_at : (c : After-max)
    → let a = c.args in
    end_of_lem c ≡ from_at a.work.now a.free c.lowest-i.result
    + duration_at a.table.now c.lowest-i.result
ends_at c = omega (arith, c.max.ensures, c.ready_of.ensures)

end_early : (c : After-max) → Turn c.args.left 0 c.lowest-i.result → end_of_lem c ≤ latest_possible
end_early c one =
    stop_early c.args.table.now c.requires.0.whole c.requires.3.2 c.lowest-i.result one.there (ends_at c)

-- the end, where it is stored
abbrev stop_of : After-max-last → ℕ
stop_of c = c.max.result + duration_at c.args.table.now c.lowest-i.result

-- what is frozen then
below : (c : After-max-last) → Turn c.args.left 0 c.lowest-i.result
    → let a = c.args in
    stop_of c ≡ from_at a.work.now a.free (one_of c) + duration_at a.table.now (one_of c)
    → (F : ℕ → Bool) (S : Starts) → Lone a.table.now a.left a.free a.latest a.work.now F S
    → Lone a.table.now 0 (stop_of c) c.max-last.result (work-of c) (adding F (one_of c))
    (moved S (one_of c) (from_at a.work.now a.free (one_of c)))
below c one ends F S lone =
    let a = c.args in
    subst
    (λ (w : List ℕ).
    Lone a.table.now 0 (stop_of c) c.max-last.result w (adding F (one_of c))
    (moved S (one_of c) (from_at a.work.now a.free (one_of c))))
    (sym c.store_end.ensures)
    (stored_lone a.table.now c.requires.0.whole lone (one_of c) one.there ends one
    c.max-last.ensures)

leaf : (c : After-max-last) → Turn c.args.left 0 c.lowest-i.result
    → stop_of c ≡ from_at c.args.work.now c.args.free (one_of c) + duration_at c.args.table.now (one_of c)
    → Leaf c.args.table.now (work-of c) c.max-last.result c.args.cells.now
leaf c one ends =
    let pre = c.requires in
    whole_leaf c.args.table.now pre.0.whole (below c one ends pre.3.0 pre.3.1 pre.3.2) pre.0.tally

-- by either way the schedule has been seen
seen_last : (c : After-max-last) → Turn c.args.left 0 c.lowest-i.result
    → stop_of c ≡ from_at c.args.work.now c.args.free (one_of c) + duration_at c.args.table.now (one_of c)
    → {cells area : List ℕ} → IsTally cells
    → let a = c.args in
    kept_of cells area
    ≡ seen_in a.table.now a.book.now (kept_of a.cells.now a.area.now)
    (row_in a.table.now (work-of c))
    → Ordered a.table.now a.book.now a.left a.free a.latest (kept_of a.cells.now a.area.now)
    a.work.now (work-of c) cells area
seen_last c one ends {cells} {area} tally kept =
    let a = c.args in
    let t = a.table.now in
    let pre = c.requires in
    let k = kept_of a.cells.now a.area.now in
    let stored = c.store_end.ensures in
    subst (λ (w : List ℕ). Ordered t a.book.now a.left a.free a.latest k a.work.now w cells area)
    (sym stored)
    (finished t a.book.now pre.0.whole a.left a.free a.latest k one
    ends c.max-last.ensures (subst Timed stored (leaf c one ends).ended.timed) tally
    (kept ∙ ap (λ (w : List ℕ). seen_in t a.book.now k (row_in t w)) stored))

pub ready_of-requires : goal.ready_of-requires
ready_of-requires c = omega (arith, (turn (goal.at.ready_of-requires c).After-lowest-i).below)

pub offset_bounds-table-i : goal.offset_bounds-table-i
offset_bounds-table-i c = omega (arith, (turn (goal.at.offset_bounds-table-i c).After-lowest-i).below)

pub bounds-table-i : goal.bounds-table-i
bounds-table-i c = omega (arith, (turn (goal.at.bounds-table-i c).After-lowest-i).below)

pub overflow_add-end : goal.overflow_add-end
overflow_add-end c =
    let p = goal.at.overflow_add-end c in
    omega (arith, end_early p.After-max (turn p.After-lowest-i))

pub store_end-requires : goal.store_end-requires
store_end-requires c = omega (arith, (turn (goal.at.store_end-requires c).After-lowest-i).below)

pub leave-requires : goal.leave-requires
leave-requires c =
    let p = goal.at.leave-requires c in
    leaf p.After-max-last (turn p.After-lowest-i) (ends_at p.After-max)

pub leave_new-requires : goal.leave_new-requires
leave_new-requires c =
    let p = goal.at.leave_new-requires c in
    let one = turn p.After-lowest-i in
    let ends = ends_at p.After-max in
    let pre = c.requires in (
      leaf p.After-max-last one ends,
      pre.0.prior,
      whole_active c.args.table.now pre.0.whole (below p.After-max-last one ends pre.3.0 pre.3.1 pre.3.2),
    )

pub returns-then-table-eq0 : goal.returns-then-table-eq0
returns-then-table-eq0 c =
    let p = goal.at.returns-then-table-eq0 c in
    let a = c.args in
    let left = c.leave.ensures in
    seen_last p.After-max-last (turn p.After-lowest-i) (ends_at p.After-max) left.tally
    (left.area_after
    ∙ seen_first a.table.now a.book.now (kept_of a.cells.now a.area.now)
    (row_in a.table.now (work-of p.After-max-last))
    c.if-table-eq0.true)

pub returns-else-table-eq0 : goal.returns-else-table-eq0
returns-else-table-eq0 c =
    let p = goal.at.returns-else-table-eq0 c in
    let left = c.leave_new.ensures in
    seen_last p.After-max-last (turn p.After-lowest-i) (ends_at p.After-max) left.tally left.area_after
