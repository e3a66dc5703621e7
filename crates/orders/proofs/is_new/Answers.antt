use Prim.Native.Nat.{ℕ, ◌+◌, ◌-◌, ◌*◌, ◌<◌}
use native.Mathlib.Omega.{arith}
use mathlib.Core.List.{List}
use mathlib.Core.Path.{◌≡◌, refl, sym, ap, subst, ◌∙◌}
use lib.ListN.{get_or}
use Rattle.sets.specs.Sets.{most}
use Rattle.instance.specs.Table.{link_of, project_in}
use Rattle.soonest.specs.Row.{row_in}
use Rattle.orders.specs.Book.{Chain, entry_cells, same_cell, differs_cell, order_from, present_at, order_at}
use Rattle.orders.proofs.Links.{Passed, passed_none, passed_more, cell, rest_length}
use Rattle.orders.proofs.Newness.{Inactive, order_cell, differs_present, active_there, inactive_alike}
use Rattle.orders.proofs.Newness.{new_all, new_not}
use Rattle.orders.proofs.is_new.Goals as goal
use Rattle.orders.proofs.is_new.Goals.{At-loop-link}

module _ (t b w : List ℕ) (link : ℕ) (h : Passed (link_of t) b (Inactive (project_in t) b (row_in t w)) link)
    (chain : Chain (link_of t) b) (some : 0 < link) where
  passed-next : Inactive (project_in t) b (row_in t w) (link - 1)
      → Passed (link_of t) b (Inactive (project_in t) b (row_in t w)) (get_or b ((link - 1) * entry_cells + same_cell) 0)
  passed-next here =
      subst (Passed (link_of t) b (Inactive (project_in t) b (row_in t w))) (sym (cell b (link - 1) same_cell))
      (passed_more (link_of t) b (Inactive (project_in t) b (row_in t w)) link h chain some here)

-- The cell of an entry's order as the code finds it.
order-place : (b : List ℕ) (e j : ℕ) → get_or b (e * entry_cells + order_from + j) 0 ≡ order_at b e j
order-place b e j =
    let at : e * entry_cells + order_from + j ≡ entry_cells * e + (order_from + j) = omega arith in
    ap (λ (i : ℕ). get_or b i 0) at

inside : (at : At-loop-link) → 0 < at.loop-link.link → at.loop-link.link - 1 < link_of at.args.table.now
inside at some = omega (arith, at.loop-link.invariant.0.upto)

alike : (at : At-loop-link) → 0 < at.loop-link.link
    → present_at at.args.book.now (at.loop-link.link - 1) ≡ present_at at.args.book.now (link_of at.args.table.now - 1)
alike at some = at.loop-link.invariant.0.alike some

pub loop-link-init : goal.loop-link-init
loop-link-init c =
    let a = c.args in
    let t = a.table.now in
    let b = a.book.now in (
      passed_none (link_of t) b (Inactive (project_in t) b (row_in t a.work.now)),
      omega arith,
      λ e l like same. absurd (omega (arith, c.requires.2.rivals.chain.low e 0 l (omega arith))),
    )

pub misplaced-j-requires : goal.misplaced-j-requires
misplaced-j-requires c =
    let a = c.args in
    let b = a.book.now in
    let e = c.loop-link.link - 1 in
    let some : 0 < c.loop-link.link = omega arith in
    let there =
    differs_present a.table.now a.work.now b c.requires.0 c.requires.1 c.requires.2 e (inside (goal.at.misplaced-j-requires c).At-loop-link some)
    (alike (goal.at.misplaced-j-requires c).At-loop-link some) in (
      c.requires.0,
      c.requires.1,
      omega (arith, cell b e differs_cell, (c.requires.2.rivals.differ e (inside (goal.at.misplaced-j-requires c).At-loop-link some) (alike (goal.at.misplaced-j-requires c).At-loop-link some)).low),
      there,
      omega (arith, rest_length b (e * entry_cells + order_from), c.requires.2.rivals.chain.room),
      λ j l. omega (arith, order_cell b e j, c.requires.2.rivals.chain.low e j (inside (goal.at.misplaced-j-requires c).At-loop-link some) l),
    )

pub returns-then-j-eq-MOST_ACTS : goal.returns-then-j-eq-MOST_ACTS
returns-then-j-eq-MOST_ACTS c =
    let a = c.args in
    let t = a.table.now in
    let b = a.book.now in
    let some : 0 < c.loop-link.link = omega arith in
    sym
    (new_not (project_in t) (link_of t) b (row_in t a.work.now) c.loop-link.link c.loop-link.invariant.0 some
    (active_there t a.work.now b c.requires.0 c.requires.1 c.requires.2 (c.loop-link.link - 1) (inside (goal.at.returns-then-j-eq-MOST_ACTS c).At-loop-link some)
    (alike (goal.at.returns-then-j-eq-MOST_ACTS c).At-loop-link some) c.misplaced-j.result c.misplaced-j.ensures c.requires.3 c.if-j-eq-MOST_ACTS.true))

pub loop-link-preserved-then-book-at : goal.loop-link-preserved-then-book-at
loop-link-preserved-then-book-at c =
    let a = c.args in
    let t = a.table.now in
    let b = a.book.now in
    let e = c.loop-link.link - 1 in
    let found = c.misplaced-j in
    let some : found.result < most = omega (arith, found.ensures.upto, c.if-j-eq-MOST_ACTS.false) in
    let w = a.work.now in
    let more : 0 < c.loop-link.link = omega arith in
    let passed =
    inactive_alike t w b c.requires.0 c.requires.1 c.requires.2 e (inside (goal.at.loop-link-preserved-then-book-at c).At-loop-link more) (alike (goal.at.loop-link-preserved-then-book-at c).At-loop-link more) found.result
    found.ensures some in (
      passed-next t b w c.loop-link.link c.loop-link.invariant.0 c.requires.2.rivals.chain more
          (passed e (inside (goal.at.loop-link-preserved-then-book-at c).At-loop-link more) (alike (goal.at.loop-link-preserved-then-book-at c).At-loop-link more) refl),
      some,
      λ d l like same. passed d l like (same ∙ order-place b e found.result),
    )

pub loop-link-preserved : goal.loop-link-preserved
loop-link-preserved c =
    let a = c.args in
    let t = a.table.now in
    let b = a.book.now in
    let e = c.loop-link.link - 1 in (
      passed-next t b a.work.now c.loop-link.link c.loop-link.invariant.0 c.requires.2.rivals.chain (omega arith)
          (c.loop-link.invariant.2 e (inside (goal.at.loop-link-preserved c).At-loop-link (omega arith)) (alike (goal.at.loop-link-preserved c).At-loop-link (omega arith))
          (sym (order-place b e c.loop-link.j) ∙ c.if-book-at.false)),
      c.loop-link.invariant.1,
      c.loop-link.invariant.2,
    )

pub returns : goal.returns
returns c =
    let a = c.args in
    let t = a.table.now in
    sym (new_all (project_in t) (link_of t) a.book.now (row_in t a.work.now) c.loop-link.link c.loop-link.invariant.0
    c.loop-link-test.false)
