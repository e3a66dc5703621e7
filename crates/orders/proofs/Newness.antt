-- A schedule is tested by the orders that a link leads to.
use Prim.Native.Nat.{ℕ, ◌+◌, ◌-◌, ◌*◌, ◌<◌}
use native.Mathlib.Decide.{dec_lt}
use native.Mathlib.Omega.{arith}
use mathlib.Core.Bool.{Bool, true, false, not, ◌&&◌}
use mathlib.Core.List.{List}
use mathlib.Core.Logic.{inl, inr, by_cases}
use mathlib.Core.Path.{◌≡◌, sym, ap, ap₂, ◌∙◌, subst}
use lib.Dec.{eqb}
use lib.ListN.{get_or}
use borrow.Author.Tests.{eq-eqb, eqb-true, not-true}
use Rattle.base.proofs.Below.{every_at, every_of}
use Rattle.base.proofs.Bools.{by_bool, true_not_false, same_bool}
use Rattle.base.specs.Below.{every_below}
use Rattle.sets.specs.Sets.{most, has}
use Rattle.sets.proofs.Laws.{same, has_above}
use Rattle.schedule.specs.Project.{Project}
use Rattle.schedule.specs.Schedule.{active}
use Rattle.schedule.specs.Sessions.{starts_of}
use Rattle.schedule.proofs.Reflect.{active_is, active_of}
use Rattle.instance.specs.Table.{project_in, preds_at, present_of, link_of}
use Rattle.instance.specs.Instance.{Instance}
use Rattle.soonest.specs.Row.{Ended, row_in}
use Rattle.soonest.specs.Soonest.{Soonest, Misplaced}
use Rattle.soonest.proofs.Row.{present_below}
use Rattle.orders.specs.Book.{Differ, entry_cells, differs_cell, order_from, present_at, differs_at, order_at}
use Rattle.orders.specs.Book.{is_alike, is_new_by, under_order, Prior}
use Rattle.orders.proofs.Links.{Passed, cell, part_from, rest_cell}
use Rattle.orders.proofs.Under.{active_soonest, soonest_active}

-- The part of the book where the order of entry e begins.
abbrev pub order_part : List ℕ → ℕ → List ℕ
order_part b e = part_from b (e * entry_cells + order_from)

pub order_cell : (b : List ℕ) (e j : ℕ) → get_or (order_part b e) j 0 ≡ order_at b e j
order_cell b e j =
    let at : e * entry_cells + order_from + j ≡ entry_cells * e + (order_from + j) = omega arith in
    rest_cell b (e * entry_cells + order_from) j ∙ ap (λ (i : ℕ). get_or b i 0) at

-- The schedule is active under the order of entry e; what is known of an entry that has been passed.
abbrev pub active_by : Project → List ℕ → List ℕ → ℕ → Bool
active_by p b row e = active (under_order p (order_at b e)) (starts_of row)

abbrev pub Inactive : Project → List ℕ → List ℕ → ℕ → Type 0
Inactive p b row e = active_by p b row e ≡ false

-- The schedule that the working array holds, and entry e, which has the same activities.
module _ (t w b : List ℕ) (whole : Instance t) (ended : Ended t w) (prior : Prior t b) (e : ℕ) (inside : e < link_of t)
    (alike : present_at b e ≡ present_at b (link_of t - 1)) where
  differ : Differ (order_at b e) (preds_at t) (differs_at b e)
  differ = prior.rivals.differ e inside alike

  within : (i j : ℕ) → j < most → has (order_at b e j) i ≡ true
      → (has (present_of t) i ≡ true) × (has (present_of t) j ≡ true)
  within i j l o = prior.within e i j inside alike l o

  differs_there : (j : ℕ) → has (get_or b (e * entry_cells + differs_cell) 0) j ≡ has (differs_at b e) j
  differs_there j = ap (λ (x : ℕ). has x j) (cell b e differs_cell)

  -- Where the orders differ, the activity is present.
  pub differs_present : (j : ℕ) → has (get_or b (e * entry_cells + differs_cell) 0) j ≡ true → has (present_of t) j ≡ true
  differs_present j y =
      by_bool
      (has (present_of t) j)
      (λ there. there)
      (λ gone.
      let l : j < most =
      by_cases (dec_lt j most) (λ l. l)
      (λ n.
      true_not_false (sym (differs_there j) ∙ y) (has_above most (differs_at b e) j differ.low (omega arith))) in
      let same_before : order_at b e j ≡ preds_at t j =
      same most (order_at b e j) (preds_at t j) (prior.rivals.chain.low e j inside l) (whole.linked.preds_low j l)
      (λ i m.
      same_bool (has (order_at b e j) i) (has (preds_at t j) i)
      (λ o. true_not_false (within i j l o).1 gone)
      (λ o. true_not_false (whole.ordered i j l o).1 gone)) in
      true_not_false (eq-eqb (order_at b e j) (preds_at t j) same_before)
      (not-true (eqb (order_at b e j) (preds_at t j)) (sym (differ.where_not j l) ∙ sym (differs_there j) ∙ y)))

  -- What the test by its order finds.
  module _ (r : ℕ)
      (found : Misplaced t w (get_or b (e * entry_cells + differs_cell) 0) (λ j. get_or (order_part b e) j 0) r) where
    soonest_there : (j : ℕ) → Soonest t w (get_or (order_part b e) j 0) j → Soonest t w (order_at b e j) j
    soonest_there j = subst (λ (x : ℕ). Soonest t w x j) (order_cell b e j)

    -- None is misplaced: the schedule is active under the order.
    pub active_there : active (project_in t) (starts_of (row_in t w)) ≡ true → r ≡ most
        → active_by (project_in t) b (row_in t w) e ≡ true
    active_there a all =
        active_of (under_order (project_in t) (order_at b e)) (starts_of (row_in t w))
        (soonest_active t w whole ended (order_at b e) within (active_is (project_in t) (starts_of (row_in t w)) a)
        (λ j y.
        let l : j < most = present_below t j whole y in
        by_bool
        (eqb (order_at b e j) (preds_at t j))
        (λ s. inl (eqb-true (order_at b e j) (preds_at t j) s))
        (λ z. inr (soonest_there j (found.none all j (differs_there j ∙ differ.where_not j l ∙ ap not z))))))

    -- One is misplaced: it is so under every order that has the same before it.
    pub inactive_alike : r < most → (d : ℕ) → d < link_of t → present_at b d ≡ present_at b (link_of t - 1)
        → order_at b d r ≡ order_at b e r → Inactive (project_in t) b (row_in t w) d
    inactive_alike some d below like same =
        let (there, late) = found.one some in
        by_bool
        (active_by (project_in t) b (row_in t w) d)
        (λ y.
        absurd
        (late
        (subst (λ (x : ℕ). Soonest t w x r) (same ∙ sym (order_cell b e r))
        (active_soonest t w whole ended (order_at b d) (λ i j l. prior.within d i j below like l)
        (active_is (under_order (project_in t) (order_at b d)) (starts_of (row_in t w)) y) r (differs_present r there)))))
        (λ z. z)

module _ (p : Project) (k : ℕ) (b row : List ℕ) (to : ℕ) (h : Passed k b (Inactive p b row) to) where
  pub new_all : to ≡ 0 → is_new_by p k b row ≡ true
  unfolding is_new_by
  new_all none =
      every_of k (λ e. not (is_alike b k e && active_by p b row e))
      (λ e l.
      by_bool
      (is_alike b k e)
      (λ y.
      ap not
      (ap₂ ◌&&◌ y (h.each e (omega arith) l (eqb-true (present_at b e) (present_at b (k - 1)) y))))
      (λ other. ap (λ (x : Bool). not (x && active_by p b row e)) other))

  pub new_not : 0 < to → active_by p b row (to - 1) ≡ true → is_new_by p k b row ≡ false
  unfolding is_new_by
  new_not some active =
      by_bool
      (every_below k λ e. not (is_alike b k e && active_by p b row e))
      (λ y.
      true_not_false
      (every_at k (λ e. not (is_alike b k e && active_by p b row e)) y (to - 1) (omega (arith, h.upto)))
      (ap not (ap₂ ◌&&◌ (eq-eqb (present_at b (to - 1)) (present_at b (k - 1)) (h.alike some)) active)))
      (λ z. z)
