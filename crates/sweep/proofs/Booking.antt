-- The book of the orders before and after a variant: what it finds new is what no lower variant has.
use Prim.Native.Nat.{ℕ, ◌+◌, ◌-◌, ◌≤◌, ◌<◌}
use native.Mathlib.Decide.{ℕ_discrete, dec_lt}
use native.Mathlib.Omega.{arith}
use mathlib.Core.Bool.{Bool, true, false, not, ◌&&◌}
use mathlib.Core.List.{List, Memᴰ}
use mathlib.Core.Logic.{by_cases}
use mathlib.Core.Path.{◌≡◌, refl, sym, ap, subst, ◌∙◌}
use lib.ListN.{length, get_or}
use borrow.Author.Tests.{eqb-true, eq-eqb}
use Rattle.base.specs.Below.{every_below}
use Rattle.base.specs.Lists.{is_one_of}
use Rattle.base.proofs.Below.{every_at, every_of}
use Rattle.base.proofs.Bools.{by_bool, true_not_false, same_bool, both, and_left, and_right}
use Rattle.base.proofs.Lists.{one_of_is, one_of}
use Rattle.plan.specs.Plan.{Plan, plan_of}
use Rattle.sets.specs.Sets.{most, has}
use Rattle.sets.proofs.Laws.{same}
use Rattle.timetable.specs.Mark.{mark}
use Rattle.term.specs.Term.{Term}
use Rattle.term.specs.Variants.{variant_count, activities, member}
use Rattle.schedule.specs.Schedule.{active}
use Rattle.schedule.specs.Sessions.{starts_of}
use Rattle.schedule.proofs.Alike.{Alike, active_alike, sessions_alike}
use Rattle.schedule.proofs.Box.{session_is}
use Rattle.schedule.proofs.Reflect.{active_of}
use Rattle.variant.specs.Pairs.{sessions_of, is_new}
use Rattle.variant.specs.Precedence.{precedes}
use Rattle.variant.specs.Project.{variant_at, project_of}
use Rattle.variant.specs.Tables.{OrderOf}
use Rattle.variant.proofs.Order.{precedes_members}
use Rattle.plan_exact.proofs.Union.{same_members, session_there}
use Rattle.instance.specs.Table.{present_of, project_in}
use Rattle.orders.specs.Book.{present_cell, bucket_cell, same_cell, order_from, present_at, bucket_at, same_at, order_at}
use Rattle.orders.specs.Book.{entries_of, bucket_of, itself, Nearest, Book, Chain, is_alike, under_order, is_new_by, Beside}
use Rattle.orders.specs.Book.{Entered}
use Rattle.orders.proofs.Links.{nearest_same}
use Rattle.judge.specs.Campaign.{HoldsPlan}
use Rattle.judge.specs.declared.Campaign.{Campaign}
use Rattle.sweep.specs.Booked.{IsEntry, Booked}
use Rattle.sweep.specs.Swept.{LaidFor}
use Rattle.sweep.proofs.Held.{alike}

-- The link leads to entries of the book.
pub chain_of : {heads b : List ℕ} (k : ℕ) → Book heads b → k ≤ entries_of heads → Chain k b
chain_of k book l =
    record {
      room = omega (arith, book.room);
      same = λ e below alike. book.same e (omega arith);
      low = λ e j below small. book.low e j (omega arith) small;
    }

-- Two variants of a plan with the same activities and order.
order_alike : (p : Plan) (w x : Term) → length p.activities ≤ most
    → ((i : ℕ) → member i (activities w) ≡ member i (activities x))
    → ((i j : ℕ) → j < most → precedes w i j ≡ precedes x i j)
    → Alike (project_of p w) (project_of p x)
unfolding project_of
order_alike p w x few members order =
    record {
      size = refl;
      resources = refl;
      floor = refl;
      present = λ i l. members i;
      duration = λ i l. refl;
      free = λ i l. refl;
      begun = λ i l. refl;
      precedes = λ i j l m. order i j (omega arith);
      gap = λ i j l m. refl;
      units = λ i r l m. refl;
      capacity = λ r l. refl;
    }

-- With other marks of where orders differ.
module _ {b b' : List ℕ} (beside : Beside b b') where
  present_same : (e : ℕ) → present_at b' e ≡ present_at b e
  present_same e = beside.cells e present_cell (omega arith) (λ q. omega arith)

  entry_beside : (e : ℕ) (w : Term) → IsEntry b e w → IsEntry b' e w
  entry_beside e w h =
      record {
        small = omega (arith, present_same e, h.small);
        members = λ i. ap (λ (s : ℕ). has s i) (present_same e) ∙ h.members i;
        before =
            λ i j l.
            ap (λ (s : ℕ). has s i) (beside.cells e (order_from + j) (omega arith) (λ q. omega arith))
            ∙ h.before i j l;
      }

  pub nearest_beside : (n s k : ℕ) → Nearest itself b n s k → Nearest itself b' n s k
  nearest_beside n s k = nearest_same itself b b' n s s k k (λ e l. present_same e) refl refl

  book_beside : {heads : List ℕ} → Book heads b → Book heads b'
  book_beside {heads} h =
      record {
        size = h.size;
        room = omega (arith, h.room, beside.size);
        head =
            λ s.
            let k : ℕ = get_or heads (bucket_of s) 0 in
            nearest_same bucket_of b b' (entries_of heads) s s k k (λ e l. present_same e) refl refl (h.head s);
        next =
            λ e s l q.
            nearest_same bucket_of b b' e s s (bucket_at b e) (bucket_at b' e) (λ e l. present_same e) refl
            (beside.cells e bucket_cell (omega arith) (λ q. omega arith))
            (h.next e s l (sym (ap bucket_of (present_same e)) ∙ q));
        same =
            λ e l.
            nearest_same itself b b' e (present_at b e) (present_at b' e) (same_at b e) (same_at b' e)
            (λ e l. present_same e) (present_same e) (beside.cells e same_cell (omega arith) (λ q. omega arith))
            (h.same e l);
        low =
            λ e j l small.
            omega (
              arith,
              h.low e j l small,
              beside.cells e (order_from + j) (omega arith) (λ q. omega arith),
            );
      }

  pub booked_beside : (t : Term) (v : ℕ) {heads : List ℕ} → Booked t v heads b → Booked t v heads b'
  booked_beside t v h =
      record {
        book = book_beside h.book;
        few = h.few;
        each = λ u l. let (e, below, entry) = h.each u l in (e, below, entry_beside e (variant_at t u) entry);
        only = λ e l. let (u, below, entry) = h.only e l in (u, below, entry_beside e (variant_at t u) entry);
      }

-- Variant v, whose activities are s and whose order is in `preds`; k links to the entries with its activities.
module _ (t : Term) (v s : ℕ) (preds heads b : List ℕ) (k : ℕ) (own : OrderOf (variant_at t v) s preds)
    (near : Nearest itself b (entries_of heads) s k) (booked : Booked t v heads b) where
  -- An entry up to the link with the same activities is the order of a lower variant with those.
  module _ (e : ℕ) (below : e < k) (alike : present_at b e ≡ present_at b (k - 1)) where
    has_own : present_at b e ≡ s
    has_own = alike ∙ near.alike (omega arith)

    abbrev lower : (u : ℕ) × (u < v) × IsEntry b e (variant_at t u)
    lower = booked.only e (omega (arith, near.upto))

    members_of : (u : ℕ) → IsEntry b e (variant_at t u) → (i : ℕ)
        → member i (activities (variant_at t u)) ≡ member i (activities (variant_at t v))
    members_of u entry i = sym (entry.members i) ∙ ap (λ (x : ℕ). has x i) has_own ∙ own.members i

    pub within_own : (i j : ℕ) → j < most → has (order_at b e j) i ≡ true → (has s i ≡ true) × (has s j ≡ true)
    within_own i j l y =
        let (u, low, entry) = lower in
        let (mi, mj) = precedes_members (variant_at t u) i j (sym (entry.before i j l) ∙ y) in (
          own.members i ∙ sym (members_of u entry i) ∙ mi,
          own.members j ∙ sym (members_of u entry j) ∙ mj,
        )

    -- Its order is known: nothing that it has is new.
    module _ (same : (j : ℕ) → j < most → order_at b e j ≡ get_or preds j 0) where
      known_entry : IsEntry b e (variant_at t v)
      known_entry =
          record {
            small = omega (arith, has_own, own.small);
            members = λ i. ap (λ (x : ℕ). has x i) has_own ∙ own.members i;
            before = λ i j l. ap (λ (x : ℕ). has x i) (same j l) ∙ own.before i j l;
          }

      pub known_none : (p : Plan) → length p.activities ≤ most → (row : List ℕ)
          → Memᴰ row (sessions_of p t v) → is_new p t v row ≡ false
      unfolding is_new
      known_none p few row m =
          let (u, low, entry) = lower in
          let sessions_same : sessions_of p t v ≡ sessions_of p t u =
          sessions_alike (project_of p (variant_at t v)) (project_of p (variant_at t u))
          (order_alike p (variant_at t v) (variant_at t u) few (λ i. sym (members_of u entry i))
          (λ i j l. sym (known_entry.before i j l) ∙ entry.before i j l))
          mark in
          by_bool
          (is_new p t v row)
          (λ y.
          true_not_false (every_at v (λ w. not (is_one_of row (sessions_of p t w))) y u low)
          (ap not (one_of row (sessions_of p t u) (subst (Memᴰ row) sessions_same m))))
          (λ z. z)

      pub known_next : Booked t (v + 1) heads b
      known_next =
          record {
            book = booked.book;
            few = omega (arith, booked.few);
            each =
                λ u l.
                by_cases
                (ℕ_discrete u v)
                (λ q. (
                  e,
                  omega (arith, near.upto),
                  subst (λ (w : ℕ). IsEntry b e (variant_at t w)) (sym q) known_entry,
                ))
                (λ ne. booked.each u (omega arith));
            only = λ d l. let (u, low, entry) = booked.only d l in (u, omega arith, entry);
          }

  -- What is new by the book is what no lower variant has.
  module _ (c : Campaign) (h : HoldsPlan c t) (below : v < variant_count t) (table : List ℕ) (laid : LaidFor c table)
      (is : present_of table ≡ s) (row : List ℕ) (m : Memᴰ row (sessions_of (plan_of c.tables) t v)) where
    abbrev p : Plan
    p = plan_of c.tables

    by_entry : ℕ → Bool
    by_entry e = is_alike b k e && active (under_order (project_in table) (order_at b e)) (starts_of row)

    by_variant : ℕ → Bool
    by_variant u = is_one_of row (sessions_of p t u)

    active_same : (u e : ℕ) → IsEntry b e (variant_at t u)
        → ((i : ℕ) → member i (activities (variant_at t u)) ≡ member i (activities (variant_at t v)))
        → active (under_order (project_in table) (order_at b e)) (starts_of row)
        ≡ active (project_of p (variant_at t u)) (starts_of row)
    active_same u e entry members =
        active_alike (under_order (project_in table) (order_at b e)) (project_of p (variant_at t u))
        (alike c t h table laid (variant_at t u) (order_at b e)
        (λ i. ap (λ (x : ℕ). has x i) is ∙ own.members i ∙ sym (members i)) entry.before)
        (starts_of row)

    entry_of : (u : ℕ) → u < v → by_variant u ≡ true → (e : ℕ) × (e < k) × (by_entry e ≡ true)
    unfolding by_entry by_variant
    entry_of u l y =
        let (e, low, entry) = booked.each u l in
        let there : Memᴰ row (sessions_of p t u) = one_of_is row (sessions_of p t u) y in
        let members = same_members p t h.valid u v (omega arith) below row there m in
        let has_s : present_at b e ≡ s =
        same most (present_at b e) s entry.small own.small
        (λ i n. entry.members i ∙ members i ∙ sym (own.members i)) in
        let at : e < k = by_cases (dec_lt e k) (λ a. a) (λ g. absurd (near.none e (omega arith) low has_s)) in (
          e,
          at,
          both (eq-eqb (present_at b e) (present_at b (k - 1)) (has_s ∙ sym (near.alike (omega arith))))
              (active_same u e entry members
              ∙ active_of (project_of p (variant_at t u)) (starts_of row)
              (session_is (project_of p (variant_at t u)) mark row there).is_active),
        )

    variant_of_lem : (e : ℕ) → e < k → by_entry e ≡ true → (u : ℕ) × (u < v) × (by_variant u ≡ true)
    unfolding by_entry by_variant
    variant_of_lem e l y =
        let under : Bool = active (under_order (project_in table) (order_at b e)) (starts_of row) in
        let like : present_at b e ≡ present_at b (k - 1) =
        eqb-true (present_at b e) (present_at b (k - 1)) (and_left (is_alike b k e) under y) in
        let (u, low, entry) = lower e l like in
        let members = members_of e l like u entry in (
          u,
          low,
          one_of row (sessions_of p t u)
              (session_there p t h.valid u v row m members
              (sym (active_same u e entry members) ∙ and_right (is_alike b k e) under y)),
        )

    none_of : (n m : ℕ) (f g : ℕ → Bool) → ((i : ℕ) → i < m → g i ≡ true → (j : ℕ) × (j < n) × (f j ≡ true))
        → every_below n (λ j. not (f j)) ≡ true → every_below m (λ i. not (g i)) ≡ true
    none_of n m f g into every =
        every_of m (λ i. not (g i))
        (λ i l.
        by_bool
        (g i)
        (λ y.
        let (j, below, z) = into i l y in
        true_not_false (every_at n (λ j. not (f j)) every j below) (ap not z))
        (λ z. ap not z))

    pub new_by_book : is_new_by (project_in table) k b row ≡ is_new p t v row
    unfolding is_new_by is_new by_entry by_variant
    new_by_book =
        same_bool (is_new_by (project_in table) k b row) (is_new p t v row)
        (none_of k v by_entry by_variant entry_of)
        (none_of v k by_variant by_entry variant_of_lem)

  -- Its order becomes an entry.
  pub entered_next : {heads' b' : List ℕ} → Entered s preds heads b heads' b' → Booked t (v + 1) heads' b'
  entered_next {heads'} {b'} entered =
      record {
        book = entered.book;
        few = omega (arith, entered.one_more, booked.few);
        each =
            λ u l.
            by_cases
            (ℕ_discrete u v)
            (λ q'. (entries_of heads, omega (arith, entered.one_more), own_entry u q'))
            (λ ne.
            let (e, below, entry) = booked.each u (omega arith) in
            (e, omega (arith, entered.one_more), kept_entry e below (variant_at t u) entry));
        only =
            λ e l.
            by_cases
            (ℕ_discrete e (entries_of heads))
            (λ q'. (v, omega arith, subst (λ (d : ℕ). IsEntry b' d (variant_at t v)) (sym q') (own_entry v refl)))
            (λ ne.
            let below : e < entries_of heads = omega (arith, entered.one_more) in
            let (u, lower, entry) = booked.only e below in
            (u, omega arith, kept_entry e below (variant_at t u) entry));
      }
    where
      kept_entry : (e : ℕ) → e < entries_of heads → (w : Term) → IsEntry b e w → IsEntry b' e w
      kept_entry e l w h =
          let same : present_at b' e ≡ present_at b e = entered.before e present_cell l (omega arith) in
          record {
            small = omega (arith, h.small);
            members = λ i. ap (λ (s : ℕ). has s i) same ∙ h.members i;
            before =
                λ i j small.
                ap (λ (s : ℕ). has s i) (entered.before e (order_from + j) l (omega arith)) ∙ h.before i j small;
          }

      own_entry : (u : ℕ) → u ≡ v → IsEntry b' (entries_of heads) (variant_at t u)
      own_entry u q' =
          subst (λ (w : ℕ). IsEntry b' (entries_of heads) (variant_at t w)) (sym q')
          (record {
            small = omega (arith, entered.present, own.small);
            members = λ i. ap (λ (s : ℕ). has s i) entered.present ∙ own.members i;
            before = λ i j small. ap (λ (s : ℕ). has s i) (entered.order j small) ∙ own.before i j small;
          })
