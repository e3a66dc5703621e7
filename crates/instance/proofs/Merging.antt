-- Components as sets, merged resource by resource.
use Prim.Native.Nat.{ℕ, ◌+◌, ◌*◌, ◌^◌, ◌≤◌, ◌<◌}
use native.Mathlib.Decide.{ℕ_discrete}
use native.Mathlib.Numerals.{add-one}
use native.Mathlib.Omega.{arith}
use mathlib.Core.Bool.{Bool, true, false, cond, ◌&&◌, ◌||◌, or-true}
use mathlib.Core.List.{List}
use mathlib.Core.Logic.{by_cases}
use mathlib.Core.Path.{◌≡◌, refl, sym, ap, ◌∙◌}
use lib.Bits.{bit_or, or_lt}
use lib.Dec.{ltb, eqb}
use lib.Pow.{pow-lt}
use borrow.Author.Tests.{lt-ltb, ltb-true, eq-eqb, eqb-true}
use Rattle.base.proofs.Bools.{by_bool, true_not_false, same_bool, both, and_left, and_right, cond_true, cond_false}
use Rattle.plan.specs.Limits.{most_resources}
use Rattle.sets.proofs.Laws.{has_none, has_or, has_single}
use Rattle.sets.proofs.Turns.{Turn, turn_has}
use Rattle.sets.specs.Sets.{most, has}
use Rattle.scan.specs.Components.{merged, component_below}
use Rattle.instance.specs.Table.{component_from, units_from, component_at, units_at, acts_of, resources_of, project_in}
use Rattle.instance.specs.Steps.{Passing, Filled, Joined, IsComponent}
use Rattle.scan.proofs.Components.{Touched, merged_touched, merged_same, merged_both, merged_none}

-- ---- the components of the members of a set as one set

-- The members of `rest` are still to come.
pub record Joining (t : List ℕ) (m all rest : ℕ) : Type 0 where
  pub all_low : all < 2 ^ most
  pub low : rest < 2 ^ most
  pub within : (k : ℕ) → has rest k ≡ true → has m k ≡ true
  pub of : (i k : ℕ) → has m i ≡ true → has rest i ≡ false → has (component_at t i) k ≡ true → has all k ≡ true
  pub is : (k : ℕ) → has all k ≡ true → (i : ℕ) × (has m i ≡ true) × (has (component_at t i) k ≡ true)

pub joining_none : (t : List ℕ) (m : ℕ) → m < 2 ^ most → Joining t m 0 m
joining_none t m h =
    record {
      all_low = omega arith;
      low = h;
      within = λ k e. e;
      of = λ i k e n. true_not_false e n;
      is = λ k e. true_not_false e (has_none k);
    }

module _ {t : List ℕ} {m all rest : ℕ} (h : Joining t m all rest) where
  pub joining_more : {all' rest' i : ℕ} → Turn rest rest' i → ((k : ℕ) → k < most → component_at t k < 2 ^ most)
      → all' ≡ bit_or all (component_at t i) → Joining t m all' rest'
  joining_more {all'} {rest'} {i} turn lows new =
      record {
        all_low = rw new (or_lt most all (component_at t i) h.all_low (lows i turn.below));
        low = turn.low;
        within = λ k e. h.within k (turn_has turn k e);
        of = λ j k e n c.
            by_cases
            (ℕ_discrete j i)
            (λ q.
            member k ∙ ap (λ (b : Bool). has all k || b) (ap (λ (x : ℕ). has (component_at t x) k) (sym q) ∙ c)
            ∙ or-true (has all k))
            (λ ne.
            member k ∙ ap (λ (b : Bool). b || has (component_at t i) k) (h.of j k e (sym (turn.others j ne) ∙ n) c));
        is = λ k e.
            by_bool (has all k)
            (λ y. h.is k y)
            (λ z. (
              i,
              h.within i turn.there,
              sym (member k ∙ ap (λ (b : Bool). b || has (component_at t i) k) z) ∙ e,
            ));
      }
    where
      member : (k : ℕ) → has all' k ≡ (has all k || has (component_at t i) k)
      member k = ap (λ (x : ℕ). has x k) new ∙ has_or all (component_at t i) k

  pub joining_all : rest ≡ 0 → Joined t m all
  joining_all none =
      record {
        low = h.all_low;
        of = λ i k e c. h.of i k e (ap (λ (x : ℕ). has x i) none ∙ has_none i) c;
        is = h.is;
      }

-- ---- a set becomes the component of its members

-- The table t with the set as the component of its members.
abbrev pub Merged : List ℕ → ℕ → List ℕ → Type 0
Merged t m r = Filled t component_from most (λ i x. x ≡ cond (has m i) m (component_at t i)) r

-- ---- resource by resource

-- By the resources below n.
pub record Below (t : List ℕ) (n i x : ℕ) : Type 0 where
  pub low : x < 2 ^ most
  pub member : (k : ℕ) → i < acts_of t
      → has x k ≡ (ltb k (acts_of t) && eqb (component_below (project_in t) n k) (component_below (project_in t) n i))

abbrev pub Merging : List ℕ → ℕ → List ℕ → Type 0
Merging t n l = Filled t component_from most (Below t n) l

pub merging_none : (acts : ℕ) (t : List ℕ) → acts_of t ≡ acts
    → ((i : ℕ) → i < most → component_at t i ≡ cond (ltb i acts) (2 ^ i) 0) → Merging t 0 t
unfolding component_below
merging_none acts t are alone =
    record {
      long = refl;
      new = λ i b.
          record {
            low =
                by_bool (ltb i acts)
                (λ y. omega (arith, alone i b, cond_true (2 ^ i) 0 y, pow-lt b))
                (λ z. omega (arith, alone i b, cond_false (2 ^ i) 0 z));
            member = λ k l.
                ap (λ (x : ℕ). has x k) (alone i b ∙ cond_true (2 ^ i) 0 (lt-ltb i acts (omega (arith, are))))
                ∙ has_single i k
                ∙ same_bool (eqb k i) (ltb k (acts_of t) && eqb k i)
                (λ e. both (lt-ltb k (acts_of t) (omega (arith, eqb-true k i e))) e)
                (λ e. and_right (ltb k (acts_of t)) (eqb k i) e);
          };
      before = λ at b. refl;
      behind = λ at b. refl;
    }

-- Those that hold units of resource n have their components joined.
module _ {t : List ℕ} {n : ℕ} {l : List ℕ} {on all : ℕ} {r : List ℕ} (acts_few : acts_of t ≤ most)
    (known : n < most_resources) (h : Merging t n l) (users : Passing (acts_of t) (λ i. ltb 0 (units_at l i n)) on)
    (joined : Joined l on all) (stored : Merged l all r) where
  abbrev comp : ℕ → ℕ
  comp = component_below (project_in t) n

  abbrev Hit : ℕ → Type 0
  Hit = Touched (project_in t) comp n

  units_same : (i : ℕ) → units_at l i n ≡ units_at t i n
  units_same i = h.behind (units_from + most_resources * i + n) (omega arith)

  is_hit : (k : ℕ) → has all k ≡ true → (k < acts_of t) × Hit k
  unfolding project_in
  is_hit k e =
      let (u, on-u, in-u) = joined.is k e in
      let held = sym (users.member u) ∙ on-u in
      let below = ltb-true u (acts_of t) (and_left (ltb u (acts_of t)) (ltb 0 (units_at l u n)) held) in
      let two = sym ((h.new u (omega arith)).member k below) ∙ in-u in (
        ltb-true k (acts_of t) (and_left (ltb k (acts_of t)) (eqb (comp k) (comp u)) two),
        record {
          user = u;
          below = below;
          holds =
              ap (λ (x : ℕ). ltb 0 x) (sym (units_same u))
              ∙ and_right (ltb u (acts_of t)) (ltb 0 (units_at l u n)) held;
          same = sym (eqb-true (comp k) (comp u) (and_right (ltb k (acts_of t)) (eqb (comp k) (comp u)) two));
        },
      )

  of_hit : (k : ℕ) → k < acts_of t → Hit k → has all k ≡ true
  unfolding project_in
  of_hit k b hit =
      let u = hit.user in
      joined.of u k
      (users.member u ∙ both (lt-ltb u (acts_of t) hit.below) (ap (λ (x : ℕ). ltb 0 x) (units_same u) ∙ hit.holds))
      ((h.new u (omega (arith, hit.below))).member k hit.below
      ∙ both (lt-ltb k (acts_of t) b) (eq-eqb (comp k) (comp u) (sym hit.same)))

  abbrev next : ℕ → ℕ
  next = merged (project_in t) comp n

  -- A set that has exactly the activities whose new number is that of i.
  equal : (x i : ℕ) → ((k : ℕ) → has x k ≡ true → (k < acts_of t) × (next k ≡ next i))
      → ((k : ℕ) → k < acts_of t → next k ≡ next i → has x k ≡ true) → (k : ℕ)
      → has x k ≡ (ltb k (acts_of t) && eqb (next k) (next i))
  equal x i is of k =
      same_bool (has x k) (ltb k (acts_of t) && eqb (next k) (next i))
      (λ e. both (lt-ltb k (acts_of t) (is k e).0) (eq-eqb (next k) (next i) (is k e).1))
      (λ e.
      of k (ltb-true k (acts_of t) (and_left (ltb k (acts_of t)) (eqb (next k) (next i)) e))
      (eqb-true (next k) (next i) (and_right (ltb k (acts_of t)) (eqb (next k) (next i)) e)))

  step : (i : ℕ) → i < acts_of t → (k : ℕ)
      → has (cond (has all i) all (component_at l i)) k ≡ (ltb k (acts_of t) && eqb (next k) (next i))
  step i b k =
      by_bool (has all i)
      (λ y.
      ap (λ (x : ℕ). has x k) (cond_true all (component_at l i) y)
      ∙ equal all i
      (λ k e. (
        (is_hit k e).0,
        merged_touched (project_in t) comp n k (is_hit k e).1
            ∙ sym (merged_touched (project_in t) comp n i (is_hit i y).1),
      ))
      (λ k c e. of_hit k c (merged_both (project_in t) comp n i k (is_hit i y).1 e))
      k)
      (λ z.
      ap (λ (x : ℕ). has x k) (cond_false all (component_at l i) z)
      ∙ equal (component_at l i) i
      (λ k e.
      let two = sym ((h.new i (omega arith)).member k b) ∙ e in (
        ltb-true k (acts_of t) (and_left (ltb k (acts_of t)) (eqb (comp k) (comp i)) two),
        merged_same (project_in t) comp n i k
            (eqb-true (comp k) (comp i) (and_right (ltb k (acts_of t)) (eqb (comp k) (comp i)) two)),
      ))
      (λ k c e.
      (h.new i (omega arith)).member k b
      ∙ both (lt-ltb k (acts_of t) c)
      (eq-eqb (comp k) (comp i)
      (merged_none (project_in t) comp n i k (λ hit. true_not_false (of_hit i b hit) z) e)))
      k)

  pub merging_more : Merging t (n + 1) r
  unfolding component_below
  merging_more =
      record {
        long = stored.long ∙ h.long;
        new = λ i b.
            record {
              low =
                  by_bool (has all i)
                  (λ y. omega (arith, stored.new i b, cond_true all (component_at l i) y, joined.low))
                  (λ z. omega (arith, stored.new i b, cond_false all (component_at l i) z, (h.new i b).low));
              member = λ k c. rw (add-one n) (ap (λ (x : ℕ). has x k) (stored.new i b) ∙ step i c k);
            };
        before = λ at b. stored.before at b ∙ h.before at b;
        behind = λ at b. stored.behind at b ∙ h.behind at b;
      }

pub merging_all : {t : List ℕ} {n : ℕ} {l : List ℕ} → Merging t n l → n ≡ resources_of t
    → Filled t component_from most (IsComponent t) l
unfolding project_in
merging_all {t} {n} {l} h e =
    record {
      long = h.long;
      new = λ i b.
          record {
            low = (h.new i b).low;
            member = λ k c.
                (h.new i b).member k c
                ∙ ap (λ (m : ℕ). ltb k (acts_of t)
                && eqb (component_below (project_in t) m k) (component_below (project_in t) m i)) e;
          };
      before = h.before;
      behind = h.behind;
    }
