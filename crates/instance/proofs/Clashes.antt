-- Which two can run together, and in which components no two can.
use Prim.Native.Nat.{ℕ, ◌+◌, ◌^◌, ◌≤◌, ◌<◌}
use native.Mathlib.Decide.{dec_lt}
use native.Mathlib.Omega.{arith}
use mathlib.Core.Bool.{Bool, true, false, not, ◌&&◌, ◌||◌}
use mathlib.Core.List.{List}
use mathlib.Core.Logic.{◌≢◌, by_cases}
use mathlib.Core.Path.{◌≡◌, refl, sym, ap, ◌∙◌, subst}
use lib.Bits.{bit_and, bit_or, bit_xor}
use lib.Dec.{leb, ltb, eqb}
use borrow.Author.Tests.{lt-ltb, ltb-true, le-leb, lt-leb, eq-eqb, ne_eqb, eqb-false, not-true}
use Rattle.base.specs.Below.{every_below, ◌implies◌}
use Rattle.base.proofs.Below.{every_at, every_of, implies_intro, implies_elim}
use Rattle.base.proofs.Bools.{by_bool, true_not_false, same_bool, both, and_left, and_right}
use Rattle.sets.proofs.Laws.{has_none, has_with, has_minus, has_some, minus_low}
use Rattle.sets.proofs.Turns.{Passed, passed_all}
use Rattle.std.proofs.lemmas.Bool.Decides.{nat_tests}
use Rattle.std.proofs.lemmas.List.FromFn.{length-range_with_len, get_or-range_with_len}
use Rattle.std.specs.Bool.{MatchBool}
use Rattle.std.specs.List.{AllWithin, HoldsAt, range_with_len}
use lib.ListN.{length}
use Rattle.sets.specs.Sets.{most, has}
use Rattle.instance.specs.Table.{component_at, clash_at, units_at, capacity_at, acts_of, resources_of, project_in}
use Rattle.instance.specs.Instance.{own_of, fit_together, is_tight}
use Rattle.instance.specs.Steps.{Grouped, Apart, AllClash}
use Rattle.scan.proofs.Components.{component_joint}

-- ---- two that can run together

module _ (t : List ℕ) (i k : ℕ) where
  abbrev pub Fits : ℕ → Type 0
  Fits r = units_at t i r + units_at t k r ≤ capacity_at t r

  abbrev pub Exceeds : ℕ → Type 0
  Exceeds r = capacity_at t r < units_at t i r + units_at t k r

  abbrev fits_on : ℕ → Bool
  fits_on r = leb (units_at t i r + units_at t k r) (capacity_at t r)

  fit_yes : ((r : ℕ) → r < resources_of t → Fits r) → true ≡ fit_together t i k
  unfolding fit_together
  fit_yes fits =
      sym (every_of (resources_of t) fits_on
      (λ r b. le-leb (units_at t i r + units_at t k r) (capacity_at t r) (fits r b)))

  fit_no : (r : ℕ) → r < resources_of t → Exceeds r → false ≡ fit_together t i k
  unfolding fit_together
  fit_no r b h =
      by_bool (fit_together t i k)
      (λ y.
      true_not_false (every_at (resources_of t) fits_on y r b)
      (lt-leb (units_at t i r + units_at t k r) (capacity_at t r) h))
      (λ z. sym z)

  -- What `all` answers over the resources.
  pub fit_all : {n : ℕ} → n ≡ resources_of t → (b : Bool)
      → MatchBool b (AllWithin Fits (range_with_len 0 n) 0 (length (range_with_len 0 n)))
      ((r : ℕ) × (r < length (range_with_len 0 n)) × HoldsAt Exceeds (range_with_len 0 n) r)
      → b ≡ fit_together t i k
  fit_all {n} e true h =
      fit_yes
      (λ r l.
      subst Fits (get_or-range_with_len 0 n r 0 (omega arith) ∙ omega arith)
      (h r 0 (omega arith) (omega (arith, length-range_with_len 0 n))))
  fit_all {n} e false h =
      let l : h.0 < n = omega (arith, length-range_with_len 0 n, h.1) in
      fit_no h.0 (omega arith) (subst Exceeds (get_or-range_with_len 0 n h.0 0 l ∙ omega arith) (h.2 0))

-- Two of two components can: they share no resource.
pub fit_apart : {resources : ℕ} {t : List ℕ} {i k : ℕ} → Grouped (acts_of t) resources t → i < acts_of t → k < acts_of t
    → has (component_at t i) k ≡ false → true ≡ fit_together t i k
unfolding project_in
fit_apart {resources} {t} {i} {k} h b d out = fit_yes t i k fits
  where
    joint : (r : ℕ) → r < resources_of t → 0 < units_at t i r → 0 < units_at t k r → has (component_at t i) k ≡ true
    joint r l u v =
        (h.component i (omega (arith, h.counted.acts_few))).member k b
        ∙ both (lt-ltb k (acts_of t) d)
        (eq-eqb (own_of t k) (own_of t i)
        (component_joint (project_in t) (resources_of t) k i r d b l (lt-ltb 0 (units_at t k r) v)
        (lt-ltb 0 (units_at t i r) u)))

    fits : (r : ℕ) → r < resources_of t → units_at t i r + units_at t k r ≤ capacity_at t r
    fits r l =
        by_cases (dec_lt 0 (units_at t i r))
        (λ u.
        by_cases (dec_lt 0 (units_at t k r))
        (λ v. true_not_false (joint r l u v) out)
        (λ v. omega (arith, h.alone i r b (omega (arith, h.counted.resources_are)))))
        (λ u. omega (arith, h.alone k r d (omega (arith, h.counted.resources_are))))

-- ---- each two of a set

-- Every other member clashes with i.
abbrev pub Faced : List ℕ → ℕ → ℕ → Type 0
Faced t m i = (k : ℕ) → has m k ≡ true → i ≢ k → has (clash_at t i) k ≡ true

-- x has the members other than i that do not clash with it.
module _ (t : List ℕ) (m i : ℕ) {u x : ℕ} (known : u ≡ bit_or (clash_at t i) (2 ^ i))
    (new : x ≡ bit_xor m (bit_and m u)) where
  left_over : (k : ℕ) → has x k ≡ (has m k && not (has (clash_at t i) k || eqb k i))
  left_over k =
      ap (λ (y : ℕ). has y k) new
      ∙ has_minus m u k
      ∙ ap (λ (b : Bool). has m k && not b) (ap (λ (y : ℕ). has y k) known ∙ has_with (clash_at t i) i k)

  pub faced : x ≡ 0 → Faced t m i
  faced none k c ne =
      let e : has x k ≡ false = ap (λ (y : ℕ). has y k) none ∙ has_none k in
      grind (arith, nat_tests, left_over k)

  pub not_faced : m < 2 ^ most → x ≢ 0 → has m i ≡ true → AllClash t m false
  not_faced low some here =
      let (k, b, e) = has_some most x (rw new (minus_low m u low)) some in
      record {
        all = λ q. true_not_false q refl;
        some = λ q. (
          i,
          k,
          here,
          grind (arith, nat_tests, left_over k),
          (λ s. grind (arith, nat_tests, left_over k)),
          grind (arith, nat_tests, left_over k),
        );
      }

pub all_faced : {t : List ℕ} {m rest : ℕ} → rest ≡ 0 → Passed (Faced t m) m rest → AllClash t m true
all_faced {t} {m} none h =
    record {
      all = λ q i k e. passed_all (Faced t m) m none h i e k;
      some = λ q. true_not_false refl q;
    }

-- ---- each two of a component

module _ {acts resources : ℕ} {t : List ℕ} (h : Apart acts resources t) {i : ℕ} (below : i < acts) where
  member : (k : ℕ) → has (component_at t i) k ≡ (ltb k (acts_of t) && eqb (own_of t k) (own_of t i))
  member k =
      let counted = h.grouped.counted in
      (h.grouped.component i (omega (arith, counted.acts_few))).member k (omega (arith, counted.acts_are))

  abbrev pair : ℕ → ℕ → Bool
  pair j k = eqb (own_of t j) (own_of t i) && eqb (own_of t k) (own_of t i) && not (eqb j k)

  inside : (k : ℕ) → k < acts_of t → eqb (own_of t k) (own_of t i) ≡ true → has (component_at t i) k ≡ true
  inside k b e = member k ∙ both (lt-ltb k (acts_of t) b) e

  known_act : (k : ℕ) → has (component_at t i) k ≡ true → k < acts_of t
  known_act k e =
      ltb-true k (acts_of t) (and_left (ltb k (acts_of t)) (eqb (own_of t k) (own_of t i)) (sym (member k) ∙ e))

  known_own : (k : ℕ) → has (component_at t i) k ≡ true → eqb (own_of t k) (own_of t i) ≡ true
  known_own k e = and_right (ltb k (acts_of t)) (eqb (own_of t k) (own_of t i)) (sym (member k) ∙ e)

  clash_at_lem : (j k : ℕ) → j < acts_of t
      → has (clash_at t j) k ≡ (ltb k (acts_of t) && not (eqb j k) && not (fit_together t j k))
  clash_at_lem j k b = (h.clash j (omega (arith, h.grouped.counted.acts_are))).member k

  pub tight_is : {r : Bool} → AllClash t (component_at t i) r → r ≡ is_tight t (own_of t i)
  unfolding is_tight
  tight_is {r} clash = same_bool r (is_tight t (own_of t i)) all (λ e. by_bool r (λ y. y) (some e))
    where
      apart : (j k : ℕ) → j < acts_of t → k < acts_of t → r ≡ true → pair j k ≡ true → not (fit_together t j k) ≡ true
      apart j k b d y two =
          let first = and_left (eqb (own_of t j) (own_of t i) && eqb (own_of t k) (own_of t i)) (not (eqb j k)) two in
          let other = and_right (eqb (own_of t j) (own_of t i) && eqb (own_of t k) (own_of t i)) (not (eqb j k)) two in
          and_right (ltb k (acts_of t) && not (eqb j k)) (not (fit_together t j k))
          (sym (clash_at_lem j k b)
          ∙ clash.all y j k
          (inside j b (and_left (eqb (own_of t j) (own_of t i)) (eqb (own_of t k) (own_of t i)) first))
          (inside k d (and_right (eqb (own_of t j) (own_of t i)) (eqb (own_of t k) (own_of t i)) first))
          (eqb-false j k (not-true (eqb j k) other)))

      all : r ≡ true → is_tight t (own_of t i) ≡ true
      all y =
          every_of (acts_of t) (λ j. every_below (acts_of t) λ k. pair j k implies not (fit_together t j k))
          (λ j b.
          every_of (acts_of t) (λ k. pair j k implies not (fit_together t j k))
          (λ k d. implies_intro (pair j k) (not (fit_together t j k)) (apart j k b d y)))

      some : is_tight t (own_of t i) ≡ true → r ≡ false → r ≡ true
      some e z =
          let (j, k, in-j, in-k, ne, out) = clash.some z in
          let row = every_at (acts_of t) (λ j. every_below (acts_of t) λ k. pair j k implies not (fit_together t j k)) e j
          (known_act j in-j) in
          let cell = every_at (acts_of t) (λ k. pair j k implies not (fit_together t j k)) row k (known_act k in-k) in
          let distinct : not (eqb j k) ≡ true = ap not (ne_eqb j k ne) in
          let never =
          implies_elim (pair j k) (not (fit_together t j k)) cell
          (both (both (known_own j in-j) (known_own k in-k)) distinct) in
          true_not_false
          (clash_at_lem j k (known_act j in-j)
          ∙ both (both (lt-ltb k (acts_of t) (known_act k in-k)) distinct) never)
          out
