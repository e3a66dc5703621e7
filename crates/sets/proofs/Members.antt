-- A loop that takes the lowest member off a set until none is left is a fold over the set's members, and the fold
-- over the members is a recursion over all activity numbers.
use Prim.Native.Nat.{ℕ, zero, suc, ◌+◌, ◌-◌, ◌*◌, ◌/◌, ◌%◌, ◌^◌, ◌≤◌, ◌<◌}
use native.Mathlib.Nat.{not-suc-le-zero, pow-suc, mod-lt, zero-lt-suc, div-lt_iff_lt-mul}
use native.Mathlib.Decide.{ℕ_discrete}
use native.Mathlib.Omega.{arith}
use mathlib.Core.Bool.{Bool, true, false, cond, not, ◌&&◌, and-false, and-true}
use mathlib.Core.List.{List, [], ◌∷◌, ◌++◌, foldl, foldl-append}
use mathlib.Core.Logic.{◌≢◌, by_cases}
use mathlib.Core.Path.{◌≡◌, refl, sym, ap, ap₂, ◌∙◌, subst}
use lib.Arith.{lt-one}
use lib.Bits.{bit_and, and_step, and_self}
use lib.Count.{count_trailing_zeros, under}
use lib.Dec.{eqb}
use lib.Pow.{pow_pos}
use borrow.Author.Tests.{eq-eqb, ne_eqb}
use Rattle.base.proofs.Bools.{by_bool, true_not_false, and_left, cond_true, cond_false}
use Rattle.base.specs.Lists.{gather}
use Rattle.sets.proofs.Laws.{has_first, has_later, has_none, has_without}
use Rattle.sets.specs.Sets.{most, has}
use Rattle.sets.specs.Lowest.{lowest_of, after_lowest}

-- ---- the lowest member

-- i is the lowest member of m, all of them below n, and `rest` has the others.
pub record Lowest (n m i rest : ℕ) : Type 0 where
  pub inside : i < n
  pub member : has m i ≡ true
  pub none : (j : ℕ) → j < i → has m j ≡ false
  pub others : rest ≡ m - 2 ^ i

two_pos : 0 < 2
two_pos = zero-lt-suc 1

half_lt : (n a : ℕ) → a < 2 ^ suc n → a / 2 < 2 ^ n
half_lt n a h = (div-lt_iff_lt-mul two_pos).1 (subst (λ (x : ℕ). a < x) (pow-suc 2 n) h)

odd_case : (n m : ℕ) → m % 2 ≡ 1 → Lowest (suc n) m 0 (bit_and m (m - 1))
odd_case n m e =
    record {
      inside = omega arith;
      member = has_first m ∙ ap (λ (x : ℕ). eqb x 1) e;
      none = λ j l. absurd (not-suc-le-zero l);
      others =
          and_step m (m - 1)
          ∙ ap₂ (λ (x y : ℕ). bit_and (m / 2) x * 2 + y) {y = m / 2} {v = 0} (omega arith) (omega arith)
          ∙ ap (λ (x : ℕ). x * 2 + 0) (and_self (m / 2))
          ∙ omega arith;
    }

even_case : (n m t : ℕ) → m % 2 ≡ 0 → m ≢ 0 → Lowest n (m / 2) t (bit_and (m / 2) (m / 2 - 1))
    → Lowest (suc n) m (suc t) (bit_and m (m - 1))
even_case n m t e ne h =
    record {
      inside = omega (arith, h.inside);
      member = has_later m t ∙ h.member;
      none = zeros;
      others =
          and_step m (m - 1)
          ∙ ap₂ (λ (x y : ℕ). bit_and (m / 2) x * 2 + y) {y = m / 2 - 1} {v = 0} (omega arith) (omega arith)
          ∙ ap (λ (x : ℕ). x * 2 + 0) h.others
          ∙ omega (arith, pow-suc 2 t);
    }
  where
    zeros : (j : ℕ) → j < suc t → has m j ≡ false
    zeros zero l = has_first m ∙ ap (λ (x : ℕ). eqb x 1) e
    zeros (suc j) l = has_later m j ∙ h.none j (omega arith)

lowest_of_lem : (n v m : ℕ) → n ≤ v → m < 2 ^ n → m ≢ 0 → Lowest n m (count_trailing_zeros v m) (bit_and m (m - 1))
unfolding count_trailing_zeros
lowest_of_lem zero v m l h ne = absurd (ne (lt-one h))
lowest_of_lem (suc n) zero m l h ne = absurd (not-suc-le-zero l)
lowest_of_lem (suc n) (suc v) m l h ne =
    go (m % 2) refl (λ e. lowest_of_lem n v (m / 2) (omega arith) (half_lt n m h) (omega arith))
  where
    go : (x : ℕ) → m % 2 ≡ x → (m % 2 ≡ 0 → Lowest n (m / 2) (count_trailing_zeros v (m / 2)) (bit_and (m / 2) (m / 2 - 1)))
        → Lowest (suc n) m (under x (count_trailing_zeros v (m / 2))) (bit_and m (m - 1))
    go zero e ih = even_case n m (count_trailing_zeros v (m / 2)) e ne (ih e)
    go (suc x) e ih = odd_case n m (omega (arith, mod-lt m two_pos))

pub lowest_is : (m : ℕ) → m < 2 ^ most → m ≢ 0 → Lowest most m (lowest_of m) (after_lowest m)
unfolding lowest_of after_lowest
lowest_is m h ne = lowest_of_lem most 32 m (omega arith) h ne

-- ---- the members in order

unfoldable pub members_below : ℕ → ℕ → List ℕ
members_below n m = gather n λ i. cond (has m i) (i ∷ []) []

unfoldable pub members : ℕ → List ℕ
members m = members_below most m

none_below : (n m : ℕ) → ((j : ℕ) → j < n → has m j ≡ false) → members_below n m ≡ []
unfolding members_below gather
none_below zero m none = refl
none_below (suc n) m none =
    ap₂ ◌++◌ (none_below n m λ j l. none j (omega arith)) (cond_false (n ∷ []) [] (none n (omega arith)))

module _ (m i rest : ℕ) (member : has m i ≡ true) (none : (j : ℕ) → j < i → has m j ≡ false)
    (others : (j : ℕ) → has rest j ≡ (has m j && not (eqb j i))) where
  others_none : (j : ℕ) → j < suc i → has rest j ≡ false
  others_none j l =
      by_cases
      (ℕ_discrete j i)
      (λ e. others j ∙ ap (λ (b : Bool). has m j && not b) (eq-eqb j i e) ∙ and-false (has m j))
      (λ ne. others j ∙ ap (λ (b : Bool). b && not (eqb j i)) (none j (omega arith)))

  others_same : (j : ℕ) → j ≢ i → has m j ≡ has rest j
  others_same j ne = sym (others j ∙ ap (λ (b : Bool). has m j && not b) (ne_eqb j i ne) ∙ and-true (has m j))

  first_below : (n : ℕ) → i < n → members_below n m ≡ i ∷ members_below n rest
  unfolding members_below gather
  first_below zero l = absurd (not-suc-le-zero l)
  first_below (suc n) l =
      by_cases
      (ℕ_discrete n i)
      (λ e.
      ap₂ ◌++◌ (none_below n m λ j k. none j (omega arith)) (cond_true (n ∷ []) [] (ap (has m) e ∙ member))
      ∙ ap (◌∷ []) e
      ∙ sym (ap (i ∷◌) (ap₂ ◌++◌ (none_below n rest λ j k. others_none j (omega arith))
      (cond_false (n ∷ []) [] (others_none n (omega arith))))))
      (λ ne. ap₂ ◌++◌ (first_below n (omega arith)) (ap (λ (b : Bool). cond b (n ∷ []) []) (others_same n ne)))

pub members_none : members 0 ≡ []
unfolding members members_below gather has
members_none = refl

has_after : (m : ℕ) → m < 2 ^ most → m ≢ 0 → (k : ℕ)
    → has (after_lowest m) k ≡ (has m k && not (eqb k (lowest_of m)))
has_after m h ne k =
    let low = lowest_is m h ne in
    ap (λ (x : ℕ). has x k) low.others ∙ has_without m (lowest_of m) k low.member

pub members_step : (m : ℕ) → m < 2 ^ most → m ≢ 0 → members m ≡ lowest_of m ∷ members (after_lowest m)
unfolding members
members_step m h ne =
    let low = lowest_is m h ne in
    first_below m (lowest_of m) (after_lowest m) low.member low.none (has_after m h ne) most low.inside

-- A fold over the members that goes the way of `whole`, at each number below n.
pub fold_members : {A : Type 0} (m : ℕ) (step : A → ℕ → A) (whole : ℕ → A)
    → ((i : ℕ) → has m i ≡ true → whole (suc i) ≡ step (whole i) i)
    → ((i : ℕ) → has m i ≡ false → whole (suc i) ≡ whole i)
    → (n : ℕ) → foldl step (whole 0) (members_below n m) ≡ whole n
unfolding members_below gather
fold_members m step whole yes-at no-at zero = refl
fold_members m step whole yes-at no-at (suc n) =
    foldl-append step (whole 0) (members_below n m) (cond (has m n) (n ∷ []) [])
    ∙ ap (λ x. foldl step x (cond (has m n) (n ∷ []) [])) (fold_members m step whole yes-at no-at n)
    ∙ by_bool (has m n) (λ e. rw e (sym (yes-at n e))) (λ e. rw e (sym (no-at n e)))

pub lowest_below : (m i : ℕ) → m < 2 ^ most → m ≢ 0 → i ≡ lowest_of m → i < most
lowest_below m i h ne e = omega (arith, (lowest_is m h ne).inside)

-- The same of the lowest member of what a loop has left, as its bounds goals ask.
pub lowest_low : (m : ℕ) → 0 < m → m < 2 ^ most → lowest_of m < most
lowest_low m some h = lowest_below m (lowest_of m) h (omega arith) refl

pub after_less : (m : ℕ) → m < 2 ^ most → m ≢ 0 → after_lowest m < m
after_less m h ne = omega (arith, (lowest_is m h ne).others, pow_pos (lowest_of m))

pub after_has : (m : ℕ) → m < 2 ^ most → m ≢ 0 → (j : ℕ) → has (after_lowest m) j ≡ true → has m j ≡ true
after_has m h ne j e = and_left (has m j) (not (eqb j (lowest_of m))) (sym (has_after m h ne j) ∙ e)

-- ---- a loop over the members: what the fold from here gives is kept by a turn, and is the value where none is left

pub turn {ℓ} : {A : Type ℓ} (step : A → ℕ → A) {a a' total : A} {m m' i : ℕ}
    → m < 2 ^ most
    → m ≢ 0
    → i ≡ lowest_of m
    → m' ≡ after_lowest m
    → a' ≡ step a i
    → foldl step a (members m) ≡ total
    → foldl step a' (members m') ≡ total
turn step {a} {a'} {m} {m'} {i} h ne at rest new so_far =
    ap₂ (λ x (k : ℕ). foldl step x (members k)) (new ∙ ap (step a) at) rest
    ∙ sym (ap (foldl step a) (members_step m h ne))
    ∙ so_far

pub ended {ℓ} : {A : Type ℓ} (step : A → ℕ → A) {a total : A} {m : ℕ} → m ≡ 0 → foldl step a (members m) ≡ total
    → a ≡ total
ended step {a} none so_far =
    sym (ap (λ (k : ℕ). foldl step a (members k)) none ∙ ap (foldl step a) members_none) ∙ so_far

pub lowest_has : (m i : ℕ) → m < 2 ^ most → m ≢ 0 → i ≡ lowest_of m → has m i ≡ true
lowest_has m i h ne e = ap (has m) e ∙ (lowest_is m h ne).member

-- What a turn of a loop over the members leaves, i being the one it takes.
module _ (m rest i : ℕ) (low : m < 2 ^ most) (more : m ≢ 0) (at : i ≡ lowest_of m) (after : rest ≡ after_lowest m) where
  pub rest_is : (k : ℕ) → has rest k ≡ (has m k && not (eqb k i))
  rest_is k =
      ap (λ (x : ℕ). has x k) after ∙ has_after m low more k ∙ ap (λ (x : ℕ). has m k && not (eqb k x)) (sym at)

  pub rest_last : (k : ℕ) → has m k ≡ true → has rest k ≡ false → k ≡ i
  rest_last k y n =
      by_cases (ℕ_discrete k i)
      (λ e. e)
      (λ ne. true_not_false (rest_is k ∙ ap₂ (λ (a b : Bool). a && not b) y (ne_eqb k i ne)) n)

pub after_none : (m : ℕ) → m ≡ 0 → after_lowest m ≡ 0
unfolding after_lowest
after_none m e = ap (λ (x : ℕ). bit_and x (x - 1)) e

-- A set with a member besides its lowest has one besides any.
pub two_left : (m : ℕ) → m < 2 ^ most → 0 < after_lowest m → (i : ℕ) → has m i ≡ true → 0 < m - 2 ^ i
two_left m h two i member =
    by_cases
    (ℕ_discrete i (lowest_of m))
    (λ e. omega (arith, ap (λ (k : ℕ). m - 2 ^ k) e, low.others))
    (λ ne. some (has_without m i (lowest_of m) member ∙ ap₂ (λ (a b : Bool). a && not b) low.member
    (ne_eqb (lowest_of m) i λ e. ne (sym e))))
  where
    low : Lowest most m (lowest_of m) (after_lowest m)
    low = lowest_is m h (λ e. omega (arith, after_none m e))

    some : has (m - 2 ^ i) (lowest_of m) ≡ true → 0 < m - 2 ^ i
    some e =
        by_cases (ℕ_discrete (m - 2 ^ i) 0)
        (λ z. true_not_false e (ap (λ (x : ℕ). has x (lowest_of m)) z ∙ has_none (lowest_of m)))
        (λ ne. omega (arith, ne))
