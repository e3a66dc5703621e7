-- A turn of a loop that takes the lowest member off a set: what such a loop keeps that tests the members, or gathers
-- some of them.
use Prim.Native.Nat.{ℕ, ◌-◌, ◌^◌, ◌<◌}
use native.Mathlib.Decide.{ℕ_discrete}
use native.Mathlib.Omega.{arith}
use mathlib.Core.Bool.{Bool, true, false, not, ◌&&◌, ◌||◌, and-false, and-true, or-true, or-false}
use mathlib.Core.Logic.{◌≢◌, by_cases}
use mathlib.Core.Path.{◌≡◌, refl, sym, ap, ap₂, ◌∙◌, subst}
use Rattle.std.specs.Prelude.{Some, None}
use lib.Bits.{bit_or, or_lt}
use lib.Dec.{eqb}
use lib.Pow.{pow-lt}
use borrow.Author.Tests.{eq-eqb, ne_eqb}
use Rattle.base.proofs.Bools.{true_not_false, both}
use Rattle.sets.proofs.Laws.{has_none, has_with, has_without}
use Rattle.sets.proofs.Members.{lowest_is, lowest_has, lowest_below, after_less}
use Rattle.sets.specs.Sets.{most, has}
use Rattle.sets.specs.Lowest.{lowest_of, after_lowest}
use Rattle.sets.specs.Each.{TakesLowest}
use Rattle.sets.specs.declared.Iter.{Iter}

-- The member i is taken off the set m, and m' is left.
pub record Turn (m m' i : ℕ) : Type 0 where
  pub below : i < most
  pub low : m' < 2 ^ most
  pub fewer : m' < m
  pub there : has m i ≡ true
  pub gone : has m' i ≡ false
  pub others : (j : ℕ) → j ≢ i → has m' j ≡ has m j

after_is : (m m' i : ℕ) → m < 2 ^ most → m ≢ 0 → i ≡ lowest_of m → m' ≡ after_lowest m → (j : ℕ)
    → has m' j ≡ (has m j && not (eqb j i))
after_is m m' i h ne at rest j =
    ap (λ (x : ℕ). has x j) (rest ∙ (lowest_is m h ne).others ∙ ap (λ (x : ℕ). m - 2 ^ x) (sym at))
    ∙ has_without m i j (lowest_has m i h ne at)

pub turned : (m m' i : ℕ) → m < 2 ^ most → m ≢ 0 → i ≡ lowest_of m → m' ≡ after_lowest m → Turn m m' i
turned m m' i h ne at rest =
    record {
      below = lowest_below m i h ne at;
      low = omega (arith, after_less m h ne);
      fewer = omega (arith, after_less m h ne);
      there = lowest_has m i h ne at;
      gone =
          after_is m m' i h ne at rest i
          ∙ ap (λ (b : Bool). has m i && not b) (eq-eqb i i refl)
          ∙ and-false (has m i);
      others =
          λ j other. after_is m m' i h ne at rest j ∙ ap (λ (b : Bool). has m j && not b) (ne_eqb j i other)
          ∙ and-true (has m j);
    }

-- What is left is in the set.
pub turn_has : {m m' i : ℕ} → Turn m m' i → (j : ℕ) → has m' j ≡ true → has m j ≡ true
turn_has {m} {m'} {i} t j y =
    by_cases (ℕ_discrete j i) (λ e. ap (has m) e ∙ t.there) (λ ne. sym (t.others j ne) ∙ y)

-- A set whose rest is empty has one member.
pub one_member : {m m' i : ℕ} → Turn m m' i → m' ≡ 0 → (j : ℕ) → has m j ≡ true → j ≡ i
one_member {m} {m'} {i} t none j y =
    by_cases
    (ℕ_discrete j i)
    (λ e. e)
    (λ ne. true_not_false (t.others j ne ∙ y) (ap (λ (x : ℕ). has x j) none ∙ has_none j))

-- ---- members are tested: P holds of those of `all` that are no longer in `rest`

pub record Passed (P : ℕ → Type 0) (all rest : ℕ) : Type 0 where
  pub low : rest < 2 ^ most
  pub inside : (k : ℕ) → has rest k ≡ true → has all k ≡ true
  pub done : (k : ℕ) → has all k ≡ true → has rest k ≡ false → P k

module _ (P : ℕ → Type 0) (all : ℕ) where
  pub passed_none : all < 2 ^ most → Passed P all all
  passed_none h = record { low = h; inside = λ k y. y; done = λ k y n. true_not_false y n }

  pub passed_more : {rest rest' i : ℕ} → Turn rest rest' i → P i → Passed P all rest → Passed P all rest'
  passed_more {rest} {rest'} {i} turn y so_far =
      record {
        low = turn.low;
        inside = λ k m. so_far.inside k (turn_has turn k m);
        done =
            λ k m n.
            by_cases (ℕ_discrete k i) (λ e. subst P (sym e) y) (λ ne. so_far.done k m (sym (turn.others k ne) ∙ n));
      }

  pub passed_all : {rest : ℕ} → rest ≡ 0 → Passed P all rest → (k : ℕ) → has all k ≡ true → P k
  passed_all none so_far k y = so_far.done k y (ap (λ (x : ℕ). has x k) none ∙ has_none k)

-- ---- members are gathered: those gathered and those still to come are the same at every turn

pub record Gathering (fits : ℕ → Bool) (set all rest : ℕ) : Type 0 where
  pub low : all < 2 ^ most
  pub rest_low : rest < 2 ^ most
  pub found : (j : ℕ) → (has all j || (has rest j && fits j)) ≡ (has set j && fits j)

module _ (fits : ℕ → Bool) (set : ℕ) where
  pub gather_none : set < 2 ^ most → Gathering fits set 0 set
  gather_none h =
      record {
        low = omega (arith, h);
        rest_low = h;
        found = λ j. ap (λ (b : Bool). b || (has set j && fits j)) (has_none j);
      }

  module _ {all rest rest' i : ℕ} (turn : Turn rest rest' i) (so_far : Gathering fits set all rest) where
    pub gather_more : (all' : ℕ) → fits i ≡ true → all' ≡ bit_or all (2 ^ i) → Gathering fits set all' rest'
    gather_more all' y e =
        record {
          low = omega (arith, or_lt most all (2 ^ i) so_far.low (pow-lt turn.below));
          rest_low = turn.low;
          found =
              λ j.
              ap (λ (x : ℕ). has x j || (has rest' j && fits j)) e
              ∙ by_cases
              (ℕ_discrete j i)
              (λ q.
              ap (λ (b : Bool). b || (has rest' j && fits j))
              (has_with all i j ∙ ap (λ (b : Bool). has all j || b) (eq-eqb j i q) ∙ or-true (has all j))
              ∙ sym
              (ap (λ (b : Bool). has all j || b) (both (ap (has rest) q ∙ turn.there) (ap fits q ∙ y))
              ∙ or-true (has all j))
              ∙ so_far.found j)
              (λ ne.
              ap₂ (λ (a b : Bool). a || (b && fits j))
              (has_with all i j ∙ ap (λ (b : Bool). has all j || b) (ne_eqb j i ne) ∙ or-false (has all j))
              (turn.others j ne)
              ∙ so_far.found j);
        }

    pub gather_less : fits i ≡ false → Gathering fits set all rest'
    gather_less n =
        let off : (x : ℕ) (j : ℕ) → j ≡ i → (has all j || (has x j && fits j)) ≡ has all j =
        λ x j q.
        ap (λ (b : Bool). has all j || (has x j && b)) (ap fits q ∙ n)
        ∙ ap (λ (b : Bool). has all j || b) (and-false (has x j))
        ∙ or-false (has all j) in
        record {
          low = so_far.low;
          rest_low = turn.low;
          found =
              λ j.
              by_cases
              (ℕ_discrete j i)
              (λ q. off rest' j q ∙ sym (off rest j q) ∙ so_far.found j)
              (λ ne. ap (λ (b : Bool). has all j || (b && fits j)) (turn.others j ne) ∙ so_far.found j);
        }

  pub gathered : {all rest : ℕ} → rest ≡ 0 → Gathering fits set all rest → (j : ℕ) → has all j ≡ (has set j && fits j)
  gathered {all} {rest} none so_far j =
      sym (or-false (has all j))
      ∙ sym (ap (λ (b : Bool). has all j || (b && fits j)) (ap (λ (x : ℕ). has x j) none ∙ has_none j))
      ∙ so_far.found j

-- ---- a `for` over the members of a set

-- A call of `next` that gives a member takes it off what is left.
pub taken : {s t : Iter} {i : ℕ} → s.left < 2 ^ most → TakesLowest s (Some i) t → Turn s.left t.left i
taken {s} {t} {i} h step = turned s.left t.left i h (omega (arith, step.0)) step.1 step.2

pub none_left : {s t : Iter} → TakesLowest s None t → s.left ≡ 0
none_left step = step.0
