-- How many fewer may be contested once the only member of a set is frozen.
use Prim.Native.Nat.{ℕ, ◌+◌, ◌-◌, ◌^◌, ◌<◌}
use native.Mathlib.Decide.{ℕ_discrete}
use native.Mathlib.Omega.{arith}
use mathlib.Core.Bool.{Bool, true, false, not, ◌&&◌, and-true}
use mathlib.Core.List.{List}
use mathlib.Core.Logic.{◌≢◌, by_cases}
use mathlib.Core.Path.{◌≡◌, refl, sym, ap, ◌∙◌}
use borrow.Author.Tests.{eq-eqb, ne_eqb}
use lib.Bits.{bit_and, and_le_l}
use lib.Dec.{eqb}
use Rattle.base.proofs.Bools.{true_not_false, both, and_left, and_right}
use Rattle.sets.specs.Sets.{most, has}
use Rattle.sets.specs.Lowest.{lowest_of, after_lowest}
use Rattle.sets.proofs.Laws.{has_and, has_without, has_some, same}
use Rattle.sets.proofs.Turns.{Turn, turned, one_member}
use Rattle.instance.specs.Instance.{Laid, own_of}
use Rattle.instance.specs.Table.{acts_of, component_at, tight_of}
use Rattle.steps.proofs.Own.{component_has, component_is}
use Rattle.crowding.specs.Crowd.{crowd, Acts, Fewer}
use Rattle.crowding.proofs.Crowd.{crowd_loose, crowd_beside, crowd_same}

module _ (t : List ℕ) (laid : Laid t) (here rest : ℕ) (some : 0 < here) (low : here < 2 ^ most)
    (last : after_lowest here ≡ 0) (own : lowest_of here < acts_of t) where
  abbrev i : ℕ
  i = lowest_of here

  turn : Turn here 0 i
  turn = turned here 0 i low (λ e. omega (arith, e)) refl (sym last)

  -- `rest` is what is left of the component.
  module _ (left : ℕ) (acts : Acts t left) (there : has left i ≡ true) (e : rest ≡ bit_and (component_at t i) left) where
    rest_of : (k : ℕ) → has left k ≡ true → own_of t k ≡ own_of t i → has rest k ≡ true
    rest_of k y on =
        ap (λ (x : ℕ). has x k) e ∙ has_and (component_at t i) left k
        ∙ both (component_has t laid i k own (acts.below k y) on) y

    alone : here ≡ rest → has (tight_of t) i ≡ true → crowd t left ≡ crowd t (left - 2 ^ i) + 0
    alone whole tight =
        omega (
          arith,
          crowd_same t left i there tight
              (λ k y ne on. ne (one_member turn refl k (ap (λ (x : ℕ). has x k) whole ∙ rest_of k y on))),
        )

    another : here ≢ rest → (k : ℕ) × (has (rest - 2 ^ i) k ≡ true)
    another differ =
        let (k, l, y) = has_some most (rest - 2 ^ i) (omega (arith, rest_low)) more in (k, y)
      where
        rest_low : rest < 2 ^ most
        rest_low =
            omega (arith, e, and_le_l (component_at t i) left, laid.component_low i (omega (arith, laid.acts)))

        more : rest - 2 ^ i ≢ 0
        more none =
            differ (same most here rest low rest_low
            (λ j l.
            by_cases (ℕ_discrete j i)
            (λ q. ap (has here) q ∙ turn.there ∙ sym (ap (has rest) q ∙ rest_of i there refl))
            (λ ne.
            sym (turn.others j ne) ∙ sym (ap (λ (x : ℕ). has x j) none)
            ∙ has_without rest i j (rest_of i there refl)
            ∙ ap (λ (b : Bool). has rest j && not b) (ne_eqb j i ne)
            ∙ and-true (has rest j))))

    beside : (k : ℕ) → has (rest - 2 ^ i) k ≡ true → crowd t left ≡ crowd t (left - 2 ^ i) + 1
    beside k y =
        let two : (has rest k && not (eqb k i)) ≡ true = sym (has_without rest i k (rest_of i there refl)) ∙ y in
        let shared : (has (component_at t i) k && has left k) ≡ true =
        sym (ap (λ (x : ℕ). has x k) e ∙ has_and (component_at t i) left k)
        ∙ and_left (has rest k) (not (eqb k i)) two in
        omega (
          arith,
          crowd_beside t left i there laid acts k (and_right (has (component_at t i) k) (has left k) shared)
              (λ q. true_not_false (and_right (has rest k) (not (eqb k i)) two) (ap not (eq-eqb k i q)))
              (component_is t laid i k own (and_left (has (component_at t i) k) (has left k) shared)),
        )

  pub fewer_loose : has (tight_of t) (lowest_of here) ≡ false → Fewer t (lowest_of here) rest 1
  fewer_loose z = record { fewer = λ left acts there e. omega (arith, crowd_loose t left i there laid own z) }

  pub fewer_alone : here ≡ rest → has (tight_of t) (lowest_of here) ≡ true → Fewer t (lowest_of here) rest 0
  fewer_alone whole tight = record { fewer = λ left acts there e. alone left acts there e whole tight }

  pub fewer_beside : here ≢ rest → Fewer t (lowest_of here) rest 1
  fewer_beside differ =
      record {
        fewer =
            λ left acts there e.
            let (k, y) = another left acts there e differ in beside left acts there e k y;
      }
