-- The row of the schedule that the working array holds, and which activities are beside another.
use Prim.Native.Nat.{ℕ, ◌+◌, ◌^◌, ◌<◌}
use native.Mathlib.Omega.{arith}
use mathlib.Core.Bool.{Bool, true, false, not, cond, ◌&&◌}
use mathlib.Core.List.{List}
use mathlib.Core.Path.{◌≡◌, refl, sym, ap, ◌∙◌}
use lib.Bits.{bit_and, and_lt}
use lib.Dec.{ltb, eqb}
use lib.ListN.{length, get_or}
use borrow.Author.Tests.{lt-ltb, eq-eqb, ne_eqb}
use Rattle.base.proofs.Bools.{both, and_left, and_right, cond_true}
use Rattle.base.proofs.Lists.{singles_length, singles_at}
use Rattle.sets.specs.Sets.{most, has}
use Rattle.sets.proofs.Laws.{has_and, has_without}
use Rattle.timetable.specs.Mark.{mark}
use Rattle.instance.specs.Table.{duration_at, component_at, present_of, acts_of}
use Rattle.instance.specs.Instance.{Instance, own_of}
use Rattle.profile.specs.Work.{end_at, start_at}
use Rattle.profile.specs.Room.{Among}
use Rattle.soonest.specs.Row.{Ended, row_in}
use Rattle.soonest.specs.Soonest.{others_of}

module _ (t w : List ℕ) where
  abbrev cell : ℕ → ℕ
  cell i = cond (has (present_of t) i) (start_at t w i) mark

  pub row_length : length (row_in t w) ≡ acts_of t
  unfolding row_in
  row_length = singles_length cell (acts_of t)

  pub row_at : (i : ℕ) → i < acts_of t
      → get_or (row_in t w) i 0 ≡ cond (has (present_of t) i) (start_at t w i) mark
  unfolding row_in
  row_at i l = singles_at cell (acts_of t) i 0 l

-- The start of a present activity, and its end.
module _ (t w : List ℕ) (whole : Instance t) (ended : Ended t w) (i : ℕ) (there : has (present_of t) i ≡ true) where
  pub start_is : get_or (row_in t w) i 0 ≡ start_at t w i
  start_is = row_at t w i (whole.present i there) ∙ cond_true (start_at t w i) mark there

  pub end_is : get_or (row_in t w) i 0 + duration_at t i ≡ end_at w i
  end_is = omega (arith, start_is, ended.ran i there)

pub present_below : (t : List ℕ) (j : ℕ) → Instance t → has (present_of t) j ≡ true → j < most
present_below t j whole there = omega (arith, whole.present j there, whole.laid.acts)

-- The others of the component of j.
module _ (t : List ℕ) (whole : Instance t) (j : ℕ) (there : has (present_of t) j ≡ true) where
  abbrev set : ℕ
  set = bit_and (component_at t j) (present_of t)

  beside : (k : ℕ) → has set k ≡ (ltb k (acts_of t) && eqb (own_of t k) (own_of t j) && has (present_of t) k)
  beside k =
      has_and (component_at t j) (present_of t) k
      ∙ ap (◌&& has (present_of t) k) (whole.laid.component j k (whole.present j there))

  pub itself : has (bit_and (component_at t j) (present_of t)) j ≡ true
  itself =
      beside j
      ∙ both (both (lt-ltb j (acts_of t) (whole.present j there)) (eq-eqb (own_of t j) (own_of t j) refl)) there

  others_are : (k : ℕ) → has (others_of t j) k ≡ (has set k && not (eqb k j))
  others_are k = has_without set j k itself

  pub other_there : (k : ℕ) → has (others_of t j) k ≡ true → has (present_of t) k ≡ true
  other_there k y =
      and_right (ltb k (acts_of t) && eqb (own_of t k) (own_of t j)) (has (present_of t) k)
      (sym (beside k) ∙ and_left (has set k) (not (eqb k j)) (sym (others_are k) ∙ y))

  pub not_itself : has (others_of t j) j ≡ false
  not_itself = others_are j ∙ ap (λ (b : Bool). has set j && not b) (eq-eqb j j refl) ∙ ap (◌&& false) itself

  pub other_of : (k : ℕ) → has (present_of t) k ≡ true → own_of t k ≡ own_of t j → (k ≡ j → ⊥)
      → has (others_of t j) k ≡ true
  other_of k y own ne =
      others_are k
      ∙ both (beside k ∙ both (both (lt-ltb k (acts_of t) (whole.present k y)) (eq-eqb (own_of t k) (own_of t j) own)) y)
      (ap not (ne_eqb k j ne))

  pub others_low : others_of t j < 2 ^ most
  others_low =
      omega (
        arith,
        and_lt most (component_at t j) (present_of t)
            (whole.laid.component_low j (present_below t j whole there)) whole.present_low,
      )

  pub among_others : (w : List ℕ) → Ended t w → Among t w (others_of t j) j
  among_others w ended =
      record {
        laid = whole.laid;
        timed = ended.timed;
        low = others_low;
        acts = λ k y. whole.present k (other_there k y);
        started = λ k y. ended.ran k (other_there k y);
        own = whole.present j there;
        other = not_itself;
      }
