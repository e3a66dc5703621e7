-- The units of an activity and the form of its line, in each edition.
use Prim.Native.Nat.{ℕ, zero, suc, ◌^◌, ◌<◌, ◌≤◌, min}
use mathlib.Core.Bool.{true}
use mathlib.Core.List.{List, [], ◌∷◌, ◌++◌}
use mathlib.Core.Path.{◌≡◌, refl, sym, ap, ap₂, ◌∙◌}
use native.Mathlib.Nat.{suc_inj}
use native.Mathlib.Omega.{arith}
use borrow.Author.Tests.{leb-true, lt-ltb}
use lib.ListN.{length, get_or, drop}
use Rattle.base.specs.Lists.{every}
use Rattle.plan.specs.Limits.{most_digits, most_resources, says_units, most_units, is_unit_count, bytes, counts_form, act_form}
use Rattle.plan.specs.Plan.{Activity, one_unit, own_resource, act_values, activity_of, is_activity}
use Rattle.format.specs.Lines.{slots}
use Rattle.base.proofs.Bools.{by_bool, both, and_left, and_right, cond_true, cond_false}
use Rattle.base.proofs.Every.{every_then}
use Rattle.format.proofs.Plans.{duration_between, units_count, units_ranged, own_below, units_own}
use Rattle.format.proofs.Forms.{is_form, is_plain, is_short, fitting, fitting_count}

-- One unit: its own resource is the one named, or past all where there is none of that number.
pub own_least : (n r : ℕ) → own_resource (one_unit n r) ≡ min n r
own_least zero r = omega arith
own_least (suc n) zero = omega arith
own_least (suc n) (suc r) = ap suc (own_least n r) ∙ omega arith

-- The counts of a line and its end: a form, with so many values.
abbrev pub counts_end : ℕ → List ℕ
counts_end n = counts_form n ++ bytes "\n"

counts_plain : (n : ℕ) → is_plain (get_or (counts_end n) 0 35) ≡ true
unfolding counts_form
counts_plain zero = refl
counts_plain (suc n) = refl

counts_form_lem : (n : ℕ) → is_form (counts_end n) ≡ true
unfolding counts_form
counts_form_lem zero = refl
counts_form_lem (suc n) = both (counts_plain n) (counts_form_lem n)

counts_slots : (n : ℕ) → slots (counts_end n) ≡ n
unfolding counts_form
counts_slots zero = refl
counts_slots (suc n) = ap suc (counts_slots n)

counts_fit : (n : ℕ) (us : List ℕ) → length us ≡ n → every is_short us ≡ true → fitting (counts_end n) us ≡ true
unfolding counts_form fitting
counts_fit zero [] e h = refl
counts_fit zero (u ∷ us) e h = absurd (omega arith)
counts_fit (suc n) [] e h = absurd (omega arith)
counts_fit (suc n) (u ∷ us) e h =
    both (and_left (is_short u) (every is_short us) h)
    (counts_fit n us (suc_inj e) (and_right (is_short u) (every is_short us) h))

-- The values of a line: some, and two.
some_values : (vs : List ℕ) (n : ℕ) → length vs ≡ suc n → get_or vs 0 0 ∷ drop 1 vs ≡ vs
some_values [] n e = absurd (omega arith)
some_values (v ∷ vs) n e = refl

pub two_values : (vs : List ℕ) → length vs ≡ 2 → get_or vs 0 0 ∷ get_or vs 1 0 ∷ [] ≡ vs
two_values [] e = absurd (omega arith)
two_values (v ∷ []) e = absurd (omega arith)
two_values (v ∷ w ∷ []) e = refl
two_values (v ∷ w ∷ u ∷ vs) e = absurd (omega arith)

pub short : (n : ℕ) → n < 10 ^ most_digits → is_short n ≡ true
short n h = lt-ltb n (10 ^ most_digits) h

pub most_units_lem : (edition : ℕ) → most_units edition ≤ most_units 2
most_units_lem edition = by_bool (says_units edition) (λ y. rw y (omega arith)) (λ n. rw n (omega arith))

-- The line of an activity in range: its values fit its form, and say that activity; values that say one in range are
-- its values.
module _ (edition resources : ℕ) where
  pub act_formed : is_form (act_form edition resources) ≡ true
  act_formed =
      by_bool (says_units edition)
      (λ y. rw y (both (counts_plain resources) (counts_form_lem resources)))
      (λ n. rw n)

  module _ (a : Activity) (e : is_activity edition resources a ≡ true) where
    pub act_fits : resources ≤ most_resources → fitting (act_form edition resources) (act_values edition a) ≡ true
    unfolding fitting
    act_fits h =
        let duration : is_short a.duration ≡ true =
        short a.duration (omega (arith, duration_between edition resources a e)) in
        by_bool (says_units edition)
        (λ y.
        ap₂ fitting (cond_true _ _ y) (cond_true _ _ y)
        ∙ both duration
        (counts_fit resources a.units (units_count edition resources a e y)
        (every_then (is_unit_count edition) is_short
        (λ u k. short u (omega (arith, leb-true u (most_units edition) k, most_units_lem edition)))
        a.units (units_ranged edition resources a e y))))
        (λ n.
        ap₂ fitting (cond_false _ _ n) (cond_false _ _ n)
        ∙ both (short (own_resource a.units) (omega (arith, own_below edition resources a e n))) (both duration refl))

    pub act_same : activity_of edition resources (act_values edition a) ≡ a
    act_same =
        by_bool (says_units edition)
        (λ y. rw y)
        (λ n. rw n (ap (λ (us : List ℕ). record { duration = a.duration; units = us })
        (sym (units_own edition resources a e n))))

  pub act_back : (vs : List ℕ) → fitting (act_form edition resources) vs ≡ true
      → is_activity edition resources (activity_of edition resources vs) ≡ true
      → act_values edition (activity_of edition resources vs) ≡ vs
  act_back vs fit e =
      let count : length vs ≡ slots (act_form edition resources) = fitting_count (act_form edition resources) vs fit in
      by_bool (says_units edition)
      (λ y.
      let all : length vs ≡ suc resources = count ∙ ap slots (cond_true _ _ y) ∙ ap suc (counts_slots resources) in
      rw y (some_values vs resources all))
      (λ n.
      let own : own_resource (one_unit resources (get_or vs 0 0)) < resources =
      rw n at (own_below edition resources (activity_of edition resources vs) e n) in
      rw n
      (ap (λ (r : ℕ). r ∷ get_or vs 1 0 ∷ []) (omega (arith, own_least resources (get_or vs 0 0)))
      ∙ two_values vs (count ∙ ap slots (cond_false _ _ n))))
