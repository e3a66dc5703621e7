-- What is left of a text of several lines: the first of them, and the others.
use Prim.Native.Nat.{ℕ, zero, suc, ◌+◌, ◌*◌, ◌≤◌}
use mathlib.Core.Bool.{Bool, true, cond}
use mathlib.Core.List.{List, [], ◌∷◌, ◌++◌, append_assoc}
use mathlib.Core.Path.{◌≡◌, refl, sym, ap, ap₂, ◌∙◌, subst}
use native.Mathlib.Omega.{arith}
use borrow.Author.Tests.{ltb-false}
use lib.Dec.{eqb, ltb}
use lib.ListN.{length, length-append}
use Rattle.plan.specs.Limits.{bytes, says_units, most_resources, most_digits, capacity_form, counts_form, act_form}
use Rattle.plan.specs.Plan.{Activity, own_resource, act_values, activity_in}
use Rattle.format.specs.Lines.{numeral, filled}
use Rattle.format.specs.Text.{capacity_lines, act_lines}
use Rattle.base.proofs.Bools.{by_bool, cond_true, elim_true, elim_false}
use Rattle.format.proofs.PlanLines.{act_line}
use Rattle.format.proofs.Readers.{Joined}
use Rattle.plan.specs.declared.Activity as Row
use Rattle.std.specs.Prelude.{map, not, Option, Some, None}
use Rattle.std.specs.Option.{unwrap_or}
use Rattle.std.specs.List.{position_or_len}
use Rattle.std.proofs.lemmas.List.Recursion.{is_position_or_len}
use Rattle.writer.specs.Wrote.{Wrote}
use Rattle.writer.proofs.Laws.{wrote_then, wrote_short, filled_short}

-- The lines of capacities.
pub capacities_joined : Joined (λ b. filled capacity_form (b ∷ 0 ∷ [])) capacity_lines
unfolding capacity_lines filled
capacities_joined = record { nil = refl; cons = λ b rest. refl }

-- The counts of units.
abbrev pub counts : List ℕ → List ℕ
counts us = filled (counts_form (length us)) us

pub counts_joined : Joined (λ u. filled (bytes ",#") (u ∷ 0 ∷ [])) counts
unfolding counts_form filled
counts_joined =
    record {
      nil = refl;
      cons = λ u us. ap (λ s. 44 ∷ s) (sym (append_assoc (numeral most_digits u) [] (counts us)));
    }

form_length : (n : ℕ) → length (counts_form n) ≡ 2 * n
unfolding counts_form
form_length zero = refl
form_length (suc n) = omega (arith, form_length n)

pub counts_near : (us : List ℕ) {before after : List ℕ} {at next : ℕ} → Wrote before at (counts us) next after
    → next ≤ at + 10 * length us
counts_near us w = omega (arith, wrote_short (counts_form (length us)) us w, form_length (length us))

-- The line of an activity, from its parts and by its resource.
counts_ended : (us : List ℕ) → filled (counts_form (length us) ++ bytes "\n") us ≡ counts us ++ bytes "\n"
unfolding counts_form filled
counts_ended [] = refl
counts_ended (u ∷ us) =
    ap (λ s. 44 ∷ s)
    (ap (λ s. numeral most_digits u ++ s) (counts_ended us)
    ∙ sym (append_assoc (numeral most_digits u) (counts us) (bytes "\n")))

module _ (edition n d : ℕ) (us : List ℕ) (size : length us ≡ n) where
  abbrev the_line : List ℕ
  the_line = act_line edition n (record { duration = d; units = us })

  pub counted_wrote : {s₀ s₁ s₂ s₃ : List ℕ} {n₀ n₁ n₂ n₃ : ℕ} → says_units edition ≡ true
      → Wrote s₀ n₀ (filled (bytes "act=#") (d ∷ 0 ∷ [])) n₁ s₁ → Wrote s₁ n₁ (counts us) n₂ s₂
      → Wrote s₂ n₂ (filled (bytes "\n") (0 ∷ 0 ∷ [])) n₃ s₃ → Wrote s₀ n₀ the_line n₃ s₃
  unfolding filled
  counted_wrote {s₀} {s₃ = s₃} {n₀} {n₃ = n₃} says front middle end =
      rw (← size)
      (subst (λ s. Wrote s₀ n₀ s n₃ s₃)
      (append_assoc (97 ∷ 99 ∷ 116 ∷ 61 ∷ numeral most_digits d) [] (counts us ++ bytes "\n")
      ∙ ap (λ s. 97 ∷ 99 ∷ 116 ∷ 61 ∷ (numeral most_digits d ++ s)) (sym (counts_ended us))
      ∙ sym (ap₂ filled (cond_true _ _ says) (cond_true _ _ says)))
      (wrote_then front (wrote_then middle end)))

pub act_short : (edition n : ℕ) → n ≤ most_resources → (a : Activity) → length (act_line edition n a) ≤ 190
act_short edition n h a =
    let size : length (act_form edition n) ≤ 38 =
    by_bool (says_units edition)
    (λ y. rw y (simp length-append (omega (arith, form_length n))))
    (λ f. rw f (omega arith)) in
    omega (arith, filled_short (act_form edition n) (act_values edition a))

-- The first resource of which units are held, as a search finds it.
abbrev held : ℕ → Bool
held u = not (eqb u 0)

own_first : (us : List ℕ) → own_resource us ≡ position_or_len held us
own_first us =
    is_position_or_len own_resource held refl
    (λ u rest.
    by_bool (eqb u 0) (λ y. elim_true _ _ _ y ∙ rw y (omega arith)) (λ n. elim_false _ _ _ n ∙ rw n)) us

first_within : (us : List ℕ) → position_or_len held us ≤ length us
first_within [] = omega arith
first_within (u ∷ rest) =
    by_bool (eqb u 0) (λ y. rw y (omega (arith, first_within rest))) (λ n. rw n (omega arith))

pub own_found : (us : List ℕ) {first : Option ℕ}
    → first ≡ cond (ltb (position_or_len held us) (length us)) (Some (position_or_len held us)) None
    → unwrap_or first (length us) ≡ own_resource us
own_found us e =
    rw (e, own_first us)
    (by_bool (ltb (position_or_len held us) (length us)) (λ y. rw y)
    (λ n. rw n (omega (arith, ltb-false (position_or_len held us) (length us) n, first_within us))))

-- The lines of activities.
abbrev pub rows : ℕ → ℕ → List Row.Activity → List ℕ
rows edition resources acts = act_lines edition resources (map (activity_in resources) acts)

pub rows_joined : (edition resources : ℕ)
    → Joined (λ a. act_line edition resources (activity_in resources a)) (rows edition resources)
unfolding act_lines
rows_joined edition resources = record { nil = refl; cons = λ a rest. refl }
