-- The counts of a line, one by one: first their form, and then their ranges.
use Prim.Native.Nat.{ℕ, zero, suc, ◌+◌, ◌-◌, ◌≤◌, ◌<◌}
use mathlib.Core.Bool.{Bool, true, false, ◌&&◌}
use mathlib.Core.List.{List, [], ◌∷◌, ◌++◌, append-nil}
use mathlib.Core.Option.{none, some}
use mathlib.Core.Path.{◌≡◌, refl, sym, ap, ◌∙◌}
use native.Mathlib.Omega.{arith}
use lib.ListN.{length}
use borrow.Author.Tests.{eq-eqb}
use Rattle.base.specs.Lists.{every}
use Rattle.plan.specs.Limits.{bytes, act_form, is_duration, is_unit_count, counts_form}
use Rattle.plan.specs.Plan.{activity_of, is_activity}
use Rattle.plan.specs.declared.Refusal.{Refusal}
use Rattle.plan.specs.declared.Refusal.TheVariants.{Form, Range}
use Rattle.format.specs.Lines.{matched}
use Rattle.format.specs.Parse.{a_line, read, stop}
use Rattle.parser.specs.Steps.{ranged_activity}
use Rattle.parser.proofs.Readers.{line_read, no_line, passed, failed, untested}
use Rattle.line_reader.specs.Seen.{Seen, started, advance}
use Rattle.line_reader.proofs.Forms.{with_values, joined, matched_append}
use Rattle.parser.proofs.Matching.{fields, not_matched, one_value}

abbrev one : List ℕ
one = bytes ",#"

values_then : (vs ws s : List ℕ) → with_values vs (some (fields ws s)) ≡ some (fields (vs ++ ws) s)
values_then [] ws s = refl
values_then (v ∷ vs) ws s = rw (values_then vs ws s)

values_none : (vs : List ℕ) → with_values vs none ≡ none
values_none [] = refl
values_none (v ∷ vs) = rw (values_none vs)

-- One form behind another.
module _ (form form' s vs t : List ℕ) (e : matched form s ≡ some (fields vs t)) where
  pub then_matched : (ws u : List ℕ) → matched form' t ≡ some (fields ws u)
      → matched (form ++ form') s ≡ some (fields (vs ++ ws) u)
  then_matched ws u e' =
      matched_append form form' s ∙ ap (joined form') e ∙ ap (with_values vs) e' ∙ values_then vs ws u

  pub then_lost : matched form' t ≡ none → matched (form ++ form') s ≡ none
  then_lost e' = matched_append form form' s ∙ ap (joined form') e ∙ ap (with_values vs) e' ∙ values_none vs

pub front_lost : (form form' s : List ℕ) → matched form s ≡ none → matched (form ++ form') s ≡ none
front_lost form form' s e = matched_append form form' s ∙ ap (joined form') e

more_counts : (k n : ℕ) → counts_form (k + n) ≡ counts_form k ++ counts_form n
unfolding counts_form
more_counts zero n = ap counts_form (omega arith)
more_counts (suc k) n =
    let next : suc k + n ≡ suc (k + n) = omega arith in
    ap counts_form next ∙ ap (λ form. 44 ∷ 35 ∷ form) (more_counts k n)

-- Of n counts at the front of the text s, i are read: they are vs, and t follows.
pub record CountedSoFar (n i : ℕ) (s t vs : List ℕ) : Type 0 where
  pub count : i ≤ n
  pub matches : matched (counts_form i) s ≡ some (fields vs t)

pub none_counted : (n : ℕ) (s : List ℕ) → CountedSoFar n 0 s s []
unfolding counts_form matched
none_counted n s = record { count = omega arith; matches = refl }

module _ {n i : ℕ} {s t vs : List ℕ} (so_far : CountedSoFar n i s t vs) where
  one_more : counts_form (i + 1) ≡ counts_form i ++ one
  unfolding counts_form
  one_more = more_counts i 1

  pub count_read : {ws : List ℕ} (x : Seen) → i < n → advance one (started t) ≡ some x → ws ≡ vs ++ (x.second ∷ [])
      → CountedSoFar n (i + 1) s x.rest ws
  count_read x h e grown =
      record {
        count = omega arith;
        matches =
            ap (λ form. matched form s) one_more
            ∙ then_matched (counts_form i) one s vs t so_far.matches (x.second ∷ []) x.rest (one_value one t x e refl)
            ∙ ap (λ ws. some (fields ws x.rest)) (sym grown);
      }

  pub count_lost : i < n → advance one (started t) ≡ none → matched (counts_form n) s ≡ none
  count_lost h e =
      let all : n ≡ (i + 1) + (n - (i + 1)) = omega arith in
      ap (λ (k : ℕ). matched (counts_form k) s) all ∙ ap (λ form. matched form s) (more_counts (i + 1) (n - (i + 1)))
      ∙ front_lost (counts_form (i + 1)) (counts_form (n - (i + 1))) s
      (ap (λ form. matched form s) one_more
      ∙ then_lost (counts_form i) one s vs t so_far.matches (not_matched one t e))

  pub all_counted : {ws : List ℕ} → n ≤ i → (n ≡ i → ws ≡ vs) → matched (counts_form n) s ≡ some (fields ws t)
  all_counted h e =
      let all : n ≡ i = omega (arith, so_far.count) in
      ap (λ (k : ℕ). matched (counts_form k) s) all ∙ so_far.matches ∙ ap (λ ws. some (fields ws t)) (sym (e all))

-- An activity's line, in three pieces: its duration d, its counts us and the end of the line.
module _ (n : ℕ) (s : List ℕ) where
  abbrev front : List ℕ
  front = bytes "act=#"

  abbrev end : List ℕ
  end = bytes "\n"

  pub no_front : matched front s ≡ none → matched (act_form 2 n) s ≡ none
  no_front = front_lost front (counts_form n ++ end) s

  module _ {d : ℕ} {t : List ℕ} (here : matched front s ≡ some (fields (d ∷ []) t)) where
    pub no_counts : matched (counts_form n) t ≡ none → matched (act_form 2 n) s ≡ none
    no_counts e = then_lost front (counts_form n ++ end) s (d ∷ []) t here (front_lost (counts_form n) end t e)

    module _ {us u : List ℕ} (counts : matched (counts_form n) t ≡ some (fields us u)) where
      pub no_end : matched end u ≡ none → matched (act_form 2 n) s ≡ none
      no_end e =
          then_lost front (counts_form n ++ end) s (d ∷ []) t here (then_lost (counts_form n) end t us u counts e)

      pub whole : {rest : List ℕ} → matched end u ≡ some (fields [] rest)
          → matched (act_form 2 n) s ≡ some (fields (d ∷ us) rest)
      whole {rest} e =
          then_matched front (counts_form n ++ end) s (d ∷ []) t here (us ++ []) rest
          (then_matched (counts_form n) end t us u counts [] rest e)
          ∙ ap (λ ws. some (fields (d ∷ ws) rest)) (append-nil us)

counted_fits : (n d : ℕ) (us : List ℕ) → length us ≡ n
    → is_activity 2 n (activity_of 2 n (d ∷ us)) ≡ (is_duration d && every (is_unit_count 2) us)
counted_fits n d us e =
    ap (λ (b : Bool). is_duration d && (b && every (is_unit_count 2) us)) (eq-eqb (length us) n e)

-- Of the line's form, and then of its ranges.
module _ (n line : ℕ) (s : List ℕ) where
  pub no_activity : {e : Refusal} → matched (act_form 2 n) s ≡ none → e ≡ Form line
      → ranged_activity 2 n line s ≡ stop e
  no_activity m e =
      untested (is_activity 2 n) Range (a_line (act_form 2 n) (activity_of 2 n))
      (no_line (activity_of 2 n) (act_form 2 n) line s m ∙ ap stop (sym e))

  module _ (d : ℕ) (us rest : List ℕ) (count : length us ≡ n)
      (m : matched (act_form 2 n) s ≡ some (fields (d ∷ us) rest)) where
    there : a_line (act_form 2 n) (activity_of 2 n) line s ≡ read (activity_of 2 n (d ∷ us)) (line + 1) rest
    there = line_read (activity_of 2 n) (act_form 2 n) line s m

    pub out_of_ranges : {e : Refusal} → (is_duration d && every (is_unit_count 2) us) ≡ false → e ≡ Range line
        → ranged_activity 2 n line s ≡ stop e
    out_of_ranges t e =
        failed (is_activity 2 n) Range (a_line (act_form 2 n) (activity_of 2 n)) there
        (counted_fits n d us count ∙ t)
        ∙ ap stop (sym e)

    pub in_ranges : (is_duration d && every (is_unit_count 2) us) ≡ true
        → ranged_activity 2 n line s ≡ read (record { duration = d; units = us }) (line + 1) rest
    in_ranges t =
        passed (is_activity 2 n) Range (a_line (act_form 2 n) (activity_of 2 n)) there
        (counted_fits n d us count ∙ t)
