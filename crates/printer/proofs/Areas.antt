-- What is written fits the area that was lent, and the rows of a listing lie in it.
use Prim.Native.Nat.{ℕ, suc, ◌+◌, ◌*◌, ◌≤◌}
use mathlib.Core.Bool.{Bool, true, false}
use mathlib.Core.List.{List}
use mathlib.Core.Path.{◌≡◌, refl, sym, ap, ◌∙◌}
use native.Mathlib.Numerals.{add-one}
use native.Mathlib.Omega.{arith}
use borrow.Author.Tests.{leb-true}
use lib.Dec.{leb, ltb}
use lib.ListN.{length}
use Rattle.std.specs.Prelude.{Result, Ok, Err}
use Rattle.plan.specs.declared.Refusal.{Refusal}
use Rattle.plan.specs.Limits.{most_acts}
use Rattle.plan.specs.Outcome.{Outcome}
use Rattle.plan.specs.Plan.{Plan}
use Rattle.term.specs.Term.{Term}
use Rattle.term.specs.Variants.{variant_count}
use Rattle.variant.specs.Project.{variant_at}
use Rattle.variant.specs.Written.{written}
use Rattle.format.proofs.Tests.{between_facts}
use Rattle.format.proofs.Plans.{plan_sound}
use Rattle.variant.specs.Pairs.{pair_count}
use Rattle.judge.specs.Judge.{Verdict, accepts, refuses, judge}
use Rattle.read.specs.declared.Counts.{Counts}
use Rattle.read.specs.Answer.{answer_to, read_of}
use Rattle.judge.proofs.Accepts.{accepted_valid}
use Rattle.answers.specs.Listed.{cells_needed, list_within, list_by, list_of}
use Rattle.write.specs.Answer.{placed_by, write_variant, write_by, write_of}

refused : {A B : Type 0} {r : Refusal} {b : B} → ◌≡◌ {A = Result B Refusal} (Err r) (Ok b) → A
refused e = let z : ◌≡◌ {A = ℕ} 0 1 = cc in absurd (omega arith)

placed_fits : (b : Bool) (bytes area : List ℕ) (n : ℕ) → leb (length bytes) (length area) ≡ b
    → (placed_by b bytes area).answer ≡ Ok n → n ≤ length area
placed_fits true bytes area n t e =
    let is : length bytes ≡ n = cc in
    omega (arith, leb-true (length bytes) (length area) t)
placed_fits false bytes area n t e = refused e

variant_fits : (b : Bool) (p : Plan) (t : Term) (v : ℕ) (area : List ℕ) (n : ℕ)
    → (write_variant b p t v area).answer ≡ Ok n → n ≤ length area
variant_fits true p t v area n e = placed_fits _ (written p (variant_at t v)) area n refl e
variant_fits false p t v area n e = refused e

verdict_fits : (j : Verdict) (v : ℕ) (area : List ℕ) (n : ℕ) → (write_by j v area).answer ≡ Ok n → n ≤ length area
verdict_fits (accepts p t) v area n e = variant_fits (ltb v (variant_count t)) p t v area n e
verdict_fits (refuses r) v area n e = refused e

pub written_fits : (s : List ℕ) (v : ℕ) (area : List ℕ) (n : ℕ) → (write_of s v area).answer ≡ Ok n
    → n ≤ length area
unfolding write_of
written_fits s v area n e = verdict_fits (judge s) v area n e

-- READ tells of the plan that LIST lists: it has few activities, and the rows of its sessions fit the area.
module _ (s : List ℕ) (told : Counts) (is_told : read_of s ≡ Ok told) where
  by_verdict : {C : Type 0} (j : Verdict) → judge s ≡ j → answer_to j ≡ Ok told
      → ((p : Plan) (t : Term) → judge s ≡ accepts p t → length p.activities ≡ told.acts → C) → C
  by_verdict (accepts p t) is e f = f p t is (cc)
  by_verdict (refuses r) is e f = refused e

  pub few_activities : told.acts ≤ most_acts
  unfolding read_of
  few_activities =
      by_verdict (judge s) refl is_told λ p t is count.
      let ranges = plan_sound p (accepted_valid s p t is).0.ranges in
      omega (arith, between_facts 1 most_acts (length p.activities) ranges.acts)

  listed_fit : (b c : Bool) (p : Plan) (t : Term) (before : List ℕ) (k : ℕ)
      → leb (cells_needed p t) (length before) ≡ c → (list_within b c p t before).answer ≡ Ok k
      → k * suc (length p.activities) ≤ length before
  listed_fit true true p t before k fits e =
      let is : pair_count p t ≡ k = cc in
      rw (← is) (leb-true (cells_needed p t) (length before) fits)
  listed_fit true false p t before k fits e = refused e
  listed_fit false c p t before k fits e = refused e

  pub rows_fit : (cap : ℕ) (before : List ℕ) (o : Outcome (Result ℕ Refusal)) → o ≡ list_of s cap before
      → (k : ℕ) → o.answer ≡ Ok k → k * (told.acts + 1) ≤ length before
  unfolding read_of list_of
  rows_fit cap before o lists k e =
      by_verdict (judge s) refl is_told λ p t is count.
      rw (add-one, ← count)
      (listed_fit (leb (pair_count p t) cap) _ p t before k refl
      (sym (ap (λ (j : Verdict). (list_by j cap before).answer) is)
      ∙ sym (ap (λ (x : Outcome (Result ℕ Refusal)). x.answer) lists)
      ∙ e))
