-- What CHECK's yes means, in the words of the paper.
use Prim.Native.Nat.{ℕ, ◌<◌}
use native.Mathlib.Omega.{arith}
use mathlib.Core.Bool.{Bool, true, false}
use mathlib.Core.List.{List}
use mathlib.Core.Logic.{◌↔◌}
use mathlib.Core.Path.{◌≡◌, refl, sym, ap, ◌∙◌}
use borrow.Author.Tests.{ltb-true}
use lib.Dec.{ltb}
use Rattle.plan.specs.Plan.{Plan}
use Rattle.plan.specs.declared.Refusal.{Refusal}
use Rattle.term.specs.Term.{Term}
use Rattle.term.specs.Variants.{variant_count}
use Rattle.variant.specs.Project.{variant_at}
use Rattle.variant.specs.Timetable.{is_session}
use Rattle.variant.specs.Words.{Session}
use Rattle.variant.proofs.Words.{variant_inside, session_means}
use Rattle.judge.specs.Judge.{Verdict, judge, accepts, refuses}
use Rattle.judge.proofs.Accepts.{accepted_valid}
use Rattle.inspect.specs.Answer.{check_of, check_by, check_variant}
use Rattle.inspect.specs.Words.{SessionOf}
use Rattle.std.specs.Prelude.{Result, Ok, Err}
use Rattle.inspect.proofs.Checking.{check_some}

same_answer : {a b : Bool} → ◌≡◌ {A = Result Bool Refusal} (Ok a) (Ok b) → a ≡ b
same_answer e = cc

never : {A : Type 0} {r : Refusal} {b : Bool} → ◌≡◌ {A = Result Bool Refusal} (Err r) (Ok b) → A
never e = absurd (let z : ◌≡◌ {A = ℕ} 0 1 = cc in omega arith)

-- CHECK of an accepted plan and a variant that it has.
module _ (s : List ℕ) (v : ℕ) (row : List ℕ) (p : Plan) (t : Term) (e : judge s ≡ accepts p t)
    (h : v < variant_count t) where
  test_means : (is_session p (variant_at t v) row ≡ true) ↔ Session p (variant_at t v) row
  test_means =
      let valid = (accepted_valid s p t e).0 in
      let inside = variant_inside p t v (record { valid = valid; below = h }) in
      session_means p (variant_at t v) inside row

  pub check_means : (check_of s v row ≡ Ok true) ↔ Session p (variant_at t v) row
  check_means =
      let answer = check_some s v row p t e h in
      (λ q. test_means.0 (same_answer (sym answer ∙ q)), λ q. answer ∙ ap Ok (test_means.1 q))

-- CHECK of any bytes, number and timetable.
module _ (s : List ℕ) (v : ℕ) (row : List ℕ) where
  yes_variant :
      (p : Plan) (t : Term) → judge s ≡ accepts p t → (b : Bool) → ltb v (variant_count t) ≡ b
      → check_variant b p t v row ≡ Ok true → SessionOf s v row
  yes_variant p t e true l q =
      let h = ltb-true v (variant_count t) l in
      record { plan = p; term = t; accepted = e; below = h; session = (test_means s v row p t e h).0 (same_answer q) }
  yes_variant p t e false l q = never q

  yes_verdict : (o : Verdict) → judge s ≡ o → check_by o v row ≡ Ok true → SessionOf s v row
  yes_verdict (accepts p t) e q = yes_variant p t e (ltb v (variant_count t)) refl q
  yes_verdict (refuses r) e q = never q

  pub check_yes : (check_of s v row ≡ Ok true) ↔ SessionOf s v row
  unfolding check_of
  check_yes = (
    λ q. yes_verdict (judge s) refl q,
    λ f. (check_means s v row f.plan f.term f.accepted f.below).1 f.session,
  )
