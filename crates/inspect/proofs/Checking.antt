-- CHECK's answer, from the judgement of the file and the test of the timetable.
use Prim.Native.Nat.{ℕ, ◌≤◌, ◌<◌}
use native.Mathlib.Omega.{arith}
use mathlib.Core.Bool.{Bool}
use mathlib.Core.List.{List}
use mathlib.Core.Path.{◌≡◌, sym, ap, ◌∙◌}
use borrow.Author.Tests.{lt-ltb, le-ltb}
use Rattle.plan.specs.Plan.{Plan, plan_of}
use Rattle.plan.specs.declared.Refusal.{Refusal}
use Rattle.plan.specs.declared.Refusal.TheVariants.{NoSuchVariant}
use Rattle.term.specs.Term.{Term}
use Rattle.term.specs.Variants.{variant_count}
use Rattle.variant.specs.Project.{variant_at}
use Rattle.variant.specs.Timetable.{is_session}
use Rattle.judge.specs.Judge.{judge, accepts, refuses}
use Rattle.judge.specs.Campaign.{HoldsPlan}
use Rattle.judge.specs.declared.Campaign.{Campaign}
use Rattle.inspect.specs.Answer.{check_of}
use Rattle.std.specs.Prelude.{Ok, Err}

-- What CHECK answers for an accepted plan, by whether it has such a variant.
pub check_some : (s : List ℕ) (v : ℕ) (row : List ℕ) (p : Plan) (t : Term) → judge s ≡ accepts p t
    → v < variant_count t
    → check_of s v row ≡ Ok (is_session p (variant_at t v) row)
unfolding check_of
check_some s v row p t e h = rw (e, lt-ltb v (variant_count t) h)

pub check_none : (s : List ℕ) (v : ℕ) (row : List ℕ) (p : Plan) (t : Term) → judge s ≡ accepts p t
    → variant_count t ≤ v
    → check_of s v row ≡ Err NoSuchVariant
unfolding check_of
check_none s v row p t e h = rw (e, le-ltb v (variant_count t) h)

pub check_refused : (s : List ℕ) (v : ℕ) (row : List ℕ) (r : Refusal) → judge s ≡ refuses r
    → check_of s v row ≡ Err r
unfolding check_of
check_refused s v row r e = rw e

module _ (s : List ℕ) (v : ℕ) (row : List ℕ) (c : Campaign) (t : Term) (is : judge s ≡ accepts (plan_of c.tables) t)
    (h : HoldsPlan c t) where
  pub checked : (answer : Bool) → v < c.variants → answer ≡ is_session (plan_of c.tables) (variant_at t v) row
      → Ok answer ≡ check_of s v row
  checked answer l e = ap Ok e ∙ sym (check_some s v row (plan_of c.tables) t is (omega (arith, h.counted)))

  pub no_such : c.variants ≤ v → Err NoSuchVariant ≡ check_of s v row
  no_such l = sym (check_none s v row (plan_of c.tables) t is (omega (arith, h.counted)))
