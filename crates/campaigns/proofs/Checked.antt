-- CHECK, with the units counted at the starts alone: a load grows only where an activity starts.
use Prim.Native.Nat.{ℕ}
use mathlib.Core.Bool.{Bool, true, false, ◌&&◌}
use mathlib.Core.List.{List}
use mathlib.Core.Path.{◌≡◌, refl, ap}
use borrow.Author.Tests.{leb-true, le-leb}
use lib.Dec.{leb, ltb}
use Rattle.base.specs.Below.{every_below, ◌implies◌}
use Rattle.base.proofs.Bools.{same_bool, both, and_left, and_right}
use Rattle.base.proofs.Below.{implies_elim, implies_intro, every_at, every_of}
use Rattle.plan.specs.Plan.{Plan}
use Rattle.plan.specs.declared.Refusal.TheVariants.{NoSuchVariant}
use Rattle.term.specs.Term.{Term}
use Rattle.term.specs.Variants.{variant_count}
use Rattle.schedule.specs.Project.{Project}
use Rattle.schedule.specs.Schedule.{Starts, load, latest_end, placed, in_order, within_capacity, feasible}
use Rattle.schedule.specs.Sessions.{starts_of}
use Rattle.schedule.proofs.Reflect.{feasible_is}
use Rattle.schedule.proofs.Growth.{starts_enough}
use Rattle.variant.specs.Project.{project_of, variant_at}
use Rattle.variant.specs.Timetable.{is_marked, is_session}
use Rattle.judge.specs.Judge.{Verdict, accepts, refuses, judge}
use Rattle.inspect.specs.Answer.{check_variant, check_by, check_of}
use Rattle.std.specs.Prelude.{Result, Ok, Err}
use Rattle.plan.specs.declared.Refusal.{Refusal}

module _ (P : Project) (S : Starts) where
  abbrev within_at : ℕ → Bool
  within_at t = every_below P.resources λ r. leb (load P S t r) (P.capacity r)

  abbrev is_ordered : Bool
  is_ordered = placed P S && in_order P S

  unfoldable pub within_at_starts : Bool
  within_at_starts = every_below P.size λ j. P.present j implies within_at (S j)

  at_starts : feasible P S ≡ true → within_at_starts ≡ true
  unfolding within_at_starts
  at_starts e =
      every_of P.size (λ j. P.present j implies within_at (S j))
      (λ j l.
      implies_intro (P.present j) (within_at (S j))
      (λ y.
      every_of P.resources (λ r. leb (load P S (S j) r) (P.capacity r))
      (λ r b. le-leb (load P S (S j) r) (P.capacity r) ((feasible_is P S e).fits (S j) r b))))

  on_every_tick : within_at_starts ≡ true → within_capacity P S ≡ true
  unfolding within_at_starts within_capacity
  on_every_tick e =
      every_of (latest_end P S) within_at
      (λ t b.
      every_of P.resources (λ r. leb (load P S t r) (P.capacity r))
      (λ r l.
      le-leb (load P S t r) (P.capacity r)
      (starts_enough P S r (P.capacity r)
      (λ k h.
      leb-true (load P S (S k) r) (P.capacity r)
      (every_at P.resources (λ r. leb (load P S (S k) r) (P.capacity r))
      (implies_elim (P.present k) (within_at (S k))
      (every_at P.size (λ j. P.present j implies within_at (S j)) e k h.below) h.there)
      r l))
      t)))

  feasible_same : feasible P S ≡ (is_ordered && within_at_starts)
  unfolding feasible
  feasible_same =
      same_bool (feasible P S) (is_ordered && within_at_starts)
      (λ e. both (and_left is_ordered (within_capacity P S) e) (at_starts e))
      (λ e.
      both (and_left is_ordered within_at_starts e) (on_every_tick (and_right is_ordered within_at_starts e)))

-- The test of one timetable, and the answer by it.
abbrev is_kept : Plan → Term → List ℕ → Bool
is_kept p w row =
    let P : Project = project_of p w in is_marked w row && (is_ordered P (starts_of row) && within_at_starts P (starts_of row))

abbrev test_variant : Bool → Plan → Term → ℕ → List ℕ → Result Bool Refusal
test_variant true p t v row = Ok (is_kept p (variant_at t v) row)
test_variant false p t v row = Err NoSuchVariant

abbrev test_verdict : Verdict → ℕ → List ℕ → Result Bool Refusal
test_verdict (accepts p t) v row = test_variant (ltb v (variant_count t)) p t v row
test_verdict (refuses r) v row = Err r

unfoldable pub check_model : List ℕ → ℕ → List ℕ → Result Bool Refusal
check_model s v row = test_verdict (judge s) v row

test_variant_lem : (p : Plan) (t : Term) (v : ℕ) (row : List ℕ) (b : Bool)
    → check_variant b p t v row ≡ test_variant b p t v row
unfolding is_session
test_variant_lem p t v row true =
    let w : Term = variant_at t v in
    ap (λ (b : Bool). Ok (is_marked w row && b)) (feasible_same (project_of p w) (starts_of row))
test_variant_lem p t v row false = refl

test_verdict_lem : (v : ℕ) (row : List ℕ) (o : Verdict) → check_by o v row ≡ test_verdict o v row
test_verdict_lem v row (accepts p t) = test_variant_lem p t v row (ltb v (variant_count t))
test_verdict_lem v row (refuses r) = refl

pub check_is : (s : List ℕ) (v : ℕ) (row : List ℕ) → check_of s v row ≡ check_model s v row
unfolding check_of check_model
check_is s v row = test_verdict_lem v row (judge s)
