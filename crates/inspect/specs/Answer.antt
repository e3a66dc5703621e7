-- CHECK: is the timetable a feasible session of variant v?
use Rattle.std.specs.Prelude.{ℕ, Bool, true, false, List, ltb, Result, Ok, Err}
use Rattle.plan.specs.Plan.{Plan}
use Rattle.plan.specs.declared.Refusal.TheVariants.{NoSuchVariant}
use Rattle.term.specs.Term.{Term}
use Rattle.term.specs.Variants.{variant_count}
use Rattle.variant.specs.Project.{variant_at}
use Rattle.variant.specs.Timetable.{is_session}
use Rattle.judge.specs.Judge.{Verdict, accepts, refuses, judge}
use Rattle.plan.specs.declared.Refusal.{Refusal}

-- By whether the plan has such a variant.
abbrev pub check_variant : Bool → Plan → Term → ℕ → List ℕ → Result Bool Refusal
check_variant true p t v row = Ok (is_session p (variant_at t v) row)
check_variant false p t v row = Err NoSuchVariant

abbrev pub check_by : Verdict → ℕ → List ℕ → Result Bool Refusal
check_by (accepts p t) v row = check_variant (ltb v (variant_count t)) p t v row
check_by (refuses r) v row = Err r

unfoldable pub check_of : List ℕ → ℕ → List ℕ → Result Bool Refusal
check_of s v row = check_by (judge s) v row
