-- WRITE: variant v of the plan as a plan file at the front of the area, and the number of its bytes. What stands
-- behind it is as it was, and a refusal leaves the whole area as it was.
use Rattle.std.specs.Prelude.{ℕ, Bool, true, false, List, ◌++◌, leb, ltb, length, drop, Result, Ok, Err}
use Rattle.plan.specs.Outcome.{Outcome}
use Rattle.plan.specs.declared.Refusal.{Refusal}
use Rattle.plan.specs.Plan.{Plan}
use Rattle.plan.specs.declared.Refusal.TheVariants.{NoSuchVariant, AreaTooShort}
use Rattle.term.specs.Term.{Term}
use Rattle.term.specs.Variants.{variant_count}
use Rattle.variant.specs.Project.{variant_at}
use Rattle.variant.specs.Written.{written}
use Rattle.judge.specs.Judge.{Verdict, accepts, refuses, judge}

-- By whether the bytes fit into the area.
abbrev pub placed_by : Bool → List ℕ → List ℕ → Outcome (Result ℕ Refusal)
placed_by true bytes area = record { answer = Ok (length bytes); area = bytes ++ drop (length bytes) area }
placed_by false bytes area = record { answer = Err (AreaTooShort (length bytes)); area = area }

-- By whether the plan has such a variant.
abbrev pub write_variant : Bool → Plan → Term → ℕ → List ℕ → Outcome (Result ℕ Refusal)
write_variant true p t v area =
    placed_by (leb (length (written p (variant_at t v))) (length area)) (written p (variant_at t v)) area
write_variant false p t v area = record { answer = Err NoSuchVariant; area = area }

abbrev pub write_by : Verdict → ℕ → List ℕ → Outcome (Result ℕ Refusal)
write_by (accepts p t) v area = write_variant (ltb v (variant_count t)) p t v area
write_by (refuses r) v area = record { answer = Err r; area = area }

unfoldable pub write_of : List ℕ → ℕ → List ℕ → Outcome (Result ℕ Refusal)
write_of s v area = write_by (judge s) v area
