-- What the steps of WRITE leave.
use Rattle.std.specs.Prelude.{ℕ, List, ◌≡◌, leb, length, Result}
use Rattle.plan.specs.Outcome.{Outcome}
use Rattle.plan.specs.declared.Refusal.{Refusal}
use Rattle.plan.specs.Plan.{plan_of}
use Rattle.plan.specs.declared.Tables.{Tables}
use Rattle.term.specs.Term.{Term}
use Rattle.variant.specs.Project.{variant_at}
use Rattle.variant.specs.Written.{variant_plan}
use Rattle.write.specs.Answer.{placed_by}

-- The tables r hold variant v of the plan, written out.
abbrev pub HoldsVariantPlan : Tables → Term → ℕ → Tables → Type 0
HoldsVariantPlan tables t v r = plan_of r ≡ variant_plan (plan_of tables) (variant_at t v)

-- Bytes into an area, if they fit there.
abbrev pub placed_in : List ℕ → List ℕ → Outcome (Result ℕ Refusal)
placed_in area bytes = placed_by (leb (length bytes) (length area)) bytes area
