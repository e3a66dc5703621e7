-- What CHECK asks, in the words of the paper.
use Rattle.std.specs.Prelude.{ℕ, ◌<◌, List, ◌≡◌}
use Rattle.plan.specs.Plan.{Plan}
use Rattle.term.specs.Term.{Term}
use Rattle.term.specs.Variants.{variant_count}
use Rattle.variant.specs.Project.{variant_at}
use Rattle.variant.specs.Words.{Session}
use Rattle.judge.specs.Judge.{judge, accepts}

-- The row is a feasible session of variant v of the plan that the file holds.
pub record SessionOf (s : List ℕ) (v : ℕ) (row : List ℕ) : Type 0 where
  pub plan : Plan
  pub term : Term
  pub accepted : judge s ≡ accepts plan term
  pub below : v < variant_count term
  pub session : Session plan (variant_at term v) row
