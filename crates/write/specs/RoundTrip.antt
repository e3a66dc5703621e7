-- A variant written out reads back as that variant: bytes that WRITE wrote as variant v of the file s are an accepted
-- file of the same edition and the same resources with one variant, which has the same activities, the same precedence
-- and the same schedules, and is written out as the same bytes.
use Rattle.std.specs.Prelude.{ℕ, ◌<◌, List, ◌≡◌}
use Rattle.plan.specs.Plan.{Plan}
use Rattle.term.specs.Term.{Term}
use Rattle.term.specs.Variants.{variant_count, activities}
use Rattle.schedule.specs.Schedule.{Starts, feasible}
use Rattle.variant.specs.Precedence.{precedes}
use Rattle.variant.specs.Project.{variant_at, project_of}
use Rattle.judge.specs.Judge.{accepts, judge}
use Rattle.write.specs.Answer.{write_of}

pub record RoundTrip (s : List ℕ) (v : ℕ) (bytes : List ℕ) : Type 0 where
  pub plan : Plan
  pub term : Term
  pub accepted : judge s ≡ accepts plan term
  pub below : v < variant_count term
  pub plan_read : Plan
  pub term_read : Term
  pub accepted_back : judge bytes ≡ accepts plan_read term_read
  pub same_edition : plan_read.edition ≡ plan.edition
  pub same_capacities : plan_read.capacities ≡ plan.capacities
  pub one_variant : variant_count term_read ≡ 1
  pub same_activities : activities (variant_at term_read 0) ≡ activities (variant_at term v)
  pub same_precedence : (i j : ℕ) → precedes (variant_at term_read 0) i j ≡ precedes (variant_at term v) i j
  pub same_project : project_of plan_read (variant_at term_read 0) ≡ project_of plan (variant_at term v)
  pub same_schedules : (S : Starts)
      → feasible (project_of plan_read (variant_at term_read 0)) S ≡ feasible (project_of plan (variant_at term v)) S
  pub same_bytes : (area : List ℕ) → write_of bytes 0 area ≡ write_of s v area
