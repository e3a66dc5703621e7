-- The pairs of a variant and an active session of it, variant by variant: each is the variant's number and then a
-- start for each activity of the plan. A session that several variants have is there once, under the lowest of them.
-- `pair_count` is their number.
use Rattle.std.specs.Prelude.{ℕ, Bool, not, List, ◌∷◌, map, length}
use Rattle.plan.specs.Plan.{Plan}
use Rattle.term.specs.Term.{Term}
use Rattle.term.specs.Variants.{variant_count}
use Rattle.schedule.specs.Sessions.{sessions}
use Rattle.base.specs.Below.{every_below}
use Rattle.base.specs.Lists.{keep, gather, is_one_of}
use Rattle.variant.specs.Project.{project_of, variant_at}
use Rattle.timetable.specs.Mark.{mark}

-- The active sessions of variant v.
abbrev pub sessions_of : Plan → Term → ℕ → List (List ℕ)
sessions_of p t v = sessions (project_of p (variant_at t v)) mark

-- No variant below v has the session among its active ones.
unfoldable pub is_new : Plan → Term → ℕ → List ℕ → Bool
is_new p t v row = every_below v λ u. not (is_one_of row (sessions_of p t u))

unfoldable pub pairs : Plan → Term → List (List ℕ)
pairs p t = gather (variant_count t) λ v. map (v ∷◌) (keep (is_new p t v) (sessions_of p t v))

unfoldable pub pair_count : Plan → Term → ℕ
pair_count p t = length (pairs p t)
