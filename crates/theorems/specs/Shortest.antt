-- A shortest session in the words of the mission.
use Rattle.std.specs.Prelude.{ℕ, ◌≤◌, ◌<◌, ◌↔◌, ◌≡◌, length}
use mathlib.Core.List.{List, Memᴰ, Nodup}
use Rattle.plan.specs.Plan.{Plan}
use Rattle.term.specs.Term.{Term}
use Rattle.term.specs.Variants.{variant_count}
use Rattle.schedule.specs.Bounds.{Chain, chain_length, load_of, work}
use Rattle.schedule.specs.Schedule.{Starts}
use Rattle.schedule.specs.Sessions.{starts_of}
use Rattle.variant.specs.Project.{variant_at, project_of}
use Rattle.variant.specs.Words.{Keeps, Makespan, Session}
use Rattle.answers.specs.Words.{ActiveForSome}

-- The variants together have n active sessions: so many are active for some variant.
pub record ActiveSessions (p : Plan) (t : Term) (n : ℕ) : Type 0 where
  pub sessions : List (List ℕ)
  pub exactly : (starts : List ℕ) → Memᴰ starts sessions ↔ ActiveForSome p t starts
  pub once : Nodup sessions
  pub count : length sessions ≡ n

-- S is a feasible session of variant v, starts being any whole ticks from 0.
pub record SessionOfVariant (p : Plan) (t : Term) (v : ℕ) (S : Starts) : Type 0 where
  pub below : v < variant_count t
  pub keeps : Keeps p (variant_at t v) S

-- No feasible session of any variant is shorter than n ticks.
abbrev pub Unbeaten : Plan → Term → ℕ → Type 0
Unbeaten p t n =
    (u : ℕ) (R : Starts) (m : ℕ) → SessionOfVariant p t u R → Makespan p (variant_at t u) R m → m < n → ⊥

-- The timetable is a feasible session of variant v, `span` is its own makespan, and any feasible session S of any
-- variant has at least that makespan, the two being equal exactly when no feasible session of any variant is shorter
-- than S.
pub record ShortestSession (p : Plan) (t : Term) (v span : ℕ) (timetable : List ℕ) : Type 0 where
  pub below : v < variant_count t
  pub session : Session p (variant_at t v) timetable
  pub own : Makespan p (variant_at t v) (starts_of timetable) span
  pub least :
      (u : ℕ) (S : Starts) (n : ℕ) → SessionOfVariant p t u S → Makespan p (variant_at t u) S n → span ≤ n
  pub exactly :
      (u : ℕ) (S : Starts) (n : ℕ) → SessionOfVariant p t u S → Makespan p (variant_at t u) S n
      → (n ≡ span) ↔ Unbeaten p t n

-- The makespan is at least each chain and each resource's load of the variant, the load rounded up, and at most the sum
-- of its durations.
pub record Between (p : Plan) (t : Term) (v span : ℕ) : Type 0 where
  pub chains : (i : ℕ) (js : List ℕ) → Chain (project_of p (variant_at t v)) i js
      → chain_length (project_of p (variant_at t v)) i js ≤ span
  pub loads : (r : ℕ) → r < length p.capacities → load_of (project_of p (variant_at t v)) r ≤ span
  pub at_most : span ≤ work (project_of p (variant_at t v))
