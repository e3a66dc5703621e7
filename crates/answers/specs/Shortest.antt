-- BEST: the first of the pairs that are shortest, with its makespan, the number of pairs and how many are shortest. No
-- feasible session of any variant is shorter: what holds of it is on the page of theorems, `demand_3` and
-- `first_shortest_row`.
use Rattle.std.specs.Prelude.{ℕ, Bool, true, false, List, [], map, eqb, leb, length, get_or, drop, Result, Ok, Err}
use Rattle.base.specs.Lists.{keep, least_of}
use Rattle.plan.specs.Plan.{Plan}
use Rattle.plan.specs.declared.Refusal.{Refusal}
use Rattle.plan.specs.declared.Refusal.TheVariants.{OverCap}
use Rattle.term.specs.Term.{Term}
use Rattle.schedule.specs.Schedule.{Starts, makespan}
use Rattle.schedule.specs.Sessions.{starts_of}
use Rattle.variant.specs.Project.{project_of, variant_at}
use Rattle.variant.specs.Pairs.{pairs, pair_count}
use Rattle.variant.specs.Timetable.{timetable_of}
use Rattle.judge.specs.Judge.{Verdict, accepts, refuses, judge}
use Rattle.answers.specs.declared.Best.{Best}

abbrev pub makespan_in : Plan → Term → ℕ → Starts → ℕ
makespan_in p t v S = makespan (project_of p (variant_at t v)) S

-- A row is a variant and then its starts.
abbrev pub row_variant : List ℕ → ℕ
row_variant row = get_or row 0 0

abbrev pub row_starts : List ℕ → List ℕ
row_starts row = drop 1 row

abbrev pub row_span : Plan → Term → List ℕ → ℕ
row_span p t row = makespan_in p t (row_variant row) (starts_of (row_starts row))

-- The pairs whose makespan is the least, in their order, how many they are, and the first of them.
unfoldable pub shortest_pairs : Plan → Term → List (List ℕ)
shortest_pairs p t = keep (λ row. eqb (row_span p t row) (least_of (map (row_span p t) (pairs p t)))) (pairs p t)

unfoldable pub shortest_count : Plan → Term → ℕ
shortest_count p t = length (shortest_pairs p t)

unfoldable pub first_shortest : Plan → Term → List ℕ
first_shortest p t = get_or (shortest_pairs p t) 0 []

-- The answer to a row. The timetable has the mark from the number of activities on.
abbrev pub best_row : Plan → Term → List ℕ → Best
best_row p t row =
    record {
      variant = row_variant row;
      makespan = row_span p t row;
      count = pair_count p t;
      shortest = shortest_count p t;
      timetable = record { starts = timetable_of p (row_starts row) };
    }

-- By whether the cap allows the pairs.
abbrev pub best_within : Bool → Plan → Term → Result Best Refusal
best_within true p t = Ok (best_row p t (first_shortest p t))
best_within false p t = Err OverCap

abbrev pub best_by : Verdict → ℕ → Result Best Refusal
best_by (accepts p t) cap = best_within (leb (pair_count p t) cap) p t
best_by (refuses r) cap = Err r

unfoldable pub best_of : List ℕ → ℕ → Result Best Refusal
best_of s cap = best_by (judge s) cap
