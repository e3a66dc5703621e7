-- LIST: the rows of the pairs in their order, from the front of the area with no gap. What stands behind them is as it
-- was, and a refusal leaves the whole area as it was.
use Rattle.std.specs.Prelude.{ℕ, suc, ◌*◌, Bool, true, false, List, ◌++◌, leb, length, drop, Result, Ok, Err}
use Rattle.base.specs.Lists.{cells_of}
use Rattle.plan.specs.Outcome.{Outcome}
use Rattle.plan.specs.Plan.{Plan}
use Rattle.plan.specs.declared.Refusal.{Refusal}
use Rattle.plan.specs.declared.Refusal.TheVariants.{OverCap, AreaTooShort}
use Rattle.term.specs.Term.{Term}
use Rattle.judge.specs.Judge.{Verdict, accepts, refuses, judge}
use Rattle.variant.specs.Pairs.{pairs, pair_count}

-- A row is the variant and a start for each activity of the plan.
abbrev pub cells_needed : Plan → Term → ℕ
cells_needed p t = pair_count p t * suc (length p.activities)

-- By whether the cap allows the pairs, and whether the area holds their rows.
abbrev pub list_within : Bool → Bool → Plan → Term → List ℕ → Outcome (Result ℕ Refusal)
list_within false fits p t area = record { answer = Err OverCap; area = area }
list_within true false p t area = record { answer = Err (AreaTooShort (cells_needed p t)); area = area }
list_within true true p t area =
    record { answer = Ok (pair_count p t); area = cells_of (pairs p t) ++ drop (cells_needed p t) area }

abbrev pub list_by : Verdict → ℕ → List ℕ → Outcome (Result ℕ Refusal)
list_by (accepts p t) cap area =
    list_within (leb (pair_count p t) cap) (leb (cells_needed p t) (length area)) p t area
list_by (refuses r) cap area = record { answer = Err r; area = area }

unfoldable pub list_of : List ℕ → ℕ → List ℕ → Outcome (Result ℕ Refusal)
list_of s cap area = list_by (judge s) cap area
