-- What the program's answer to a text says.
use Rattle.std.specs.Prelude.{ℕ, List, ◌≡◌, Result, Ok, Err, IfOk}
use Rattle.plan.specs.Plan.{plan_of, Sized}
use Rattle.plan.specs.declared.Tables.{Tables}
use Rattle.plan.specs.declared.Refusal.{Refusal}
use Rattle.format.specs.Parse.{holds, refuses, parse, Result as Parsed}

abbrev pub result_of : Result Tables Refusal → Parsed
result_of (Ok t) = holds (plan_of t)
result_of (Err r) = refuses r

-- The answer to a text s.
pub record Answers (s : List ℕ) (r : Result Tables Refusal) : Type 0 where
  pub result : result_of r ≡ parse s
  pub sized : IfOk r Sized
