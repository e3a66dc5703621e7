-- What the parser's answer says of a file.
use Prim.Native.Nat.{ℕ}
use mathlib.Core.List.{List}
use mathlib.Core.Path.{◌≡◌, sym}
use Rattle.plan.specs.Plan.{plan_of, Ranged}
use Rattle.plan.specs.declared.Refusal.{Refusal}
use Rattle.plan.specs.declared.Tables.{Tables}
use Rattle.std.specs.Prelude.{Ok, Err}
use Rattle.format.specs.Parse.{holds, refuses, parse}
use Rattle.format.proofs.Format.{parse_text}
use Rattle.parser.specs.Answer.{Answers}

module _ (s : List ℕ) where
  pub holds_plan : (t : Tables) → Answers s (Ok t) → parse s ≡ holds (plan_of t)
  holds_plan t a = sym a.result

  pub is_refused : (r : Refusal) → Answers s (Err r) → parse s ≡ refuses r
  is_refused r a = sym a.result

  pub is_ranged : (t : Tables) → Answers s (Ok t) → Ranged t
  is_ranged t a = record { ranges = (parse_text s (plan_of t) (holds_plan t a)).0; sized = a.sized }
