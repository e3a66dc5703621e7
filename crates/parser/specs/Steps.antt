-- What the steps on the way say of the lines.
use Rattle.std.specs.Prelude.{ℕ, ◌+◌, List, ◌≡◌, Result, MatchResult}
use Rattle.std.proofs.Math.Option.{none, some}
use Rattle.plan.specs.Limits.{act_form}
use Rattle.plan.specs.Plan.{Activity, activity_of, is_activity}
use Rattle.plan.specs.declared.Refusal.{Refusal}
use Rattle.plan.specs.declared.Refusal.TheVariants.{Form, Range}
use Rattle.format.specs.Parse.{read, stop, Reader, a_line, tested}
use Rattle.line_reader.specs.Seen.{said, started, advance}
use Rattle.line_reader.specs.declared.Line.{Line}
use Rattle.parser.specs.declared.Lines.{Lines}

-- A reader's answer at the lines before is this result, whose value is so much, and the lines after.
abbrev pub Gives : {A T : Type 0} → Reader A → (T → A) → Lines → Result T Refusal → Lines → Type 0
Gives reader value before r after =
    MatchResult r
    (λ x. reader before.number before.rest.now ≡ read (value x) after.number after.rest.now)
    (λ e. reader before.number before.rest.now ≡ stop e)

-- A line by its form, or refusal 2.
pub record Took (form : List ℕ) (before : Lines) (l : Line) (after : Lines) : Type 0 where
  pub says : advance form (started before.rest.now) ≡ some (said l)
  pub number : after.number ≡ before.number + 1
  pub rest : after.rest.now ≡ l.rest.now

pub record NotTaken (form : List ℕ) (before : Lines) (e : Refusal) : Type 0 where
  pub says : advance form (started before.rest.now) ≡ none
  pub refusal : e ≡ Form before.number

abbrev pub Takes : List ℕ → Lines → Result Line Refusal → Lines → Type 0
Takes form before r after = MatchResult r (λ l. Took form before l after) (NotTaken form before)

-- An activity, by the test of its ranges alone.
abbrev pub ranged_activity : ℕ → ℕ → Reader Activity
ranged_activity edition resources =
    tested (is_activity edition resources) Range (a_line (act_form edition resources) (activity_of edition resources))
