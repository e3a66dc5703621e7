use Rattle.std.proofs.Common.{◌<◌, ◌∙◌, ap, sym, refl, ℕ, List, arith}
use Rattle.plan.specs.Limits.{act_form}
use Rattle.plan.specs.Plan.{activity_of, is_activity}
use Rattle.plan.specs.declared.Refusal.TheVariants.{Range}
use Rattle.format.specs.Parse.{a_line, read}
use Rattle.parser.proofs.Readers.{two_taken, not_taken, passed, failed, untested, refused}
use Rattle.parser.proofs.Editions.{one_row, own_there}
use Rattle.parser.proofs.Lines.own.Goals as goal
use Rattle.parser.proofs.Lines.own.Goals.{Else-not-is_activity}

there : (c : Else-not-is_activity) → c.in_ok-line.line.first < c.args.resources
there c =
    own_there c.args.resources c.in_ok-line.line.first c.in_ok-line.line.second
    (sym c.is_activity.ensures ∙ c.if-not-is_activity.false)

pub returns-in_err-line : goal.returns-in_err-line
returns-in_err-line c =
    let n = c.args.resources in
    refused _ c.from_residual.result c.from_residual.ensures.1
    (untested (is_activity 1 n) Range (a_line (act_form 1 n) (activity_of 1 n))
    (not_taken (activity_of 1 n) c.in_err-line.ensures))

pub returns-then-not-is_activity : goal.returns-then-not-is_activity
returns-then-not-is_activity c =
    let n = c.args.resources in
    failed (is_activity 1 n) Range (a_line (act_form 1 n) (activity_of 1 n))
    (two_taken (activity_of 1 n) c.in_ok-line.ensures refl)
    (sym c.is_activity.ensures ∙ c.if-not-is_activity.true)

pub bounds-units-line : goal.bounds-units-line
bounds-units-line c = omega (arith, there (goal.at.bounds-units-line c).Else-not-is_activity)

pub returns : goal.returns
returns c =
    let n = c.args.resources in
    let after = c.line.new.self in
    let d = c.in_ok-line.line.second in
    passed (is_activity 1 n) Range (a_line (act_form 1 n) (activity_of 1 n))
    (two_taken (activity_of 1 n) c.in_ok-line.ensures refl)
    (sym c.is_activity.ensures ∙ c.if-not-is_activity.false)
    ∙ ap (λ (us : List ℕ). read (record { duration = d; units = us }) after.number after.rest.now)
    (sym (one_row n 16 c.in_ok-line.line.first c.requires (there (goal.at.returns c).Else-not-is_activity)))
