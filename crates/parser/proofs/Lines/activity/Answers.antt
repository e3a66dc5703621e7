use Rattle.std.proofs.Common.{◌∙◌, sym, length}
use Rattle.plan.specs.Plan.{Activity, is_within}
use Rattle.plan.specs.declared.Refusal.TheVariants.{OverCapacity}
use Rattle.parser.specs.Steps.{ranged_activity}
use Rattle.parser.proofs.Readers.{passed, failed, untested, refused}
use Rattle.parser.proofs.Lines.activity.Goals as goal

pub returns-in_err-activity : goal.returns-in_err-activity
returns-in_err-activity c =
    let bs = c.args.capacities.now in
    refused _ c.from_residual.result c.from_residual.ensures.1
    (untested (λ (a : Activity). is_within bs a.units) OverCapacity (ranged_activity c.args.edition (length bs))
    c.in_err-activity.ensures)

pub returns-then-is_within : goal.returns-then-is_within
returns-then-is_within c =
    let bs = c.args.capacities.now in
    passed (λ (a : Activity). is_within bs a.units) OverCapacity (ranged_activity c.args.edition (length bs))
    c.in_ok-activity.ensures
    (sym c.is_within.ensures ∙ c.if-is_within.true)

pub returns-else-is_within : goal.returns-else-is_within
returns-else-is_within c =
    let bs = c.args.capacities.now in
    failed (λ (a : Activity). is_within bs a.units) OverCapacity (ranged_activity c.args.edition (length bs))
    c.in_ok-activity.ensures
    (sym c.is_within.ensures ∙ c.if-is_within.false)
