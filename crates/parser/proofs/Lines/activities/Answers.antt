use Rattle.std.proofs.Common.{◌∙◌, ap, length, take, map, [], ◌∷◌, arith}
use Rattle.std.proofs.lemmas.List.{map-append}
use Rattle.plan.specs.Plan.{activity_in}
use lib.ListN.{length-set}
use Rattle.parser.proofs.Readers.{one_read, none_more, all_read, grown, filled, refused}
use Rattle.parser.proofs.Lines.activities.Goals as goal

pub returns-in_err-activity : goal.returns-in_err-activity
returns-in_err-activity c =
    refused _ c.from_residual.result c.from_residual.ensures.1
    (none_more c.loop-activity.invariant.1 (omega arith) c.in_err-activity.ensures)

pub loop-activity-preserved : goal.loop-activity-preserved
loop-activity-preserved c =
    let loop = c.loop-activity in (
      length-set loop.activity-items loop.activity-index c.in_ok-activity.field-0 ∙ loop.invariant.0,
      one_read loop.invariant.1 (omega arith) c.in_ok-activity.ensures
          (ap (map (activity_in (length c.args.capacities.now)))
          (grown loop.activity-items loop.activity-index c.in_ok-activity.field-0 (omega arith))
          ∙ map-append (activity_in (length c.args.capacities.now)) (take loop.activity-index loop.activity-items)
          (c.in_ok-activity.field-0 ∷ [])),
    )

pub returns : goal.returns
returns c =
    let loop = c.loop-activity in
    all_read loop.invariant.1 (omega arith)
    (λ e. ap (map (activity_in (length c.args.capacities.now)))
    (filled loop.activity-items _ c.args.acts loop.activity-index loop.invariant.0 e))
