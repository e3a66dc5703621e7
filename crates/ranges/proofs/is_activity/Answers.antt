use mathlib.Core.Path.{sym, ◌∙◌}
use borrow.Author.Tests.{le-ltb}
use Rattle.ranges.proofs.Units.{own_there, own_past}
use Rattle.ranges.proofs.is_activity.Goals as goal

pub returns-then-resource-resources : goal.returns-then-resource-resources
returns-then-resource-resources c =
    c.is_duration.ensures
    ∙ sym (own_there c.args.resources c.args.resource c.args.duration c.if-resource-resources.true)

pub returns-else-resource-resources : goal.returns-else-resource-resources
returns-else-resource-resources c =
    le-ltb c.args.resource c.args.resources c.if-resource-resources.false
    ∙ sym (own_past c.args.resources c.args.resource c.args.duration c.if-resource-resources.false)
