use Rattle.std.proofs.Common.{sym, subst}
use Rattle.plan.specs.Plan.{Activity, activity_in}
use Rattle.format.specs.Parse.{Reader}
use Rattle.parser.specs.Steps.{Gives}
use Rattle.parser.proofs.Editions.{later_activity, first_activity}
use Rattle.parser.proofs.Lines.in_ranges.Goals as goal

pub returns-then-says_units : goal.returns-then-says_units
returns-then-says_units c =
    let n = c.args.resources in
    subst (λ (reader : Reader Activity). Gives reader (activity_in n) c.args.self.now c.counted.result c.counted.new.self)
    (sym (later_activity c.args.edition n (sym c.if-says_units.ensures)))
    c.counted.ensures

pub returns-else-says_units : goal.returns-else-says_units
returns-else-says_units c =
    let n = c.args.resources in
    subst (λ (reader : Reader Activity). Gives reader (activity_in n) c.args.self.now c.own.result c.own.new.self)
    (sym (first_activity c.args.edition n (sym c.if-says_units.ensures)))
    c.own.ensures
