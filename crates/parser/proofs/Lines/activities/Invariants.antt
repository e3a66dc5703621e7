use Rattle.std.proofs.Common.{◌≡◌, length, take, map}
use Rattle.plan.specs.Plan.{activity_in}
use Rattle.format.specs.Parse.{an_activity}
use Rattle.parser.proofs.Readers.{ReadSoFar}
use Rattle.parser.proofs.Lines.activities.Given as goal

abbrev pub invariant-loop-activity : goal.invariant-loop-activity
invariant-loop-activity l =
    (length l.activity-items ≡ l.acts)
    × ReadSoFar (an_activity l.edition l.capacities) l.acts l.activity-index l.initial.self.number l.initial.self.rest.now
    l.self.number l.self.rest.now (map (activity_in (length l.capacities)) (take l.activity-index l.activity-items))
