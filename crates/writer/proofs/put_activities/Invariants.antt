use Rattle.writer.proofs.Lines.{Left}
use Rattle.writer.proofs.Pieces.{rows}
use Rattle.writer.proofs.put_activities.Given as goal

abbrev pub invariant-loop-activity : goal.invariant-loop-activity
invariant-loop-activity l =
    Left 190 (rows l.edition l.resources) l.activities l.initial.area l.at l.area l.next l.activity-index
