use mathlib.Core.Path.{refl}
use native.Mathlib.Omega.{arith}
use Rattle.writer.proofs.Lines.{left_then, left_none}
use Rattle.writer.proofs.Pieces.{rows_joined, act_short}
use Rattle.writer.proofs.put_activities.Goals as goal

pub loop-activity-preserved : goal.loop-activity-preserved
loop-activity-preserved c =
    left_then (rows_joined c.args.edition c.args.resources) c.loop-activity.invariant _ _ (omega arith) refl
    (act_short c.args.edition c.args.resources (omega arith) _)
    c.put_activity-next.ensures

pub returns : goal.returns
returns c = left_none (rows_joined c.args.edition c.args.resources) c.loop-activity.invariant (omega arith)
