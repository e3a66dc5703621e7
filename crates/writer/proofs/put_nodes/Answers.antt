use mathlib.Core.Path.{refl}
use native.Mathlib.Omega.{arith}
use Rattle.plan.specs.Limits.{node_form}
use Rattle.format.proofs.PlanLines.{node_joined}
use Rattle.writer.proofs.Laws.{filled_short}
use Rattle.writer.proofs.Lines.{left_then, left_none}
use Rattle.writer.proofs.put_nodes.Goals as goal

pub loop-node-preserved : goal.loop-node-preserved
loop-node-preserved c =
    left_then node_joined c.loop-node.invariant _ _ (omega arith) refl (filled_short node_form _)
    c.put_node-next.ensures

pub returns : goal.returns
returns c = left_none node_joined c.loop-node.invariant (omega arith)
