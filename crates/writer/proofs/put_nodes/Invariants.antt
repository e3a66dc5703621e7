use Rattle.format.specs.Text.{node_lines}
use Rattle.writer.proofs.Lines.{Left}
use Rattle.writer.proofs.put_nodes.Given as goal

abbrev pub invariant-loop-node : goal.invariant-loop-node
invariant-loop-node l = Left 45 node_lines l.nodes l.initial.area l.at l.area l.next l.node-index
