use Rattle.std.proofs.Common.{◌≡◌, length, take}
use Rattle.format.specs.Parse.{a_node}
use Rattle.parser.proofs.Readers.{ReadSoFar}
use Rattle.parser.proofs.Lines.nodes.Given as goal

abbrev pub invariant-loop-node : goal.invariant-loop-node
invariant-loop-node l =
    (length l.node-items ≡ l.nodes)
    × ReadSoFar (a_node l.acts) l.nodes l.node-index l.initial.self.number l.initial.self.rest.now l.self.number
    l.self.rest.now (take l.node-index l.node-items)
