use Rattle.precedence.proofs.Whole.{begins, low_at_first, found}
use Rattle.precedence.proofs.ordered.Goals as goal

-- `ordered` meets its contract: the reading starts at the first node with nothing before it, and the nodes are one
-- whole term.
pub term-w-requires : goal.term-w-requires
term-w-requires c = (begins c.args.nodes.now c.requires, low_at_first)

pub returns : goal.returns
returns c = found c.args.nodes.now _ c.term-w.result c.term-w.ensures
