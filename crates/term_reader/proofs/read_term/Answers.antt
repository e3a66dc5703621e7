use Rattle.std.proofs.Common.{sym, ◌∙◌}
use Rattle.term_reader.proofs.Walks.{nothing, found}
use Rattle.term_reader.proofs.read_term.Goals as goal

-- `read_term` meets its contract: the nodes are one whole term if the walk from the first node ends past the last.
pub returns-in_err-w : goal.returns-in_err-w
returns-in_err-w c = c.from_residual.ensures ∙ sym (nothing c.args.nodes.now c.in_err-w.ensures)

pub returns : goal.returns
returns c = c.then_some.ensures ∙ found c.args.nodes.now c.in_ok-w.w c.requires.ranged c.in_ok-w.ensures
