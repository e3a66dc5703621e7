-- Each measure is twice the number of nodes left over, and one more for `children`, which reads its first child where
-- it begins itself.
use Rattle.std.proofs.Common.{◌+◌, ◌-◌, ◌*◌, length}
use Rattle.term_reader.proofs.+children_term.Given as goal

abbrev pub decreases-children : goal.decreases-children
decreases-children l = 2 * (length l.nodes.now - l.at) + 1

abbrev pub decreases-term : goal.decreases-term
decreases-term l = 2 * (length l.nodes.now - l.at)
