-- `alternative` goes past the children whose variants come before v, and stops in the one that v falls into.
use Rattle.std.proofs.Common.{◌-◌}
use Rattle.plan.specs.Limits.{most_nodes}
use Rattle.pick.proofs.Walking.{Aside}
use Rattle.pick.proofs.Terms.alternative.Given as goal

abbrev pub invariant-loop-at : goal.invariant-loop-at
invariant-loop-at l = Aside l.self.nodes.now l.from l.v l.at l.left

abbrev pub decreases-loop-at : goal.decreases-loop-at
decreases-loop-at l = most_nodes - l.at
