-- `spans_of` adds the span of one node after another, from the last one on.
use Rattle.std.proofs.Common.{length, ◌≡◌}
use Rattle.plan.specs.Limits.{most_nodes}
use Rattle.pick.specs.Model.{Stopped}
use Rattle.pick.proofs.spans_of.Given as goal

abbrev pub invariant-loop-i : goal.invariant-loop-i
invariant-loop-i l = record {
  sized : length l.spans ≡ most_nodes;
  stopped : Stopped l.nodes l.spans l.i;
}
