-- The reading of a list of nodes: nothing where they are not one whole term, else whether a variant has an activity
-- twice.
use Rattle.std.specs.Prelude.{◌≤◌, ◌≡◌, Bool, true, List, length, Option, Some, None}
use Rattle.std.proofs.Math.Option as Math
use Rattle.std.proofs.Math.Option.{none, some}
use Rattle.plan.specs.Limits.{most_nodes}
use Rattle.plan.specs.Plan.{is_node}
use Rattle.plan.specs.declared.Node.{Node}
use Rattle.base.specs.Lists.{every}
use Rattle.sets.specs.Sets.{most}
use Rattle.term.specs.Term.{Term}
use Rattle.term.specs.Variants.{twice}

-- No more nodes than a plan has, each with its number in range: an activity is one of `most`, and a group has a child.
pub record InRange (ns : List Node) : Type 0 where
  pub held : length ns ≤ most_nodes
  pub ranged : every (is_node most) ns ≡ true

unfoldable pub reading_of : Math.Option Term → Option Bool
reading_of none = None
reading_of (some t) = Some (twice t)
