-- What is promised of a variant picked by its number.
use Rattle.std.specs.Prelude.{ℕ, ◌≤◌, ◌≡◌, take}
use Rattle.plan.specs.Limits.{most_nodes}
use Rattle.term.specs.Term.{Term, nodes}
use Rattle.variant.specs.Project.{variant_at}
use Rattle.variant.specs.Written.{dissolved}
use Rattle.pick.specs.declared.output.Picked.{Picked}

-- The nodes of the variant written out.
pub record Picks (t : Term) (v : ℕ) (r : Picked) : Type 0 where
  pub fits : r.nodes ≤ most_nodes
  pub writes : take r.nodes r.node ≡ nodes (dissolved (variant_at t v))
