-- The plan has as many resources, activities and nodes as its tables say.
use Prim.Native.Nat.{◌≤◌}
use mathlib.Core.Path.{◌≡◌, ◌∙◌}
use native.Mathlib.Omega.{arith}
use lib.ListN.{length, take}
use lib.Seq.{length-take-le}
use Rattle.std.proofs.lemmas.List.{length-map}
use Rattle.plan.specs.Limits.{most_resources, most_acts, most_nodes}
use Rattle.plan.specs.Plan.{activity_in, plan_of}
use Rattle.plan.specs.declared.Tables.{Tables}

module _ (t : Tables) where
  pub resource_count : length t.capacity ≡ most_resources → length (plan_of t).capacities ≡ t.resources
  resource_count size = length-take-le t.resources t.capacity (omega (arith, size, t.resources_held))

  pub act_count : length t.activity ≡ most_acts → length (plan_of t).activities ≡ t.acts
  act_count size =
      length-map (take t.acts t.activity) (activity_in t.resources)
      ∙ length-take-le t.acts t.activity (omega (arith, size, t.acts_held))

  pub node_count : length t.node ≡ most_nodes → length (plan_of t).nodes ≡ t.nodes
  node_count size = length-take-le t.nodes t.node (omega (arith, size, t.nodes_held))
