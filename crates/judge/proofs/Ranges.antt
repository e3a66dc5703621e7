-- What the tables of a plan in range hold.
use mathlib.Core.Bool.{true}
use mathlib.Core.Path.{◌≡◌}
use lib.ListN.{length}
use Prim.Native.Nat.{◌≤◌}
use native.Mathlib.Omega.{arith}
use Rattle.plan.specs.Limits.{most_acts, most_nodes}
use Rattle.plan.specs.Plan.{plan_of, is_node, Ranged}
use Rattle.base.specs.Lists.{every}
use Rattle.plan.specs.declared.Tables.{Tables}
use Rattle.format.proofs.Plans.{plan_sound}
use Rattle.format.proofs.Tables.{act_count, node_count}
use Rattle.format.proofs.Tests.{between_facts}
use Rattle.term_reader.proofs.Tables.{every_more}

pub nodes_ranged : {tables : Tables} → Ranged tables → every (is_node most_acts) (plan_of tables).nodes ≡ true
nodes_ranged {tables} r =
    let p = plan_of tables in
    let s = plan_sound p r.ranges in
    every_more (length p.activities) most_acts (between_facts 1 most_acts (length p.activities) s.acts).1
    p.nodes s.nodes

module _ (t : Tables) (r : Ranged t) where
  -- The plan has as many activities and nodes as its tables say.
  pub acts_are : length (plan_of t).activities ≡ t.acts
  acts_are = act_count t r.sized.activity

  pub nodes_are : length (plan_of t).nodes ≡ t.nodes
  nodes_are = node_count t r.sized.node

pub nodes_few : {t : Tables} → Ranged t → length (plan_of t).nodes ≤ most_nodes
nodes_few {t} r = omega (arith, nodes_are t r, t.nodes_held)
