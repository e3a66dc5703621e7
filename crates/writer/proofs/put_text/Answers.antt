use Prim.Native.Nat.{◌≤◌}
use mathlib.Core.List.{[], ◌∷◌}
use mathlib.Core.Path.{refl, ap}
use native.Mathlib.Omega.{arith}
use lib.ListN.{length, length-take}
use Rattle.plan.specs.Limits.{most_resources, most_acts, most_nodes, edition_form, resources_form, acts_form, nodes_form}
use Rattle.writer.proofs.Laws.{wrote_short, letters_fit}
use Rattle.writer.proofs.Text.{text_wrote, capacities_near, activities_near, written_is}
use Rattle.writer.proofs.put_text.Goals as goal
use Rattle.writer.proofs.put_text.Goals.{After-all_nodes-nodes, After-put_line-at-2, After-put_line-at-3}

-- The lists are no longer than their tables.
few : (c : After-all_nodes-nodes)
    → (length c.capacities-capacities.result.now ≤ most_resources)
    × (length c.activities-activities.result.now ≤ most_acts)
    × (length c.all_nodes-nodes.result.now ≤ most_nodes)
few c =
    let t = c.args.tables.now in (
      omega (arith, ap length c.capacities-capacities.ensures, length-take t.resources t.capacity, t.resources_held),
      omega (arith, ap length c.activities-activities.ensures, length-take t.acts t.activity, t.acts_held),
      omega (arith, ap length c.all_nodes-nodes.ensures, length-take t.nodes t.node, t.nodes_held),
    )

-- The place after two lines, and after the capacities and one more.
front : (c : After-put_line-at-2) → c.put_line-at-2.result ≤ 65
front c =
    omega (
      arith,
      wrote_short edition_form (c.args.tables.now.edition ∷ 0 ∷ []) c.put_line-at.ensures,
      wrote_short resources_form (length c.capacities-capacities.result.now ∷ 0 ∷ []) c.put_line-at-2.ensures,
    )

middle : (c : After-put_line-at-3) → length c.capacities-capacities.result.now ≤ most_resources
    → c.put_line-at-2.result ≤ 65 → c.put_line-at-3.result ≤ 580
middle c h k =
    omega (
      arith,
      capacities_near c.args.tables.now.edition c.capacities-capacities.result.now h c.put_capacities-at.ensures,
      wrote_short acts_form (length c.activities-activities.result.now ∷ 0 ∷ []) c.put_line-at-3.ensures,
    )

pub put_line-at-requires-2 : goal.put_line-at-requires-2
put_line-at-requires-2 c = (
  omega (arith, wrote_short edition_form (c.args.tables.now.edition ∷ 0 ∷ []) c.put_line-at.ensures),
  omega arith,
  letters_fit resources_form refl _ _,
)

pub put_capacities-at-requires : goal.put_capacities-at-requires
put_capacities-at-requires c =
    let at = goal.at.put_capacities-at-requires c in
    (omega (arith, front at.After-put_line-at-2), (few at.After-all_nodes-nodes).0)

pub put_line-at-requires-3 : goal.put_line-at-requires-3
put_line-at-requires-3 c =
    let at = goal.at.put_line-at-requires-3 c in (
      omega (
        arith,
        front at.After-put_line-at-2,
        capacities_near c.args.tables.now.edition c.capacities-capacities.result.now (few at.After-all_nodes-nodes).0
            c.put_capacities-at.ensures,
      ),
      omega arith,
      letters_fit acts_form refl _ _,
    )

pub put_activities-at-requires : goal.put_activities-at-requires
put_activities-at-requires c =
    let at = goal.at.put_activities-at-requires c in
    let (bs, acts, nodes) = few at.After-all_nodes-nodes in
    (omega (arith, middle at.After-put_line-at-3 bs (front at.After-put_line-at-2)), bs, acts)

pub put_line-at-requires-4 : goal.put_line-at-requires-4
put_line-at-requires-4 c =
    let at = goal.at.put_line-at-requires-4 c in
    let (bs, acts, nodes) = few at.After-all_nodes-nodes in (
      omega (
        arith,
        middle at.After-put_line-at-3 bs (front at.After-put_line-at-2),
        activities_near c.args.tables.now.edition c.capacities-capacities.result.now bs
            c.activities-activities.result.now acts c.put_activities-at.ensures,
      ),
      omega arith,
      letters_fit nodes_form refl _ _,
    )

pub put_nodes-requires : goal.put_nodes-requires
put_nodes-requires c =
    let at = goal.at.put_nodes-requires c in
    let (bs, acts, nodes) = few at.After-all_nodes-nodes in (
      omega (
        arith,
        middle at.After-put_line-at-3 bs (front at.After-put_line-at-2),
        activities_near c.args.tables.now.edition c.capacities-capacities.result.now bs
            c.activities-activities.result.now acts c.put_activities-at.ensures,
        wrote_short nodes_form (length c.all_nodes-nodes.result.now ∷ 0 ∷ []) c.put_line-at-4.ensures,
      ),
      omega (arith, nodes),
    )

pub returns : goal.returns
returns c =
    rw (
      ← written_is c.args.tables.now (omega arith),
      ← c.capacities-capacities.ensures,
      ← c.activities-activities.ensures,
      ← c.all_nodes-nodes.ensures,
    )
    (text_wrote c.args.tables.now.edition c.capacities-capacities.result.now c.activities-activities.result.now
    c.all_nodes-nodes.result.now c.put_line-at.ensures c.put_line-at-2.ensures c.put_capacities-at.ensures
    c.put_line-at-3.ensures c.put_activities-at.ensures c.put_line-at-4.ensures c.put_nodes.ensures)
