use Rattle.std.proofs.Common.{◌≡◌, ◌≤◌, ◌∙◌, ℕ, ap, sym, length, take, map, rules, arith}
use lib.Seq.{length-take-le}
use Rattle.format.proofs.Tests.{between_facts}
use Rattle.plan.specs.Limits.{longest, most_resources}
use Rattle.plan.specs.Plan.{activity_in}
use Rattle.parser.proofs.Whole.{exit, accepted, refused_length, begins, to_resources, to_capacities, to_act_count}
use Rattle.parser.proofs.Whole.{to_activities, to_node_count, to_nodes, to_end, all_lines}
use Rattle.parser.proofs.parse_file.Goals as goal
use Rattle.parser.proofs.parse_file.Goals.{Else-not-has_length}

-- The text has a right length.
size : (c : Else-not-has_length) → (1 ≤ length c.args.file.now) × (length c.args.file.now ≤ longest)
size c = between_facts 1 longest (length c.args.file.now) (sym c.has_length.ensures ∙ c.if-not-has_length.false)

pub returns-then-not-has_length : goal.returns-then-not-has_length
returns-then-not-has_length c = refused_length c.args.file.now (sym c.has_length.ensures ∙ c.if-not-has_length.true)

pub returns-in_err-edition : goal.returns-in_err-edition
returns-in_err-edition c =
    let s = c.args.file.now in
    exit s (size (goal.at.returns-in_err-edition c).Else-not-has_length) c.from_residual.result c.from_residual.ensures.1
    (begins s)
    c.in_err-edition.ensures.read

pub returns-in_err-resources : goal.returns-in_err-resources
returns-in_err-resources c =
    let s = c.args.file.now in
    exit s (size (goal.at.returns-in_err-resources c).Else-not-has_length) c.from_residual-in_err-resources.result c.from_residual-in_err-resources.ensures.1
    (to_resources s c.in_ok-edition.ensures.read)
    c.in_err-resources.ensures.read

pub returns-in_err-capacity : goal.returns-in_err-capacity
returns-in_err-capacity c =
    let s = c.args.file.now in
    exit s (size (goal.at.returns-in_err-capacity c).Else-not-has_length) c.from_residual-in_err-capacity.result c.from_residual-in_err-capacity.ensures.1
    (to_capacities s c.in_ok-edition.ensures.read c.in_ok-resources.ensures.read)
    c.in_err-capacity.ensures

pub returns-in_err-acts : goal.returns-in_err-acts
returns-in_err-acts c =
    let s = c.args.file.now in
    exit s (size (goal.at.returns-in_err-acts c).Else-not-has_length) c.from_residual-in_err-acts.result c.from_residual-in_err-acts.ensures.1
    (to_act_count s c.in_ok-edition.ensures.read c.in_ok-resources.ensures.read c.in_ok-capacity.ensures)
    c.in_err-acts.ensures.read

pub returns-in_err-activity : goal.returns-in_err-activity
returns-in_err-activity c =
    let s = c.args.file.now in
    exit s (size (goal.at.returns-in_err-activity c).Else-not-has_length) c.from_residual-in_err-activity.result c.from_residual-in_err-activity.ensures.1
    (to_activities s c.in_ok-edition.ensures.read c.in_ok-resources.ensures.read c.in_ok-capacity.ensures c.in_ok-acts.ensures.read)
    c.in_err-activity.ensures

pub returns-in_err-nodes : goal.returns-in_err-nodes
returns-in_err-nodes c =
    let s = c.args.file.now in
    exit s (size (goal.at.returns-in_err-nodes c).Else-not-has_length) c.from_residual-in_err-nodes.result c.from_residual-in_err-nodes.ensures.1
    (to_node_count s c.in_ok-edition.ensures.read c.in_ok-resources.ensures.read c.in_ok-capacity.ensures c.in_ok-acts.ensures.read c.in_ok-activity.ensures)
    c.in_err-nodes.ensures.read

pub returns-in_err-node : goal.returns-in_err-node
returns-in_err-node c =
    let s = c.args.file.now in
    exit s (size (goal.at.returns-in_err-node c).Else-not-has_length) c.from_residual-in_err-node.result c.from_residual-in_err-node.ensures.1
    (to_nodes s c.in_ok-edition.ensures.read c.in_ok-resources.ensures.read c.in_ok-capacity.ensures c.in_ok-acts.ensures.read c.in_ok-activity.ensures c.in_ok-nodes.ensures.read)
    c.in_err-node.ensures

pub returns-in_err-end : goal.returns-in_err-end
returns-in_err-end c =
    let s = c.args.file.now in
    exit s (size (goal.at.returns-in_err-end c).Else-not-has_length) c.from_residual-in_err-end.result c.from_residual-in_err-end.ensures.1
    (to_end s c.in_ok-edition.ensures.read c.in_ok-resources.ensures.read c.in_ok-capacity.ensures c.in_ok-acts.ensures.read c.in_ok-activity.ensures c.in_ok-nodes.ensures.read c.in_ok-node.ensures)
    c.in_err-end.ensures

pub returns : goal.returns
returns c =
    let s = c.args.file.now in
    let r = c.in_ok-resources.field-0 in
    let capacity = c.in_ok-capacity.capacity in
    let long : length capacity ≡ most_resources = search rules in
    accepted s (size (goal.at.returns c).Else-not-has_length)
    (all_lines s c.in_ok-edition.ensures.read c.in_ok-resources.ensures.read c.in_ok-capacity.ensures c.in_ok-acts.ensures.read c.in_ok-activity.ensures c.in_ok-nodes.ensures.read c.in_ok-node.ensures c.in_ok-end.ensures)
    (ap
    (λ (k : ℕ). record {
      edition = c.in_ok-edition.field-0;
      capacities = take r capacity;
      activities = map (activity_in k) (take c.in_ok-acts.acts c.in_ok-activity.activity);
      nodes = take c.in_ok-nodes.field-0 c.in_ok-node.node;
    })
    (length-take-le r capacity (omega arith)))
    (record { capacity = long; activity = search rules; node = search rules })
