-- A plan: what the lines of a plan file say. A node is one of the program's: `node=a,i`, `node=s,k`, `node=p,k` or
-- `node=x,k`.
use Rattle.std.specs.Prelude.{◌≡◌, ℕ, zero, suc, Bool, true, false, cond, ◌&&◌, ◌||◌, List, [], ◌∷◌, leb, ltb, eqb, length, get_or, take, drop, map, replicate}
use Rattle.base.specs.Lists.{every, same_row}
use Rattle.plan.specs.Limits.{most_resources, most_acts, most_nodes, says_units, is_edition, is_resource_count}
use Rattle.plan.specs.Limits.{is_capacity, is_unit_count, is_act_count, is_duration, is_node_count, is_child_count}
use Rattle.plan.specs.declared.Node.{Node}
use Rattle.plan.specs.declared.Node.TheVariants.{Act, Seq, Pll, Xor}
use Rattle.plan.specs.declared.Tables.{Tables}
use Rattle.plan.specs.declared.Activity as Row

-- An activity: its duration, and the units that it holds of each resource while it runs.
pub record Activity : Type 0 where
  pub duration : ℕ
  pub units : List ℕ

-- A resource is given by its capacity: the units that it has.
pub record Plan : Type 0 where
  pub edition : ℕ
  pub capacities : List ℕ
  pub activities : List Activity
  pub nodes : List Node

-- One unit of resource r alone, of so many resources; and the first resource of which units are held.
abbrev pub one_unit : ℕ → ℕ → List ℕ
one_unit zero r = []
one_unit (suc n) zero = 1 ∷ replicate n 0
one_unit (suc n) (suc r) = 0 ∷ one_unit n r

abbrev pub own_resource : List ℕ → ℕ
own_resource [] = 0
own_resource (u ∷ us) = elim (eqb u 0) [ true ↦ suc (own_resource us) | false ↦ 0 ]

-- The values of an activity's line, `r,d` or `d,u0,..`, and the activity of such values.
abbrev pub act_values : ℕ → Activity → List ℕ
act_values edition a =
    cond (says_units edition) (a.duration ∷ a.units) (own_resource a.units ∷ a.duration ∷ [])

abbrev pub activity_of : ℕ → ℕ → List ℕ → Activity
activity_of edition resources vs =
    cond (says_units edition)
    (record { duration = get_or vs 0 0; units = drop 1 vs })
    (record { duration = get_or vs 1 0; units = one_unit resources (get_or vs 0 0) })

-- The letter and the number of a node, and the node of a letter and a number.
abbrev pub letter_of : Node → ℕ
letter_of (Act i) = 97
letter_of (Seq k) = 115
letter_of (Pll k) = 112
letter_of (Xor k) = 120

abbrev pub value_of : Node → ℕ
value_of (Act i) = i
value_of (Seq k) = k
value_of (Pll k) = k
value_of (Xor k) = k

abbrev pub is_letter : ℕ → Bool
is_letter b = eqb b 97 || eqb b 115 || eqb b 112 || eqb b 120

abbrev pub node_of : ℕ → ℕ → Node
node_of b n =
    elim (eqb b 97) [
      | true ↦ Act n
      | false ↦ elim (eqb b 115) [ true ↦ Seq n | false ↦ elim (eqb b 112) [ true ↦ Pll n | false ↦ Xor n ] ]
    ]

-- Each value in its range: a count of units for each resource, a resource below the plan's count, an activity's number
-- below the count of activities.
abbrev pub are_units : ℕ → ℕ → List ℕ → Bool
are_units edition resources us =
    cond (says_units edition)
    (eqb (length us) resources && every (is_unit_count edition) us)
    (ltb (own_resource us) resources && same_row us (one_unit resources (own_resource us)))

abbrev pub is_activity : ℕ → ℕ → Activity → Bool
is_activity edition resources a = is_duration a.duration && are_units edition resources a.units

-- No count is above its resource's capacity.
abbrev pub is_within : List ℕ → List ℕ → Bool
is_within [] us = true
is_within (b ∷ bs) [] = true
is_within (b ∷ bs) (u ∷ us) = leb u b && is_within bs us

abbrev pub is_node : ℕ → Node → Bool
is_node acts (Act i) = ltb i acts
is_node acts (Seq k) = is_child_count k
is_node acts (Pll k) = is_child_count k
is_node acts (Xor k) = is_child_count k

-- A group of a single child, which has a refusal of its own.
abbrev pub is_group_of_one : Node → Bool
is_group_of_one (Act i) = false
is_group_of_one (Seq k) = eqb k 1
is_group_of_one (Pll k) = eqb k 1
is_group_of_one (Xor k) = eqb k 1

abbrev pub is_plan : Plan → Bool
is_plan p =
    is_edition p.edition
    && is_resource_count (length p.capacities) && every (is_capacity p.edition) p.capacities
    && is_act_count (length p.activities)
    && every (is_activity p.edition (length p.capacities)) p.activities
    && every (λ a. is_within p.capacities a.units) p.activities
    && is_node_count (length p.nodes) && every (is_node (length p.activities)) p.nodes

-- The plan that the program's tables hold: an activity has units of the plan's resources alone.
abbrev pub activity_in : ℕ → Row.Activity → Activity
activity_in resources a = record { duration = a.duration; units = take resources a.units }

abbrev pub plan_of : Tables → Plan
plan_of t =
    record {
      edition = t.edition;
      capacities = take t.resources t.capacity;
      activities = map (activity_in t.resources) (take t.acts t.activity);
      nodes = take t.nodes t.node;
    }

-- The arrays of the tables have their lengths.
pub record Sized (t : Tables) : Type 0 where
  pub capacity : length t.capacity ≡ most_resources
  pub activity : length t.activity ≡ most_acts
  pub node : length t.node ≡ most_nodes

-- The tables hold a plan whose values are in range.
pub record Ranged (t : Tables) : Type 0 where
  pub ranges : is_plan (plan_of t) ≡ true
  pub sized : Sized t
