-- The text of a plan: its lines in the order that the papers give.
use Rattle.std.specs.Prelude.{ℕ, cond, List, [], ◌∷◌, ◌++◌, length}
use Rattle.plan.specs.Limits.{says_units, edition_form, resources_form, capacity_form, acts_form, act_form, nodes_form}
use Rattle.plan.specs.Limits.{node_form}
use Rattle.plan.specs.Plan.{Activity, Plan, act_values, letter_of, value_of}
use Rattle.plan.specs.declared.Node.{Node}
use Rattle.format.specs.Lines.{filled}

unfoldable pub capacity_lines : List ℕ → List ℕ
capacity_lines [] = []
capacity_lines (b ∷ rest) = filled capacity_form (b ∷ []) ++ capacity_lines rest

unfoldable pub act_lines : ℕ → ℕ → List Activity → List ℕ
act_lines edition resources [] = []
act_lines edition resources (a ∷ rest) =
    filled (act_form edition resources) (act_values edition a) ++ act_lines edition resources rest

unfoldable pub node_lines : List Node → List ℕ
node_lines [] = []
node_lines (n ∷ rest) = filled node_form (letter_of n ∷ value_of n ∷ []) ++ node_lines rest

unfoldable pub text : Plan → List ℕ
text p =
    filled edition_form (p.edition ∷ [])
    ++ (filled resources_form (length p.capacities ∷ [])
    ++ (cond (says_units p.edition) (capacity_lines p.capacities) []
    ++ (filled acts_form (length p.activities ∷ [])
    ++ (act_lines p.edition (length p.capacities) p.activities
    ++ (filled nodes_form (length p.nodes ∷ [])
    ++ node_lines p.nodes)))))
