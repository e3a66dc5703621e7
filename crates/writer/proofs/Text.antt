-- The text of a plan from the writes of its lines.
use Prim.Native.Nat.{ℕ, ◌+◌, ◌≤◌}
use mathlib.Core.Bool.{true}
use mathlib.Core.List.{List, [], ◌∷◌, map}
use mathlib.Core.Path.{◌≡◌, refl}
use native.Mathlib.Omega.{arith}
use lib.ListN.{length, take}
use lib.Seq.{length-take-le}
use Rattle.std.proofs.lemmas.List.{length-map}
use Rattle.plan.specs.Limits.{says_units, most_resources, most_acts, edition_form, resources_form, capacity_form}
use Rattle.plan.specs.Limits.{acts_form, nodes_form}
use Rattle.plan.specs.Plan.{Plan, activity_in, plan_of}
use Rattle.plan.specs.declared.Activity.{Activity}
use Rattle.plan.specs.declared.Node.{Node}
use Rattle.plan.specs.declared.Tables.{Tables}
use Rattle.format.specs.Lines.{filled}
use Rattle.format.specs.Text.{node_lines, text}
use Rattle.base.proofs.Bools.{by_bool}
use Rattle.base.proofs.Every.{every_of}
use Rattle.format.proofs.PlanLines.{capacity_text, capacity_joined}
use Rattle.format.proofs.Short.{lines_short}
use Rattle.writer.specs.Wrote.{Wrote}
use Rattle.writer.proofs.Laws.{wrote_then, filled_padded, filled_short}
use Rattle.writer.proofs.Pieces.{rows, rows_joined, act_short}

-- A line of one value, which the writer takes for the first of two.
one_value :
    (form : List ℕ) (v : ℕ) {before after : List ℕ} {at next : ℕ}
    → Wrote before at (filled form (v ∷ 0 ∷ [])) next after → Wrote before at (filled form (v ∷ [])) next after
one_value form v w = rw (← filled_padded form (v ∷ [])) w

module _ (edition : ℕ) (capacities : List ℕ) where
  module _ (few : length capacities ≤ most_resources) where
    capacities_short : length (capacity_text edition capacities) ≤ 480
    capacities_short =
        by_bool (says_units edition)
        (λ y.
        omega (
          arith,
          lines_short (capacity_joined edition y) (λ b. true) 30 (λ b e. filled_short capacity_form (b ∷ [])) capacities
              (every_of (λ b. true) capacities 0 (λ i h. refl)),
        ))
        (λ n. rw n (omega arith))

    pub capacities_near : {before after : List ℕ} {at next : ℕ}
        → Wrote before at (capacity_text edition capacities) next after → next ≤ at + 480
    capacities_near w = omega (arith, w.place, capacities_short)

    pub activities_near : {before after : List ℕ} {at next : ℕ} (acts : List Activity) → length acts ≤ most_acts
        → Wrote before at (rows edition (length capacities) acts) next after → next ≤ at + 4560
    activities_near acts h w =
        omega (
          arith,
          w.place,
          lines_short (rows_joined edition (length capacities)) (λ a. true) 190
              (λ a e. act_short edition (length capacities) few _) acts
              (every_of (λ a. true) acts (record { duration = 0; units = [] }) (λ i h. refl)),
        )

  module _ (acts : List Activity) (nodes : List Node) where
    abbrev pub written : Plan
    written =
        record {
          edition = edition;
          capacities = capacities;
          activities = map (activity_in (length capacities)) acts;
          nodes = nodes;
        }

    pub text_wrote :
        {s₀ s₁ s₂ s₃ s₄ s₅ s₆ s₇ : List ℕ} {n₀ n₁ n₂ n₃ n₄ n₅ n₆ n₇ : ℕ}
        → Wrote s₀ n₀ (filled edition_form (edition ∷ 0 ∷ [])) n₁ s₁
        → Wrote s₁ n₁ (filled resources_form (length capacities ∷ 0 ∷ [])) n₂ s₂
        → Wrote s₂ n₂ (capacity_text edition capacities) n₃ s₃
        → Wrote s₃ n₃ (filled acts_form (length acts ∷ 0 ∷ [])) n₄ s₄
        → Wrote s₄ n₄ (rows edition (length capacities) acts) n₅ s₅
        → Wrote s₅ n₅ (filled nodes_form (length nodes ∷ 0 ∷ [])) n₆ s₆
        → Wrote s₆ n₆ (node_lines nodes) n₇ s₇
        → Wrote s₀ n₀ (text written) n₇ s₇
    unfolding text
    text_wrote edition_line resources_line capacity_lines acts_line act_lines nodes_line node_lines =
        rw (length-map acts (activity_in (length capacities)))
        (wrote_then (one_value edition_form edition edition_line)
        (wrote_then (one_value resources_form (length capacities) resources_line)
        (wrote_then capacity_lines
        (wrote_then (one_value acts_form (length acts) acts_line)
        (wrote_then act_lines (wrote_then (one_value nodes_form (length nodes) nodes_line) node_lines))))))

-- It is the plan of the tables that hold these lists.
module _ (t : Tables) (size : length t.capacity ≡ most_resources) where
  pub written_is : written t.edition (take t.resources t.capacity) (take t.acts t.activity) (take t.nodes t.node) ≡ plan_of t
  written_is =
      let same : length (take t.resources t.capacity) ≡ t.resources =
      length-take-le t.resources t.capacity (omega (arith, t.resources_held)) in
      rw same
