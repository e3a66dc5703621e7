-- What the plan's tables hold, in the columns of the table.
use Prim.Native.Nat.{ℕ, ◌+◌, ◌*◌, ◌≤◌, ◌<◌}
use native.Mathlib.Omega.{arith}
use mathlib.Core.List.{List}
use mathlib.Core.Logic.{◌≢◌}
use mathlib.Core.Path.{◌≡◌, refl, ◌∙◌}
use lib.ListN.{length, get_or, set, replicate, length-set}
use lib.Seq.{get_or-set_same, get_or-set_other}
use Rattle.std.proofs.lemmas.Bool.Decides.{nat_tests}
use Rattle.base.proofs.Lists.{zeros}
use Rattle.plan.specs.Limits.{most_resources}
use Rattle.plan.specs.declared.Tables.{Tables}
use Rattle.instance.specs.Table.{words, units_from, capacity_from, resources_cell, acts_cell}
use Rattle.instance.specs.Instance.{row_of}
use Rattle.instance.specs.Steps.{Filled, Held, Columns}

-- The table with its counts alone.
abbrev counted : ℕ → List ℕ
counted acts = set (replicate words 0) acts_cell acts

abbrev counts : ℕ → ℕ → List ℕ
counts acts resources = set (counted acts) resources_cell resources

counts_blank : (acts resources at : ℕ) → at ≢ acts_cell → at ≢ resources_cell → get_or (counts acts resources) at 0 ≡ 0
counts_blank acts resources at ne other =
    get_or-set_other (counted acts) resources_cell at resources 0 other
    ∙ get_or-set_other (replicate words 0) acts_cell at acts 0 ne
    ∙ zeros words at

module _ {tables : Tables} {one two three : List ℕ}
    (durations : Filled (counts tables.acts tables.resources) 0 tables.acts (λ i x. x ≡ (row_of tables i).duration) one)
    (held : Held one tables tables.acts two)
    (capacities : Filled two capacity_from tables.resources (λ r x. x ≡ get_or tables.capacity r 0) three) where
  abbrev acts : ℕ
  acts = tables.acts

  abbrev resources : ℕ
  resources = tables.resources

  counts_long : length (counted acts) ≡ words
  counts_long = length-set (replicate words 0) acts_cell acts ∙ refl

  cell : (at : ℕ) → resources_cell ≤ at → get_or three at 0 ≡ get_or (counts acts resources) at 0
  cell at b =
      capacities.behind at (omega (arith, tables.resources_held))
      ∙ held.behind at (omega arith)
      ∙ durations.behind at (omega (arith, tables.acts_held))

  first : (at : ℕ) → at < units_from → get_or three at 0 ≡ get_or one at 0
  first at b = capacities.before at (omega arith) ∙ held.before at b

  blank_in : (at : ℕ) → acts ≤ at → at < units_from → get_or three at 0 ≡ 0
  blank_in at b d =
      first at d
      ∙ durations.behind at (omega arith)
      ∙ counts_blank acts resources at (λ q. omega arith) (λ q. omega arith)

  blank_from : (at : ℕ) → units_from ≤ at → at < resources_cell → get_or one at 0 ≡ 0
  blank_from at b d =
      durations.behind at (omega (arith, tables.acts_held))
      ∙ counts_blank acts resources at (λ q. omega arith) (λ q. omega arith)

  pub columns_are : Columns tables three
  columns_are =
      record {
        size =
            capacities.long
            ∙ held.long
            ∙ durations.long
            ∙ length-set (counted acts) resources_cell resources
            ∙ counts_long;
        acts_are =
            cell acts_cell (omega arith)
            ∙ get_or-set_other (counted acts) resources_cell acts_cell resources 0 (λ q. omega arith)
            ∙ get_or-set_same (replicate words 0) acts_cell acts 0 (omega arith);
        resources_are =
            cell resources_cell (omega arith)
            ∙ get_or-set_same (counted acts) resources_cell resources 0 (omega (arith, counts_long));
        durations = λ i b. grind (arith, nat_tests, durations.new i, blank_in i, first i);
        held = λ i r b d.
            let at = units_from + most_resources * i + r in
            grind (arith, held.units i r b d, capacities.before at, blank_from at);
        capacities = λ r d.
            let at = capacity_from + r in
            grind (arith, nat_tests, capacities.new r, capacities.behind at, held.behind at, blank_from at);
        blank = λ at b d. blank_in at (omega (arith, tables.acts_held)) d;
      }
