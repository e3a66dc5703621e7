-- A variant in the table: its single cells, then its predecessors, then the links.
use Prim.Native.Nat.{ℕ, ◌+◌, ◌*◌, ◌≤◌, ◌<◌}
use native.Mathlib.Decide.{ℕ_discrete}
use native.Mathlib.Omega.{arith}
use mathlib.Core.Bool.{true}
use mathlib.Core.List.{List}
use mathlib.Core.Logic.{◌≢◌, by_cases}
use mathlib.Core.Path.{◌≡◌, sym, ap, ◌∙◌}
use lib.ListN.{length, get_or, set, length-set}
use lib.Seq.{get_or-set_same, get_or-set_other}
use Rattle.plan.specs.Limits.{word_values}
use Rattle.sets.proofs.Laws.{has_some}
use Rattle.sets.specs.Sets.{most, has, width}
use Rattle.instance.specs.Table.{words, preds_from, next_from, near_from, component_from, present_cell, acts_cell}
use Rattle.instance.specs.Table.{cap_cell, variant_cell, link_cell, acts_of, preds_at, present_of, cap_of, variant_of}
use Rattle.instance.specs.Instance.{Chosen, SamePlan, Placed}
use Rattle.instance.specs.Steps.{Filled, Blank, Links}
use Rattle.instance.proofs.Kept.{laid_kept}

-- The single cells of a variant.
abbrev pub with_cells : List ℕ → ℕ → ℕ → ℕ → ℕ → List ℕ
with_cells t present number cap link =
    set (set (set (set t present_cell present) cap_cell cap) variant_cell number) link_cell link

pub cells_long : (t : List ℕ) (present number cap link : ℕ) → length t ≡ words
    → length (with_cells t present number cap link) ≡ words
cells_long t present number cap link h = simp length-set h

module _ {t : List ℕ} {present : ℕ} {preds : List ℕ} (number cap link : ℕ) {two three : List ℕ}
    (chosen : Chosen t present preds)
    (before : Filled (with_cells t present number cap link) preds_from most (λ i x. x ≡ get_or preds i 0) two)
    (unlinked : Filled two next_from (2 * width) (λ i x. x ≡ 0) three) where
  abbrev one_cell : List ℕ
  one_cell = set t present_cell present

  abbrev two_cells : List ℕ
  two_cells = set one_cell cap_cell cap

  abbrev three_cells : List ℕ
  three_cells = set two_cells variant_cell number

  one_long : length one_cell ≡ words
  one_long = length-set t present_cell present ∙ chosen.laid.size

  two_long : length two_cells ≡ words
  two_long = length-set one_cell cap_cell cap ∙ one_long

  three_long : length three_cells ≡ words
  three_long = length-set two_cells variant_cell number ∙ two_long

  cells_kept : (at : ℕ) → at ≢ present_cell → at ≢ cap_cell → at ≢ variant_cell → at ≢ link_cell
      → get_or (with_cells t present number cap link) at 0 ≡ get_or t at 0
  cells_kept at a b c d =
      get_or-set_other three_cells link_cell at link 0 d
      ∙ get_or-set_other two_cells variant_cell at number 0 c
      ∙ get_or-set_other one_cell cap_cell at cap 0 b
      ∙ get_or-set_other t present_cell at present 0 a

  long : length three ≡ length t
  long =
      unlinked.long
      ∙ before.long
      ∙ cells_long t present number cap link chosen.laid.size
      ∙ sym chosen.laid.size

  preds_in : (i : ℕ) → i < most → preds_at three i ≡ get_or preds i 0
  preds_in i b = unlinked.before (preds_from + i) (omega arith) ∙ before.new i b

  -- Only an activity of the plan has predecessors.
  preds_none : (i : ℕ) → acts_of t ≤ i → i < most → get_or preds i 0 ≡ 0
  preds_none i l b =
      by_cases (ℕ_discrete (get_or preds i 0) 0)
      (λ e. e)
      (λ ne.
      let (k, below, e) = has_some most (get_or preds i 0) (chosen.preds_low i b) ne in
      absurd (omega (arith, chosen.known i (chosen.ordered k i b e).1)))

  pub blank : Blank (acts_of t) three
  blank =
      record {
        long = long ∙ chosen.laid.size;
        few = chosen.laid.acts;
        preds_low = λ i b. omega (arith, preds_in i b, chosen.preds_low i b);
        preds_none = λ i l b. preds_in i b ∙ preds_none i l b;
        next_none = λ i b. unlinked.new i (omega arith);
        near_none = λ i b.
            ap (λ (at : ℕ). get_or three at 0) {x = near_from + i} {y = next_from + (width + i)} (omega arith)
            ∙ unlinked.new (width + i) (omega arith);
      }

  module _ {r : List ℕ} (links : Links three r) where
    cell : (at : ℕ) → component_from ≤ at → get_or r at 0 ≡ get_or (with_cells t present number cap link) at 0
    cell at b = links.behind at b ∙ unlinked.behind at (omega arith) ∙ before.behind at (omega arith)

    kept : SamePlan t r
    kept =
        record {
          long = links.long ∙ long;
          durations = λ at b.
              links.before at (omega arith)
              ∙ unlinked.before at (omega arith)
              ∙ before.before at b
              ∙ cells_kept at (λ q. omega arith) (λ q. omega arith) (λ q. omega arith) (λ q. omega arith);
          behind = λ at b d.
              cell at b ∙ cells_kept at (λ q. omega arith) (λ q. omega arith) (λ q. omega arith) (λ q. omega arith);
          acts =
              cell acts_cell (omega arith)
              ∙ cells_kept acts_cell (λ q. omega arith) (λ q. omega arith) (λ q. omega arith) (λ q. omega arith);
        }

    befores : (i : ℕ) → i < most → preds_at r i ≡ get_or preds i 0
    befores i b = links.before (preds_from + i) (omega arith) ∙ preds_in i b

    member : (i j : ℕ) → j < most → has (preds_at r j) i ≡ true → has (get_or preds j 0) i ≡ true
    member i j b e = ap (λ (x : ℕ). has x i) (sym (befores j b)) ∙ e

    present_is : present_of r ≡ present
    present_is =
        cell present_cell (omega arith)
        ∙ get_or-set_other three_cells link_cell present_cell link 0 (λ q. omega arith)
        ∙ get_or-set_other two_cells variant_cell present_cell number 0 (λ q. omega arith)
        ∙ get_or-set_other one_cell cap_cell present_cell cap 0 (λ q. omega arith)
        ∙ get_or-set_same t present_cell present 0 (omega (arith, chosen.laid.size))

    in_present : (i : ℕ) → has present i ≡ true → has (present_of r) i ≡ true
    in_present i e = ap (λ (x : ℕ). has x i) present_is ∙ e

    cap_is : cap_of r ≡ cap
    cap_is =
        cell cap_cell (omega arith)
        ∙ get_or-set_other three_cells link_cell cap_cell link 0 (λ q. omega arith)
        ∙ get_or-set_other two_cells variant_cell cap_cell number 0 (λ q. omega arith)
        ∙ get_or-set_same one_cell cap_cell cap 0 (omega (arith, one_long))

    number_is : variant_of r ≡ number
    number_is =
        cell variant_cell (omega arith)
        ∙ get_or-set_other three_cells link_cell variant_cell link 0 (λ q. omega arith)
        ∙ get_or-set_same two_cells variant_cell number 0 (omega (arith, two_long))

    pub placed : number < word_values → cap < word_values → Placed t present preds number cap link r
    placed number_word cap-word =
        record {
          whole =
              record {
                laid = laid_kept t r kept chosen.laid;
                present_low = omega (arith, present_is, chosen.present_low);
                present = λ i e.
                    omega (
                      arith,
                      kept.acts,
                      chosen.known i (ap (λ (x : ℕ). has x i) (sym present_is) ∙ e),
                    );
                linked = links.linked;
                ordered = λ i j b e.
                    let (first, last) = chosen.ordered i j b (member i j b e) in
                    (in_present i first, in_present j last);
                rank = chosen.rank;
                ranked = λ i j b e. chosen.ranked i j b (member i j b e);
                cap = omega (arith, cap_is);
                variant = omega (arith, number_is);
              };
          kept = kept;
          befores = befores;
          present_is = present_is;
          number_is = number_is;
          cap_is = cap_is;
          link_is =
              cell link_cell (omega arith) ∙ get_or-set_same three_cells link_cell link 0 (omega (arith, three_long));
        }
