-- An order is compared with the entries that a link leads to.
use Prim.Native.Nat.{ℕ, ◌+◌, ◌-◌, ◌*◌, ◌^◌, ◌<◌}
use native.Mathlib.Omega.{arith}
use mathlib.Core.Bool.{true, false}
use mathlib.Core.List.{List}
use mathlib.Core.Logic.{◌≢◌}
use mathlib.Core.Path.{◌≡◌, refl, sym, subst, ◌∙◌}
use lib.ListN.{get_or, set, length-set}
use lib.Seq.{get_or-set_same, get_or-set_other}
use Rattle.base.proofs.Bools.{true_not_false}
use Rattle.sets.specs.Sets.{most}
use Rattle.orders.specs.Book.{Chain, Differ, Beside, Compared, entry_cells, order_from, cell_at}
use Rattle.orders.specs.Book.{present_cell, same_cell, differs_cell, present_at, same_at, differs_at, order_at, itself}
use Rattle.orders.proofs.Links.{Passed, passed_map, passed_more, cell, part_from}
use Rattle.orders.proofs.Links.{rest_cell, nearest_same}
use Rattle.orders.proofs.Differing.{differ_same, differ_none, differ_same_none}

-- The chain is not touched.
beside_chain : (k : ℕ) (b b' : List ℕ) → Beside b b' → Chain k b → Chain k b'
beside_chain k b b' h chain =
    record {
      room = omega (arith, h.size, chain.room);
      same = λ e l q.
          nearest_same itself b b' e (present_at b e) (present_at b' e) (same_at b e) (same_at b' e)
          (λ i below. present i) (present e) (h.cells e same_cell (omega arith) (λ r. omega arith))
          (chain.same e l (sym (present e) ∙ q ∙ present (k - 1)));
      low = λ e j l below. subst (λ (x : ℕ). x < 2 ^ most) (sym (order e j below)) (chain.low e j l below);
    }
  where
    present : (e : ℕ) → present_at b' e ≡ present_at b e
    present e = h.cells e present_cell (omega arith) (λ r. omega arith)

    order : (e j : ℕ) → j < most → order_at b' e j ≡ order_at b e j
    order e j below = h.cells e (order_from + j) (omega arith) (λ r. omega arith)

module _ (preds : List ℕ) (k : ℕ) (b : List ℕ) where
  -- What is known of an entry that has been compared: it differs somewhere.
  abbrev DifferIn : ℕ → ℕ → Type 0
  DifferIn e x = Differ (order_at b e) (λ j. get_or preds j 0) x × (0 < x)

  abbrev Differs : List ℕ → ℕ → Type 0
  Differs b' e = DifferIn e (differs_at b' e)

  -- The entries from the link `to` on have been compared.
  pub record Comparing (to : ℕ) (b' : List ℕ) : Type 0 where
    pub beside : Beside b b'
    pub passed : Passed k b (Differs b') to

  module _ (chain : Chain k b) (to : ℕ) (b' : List ℕ) (h : Comparing to b') where
    -- The set x that the comparison with the entry before the link finds.
    pub compared_at : (x : ℕ)
        → Differ (λ j. get_or (part_from b' ((to - 1) * entry_cells)) (order_from + j) 0) (λ j. get_or preds j 0) x
        → Differ (order_at b (to - 1)) (λ j. get_or preds j 0) x
    compared_at x found =
        differ_same (λ j. get_or (part_from b' ((to - 1) * entry_cells)) (order_from + j) 0) (order_at b (to - 1))
        (λ j. get_or preds j 0)
        x
        (λ j l.
        rest_cell b' ((to - 1) * entry_cells) (order_from + j) ∙ cell b' (to - 1) (order_from + j)
        ∙ h.beside.cells (to - 1) (order_from + j) (omega arith) (λ r. omega arith))
        found

    -- The book with that set.
    abbrev place : ℕ
    place = (to - 1) * entry_cells + differs_cell

    abbrev after : ℕ → List ℕ
    after x = set b' place x

    other_cell : (x e c : ℕ) → entry_cells * e + c ≢ place → cell_at (after x) e c ≡ cell_at b' e c
    other_cell x e c ne = get_or-set_other b' place (entry_cells * e + c) x 0 ne

    after_beside : (x : ℕ) → Beside b (after x)
    after_beside x =
        record {
          size = length-set b' place x ∙ h.beside.size;
          cells = λ e c l ne. other_cell x e c (λ q. ne (omega arith)) ∙ h.beside.cells e c l ne;
        }

    abbrev next : ℕ → ℕ
    next x = get_or (after x) ((to - 1) * entry_cells + same_cell) 0

    next_link : (x : ℕ) → next x ≡ same_at b (to - 1)
    next_link x =
        cell (after x) (to - 1) same_cell ∙ (after_beside x).cells (to - 1) same_cell (omega arith) (λ r. omega arith)

    pub comparing_more : (x : ℕ) → 0 < to → DifferIn (to - 1) x → Comparing (next x) (after x)
    comparing_more x some new =
        record {
          beside = after_beside x;
          passed =
              subst (Passed k b (Differs (after x))) (sym (next_link x))
              (passed_more k b (Differs (after x)) to
              (passed_map k b (Differs b') to h.passed (Differs (after x))
              (λ e l. subst (DifferIn e) (sym (other_cell x e differs_cell (λ r. omega arith)))))
              chain
              some
              (subst (DifferIn (to - 1)) (sym written) new));
        }
      where
        written : differs_at (after x) (to - 1) ≡ x
        written =
            sym (cell (after x) (to - 1) differs_cell)
            ∙ get_or-set_same b' place x 0 (omega (arith, h.beside.size, h.passed.upto, chain.room))

    -- An entry has the order.
    pub compared_known : (x : ℕ) → 0 < to → x ≡ 0 → Differ (order_at b (to - 1)) (λ j. get_or preds j 0) x
        → Compared preds k b b' false
    compared_known x some none found =
        record {
          beside = h.beside;
          new = λ q. true_not_false q refl;
          other = λ q. true_not_false q refl;
          known = λ q. (
            to - 1,
            omega (arith, h.passed.upto),
            h.passed.alike some,
            differ_none (order_at b (to - 1)) (λ j. get_or preds j 0) x none found,
          );
        }

    -- All have been compared.
    pub compared_new : to ≡ 0 → Compared preds k b b' true
    compared_new none =
        record {
          beside = h.beside;
          new = λ q.
              record {
                chain = beside_chain k b b' h.beside chain;
                differ = λ e l r.
                    differ_same (order_at b e) (order_at b' e) (λ j. get_or preds j 0) (differs_at b' e)
                    (λ j m. sym (h.beside.cells e (order_from + j) (omega arith) (λ p. omega arith)))
                    (h.passed.each e (omega arith) l (sym (present e) ∙ r ∙ present (k - 1))).0;
              };
          other = λ q e l alike same.
              let (d, some) = h.passed.each e (omega arith) l alike in
              omega (arith, differ_same_none (order_at b e) (λ j. get_or preds j 0) (differs_at b' e) d same);
          known = λ q. true_not_false refl q;
        }
      where
        present : (e : ℕ) → present_at b' e ≡ present_at b e
        present e = h.beside.cells e present_cell (omega arith) (λ r. omega arith)
