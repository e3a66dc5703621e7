-- The set of the activities before which two orders have not the same.
use Prim.Native.Nat.{ℕ, ◌+◌, ◌^◌, ◌≤◌, ◌<◌}
use native.Mathlib.Decide.{ℕ_discrete}
use native.Mathlib.Omega.{arith}
use mathlib.Core.Bool.{Bool, false, not, ◌||◌, or-true, or-false}
use mathlib.Core.Logic.{◌≢◌, by_cases}
use mathlib.Core.Path.{◌≡◌, sym, ap, ◌∙◌}
use lib.Bits.{bit_or, or_lt}
use lib.Dec.{eqb}
use lib.Pow.{pow-lt}
use borrow.Author.Tests.{eq-eqb, ne_eqb, eqb-true, not-false}
use Rattle.sets.proofs.Laws.{has_none, has_with, same}
use Rattle.sets.specs.Sets.{most, has}
use Rattle.orders.specs.Book.{Differ}

-- The activities below n have been compared.
pub record Differing (order preds : ℕ → ℕ) (n set : ℕ) : Type 0 where
  pub low : set < 2 ^ most
  pub passed : (j : ℕ) → j < n → has set j ≡ not (eqb (order j) (preds j))
  pub ahead : (j : ℕ) → n ≤ j → has set j ≡ false

module _ {order preds : ℕ → ℕ} {n set : ℕ} (h : Differing order preds n set) where
  pub differing_same : {set' : ℕ} → set' ≡ set → order n ≡ preds n → Differing order preds (n + 1) set'
  differing_same kept e =
      rw kept
      (record {
        low = h.low;
        passed = λ j l.
            by_cases
            (ℕ_discrete j n)
            (λ q.
            ap (has set) q ∙ h.ahead n (omega arith) ∙ sym (ap not (eq-eqb (order n) (preds n) e))
            ∙ ap (λ (i : ℕ). not (eqb (order i) (preds i))) (sym q))
            (λ ne. h.passed j (omega arith));
        ahead = λ j l. h.ahead j (omega arith);
      })

  pub differing_more : {set' : ℕ} → set' ≡ bit_or set (2 ^ n) → n < most → order n ≢ preds n
      → Differing order preds (n + 1) set'
  differing_more {set'} new below ne =
      record {
        low = omega (arith, or_lt most set (2 ^ n) h.low (pow-lt below));
        passed = λ j l.
            by_cases
            (ℕ_discrete j n)
            (λ q.
            with_n j ∙ ap (λ (x : Bool). has set j || x) (eq-eqb j n q) ∙ or-true (has set j)
            ∙ sym (ap not (ne_eqb (order n) (preds n) ne))
            ∙ ap (λ (i : ℕ). not (eqb (order i) (preds i))) (sym q))
            (λ other. others j other ∙ h.passed j (omega arith));
        ahead = λ j l. others j (λ q. omega arith) ∙ h.ahead j (omega arith);
      }
    where
      with_n : (j : ℕ) → has set' j ≡ (has set j || eqb j n)
      with_n j = ap (λ (x : ℕ). has x j) new ∙ has_with set n j

      others : (j : ℕ) → j ≢ n → has set' j ≡ has set j
      others j other = with_n j ∙ ap (λ (x : Bool). has set j || x) (ne_eqb j n other) ∙ or-false (has set j)

module _ (order preds : ℕ → ℕ) where
  -- Where the set is empty, the orders are the same,
  pub differ_none : (set : ℕ) → set ≡ 0 → Differ order preds set → (j : ℕ) → j < most → order j ≡ preds j
  differ_none set e h j l =
      eqb-true (order j) (preds j)
      (not-false (eqb (order j) (preds j)) (sym (h.where_not j l) ∙ ap (λ (x : ℕ). has x j) e ∙ has_none j))

-- and where the orders are the same, it is empty.
pub differ_same_none : (order preds : ℕ → ℕ) (set : ℕ) → Differ order preds set
    → ((j : ℕ) → j < most → order j ≡ preds j) → set ≡ 0
differ_same_none order preds set h equal =
    same most set 0 h.low (omega arith)
    (λ j l. h.where_not j l ∙ ap not (eq-eqb (order j) (preds j) (equal j l)) ∙ sym (has_none j))

pub differ_same : (order order' preds : ℕ → ℕ) (set : ℕ) → ((j : ℕ) → j < most → order j ≡ order' j)
    → Differ order preds set → Differ order' preds set
differ_same order order' preds set same h =
    record {
      low = h.low;
      where_not = λ j l. h.where_not j l ∙ ap (λ (x : ℕ). not (eqb x (preds j))) (same j l);
    }
