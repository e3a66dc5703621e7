-- The cells of an entry as they are written: the first three by themselves, and the order behind them.
use Prim.Native.Nat.{ℕ, ◌+◌, ◌-◌, ◌≤◌}
use native.Mathlib.Omega.{arith}
use mathlib.Core.List.{List, [], ◌∷◌, ◌++◌}
use mathlib.Core.Path.{◌≡◌, refl, sym, ap, ◌∙◌}
use lib.ListN.{length, get_or, set, drop, length-append, length-drop, get_or-append}
use lib.Seq.{get_or-append-add, get_or-drop, drop_at}
use borrow.Rule.Slice.PartMut.{put_mid}
use Rattle.sets.specs.Sets.{most}
use Rattle.orders.specs.Book.{Written, order_from, entry_cells, present_cell, bucket_cell, same_cell}

pub written : (s head link : ℕ) (preds old : List ℕ) → entry_cells ≤ length old → length preds ≡ most
    → Written s head link preds old
    (put_mid order_from most (set (set (set old present_cell s) bucket_cell head) same_cell link) preds)
written s head link preds (a ∷ b ∷ c ∷ d ∷ rest) room all =
    let front : List ℕ = s ∷ head ∷ link ∷ d ∷ [] in
    record {
      size = omega (arith, length-append preds (drop most rest), length-drop most rest);
      present = refl;
      bucket = refl;
      same = refl;
      order = λ j l.
          get_or-append-add front (preds ++ drop most rest) j 0 ∙ get_or-append preds (drop most rest) 0 j (omega arith);
      behind = λ k l.
          let m : ℕ = k - entry_cells in
          let e : k ≡ entry_cells + m = omega arith in
          rw e
          (sym (get_or-drop entry_cells (front ++ (preds ++ drop most rest)) m 0)
          ∙ ap (λ (xs : List ℕ). get_or xs m 0) (drop_at preds (drop most rest) most all)
          ∙ get_or-drop entry_cells (a ∷ b ∷ c ∷ d ∷ rest) m 0);
    }
written s head link preds [] room all = absurd (omega arith)
written s head link preds (a ∷ []) room all = absurd (omega arith)
written s head link preds (a ∷ b ∷ []) room all = absurd (omega arith)
written s head link preds (a ∷ b ∷ c ∷ []) room all = absurd (omega arith)
