-- Lines one behind the other, one a turn.
use Prim.Native.Nat.{ℕ, ◌+◌, ◌*◌, ◌≤◌, ◌<◌}
use mathlib.Core.List.{List}
use mathlib.Core.Path.{◌≡◌, ap}
use native.Mathlib.Nat.{mul-suc}
use native.Mathlib.Numerals.{add-one}
use native.Mathlib.Omega.{arith}
use lib.ListN.{length, get_or, drop, drop_of_length-le}
use lib.Seq.{drop-cons}
use Rattle.format.proofs.Readers.{Joined}
use Rattle.writer.specs.Wrote.{Wrote}
use Rattle.writer.proofs.Laws.{wrote_none, wrote_then}

-- After the first i of xs, no line longer than `wide`: whatever writes the lines of the others has written all.
pub record Left {A : Type 0} (wide : ℕ) (writes : List A → List ℕ) (xs : List A) (area₀ : List ℕ) (at : ℕ)
    (area : List ℕ) (next i : ℕ) : Type 0 where
  pub near : next ≤ at + wide * i
  pub write : (end : ℕ) (last : List ℕ) → Wrote area next (writes (drop i xs)) end last
      → Wrote area₀ at (writes xs) end last

-- One more line, and no more.
module _ {A : Type 0} {wide : ℕ} {line : A → List ℕ} {writes : List A → List ℕ} {xs : List A} {area₀ area : List ℕ}
    {at next i : ℕ} (joined : Joined line writes) (left : Left wide writes xs area₀ at area next i)
  where
    pub left_then : (x d : A) {after : List ℕ} {end : ℕ} → i < length xs → x ≡ get_or xs i d → length (line x) ≤ wide
        → Wrote area next (line x) end after
        → Left wide writes xs area₀ at after end (i + 1)
    left_then x d h e short w =
        record {
          near = omega (arith, left.near, w.place, mul-suc wide i, ap (λ (k : ℕ). wide * k) (add-one i));
          write =
              λ end last v.
              left.write end last
              (rw (drop-cons xs i d h, joined.cons, ← e) (wrote_then w (rw add-one at v)));
        }

    pub left_none : length xs ≤ i → Wrote area₀ at (writes xs) next area
    left_none h = left.write next area (rw (drop_of_length-le xs h, joined.nil) (wrote_none area next))
