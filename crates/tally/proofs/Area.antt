-- The area: the rows of the schedules in the order in which they are seen, from the front with no gap. What stands
-- behind them is as it was.
use Prim.Native.Nat.{ℕ, zero, suc, ◌+◌, ◌*◌, ◌≤◌}
use native.Mathlib.Nat.{zero-mul, suc-mul, add-mul}
use native.Mathlib.Numerals.{add-one}
use native.Mathlib.Omega.{arith}
use mathlib.Core.Path.{◌≡◌, refl, sym, ap, ap₂, ◌∙◌}
use mathlib.Core.List.{List, [], ◌∷◌, ◌++◌, map, append_assoc, map-append, Memᴰ}
use lib.ListN.{length, take, drop, length-append, length-drop}
use lib.Seq.{take_at, drop-append-add, drop-drop}
use borrow.Author.Tests.{le-leb}
use Rattle.base.specs.Lists.{gather}
use Rattle.base.proofs.Bools.{cond_true}
use Rattle.base.proofs.Lists.{map_map}
use Rattle.schedule.specs.Project.{Project}
use Rattle.tally.specs.Seen.{Kept, row_placed, counted}
use Rattle.tally.specs.Entries.{Entry, entry_of, entries, entries_below, step, run}
use Rattle.tally.proofs.Entries.{step_counts}
use Rattle.tally.proofs.Count.{step_count}

-- The rows

abbrev pub line : Entry → List ℕ
line e = e.variant ∷ e.row

abbrev pub lines : List Entry → List (List ℕ)
lines es = map line es

-- Variant by variant they are those of the schedules that count.
pub lines_below : (p : ℕ → Project) (x : ℕ → List (List ℕ)) (n : ℕ)
    → lines (entries_below p x n) ≡ gather n (λ v. map (v ∷◌) (x v))
unfolding gather entries
lines_below p x zero = refl
lines_below p x (suc n) =
    map-append line (entries_below p x n) (entries p x n)
    ∙ ap₂ ◌++◌ (lines_below p x n) (map_map line (entry_of (p n) n) (x n))

-- One row is placed

pub placed_at : (front rest row : List ℕ) (at : ℕ) → length front ≡ at → length row ≤ length rest
    → row_placed (front ++ rest) at row ≡ front ++ row ++ drop (length row) rest
unfolding row_placed
placed_at front rest row at e l =
    cond_true
    (take at (front ++ rest) ++ row ++ drop (at + length row) (front ++ rest))
    (front ++ rest)
    (le-leb (at + length row) (length (front ++ rest)) (omega (arith, length-append front rest)))
    ∙ ap₂ (λ (a b : List ℕ). a ++ row ++ b)
    (take_at front rest at e)
    (ap (λ (n : ℕ). drop (n + length row) (front ++ rest)) (sym e) ∙ drop-append-add front rest (length row))

regroup : (front r cells rest : List ℕ) (n : ℕ)
    → front ++ r ++ (cells ++ drop n (drop (length r) rest)) ≡ front ++ (r ++ cells ++ drop (length r + n) rest)
regroup front r cells rest n = rw drop-drop (simp append_assoc)

module _ (acts cap : ℕ) where
  step_area : (k : Kept) (e : Entry) → k.tally.count ≤ cap
      → (step acts cap k e).area ≡ row_placed k.area (k.tally.count * suc acts) (line e)
  unfolding counted
  step_area k e c =
      ap (λ (x : Kept). x.area) (step_counts acts cap k e c)
      ∙ ap (λ (w : ℕ). row_placed k.area (k.tally.count * w) (line e)) (add-one acts)

  -- The cells of the rows, by any function that joins rows one after the other.
  module _ (cells : List (List ℕ) → List ℕ) (none : cells [] ≡ [])
      (more : (r : List ℕ) (rs : List (List ℕ)) → cells (r ∷ rs) ≡ r ++ cells rs) where
    -- The front holds the rows counted so far.
    pub area_from : (k : Kept) (es : List Entry) (front rest : List ℕ)
        → ((e : Entry) → Memᴰ e es → length e.row ≡ acts) → k.area ≡ front ++ rest
        → length front ≡ k.tally.count * suc acts
        → k.tally.count + length es ≤ suc cap → length es * suc acts ≤ length rest
        → (run acts cap k es).area ≡ front ++ (cells (lines es) ++ drop (length es * suc acts) rest)
    area_from k [] front rest long a f c l =
        a ∙ sym (ap₂ (λ (x : List ℕ) (n : ℕ). front ++ (x ++ drop n rest)) none (zero-mul (suc acts)))
    area_from k (e ∷ es) front rest long a f c l =
        let next : Kept = step acts cap k e in
        let r : List ℕ = line e in
        let one : next.tally.count ≡ k.tally.count + 1 = step_count acts cap k e (omega arith) in
        let wide : length r ≡ suc acts = ap suc (long e (Memᴰ.head refl)) in
        let all : length (e ∷ es) * suc acts ≡ length es * suc acts + suc acts = suc-mul (length es) (suc acts) in
        let split : length r + length es * suc acts ≡ length (e ∷ es) * suc acts = omega arith in
        area_from next es (front ++ r) (drop (length r) rest) (λ d m. long d (Memᴰ.tail m))
        (step_area k e (omega arith)
        ∙ ap (λ (x : List ℕ). row_placed x (k.tally.count * suc acts) r) a
        ∙ placed_at front rest r (k.tally.count * suc acts) f (omega arith))
        (length-append front r ∙ omega (arith, ap (◌* suc acts) one, add-mul k.tally.count 1 (suc acts)))
        (omega arith)
        (omega (arith, length-drop (length r) rest))
        ∙ regroup front r (cells (lines es)) rest (length es * suc acts)
        ∙ ap₂ (λ (x : List ℕ) (n : ℕ). front ++ (x ++ drop n rest)) (sym (more r (lines es))) split

    pub area_is : (k : Kept) (es : List Entry)
        → ((e : Entry) → Memᴰ e es → length e.row ≡ acts) → k.tally.count ≡ 0 → length es ≤ cap
        → length es * suc acts ≤ length k.area
        → (run acts cap k es).area ≡ cells (lines es) ++ drop (length es * suc acts) k.area
    area_is k es long fresh c l =
        area_from k es [] k.area long refl (sym (ap (◌* suc acts) fresh ∙ zero-mul (suc acts))) (omega arith) l
