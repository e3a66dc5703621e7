-- The schedules that count, each with the project and the number of its variant, and what is kept after them.
use Prim.Native.Nat.{ℕ, zero, suc, ◌+◌, ◌≤◌, ◌<◌}
use native.Mathlib.Decide.{dec_le}
use native.Mathlib.Numerals.{add-one}
use native.Mathlib.Omega.{arith}
use mathlib.Core.Logic.{by_cases}
use mathlib.Core.Path.{◌≡◌, refl, ap, ◌∙◌}
use mathlib.Core.List.Memᴰ
use mathlib.Core.List.{List, [], ◌∷◌, ◌++◌, foldl, foldl-append, foldl-map, Memᴰ}
use borrow.Author.Tests.{le-leb, lt-leb}
use Rattle.base.specs.Lists.{gather}
use Rattle.base.proofs.Bools.{cond_true, cond_false}
use Rattle.base.proofs.Lists.{gather_is, gather_mem}
use Rattle.schedule.specs.Project.{Project}
use Rattle.tally.specs.Seen.{Kept, setting_of, counted, seen}
use Rattle.tally.specs.Entries.{Entry, entry_of, entries, entries_below, step, run}

-- The entries of each variant v: p v is its project, and x v are the rows that count for it.
module _ (p : ℕ → Project) (x : ℕ → List (List ℕ)) where
  pub entry_is : (n : ℕ) (e : Entry) → Memᴰ e (entries_below p x n)
      → (v : ℕ) × (v < n) × (row : List ℕ) × Memᴰ row (x v) × (entry_of (p v) v row ≡ e)
  unfolding entries
  entry_is n e m =
      let (v, l, k) = gather_is n (entries p x) m in
      let (row, y, q) = Memᴰ.of_map (entry_of (p v) v) (x v) k in (v, l, row, y, q)

  pub entry_in : (n v : ℕ) (row : List ℕ) → v < n → Memᴰ row (x v)
      → Memᴰ (entry_of (p v) v row) (entries_below p x n)
  unfolding entries
  entry_in n v row l m = gather_mem n (entries p x) v l (Memᴰ.map (entry_of (p v) v) m)

module _ (acts cap : ℕ) where
  pub step_counts : (k : Kept) (e : Entry) → k.tally.count ≤ cap
      → step acts cap k e ≡ counted e.project (setting_of e.variant acts cap) k e.row
  unfolding seen
  step_counts k e l =
      cond_true (counted e.project (setting_of e.variant acts cap) k e.row) k
      (le-leb k.tally.count cap l)

  pub step_stays : (k : Kept) (e : Entry) → cap < k.tally.count → step acts cap k e ≡ k
  unfolding seen
  step_stays k e l =
      cond_false (counted e.project (setting_of e.variant acts cap) k e.row) k
      (lt-leb k.tally.count cap l)

  -- Above the cap nothing changes, so a loop may stop or go on.
  pub stays : (k : Kept) (es : List Entry) → cap < k.tally.count → run acts cap k es ≡ k
  stays k [] l = refl
  stays k (e ∷ es) l = ap (λ (x : Kept). run acts cap x es) (step_stays k e l) ∙ stays k es l

  pub run_append : (k : Kept) (es fs : List Entry) → run acts cap k (es ++ fs) ≡ run acts cap (run acts cap k es) fs
  run_append k es fs = foldl-append (step acts cap) k es fs

  -- Variant by variant.
  module _ (p : ℕ → Project) (x : ℕ → List (List ℕ)) (k : Kept) where
    abbrev after : ℕ → Kept
    after n = run acts cap k (entries_below p x n)

    pub run_none : run acts cap k (entries_below p x 0) ≡ k
    unfolding gather
    run_none = refl

    pub run_next : (v : ℕ) → run acts cap k (entries_below p x (v + 1))
        ≡ foldl (seen (p v) (setting_of v acts cap)) (run acts cap k (entries_below p x v)) (x v)
    unfolding gather entries
    run_next v =
        ap after (add-one v)
        ∙ run_append k (entries_below p x v) (entries p x v)
        ∙ foldl-map (entry_of (p v) v) (step acts cap) (x v) (after v)

    -- Above the cap after the first v variants: what is kept then is what is kept after all.
    pub run_done : (v n : ℕ) → v ≤ n → cap < (run acts cap k (entries_below p x v)).tally.count
        → run acts cap k (entries_below p x n) ≡ run acts cap k (entries_below p x v)
    unfolding gather
    run_done v zero l o = let q : zero ≡ v = omega arith in ap after q
    run_done v (suc n) l o =
        by_cases
        (dec_le v n)
        (λ b.
        run_append k (entries_below p x n) (entries p x n)
        ∙ ap (λ (y : Kept). run acts cap y (entries p x n)) (run_done v n b o)
        ∙ stays (after v) (entries p x n) o)
        (λ a. let q : suc n ≡ v = omega arith in ap after q)
