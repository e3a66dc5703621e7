-- How many are counted: all of them, or one more than the cap.
use Prim.Native.Nat.{ℕ, suc, ◌+◌, ◌≤◌, ◌<◌, min}
use native.Mathlib.Decide.{dec_le}
use native.Mathlib.Omega.{arith}
use mathlib.Core.Logic.{by_cases}
use mathlib.Core.Path.{◌≡◌, sym, ap, ◌∙◌}
use mathlib.Core.List.{List, [], ◌∷◌}
use lib.Dec.{leb}
use lib.ListN.{length}
use borrow.Author.Tests.{lt-leb}
use Rattle.tally.specs.Seen.{Kept, better, counted}
use Rattle.tally.specs.Entries.{Entry, step, run}
use Rattle.tally.proofs.Entries.{step_counts, stays}

module _ (acts cap : ℕ) where
  pub step_count : (k : Kept) (e : Entry) → k.tally.count ≤ cap
      → (step acts cap k e).tally.count ≡ k.tally.count + 1
  unfolding counted better
  step_count k e l = ap (λ (x : Kept). x.tally.count) (step_counts acts cap k e l)

  pub count_from : (k : Kept) (es : List Entry) → k.tally.count ≤ suc cap
      → (run acts cap k es).tally.count ≡ min (k.tally.count + length es) (suc cap)
  count_from k [] l = omega arith
  count_from k (e ∷ es) l =
      by_cases
      (dec_le k.tally.count cap)
      (λ c.
      let one : (step acts cap k e).tally.count ≡ k.tally.count + 1 = step_count k e c in
      omega (arith, count_from (step acts cap k e) es (omega arith)))
      (λ o. omega (arith, ap (λ (x : Kept). x.tally.count) (stays acts cap k (e ∷ es) (omega arith))))

  -- From a count of 0.
  module _ (k : Kept) (es : List Entry) (fresh : k.tally.count ≡ 0) where
    pub count_within : length es ≤ cap → (run acts cap k es).tally.count ≡ length es
    count_within l = omega (arith, count_from k es (omega arith))

    pub count_over : cap < length es → (run acts cap k es).tally.count ≡ suc cap
    count_over l = omega (arith, count_from k es (omega arith))

    -- So the count tells whether the cap allows them.
    pub count_tells : leb (run acts cap k es).tally.count cap ≡ leb (length es) cap
    count_tells =
        by_cases
        (dec_le (length es) cap)
        (λ l. ap (λ (c : ℕ). leb c cap) (count_within l))
        (λ o.
        lt-leb (run acts cap k es).tally.count cap (omega (arith, count_over (omega arith)))
        ∙ sym (lt-leb (length es) cap (omega arith)))
