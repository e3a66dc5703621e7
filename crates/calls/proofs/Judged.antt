-- From the judgement of the file to the calls' answers.
use Prim.Native.Nat.{ℕ, ◌+◌, ◌*◌, ◌^◌, ◌≤◌, ◌<◌}
use native.Mathlib.Nat.{mul-le-mul_left}
use native.Mathlib.Omega.{arith}
use mathlib.Core.Path.{◌≡◌, sym, subst}
use mathlib.Core.List.{List}
use Rattle.plan.specs.Outcome.{Outcome}
use Rattle.plan.specs.Limits.{most_acts, word_values}
use Rattle.judge.specs.Judge.{Verdict, judge}
use Rattle.answers.specs.Listed.{list_by, list_of}
use Rattle.answers.specs.Shortest.{best_by, best_of}
use Rattle.answers.specs.declared.Best.{Best}
use Rattle.std.specs.Prelude.{Result}
use Rattle.plan.specs.declared.Refusal.{Refusal}

module _ (s : List ℕ) (v : Verdict) (is : judge s ≡ v) (cap : ℕ) where
  pub list_of_lem : (before : List ℕ) (o : Outcome (Result ℕ Refusal)) → o ≡ list_by v cap before → o ≡ list_of s cap before
  unfolding list_of
  list_of_lem before o = subst (λ (x : Verdict). o ≡ list_by x cap before) (sym is)

  pub best_of_lem : (r : Result Best Refusal) → r ≡ best_by v cap → r ≡ best_of s cap
  unfolding best_of
  best_of_lem r = subst (λ (x : Verdict). r ≡ best_by x cap) (sym is)

-- The cells of so many rows, each a variant and at most `most_acts` starts, are a number of 64 bits.
pub cells_fit : (rows width : ℕ) → rows < word_values → width ≤ most_acts + 1 → rows * width < 2 ^ 64
cells_fit rows width few narrow = omega (arith, mul-le-mul_left rows narrow)
