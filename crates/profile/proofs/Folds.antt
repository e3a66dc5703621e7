-- The folds of the loops over a set's members, as the definitions have them.
use Prim.Native.Nat.{ℕ, ◌+◌, ◌^◌, ◌≤◌, ◌<◌, max}
use native.Mathlib.Omega.{arith}
use mathlib.Core.Bool.{cond}
use mathlib.Core.List.{List, [], ◌∷◌, foldl}
use mathlib.Core.Path.{◌≡◌, ap, ◌∙◌}
use Rattle.std.specs.Prelude.{Some}
use Rattle.base.proofs.Bools.{cond_true, cond_false}
use Rattle.base.specs.Below.{max_below, sum_below}
use Rattle.sets.specs.Sets.{most, has}
use Rattle.sets.specs.Each.{TakesLowest}
use Rattle.sets.specs.declared.Iter.{Iter}
use Rattle.sets.proofs.Members.{members, fold_members, turn}
use Rattle.sets.proofs.Turns.{taken}
use Rattle.profile.specs.Work.{end_at, latest_of}

-- The latest of the ends of a set's members.
pub latest_fold : (w : List ℕ) (set : ℕ) → foldl (λ a i. max a (end_at w i)) 0 (members set) ≡ latest_of w set
unfolding members max_below
latest_fold w set =
    fold_members set (λ a i. max a (end_at w i)) (λ n. max_below n λ j. cond (has set j) (end_at w j) 0)
    (λ i e. ap (max (max_below i λ j. cond (has set j) (end_at w j) 0)) (cond_true (end_at w i) 0 e))
    (λ i e. ap (max (max_below i λ j. cond (has set j) (end_at w j) 0)) (cond_false (end_at w i) 0 e) ∙ omega arith)
    most

-- A sum over them, which is never below its part so far.
module _ (f : ℕ → ℕ) where
  pub sum_fold : (set : ℕ) → foldl (λ a i. a + f i) 0 (members set) ≡ sum_below most λ i. cond (has set i) (f i) 0
  unfolding members sum_below
  sum_fold set =
      fold_members set (λ a i. a + f i) (λ n. sum_below n λ i. cond (has set i) (f i) 0)
      (λ i e. ap ((sum_below i λ j. cond (has set j) (f j) 0) +◌) (cond_true (f i) 0 e))
      (λ i e. ap ((sum_below i λ j. cond (has set j) (f j) 0) +◌) (cond_false (f i) 0 e) ∙ omega arith)
      most

  pub fold_above : (l : List ℕ) (a : ℕ) → a ≤ foldl (λ a i. a + f i) a l
  fold_above [] a = omega arith
  fold_above (i ∷ l) a = omega (arith, fold_above l (a + f i))

-- A turn of a loop that folds over the members still to come.
pub fold_taken : {A : Type 0} (step : A → ℕ → A) {a a' total : A} {s t : Iter} {i : ℕ}
    → (s.left < 2 ^ most) × (foldl step a (members s.left) ≡ total)
    → TakesLowest s (Some i) t
    → a' ≡ step a i
    → (t.left < 2 ^ most) × (foldl step a' (members t.left) ≡ total)
fold_taken step (low, so_far) took new =
    ((taken low took).low, turn step low (omega (arith, took.0)) took.1 took.2 new so_far)
