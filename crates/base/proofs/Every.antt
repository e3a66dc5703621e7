-- A test that every element of a list passes.
use Prim.Native.Nat.{ℕ, zero, suc, ◌<◌, suc-le-suc}
use mathlib.Core.Bool.{Bool, true, ◌&&◌, and_assoc}
use mathlib.Core.List.{List, [], ◌∷◌, ◌++◌}
use mathlib.Core.Path.{◌≡◌, refl, sym, ap, ◌∙◌}
use native.Mathlib.Nat.{not-suc-le-zero, le_of_suc-le-suc}
use native.Mathlib.Omega.{arith}
use lib.ListN.{length, get_or}
use Rattle.base.specs.Lists.{every}
use Rattle.base.proofs.Bools.{both, and_left, and_right}

module _ {ℓ} {A : Type ℓ} (f : A → Bool) where
  pub every_append : (xs ys : List A) → every f (xs ++ ys) ≡ (every f xs && every f ys)
  every_append [] ys = refl
  every_append (x ∷ xs) ys = ap (λ b. f x && b) (every_append xs ys) ∙ sym (and_assoc (f x) (every f xs) (every f ys))

  pub every_at : (xs : List A) (i : ℕ) (d : A) → every f xs ≡ true → i < length xs → f (get_or xs i d) ≡ true
  every_at [] i d e h = absurd (not-suc-le-zero h)
  every_at (x ∷ xs) zero d e h = and_left (f x) (every f xs) e
  every_at (x ∷ xs) (suc i) d e h = every_at xs i d (and_right (f x) (every f xs) e) (le_of_suc-le-suc h)

  pub every_of : (xs : List A) (d : A) → ((i : ℕ) → i < length xs → f (get_or xs i d) ≡ true) → every f xs ≡ true
  every_of [] d h = refl
  every_of (x ∷ xs) d h = both (h 0 (omega arith)) (every_of xs d (λ i k. h (suc i) (suc-le-suc k)))

  -- Another test that passes all that passes this one.
  pub every_then : (g : A → Bool) → ((x : A) → f x ≡ true → g x ≡ true) → (xs : List A) → every f xs ≡ true
      → every g xs ≡ true
  every_then g h [] e = refl
  every_then g h (x ∷ xs) e =
      both (h x (and_left (f x) (every f xs) e)) (every_then g h xs (and_right (f x) (every f xs) e))

  pub every_both : (g : A → Bool) (xs : List A) → every f xs ≡ true → every g xs ≡ true
      → every (λ x. f x && g x) xs ≡ true
  every_both g [] e h = refl
  every_both g (x ∷ xs) e h =
      both (both (and_left (f x) (every f xs) e) (and_left (g x) (every g xs) h))
      (every_both g xs (and_right (f x) (every f xs) e) (and_right (g x) (every g xs) h))
