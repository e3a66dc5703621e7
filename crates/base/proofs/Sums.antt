-- Sums over a list of numbers: of numbers below n, each taken once, they are at most the sum below n; and of those that
-- pass a test they are the sum below n of these.
use Prim.Native.Nat.{ℕ, zero, suc, ◌+◌, ◌≤◌, ◌<◌, zero-le}
use native.Mathlib.Omega.{arith}
use mathlib.Core.Bool.{Bool, true, false, cond}
use mathlib.Core.List.Memᴰ
use mathlib.Core.List.{List, [], ◌∷◌, ◌++◌, Memᴰ}
use mathlib.Core.List.Pairwise
use mathlib.Core.List.{Nodup, Pairwise-cons, Pairwise-singleton}
use mathlib.Core.Logic.{◌≢◌}
use mathlib.Core.Path.{◌≡◌, refl, sym, ap₂, ◌∙◌}
use lib.Dec.{eqb}
use borrow.Author.Tests.{eq-eqb, ne_eqb}
use Rattle.base.specs.Below.{sum_below}
use Rattle.base.specs.Lists.{gather, sum_over}
use Rattle.base.proofs.Below.{sum_eq_but}
use Rattle.base.proofs.Bools.{cond_true, cond_false}
use Rattle.base.proofs.Lists.{gather_is, gather_nodup}

pub sum_over_same : (f g : ℕ → ℕ) (xs : List ℕ) → ((i : ℕ) → Memᴰ i xs → f i ≡ g i) → sum_over f xs ≡ sum_over g xs
sum_over_same f g [] h = refl
sum_over_same f g (x ∷ xs) h =
    ap₂ ◌+◌ (h x (Memᴰ.head refl)) (sum_over_same f g xs (λ i m. h i (Memᴰ.tail m)))

pub sum_over_below : (n : ℕ) (f : ℕ → ℕ) (xs : List ℕ) → Nodup xs → ((i : ℕ) → Memᴰ i xs → i < n)
    → sum_over f xs ≤ sum_below n f
sum_over_below n f [] once low = zero-le
sum_over_below n f (x ∷ xs) once low =
    let (apart, rest) = Pairwise-cons.0 once in
    let but : ℕ → ℕ = λ i. cond (eqb i x) 0 (f i) in
    let others : (i : ℕ) → i ≢ x → f i ≡ but i = λ i ne. sym (cond_false 0 (f i) (ne_eqb i x ne)) in
    omega (
      arith,
      sum_over_same f but xs (λ i m. others i (λ e. apart i ∣ m ∣₁ (sym e))),
      sum_over_below n but xs rest (λ i m. low i (Memᴰ.tail m)),
      sum_eq_but n f but x (f x) (low x (Memᴰ.head refl)) (λ i l ne. others i ne)
          (omega (arith, cond_true 0 (f x) (eq-eqb x x refl))),
    )

-- The numbers below n that pass.
abbrev pub chosen_below : ℕ → (ℕ → Bool) → List ℕ
chosen_below n test = gather n λ i. cond (test i) (i ∷ []) []

one_chosen : (b : Bool) (i : ℕ) {a : ℕ} → Memᴰ a (cond b (i ∷ []) []) → (a ≡ i) × (b ≡ true)
one_chosen true i m = (Memᴰ.eq_of_singleton m, refl)
one_chosen false i m = absurd (Memᴰ.not-nil m)

one_nodup : (b : Bool) (i : ℕ) → Nodup (cond b (i ∷ []) [])
one_nodup true i = Pairwise-singleton ◌≢◌ i
one_nodup false i = Pairwise.nil

one_sum : (f : ℕ → ℕ) (b : Bool) (i : ℕ) (xs : List ℕ)
    → sum_over f (xs ++ cond b (i ∷ []) []) ≡ sum_over f xs + cond b (f i) 0
one_sum f true i [] = omega arith
one_sum f false i [] = omega arith
one_sum f b i (x ∷ xs) = omega (arith, one_sum f b i xs)

module _ (test : ℕ → Bool) where
  pub chosen_is : (n : ℕ) {a : ℕ} → Memᴰ a (chosen_below n test) → (a < n) × (test a ≡ true)
  chosen_is n {a} m =
      let (i, l, here) = gather_is n (λ i. cond (test i) (i ∷ []) []) m in
      let (e, y) = one_chosen (test i) i here in
      rw e (l, y)

  pub chosen_nodup : (n : ℕ) → Nodup (chosen_below n test)
  chosen_nodup n =
      gather_nodup n (λ i. cond (test i) (i ∷ []) []) (λ i l. one_nodup (test i) i)
      (λ i j a m k. sym (one_chosen (test i) i m).0 ∙ (one_chosen (test j) j k).0)

  pub chosen_sum : (f : ℕ → ℕ) (n : ℕ) → sum_over f (chosen_below n test) ≡ sum_below n λ i. cond (test i) (f i) 0
  unfolding gather sum_below
  chosen_sum f zero = refl
  chosen_sum f (suc n) = one_sum f (test n) n (chosen_below n test) ∙ omega (arith, chosen_sum f n)
