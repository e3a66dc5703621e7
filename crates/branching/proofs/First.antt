-- Of the numbers below n that pass a test, the first one of least cost.
use Prim.Native.Nat.{ℕ, zero, suc, ◌≤◌, ◌<◌}
use native.Mathlib.Nat.{not-suc-le-zero}
use native.Mathlib.Decide.{ℕ_discrete, dec_le}
use native.Mathlib.Omega.{arith}
use mathlib.Core.Bool.{Bool, true, false}
use mathlib.Core.Path.{◌≡◌, ap, sym, ◌∙◌}
use mathlib.Core.Logic.{◌⊎◌, inl, inr, ⊎_elim, by_cases}
use Rattle.base.proofs.Bools.{by_bool, true_not_false}

pub record First (n : ℕ) (test : ℕ → Bool) (cost : ℕ → ℕ) : Type 0 where
  pub who : ℕ
  pub below : who < n
  pub passes : test who ≡ true
  pub least : (i : ℕ) → i < n → test i ≡ true → cost who ≤ cost i
  pub tie : (i : ℕ) → i < n → test i ≡ true → cost who ≡ cost i → who ≤ i

module _ (test : ℕ → Bool) (cost : ℕ → ℕ) where
  -- n itself passes, and costs less than all below.
  last : (n : ℕ) → test n ≡ true → ((i : ℕ) → i < n → test i ≡ true → cost n < cost i) → First (suc n) test cost
  last n y low =
      record {
        who = n;
        below = omega arith;
        passes = y;
        least =
            λ i l e.
            by_cases (ℕ_discrete i n) (λ q. omega (arith, ap cost q)) (λ ne. omega (arith, low i (omega arith) e));
        tie =
            λ i l e c.
            by_cases (ℕ_discrete i n) (λ q. omega arith)
            (λ ne. absurd (omega (arith, low i (omega arith) e)));
      }

  -- One below n costs no more than n.
  earlier : (n : ℕ) (f : First n test cost) → (test n ≡ true → cost f.who ≤ cost n) → First (suc n) test cost
  earlier n f low =
      record {
        who = f.who;
        below = omega (arith, f.below);
        passes = f.passes;
        least =
            λ i l e.
            by_cases
            (ℕ_discrete i n)
            (λ q. omega (arith, ap cost q, low (sym (ap test q) ∙ e)))
            (λ ne. f.least i (omega arith) e);
        tie =
            λ i l e c.
            by_cases (ℕ_discrete i n) (λ q. omega (arith, f.below)) (λ ne. f.tie i (omega arith) e c);
      }

  look : (n : ℕ) → First n test cost ⊎ ((i : ℕ) → i < n → test i ≡ false)
  look zero = inr (λ i l. absurd (not-suc-le-zero l))
  look (suc n) =
      by_bool
      (test n)
      (λ y.
      ⊎_elim
      (λ f.
      by_cases
      (dec_le (cost f.who) (cost n))
      (λ le. inl (earlier n f (λ _. le)))
      (λ gt. inl (last n y (λ i l e. omega (arith, f.least i l e)))))
      (λ none. inl (last n y (λ i l e. true_not_false e (none i l))))
      (look n))
      (λ z.
      ⊎_elim
      (λ f. inl (earlier n f (λ y. true_not_false y z)))
      (λ none. inr (λ i l. by_cases (ℕ_discrete i n) (λ q. ap test q ∙ z) (λ ne. none i (omega arith))))
      (look n))

  pub first_of : (n i : ℕ) → i < n → test i ≡ true → First n test cost
  first_of n i l y = ⊎_elim (λ f. f) (λ none. true_not_false y (none i l)) (look n)
