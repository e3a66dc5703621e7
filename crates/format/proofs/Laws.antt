-- How the definitions of a line unfold: `digits`, and `matched` and `filled` at each kind of a form's byte.
use Prim.Native.Nat.{ℕ}
use mathlib.Core.Bool.{true, false, ◌&&◌}
use mathlib.Core.List.{List, [], ◌∷◌, ◌++◌}
use mathlib.Core.Option.{none}
use mathlib.Core.Path.{◌≡◌, refl, ap, ◌∙◌}
use borrow.Author.Tests.{eqb-true}
use lib.Dec.{ltb, eqb}
use lib.ListN.{length, get_or, drop}
use Rattle.plan.specs.Limits.{most_digits}
use Rattle.plan.specs.Plan.{is_letter}
use Rattle.base.specs.Lists.{every}
use Rattle.format.specs.Lines.{is_digit, digits, is_value, decimal, numeral, with_value, matched, filled}
use Rattle.base.proofs.Bools.{by_bool, both, and_left, and_right, elim_true, elim_false}
use Rattle.format.proofs.Tests.{choose}

-- The digits at the front.
pub digits_some : (b : ℕ) (s : List ℕ) → is_digit b ≡ true → digits (b ∷ s) ≡ b ∷ digits s
unfolding digits
digits_some b s e = elim_true _ _ _ e

pub digits_none : (b : ℕ) (s : List ℕ) → is_digit b ≡ false → digits (b ∷ s) ≡ []
unfolding digits
digits_none b s e = elim_false _ _ _ e

pub digits_nil : digits [] ≡ []
unfolding digits
digits_nil = refl

-- They are digits, and a prefix; what follows them begins with no digit.
pub digits_digits : (s : List ℕ) → every is_digit (digits s) ≡ true
unfolding digits
digits_digits [] = refl
digits_digits (b ∷ s) =
    by_bool (is_digit b)
    (λ e. rw (digits_some b s e) (both e (digits_digits s)))
    (λ e. rw (digits_none b s e))

pub digits_prefix : (s : List ℕ) → s ≡ digits s ++ drop (length (digits s)) s
digits_prefix [] = rw digits_nil
digits_prefix (b ∷ s) =
    by_bool (is_digit b)
    (λ e. rw (digits_some b s e) (ap (λ t. b ∷ t) (digits_prefix s)))
    (λ e. rw (digits_none b s e))

-- Digits are read whole before what is empty or begins with no digit.
pub digits_whole : (ds s : List ℕ) → every is_digit ds ≡ true → is_digit (get_or s 0 0) ≡ false → digits (ds ++ s) ≡ ds
digits_whole [] [] e n = digits_nil
digits_whole [] (b ∷ s) e n = digits_none b s n
digits_whole (d ∷ ds) s e n =
    digits_some d (ds ++ s) (and_left (is_digit d) (every is_digit ds) e)
    ∙ ap (λ t. d ∷ t) (digits_whole ds s (and_right (is_digit d) (every is_digit ds) e) n)

-- A form's byte: `#`, `@`, or one that stands for itself.
pub data Kind : ℕ → Type 0 where
  value : Kind 35
  letter : Kind 64
  literal : {b : ℕ} → eqb b 35 ≡ false → eqb b 64 ≡ false → Kind b

pub kind : (b : ℕ) → Kind b
kind b =
    by_bool (eqb b 35)
    (λ e. rw (eqb-true b 35 e) value)
    (λ e. by_bool (eqb b 64) (λ q. rw (eqb-true b 64 q) letter) (λ q. literal e q))

module _ (form s : List ℕ) where
  -- `#`
  pub matched_value :
      is_value (digits s) ≡ true
      → matched (35 ∷ form) s ≡ with_value (decimal 0 (digits s)) (matched form (drop (length (digits s)) s))
  unfolding matched
  matched_value e = elim_true _ _ _ e

  pub matched_no_value : is_value (digits s) ≡ false → matched (35 ∷ form) s ≡ none
  unfolding matched
  matched_no_value e = elim_false _ _ _ e

  -- `@`
  pub matched_letter : is_letter (get_or s 0 0) ≡ true
      → matched (64 ∷ form) s ≡ with_value (get_or s 0 0) (matched form (drop 1 s))
  unfolding matched
  matched_letter e = elim_true _ _ _ e

  pub matched_no_letter : is_letter (get_or s 0 0) ≡ false → matched (64 ∷ form) s ≡ none
  unfolding matched
  matched_no_letter e = elim_false _ _ _ e

  -- a byte that stands for itself
  module _ (b : ℕ) (p : eqb b 35 ≡ false) (q : eqb b 64 ≡ false) where
    at_literal : matched (b ∷ form) s ≡ choose (ltb 0 (length s) && eqb (get_or s 0 0) b) (matched form (drop 1 s)) none
    unfolding matched
    at_literal = elim_false _ _ _ p ∙ elim_false _ _ _ q

    pub matched_literal : (ltb 0 (length s) && eqb (get_or s 0 0) b) ≡ true
        → matched (b ∷ form) s ≡ matched form (drop 1 s)
    matched_literal e = at_literal ∙ elim_true _ _ _ e

    pub matched_no_literal : (ltb 0 (length s) && eqb (get_or s 0 0) b) ≡ false → matched (b ∷ form) s ≡ none
    matched_no_literal e = at_literal ∙ elim_false _ _ _ e

module _ (form vs : List ℕ) where
  pub filled_value : filled (35 ∷ form) vs ≡ numeral most_digits (get_or vs 0 0) ++ filled form (drop 1 vs)
  unfolding filled
  filled_value = refl

  pub filled_letter : filled (64 ∷ form) vs ≡ get_or vs 0 0 ∷ filled form (drop 1 vs)
  unfolding filled
  filled_letter = refl

  pub filled_literal : (b : ℕ) → eqb b 35 ≡ false → eqb b 64 ≡ false → filled (b ∷ form) vs ≡ b ∷ filled form vs
  unfolding filled
  filled_literal b p q = elim_false _ _ _ p ∙ elim_false _ _ _ q
