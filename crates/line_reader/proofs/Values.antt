-- The digits at the front of a text, and the number that they say.
use Prim.Native.Nat.{ℕ, zero, suc, min, ◌+◌, ◌-◌, ◌*◌, ◌^◌, ◌≤◌, ◌<◌}
use mathlib.Core.Bool.{Bool, true, false, not, cond, ◌||◌}
use mathlib.Core.List.{List, [], ◌∷◌}
use mathlib.Core.Path.{◌≡◌, refl, sym, ap, subst, ◌∙◌}
use native.Mathlib.Numerals.{add-one}
use native.Mathlib.Nat.{pow-suc}
use native.Mathlib.Omega.{arith}
use lib.ListN.{length, get_or, take, drop, drop_of_length-le}
use lib.Seq.{drop-cons}
use lib.Dec.{ltb, eqb}
use borrow.Author.Tests.{ltb-false}
use Rattle.std.proofs.lemmas.List.{length-take, take_all, take-take}
use Rattle.std.specs.List.{position, position_or_len}
use Rattle.std.specs.Option.{unwrap_or}
use Rattle.base.specs.Lists.{every}
use Rattle.plan.specs.Limits.{between, most_digits}
use Rattle.base.proofs.Bools.{by_bool, both, and_left, elim_true, elim_false}
use Rattle.base.proofs.Every.{every_at}
use Rattle.format.specs.Lines.{is_digit, digits, is_value, decimal}
use Rattle.format.proofs.Tests.{between_facts}

module _ (b : ℕ) (s : List ℕ) where
  digits_more : is_digit b ≡ true → digits (b ∷ s) ≡ b ∷ digits s
  unfolding digits
  digits_more e = elim_true (is_digit b) _ _ e

  digits_end : is_digit b ≡ false → digits (b ∷ s) ≡ []
  unfolding digits
  digits_end e = elim_false (is_digit b) _ _ e

-- What holds of no digits, and of a digit before others, holds of the digits of each text.
by_digits : (P : List ℕ → List ℕ → Type 0) → ((s : List ℕ) → P s [])
    → ((b : ℕ) (s : List ℕ) → is_digit b ≡ true → P s (digits s) → P (b ∷ s) (b ∷ digits s))
    → (s : List ℕ) → P s (digits s)
unfolding digits
by_digits P none more [] = none []
by_digits P none more (b ∷ s) =
    by_bool (is_digit b)
    (λ e. subst (P (b ∷ s)) (sym (digits_more b s e)) (more b s e (by_digits P none more s)))
    (λ e. subst (P (b ∷ s)) (sym (digits_end b s e)) (none (b ∷ s)))

pub digits_within : (s : List ℕ) → length (digits s) ≤ length s
digits_within =
    by_digits (λ s ds. length ds ≤ length s) (λ s. omega arith) (λ b s e h. omega arith)

pub digits_taken : (s : List ℕ) → take (length (digits s)) s ≡ digits s
digits_taken = by_digits (λ s ds. take (length ds) s ≡ ds) (λ s. refl) (λ b s e h. ap (λ t. b ∷ t) h)

pub all_digits : (s : List ℕ) → every is_digit (digits s) ≡ true
all_digits = by_digits (λ s ds. every is_digit ds ≡ true) (λ s. refl) (λ b s e h. both e h)

-- The first byte that is no digit, or the end, is behind the digits.
first_other : (s : List ℕ) → position_or_len (λ b. not (is_digit b)) s ≡ length (digits s)
unfolding digits
first_other [] = refl
first_other (b ∷ s) =
    by_bool (is_digit b)
    (λ e.
    ap (λ (t : Bool). cond (not (not t)) (1 + position_or_len (λ b. not (is_digit b)) s) 0) e
    ∙ omega (arith, first_other s, ap length (digits_more b s e)))
    (λ e.
    ap (λ (t : Bool). cond (not (not t)) (1 + position_or_len (λ b. not (is_digit b)) s) 0) e
    ∙ sym (ap length (digits_end b s e)))

pub counted : (s : List ℕ) → unwrap_or (position (λ b. not (is_digit b)) s) (length s) ≡ length (digits s)
counted s =
    let n : ℕ = length (digits s) in
    rw (first_other s)
    (by_bool (ltb n (length s))
    (λ e. rw e)
    (λ e. rw e (omega (arith, digits_within s, ltb-false n (length s) e))))

-- A number that is read as far as i digits.
module _ (ds : List ℕ) where
  pub record ReadAsFar (number i : ℕ) : Type 0 where
    pub small : number < 10 ^ i
    pub same : decimal number (drop i ds) ≡ decimal 0 ds

  module _ (number i : ℕ) (so_far : ReadAsFar number i) (there : i < length ds) (digits : every is_digit ds ≡ true) where
    pub digit_fits : (48 ≤ get_or ds i 0) × (get_or ds i 0 ≤ 57)
    digit_fits = between_facts 48 57 (get_or ds i 0) (every_at is_digit ds i 0 digits there)

    pub read_again : ReadAsFar (number * 10 + (get_or ds i 0 - 48)) (i + 1)
    unfolding decimal
    read_again =
        record {
          small = omega (arith, digit_fits, so_far.small, ap (λ (k : ℕ). 10 ^ k) (add-one i) ∙ pow-suc 10 i);
          same =
              rw add-one
              (ap (decimal number) (sym (drop-cons ds i 0 there)) ∙ so_far.same);
        }

  pub read_whole : (number i : ℕ) → ReadAsFar number i → length ds ≤ i → number ≡ decimal 0 ds
  unfolding decimal
  read_whole number i so_far past =
      sym (ap (decimal number) (drop_of_length-le ds past)) ∙ so_far.same

pub value_size : (ds : List ℕ) → is_value ds ≡ true → length ds ≤ most_digits
unfolding is_value
value_size ds e =
    let size : between 1 most_digits (length ds) ≡ true = and_left _ (eqb (length ds) 1 || not (eqb (get_or ds 0 0) 48)) e in
    let range = between_facts 1 most_digits (length ds) size in
    range.1

-- The digits of the first bytes are the first of the digits.
digits_of_front : (k : ℕ) (s : List ℕ) → digits (take k s) ≡ take k (digits s)
unfolding digits
digits_of_front zero s = refl
digits_of_front (suc k) [] = refl
digits_of_front (suc k) (b ∷ s) =
    by_bool (is_digit b)
    (λ e.
    digits_more b (take k s) e ∙ ap (λ t. b ∷ t) (digits_of_front k s) ∙ ap (take (suc k)) (sym (digits_more b s e)))
    (λ e. digits_end b (take k s) e ∙ ap (take (suc k)) (sym (digits_end b s e)))

-- The digits of one byte more than a value has are those of the text, or are too many, as those are.
module _ (s : List ℕ) where
  abbrev most : ℕ
  most = most_digits + 1

  abbrev pub front_digits : List ℕ
  front_digits = digits (take most s)

  pub front_size : length front_digits ≤ min most (length s)
  front_size = omega (arith, digits_within (take most s), length-take most s)

  pub front_taken : take (length front_digits) s ≡ front_digits
  front_taken =
      sym (take-take (length front_digits) most s (omega (arith, front_size))) ∙ digits_taken (take most s)

  front_whole : length (digits s) ≤ most_digits → front_digits ≡ digits s
  front_whole h = digits_of_front most s ∙ take_all most (digits s) (omega arith)

  pub front_value : is_value front_digits ≡ true → front_digits ≡ digits s
  front_value e =
      let size = value_size front_digits e in
      front_whole (omega (arith, ap length (digits_of_front most s), length-take most (digits s)))

  pub no_front_value : is_value front_digits ≡ false → is_value (digits s) ≡ false
  no_front_value e =
      by_bool (is_value (digits s)) (λ v. sym (ap is_value (front_whole (value_size (digits s) v))) ∙ e) (λ n. n)
