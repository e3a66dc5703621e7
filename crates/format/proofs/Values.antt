-- A value and its digits: each number below 10 ^ 5 is written in one way, and read back.
use Prim.Native.Nat.{ℕ, zero, suc, ◌+◌, ◌-◌, ◌*◌, ◌/◌, ◌%◌, ◌^◌, ◌<◌, ◌≤◌}
use mathlib.Core.Bool.{true, false, not, ◌&&◌, ◌||◌, or-true, and-eq-true_iff, false≢true}
use mathlib.Core.List.{List, [], ◌∷◌, ◌++◌}
use mathlib.Core.Path.{◌≡◌, refl, sym, ap, ◌∙◌}
use native.Mathlib.Nat.{pow-suc, add-zero, add-suc, suc-add, pow-le-pow_right, lt_of_lt_of_le}
use native.Mathlib.Omega.{arith}
use borrow.Author.Tests.{ltb-true, ltb-false, lt-ltb, le-ltb, eq-eqb, ne_eqb}
use lib.Dec.{ltb, eqb}
use lib.ListN.{length, get_or, length-append, get_or-append}
use Rattle.plan.specs.Limits.{between, most_digits}
use Rattle.base.specs.Lists.{every}
use Rattle.format.specs.Lines.{is_digit, digits, is_value, decimal, numeral}
use Rattle.base.proofs.Bools.{by_bool, both, and_left, and_right, elim_true, elim_false}
use Rattle.format.proofs.Tests.{between_facts, facts_between}
use Rattle.base.proofs.Every.{every_append}
use Rattle.format.proofs.Laws.{digits_whole}

-- `written` and `decimal` by their last digit.
pub written_one : (k n : ℕ) → n < 10 → numeral (suc k) n ≡ (48 + n) ∷ []
unfolding numeral
written_one k n h = elim_true _ _ _ (lt-ltb n 10 h)

pub written_more : (k n : ℕ) → 10 ≤ n → numeral (suc k) n ≡ numeral k (n / 10) ++ ((48 + n % 10) ∷ [])
unfolding numeral
written_more k n h = elim_false _ _ _ (le-ltb n 10 h)

pub decimal_last : (n : ℕ) (ds : List ℕ) (b : ℕ) → decimal n (ds ++ (b ∷ [])) ≡ decimal n ds * 10 + (b - 48)
unfolding decimal
decimal_last n [] b = refl
decimal_last n (d ∷ ds) b = decimal_last (n * 10 + (d - 48)) ds b

pub by_size {ℓ} : {C : Type ℓ} (n : ℕ) → (n < 10 → C) → (10 ≤ n → C) → C
by_size n small large = by_bool (ltb n 10) (λ e. small (ltb-true n 10 e)) (λ e. large (ltb-false n 10 e))

-- A number's digits are digits.
pub digit_facts : (b : ℕ) → is_digit b ≡ true → (48 ≤ b) × (b ≤ 57)
digit_facts b e = between_facts 48 57 b e

digit_of : (n : ℕ) → n < 10 → is_digit (48 + n) ≡ true
digit_of n h = facts_between 48 57 (48 + n) (omega arith) (omega arith)

pub written_digits : (k n : ℕ) → every is_digit (numeral k n) ≡ true
unfolding numeral
written_digits zero n = refl
written_digits (suc k) n =
    by_size n
    (λ h. rw (written_one k n h) (both (digit_of n h) refl))
    (λ h. rw (written_more k n h, every_append is_digit (numeral k (n / 10)) ((48 + n % 10) ∷ []))
    (both (written_digits k (n / 10)) (both (digit_of (n % 10) (omega arith)) refl)))

-- Read back they are the number.
pub decimal_written : (k n : ℕ) → n < 10 ^ k → decimal 0 (numeral k n) ≡ n
unfolding numeral decimal
decimal_written zero n h = omega arith
decimal_written (suc k) n h =
    by_size n
    (λ s. rw (written_one k n s) (omega arith))
    (λ l. rw (
      written_more k n l,
      decimal_last 0 (numeral k (n / 10)) (48 + n % 10),
      decimal_written k (n / 10)
          (omega (arith, pow-suc 10 k)),
    )
    (omega arith))

-- There are one to k of them, and the first is 0 only in 0.
pub written_most : (k n : ℕ) → length (numeral k n) ≤ k
unfolding numeral
written_most zero n = omega arith
written_most (suc k) n =
    by_size n
    (λ h. rw (written_one k n h) (omega arith))
    (λ h. rw (written_more k n h) (simp length-append (omega (arith, written_most k (n / 10)))))

pub written_some : (k n : ℕ) → 1 ≤ length (numeral (suc k) n)
written_some k n =
    by_size n
    (λ h. rw (written_one k n h) (omega arith))
    (λ h. rw (written_more k n h) (simp length-append (omega arith)))

pub written_lead : (k n : ℕ) → n < 10 ^ suc k → get_or (numeral (suc k) n) 0 0 ≡ 48 → n ≡ 0
written_lead zero n h e = let small : n < 10 = omega arith in omega (arith, rw (written_one 0 n small) at e)
written_lead (suc k) n h e =
    by_size n
    (λ s. omega (arith, rw (written_one (suc k) n s) at e))
    (λ l.
    let q : n / 10 ≡ 0 =
    written_lead k (n / 10) (omega (arith, pow-suc 10 (suc k)))
    (sym (get_or-append (numeral (suc k) (n / 10)) ((48 + n % 10) ∷ []) 0 0 (written_some k (n / 10)))
    ∙ rw (written_more (suc k) n l) at e) in
    omega arith)

-- So a number below 10 ^ 5 is written as a value, which ends where its digits end.
pub value_written : (n : ℕ) → n < 10 ^ most_digits → is_value (numeral most_digits n) ≡ true
unfolding is_value
value_written n h =
    both
    (facts_between 1 most_digits (length (numeral most_digits n)) (written_some 4 n) (written_most most_digits n))
    (by_size n
    (λ s. rw (written_one 4 n s))
    (λ l. rw (ne_eqb (get_or (numeral most_digits n) 0 0) 48 (λ e. omega (arith, written_lead 4 n h e)))
    (or-true (eqb (length (numeral most_digits n)) 1))))

pub digits_written : (n : ℕ) (s : List ℕ) → is_digit (get_or s 0 0) ≡ false
    → digits (numeral most_digits n ++ s) ≡ numeral most_digits n
digits_written n s e = digits_whole (numeral most_digits n) s (written_digits most_digits n) e

-- The other way round, by the last digit.
data Ends : List ℕ → Type 0 where
  one : (b : ℕ) → Ends (b ∷ [])
  more : (d : ℕ) (ds : List ℕ) (b : ℕ) → Ends (d ∷ (ds ++ (b ∷ [])))

ends : (d : ℕ) (ds : List ℕ) → Ends (d ∷ ds)
ends d [] = one d
ends d (e ∷ ds) = longer (ends e ds)
  where
    longer : {s : List ℕ} → Ends s → Ends (d ∷ s)
    longer (one b) = more d [] b
    longer (more e ds b) = more d (e ∷ ds) b

decimal_grows : (n : ℕ) (ds : List ℕ) → n ≤ decimal n ds
unfolding decimal
decimal_grows n [] = omega arith
decimal_grows n (d ∷ ds) = omega (arith, decimal_grows (n * 10 + (d - 48)) ds)

decimal_below : (j n : ℕ) (ds : List ℕ) → n < 10 ^ j → every is_digit ds ≡ true → decimal n ds < 10 ^ (j + length ds)
unfolding decimal
decimal_below j n [] h e = rw (add-zero j) h
decimal_below j n (d ∷ ds) h e =
    rw (add-suc j (length ds), ← suc-add j (length ds))
    (decimal_below (suc j) (n * 10 + (d - 48)) ds
    (omega (arith, pow-suc 10 j, digit_facts d (and_left (is_digit d) (every is_digit ds) e)))
    (and_right (is_digit d) (every is_digit ds) e))

written_digit : (k b : ℕ) → is_digit b ≡ true → numeral (suc k) (decimal 0 (b ∷ [])) ≡ b ∷ []
unfolding decimal
written_digit k b e =
    let known : (48 ≤ b) × (b ≤ 57) = digit_facts b e in
    written_one k (0 * 10 + (b - 48)) (omega arith) ∙ ap (λ d. d ∷ []) (omega arith)

written_next : (k n b : ℕ) → 1 ≤ n → is_digit b ≡ true → numeral (suc k) (n * 10 + (b - 48)) ≡ numeral k n ++ (b ∷ [])
written_next k n b h e =
    let known : (48 ≤ b) × (b ≤ 57) = digit_facts b e in
    let front : (n * 10 + (b - 48)) / 10 ≡ n = omega arith in
    let last : 48 + (n * 10 + (b - 48)) % 10 ≡ b = omega arith in
    written_more k (n * 10 + (b - 48)) (omega arith) ∙ rw (front, last)

lead_positive : (d : ℕ) (ds : List ℕ) → is_digit d ≡ true → (d ≡ 48 → ⊥) → 1 ≤ decimal 0 (d ∷ ds)
unfolding decimal
lead_positive d ds e h = omega (arith, digit_facts d e, decimal_grows (0 * 10 + (d - 48)) ds)

written_decimal :
    (k : ℕ) {ds : List ℕ} → Ends ds → length ds ≤ k → every is_digit ds ≡ true → (get_or ds 0 0 ≡ 48 → ⊥)
    → numeral k (decimal 0 ds) ≡ ds
written_decimal zero (one b) l e h = absurd (omega arith)
written_decimal zero (more d ds b) l e h = absurd (omega arith)
written_decimal (suc k) (one b) l e h = written_digit k b (and_left (is_digit b) true e)
written_decimal (suc k) (more d ds b) l e h =
    let split : (every is_digit (d ∷ ds) && (is_digit b && true)) ≡ true =
    rw (every_append is_digit (d ∷ ds) (b ∷ [])) at e in
    let front : every is_digit (d ∷ ds) ≡ true = and_left (every is_digit (d ∷ ds)) (is_digit b && true) split in
    let last : is_digit b ≡ true =
    and_left (is_digit b) true (and_right (every is_digit (d ∷ ds)) (is_digit b && true) split) in
    rw (decimal_last 0 (d ∷ ds) b)
    (written_next k (decimal 0 (d ∷ ds)) b (lead_positive d ds (and_left (is_digit d) (every is_digit ds) front) h) last
    ∙ rw (written_decimal k (ends d ds) (omega (arith, length-append ds (b ∷ []))) front h))

no_lead : (ds : List ℕ) → 1 ≤ length ds → length ds ≤ most_digits
    → (eqb (length ds) 1 || not (eqb (get_or ds 0 0) 48)) ≡ true
    → every is_digit ds ≡ true → numeral most_digits (decimal 0 ds) ≡ ds
no_lead [] p l t e = absurd (omega arith)
no_lead (d ∷ []) p l t e = written_digit 4 d (and_left (is_digit d) true e)
no_lead (d ∷ c ∷ ds) p l t e =
    written_decimal most_digits (ends d (c ∷ ds)) l e
    (λ q. false≢true (rw (ne_eqb (length (d ∷ c ∷ ds)) 1 (λ r. omega arith), eq-eqb d 48 q) at t))

-- A value is the digits of a number below 10 ^ 5.
module _ (ds : List ℕ) (v : is_value ds ≡ true) (e : every is_digit ds ≡ true) where
  parts : (between 1 most_digits (length ds) ≡ true) × ((eqb (length ds) 1 || not (eqb (get_or ds 0 0) 48)) ≡ true)
  unfolding is_value
  parts = (and-eq-true_iff (between 1 most_digits (length ds)) (eqb (length ds) 1 || not (eqb (get_or ds 0 0) 48))).0 v

  pub value_length : (1 ≤ length ds) × (length ds ≤ most_digits)
  value_length = between_facts 1 most_digits (length ds) parts.0

  pub value_below : decimal 0 ds < 10 ^ most_digits
  value_below =
      lt_of_lt_of_le (decimal_below 0 0 ds (omega arith) e)
      (pow-le-pow_right {n = 10} (omega arith) {j = most_digits} (omega (arith, value_length)))

  pub value_read : numeral most_digits (decimal 0 ds) ≡ ds
  value_read = no_lead ds value_length.0 value_length.1 parts.1 e
