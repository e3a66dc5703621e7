-- The laws of sets as numbers: the members of each operation, subsets, and the number of members. That or, and, and a
-- single bit stay below 2 ^ n are `or_lt` and `and_lt` of `lib.Bits` and `pow-lt` of `lib.Pow`.
use Prim.Native.Nat.{ℕ, zero, suc, ◌+◌, ◌-◌, ◌*◌, ◌/◌, ◌%◌, ◌^◌, ◌≤◌, ◌<◌, suc-le-suc, min, max}
use mathlib.Core.Path.{◌≡◌, refl, sym, ap, ap₂, ◌∙◌, subst}
use mathlib.Core.Bool.{Bool, true, false, not, xor, ◌&&◌, ◌||◌, true≢false, and-false, and-true}
use mathlib.Core.Logic.{◌⊎◌, inl, inr, ⊎_elim, ◌≢◌, by_cases}
use native.Mathlib.Nat.{div-one, div-div-eq-div-mul, div-eq_of_lt, pow-suc, mul_comm, mul-mod_left, mul-div_cancel}
use native.Mathlib.Nat.{mod-lt, zero-lt-suc, zero-div, lt_of_lt_of_le, lt_of_le_of_lt, le_refl, le-suc}
use native.Mathlib.Nat.{div-lt_iff_lt-mul, div-add-mod'}
use native.Mathlib.Decide.{ℕ_discrete}
use native.Mathlib.Omega.{arith}
use lib.Dec.{lit<, eqb, eqb-suc-suc, eqb-zero-suc, eqb-suc-zero}
use lib.Arith.{lt-one, digits_div, digits_mod}
use lib.Pow.{pow-lt, pow_mono}
use lib.Bits.{bit_and, bit_or, bit_xor, differ, and_step, or_step, xor_step, and_le_l, and_le_r, xor_lt, xor_add_and}
use borrow.Author.Tests.{eq-eqb, ne_eqb, eqb-true, eqb-false, not-true}
use Rattle.sets.specs.Sets.{most, has, meet, size}

-- ---- bits, lowest first

two_pos : 0 < 2
two_pos = zero-lt-suc 1

pub has_first : (a : ℕ) → has a 0 ≡ eqb (a % 2) 1
unfolding has
has_first a = ap (λ (x : ℕ). eqb (x % 2) 1) (div-one a)

pub has_later : (a i : ℕ) → has a (suc i) ≡ has (a / 2) i
unfolding has
has_later a i =
    ap (λ (x : ℕ). eqb (x % 2) 1) (ap (λ (x : ℕ). a / x) (pow-suc 2 i ∙ mul_comm (2 ^ i) 2)
    ∙ sym (div-div-eq-div-mul a 2 (2 ^ i)))

half_lt : (n a : ℕ) → a < 2 ^ suc n → a / 2 < 2 ^ n
half_lt n a h = (div-lt_iff_lt-mul two_pos).1 (subst (λ (x : ℕ). a < x) (pow-suc 2 n) h)

-- A bit is 0 or 1.
bit : (a : ℕ) → (a % 2 ≡ 0) ⊎ (a % 2 ≡ 1)
bit a = go (a % 2) refl
  where
    go : (x : ℕ) → a % 2 ≡ x → (a % 2 ≡ 0) ⊎ (a % 2 ≡ 1)
    go zero e = inl e
    go (suc x) e = inr (omega (arith, mod-lt a two_pos))

-- ---- the members of each operation

pub has_none : (i : ℕ) → has 0 i ≡ false
unfolding has
has_none i = ap (λ (x : ℕ). eqb (x % 2) 1) (zero-div (2 ^ i))

-- What is to be shown of two bits is shown four times.
by_bits : (P : ℕ → ℕ → Type 0) → P 0 0 → P 0 1 → P 1 0 → P 1 1 → (x y : ℕ) → x < 2 → y < 2 → P x y
by_bits P a b c d zero zero p q = a
by_bits P a b c d zero (suc zero) p q = b
by_bits P a b c d (suc zero) zero p q = c
by_bits P a b c d (suc zero) (suc zero) p q = d
by_bits P a b c d zero (suc (suc y)) p q = absurd (omega arith)
by_bits P a b c d (suc zero) (suc (suc y)) p q = absurd (omega arith)
by_bits P a b c d (suc (suc x)) y p q = absurd (omega arith)

-- An operation that works digit by digit works bit by bit.
module _ (op digit : ℕ → ℕ → ℕ) (test : Bool → Bool → Bool)
    (step : (a b : ℕ) → op a b ≡ op (a / 2) (b / 2) * 2 + digit (a % 2) (b % 2))
    (small : (x y : ℕ) → x < 2 → y < 2 → digit x y < 2)
    (bits : (x y : ℕ) → x < 2 → y < 2 → eqb (digit x y) 1 ≡ test (eqb x 1) (eqb y 1)) where
  has_op : (a b i : ℕ) → has (op a b) i ≡ test (has a i) (has b i)
  has_op a b zero =
      let x = mod-lt a two_pos in
      let y = mod-lt b two_pos in
      has_first (op a b)
      ∙ ap (λ (n : ℕ). eqb (n % 2) 1) (step a b)
      ∙ ap (λ (n : ℕ). eqb n 1) (digits_mod (op (a / 2) (b / 2)) (small (a % 2) (b % 2) x y))
      ∙ bits (a % 2) (b % 2) x y
      ∙ sym (ap₂ test (has_first a) (has_first b))
  has_op a b (suc i) =
      has_later (op a b) i
      ∙ ap (λ (n : ℕ). has (n / 2) i) (step a b)
      ∙ ap (λ (n : ℕ). has n i)
      (digits_div (op (a / 2) (b / 2)) (small (a % 2) (b % 2) (mod-lt a two_pos) (mod-lt b two_pos)))
      ∙ has_op (a / 2) (b / 2) i
      ∙ sym (ap₂ test (has_later a i) (has_later b i))

pub has_or : (a b i : ℕ) → has (bit_or a b) i ≡ (has a i || has b i)
has_or =
    has_op bit_or max ◌||◌ or_step (λ x y p q. omega arith)
    (by_bits (λ x y. eqb (max x y) 1 ≡ (eqb x 1 || eqb y 1)) refl refl refl refl)

pub has_and : (a b i : ℕ) → has (bit_and a b) i ≡ (has a i && has b i)
has_and =
    has_op bit_and min ◌&&◌ and_step (λ x y p q. omega arith)
    (by_bits (λ x y. eqb (min x y) 1 ≡ (eqb x 1 && eqb y 1)) refl refl refl refl)

pub has_xor : (a b i : ℕ) → has (bit_xor a b) i ≡ xor (has a i) (has b i)
unfolding xor
has_xor =
    has_op bit_xor differ xor xor_step (by_bits (λ x y. differ x y < 2) (lit< tt) (lit< tt) (lit< tt) (lit< tt))
    (by_bits (λ x y. eqb (differ x y) 1 ≡ xor (eqb x 1) (eqb y 1)) refl refl refl refl)

pub has_single : (i j : ℕ) → has (2 ^ i) j ≡ eqb j i
has_single zero zero = has_first 1
has_single zero (suc j) = has_later 1 j ∙ has_none j ∙ sym (eqb-suc-zero j)
has_single (suc i) zero =
    has_first (2 ^ suc i) ∙ ap (λ (x : ℕ). eqb (x % 2) 1) (pow-suc 2 i)
    ∙ ap (λ (x : ℕ). eqb x 1) (mul-mod_left (2 ^ i) 2) ∙ sym (eqb-zero-suc i)
has_single (suc i) (suc j) =
    has_later (2 ^ suc i) j ∙ ap (λ (x : ℕ). has (x / 2) j) (pow-suc 2 i)
    ∙ ap (λ (x : ℕ). has x j) (mul-div_cancel (2 ^ i) two_pos)
    ∙ has_single i j ∙ sym (eqb-suc-suc j i)

-- A set below 2 ^ n has no member from n on.
pub has_above : (n a i : ℕ) → a < 2 ^ n → n ≤ i → has a i ≡ false
unfolding has
has_above n a i h l = ap (λ (x : ℕ). eqb (x % 2) 1) (div-eq_of_lt (lt_of_lt_of_le h (pow_mono l)))

-- ---- a set is known by its members

bit_known : (x y : ℕ) → x < 2 → y < 2 → eqb x 1 ≡ eqb y 1 → x ≡ y
bit_known =
    by_bits (λ x y. eqb x 1 ≡ eqb y 1 → x ≡ y) (λ e. refl) (λ e. absurd (true≢false (sym e)))
    (λ e. absurd (true≢false e)) (λ e. refl)

pub same : (n a b : ℕ) → a < 2 ^ n → b < 2 ^ n → ((i : ℕ) → i < n → has a i ≡ has b i) → a ≡ b
same zero a b p q e = lt-one p ∙ sym (lt-one q)
same (suc n) a b p q e =
    let low : a % 2 ≡ b % 2 =
    bit_known (a % 2) (b % 2) (mod-lt a two_pos) (mod-lt b two_pos) (sym (has_first a) ∙ e 0 (zero-lt-suc n)
    ∙ has_first b) in
    let high : a / 2 ≡ b / 2 =
    same n (a / 2) (b / 2) (half_lt n a p) (half_lt n b q) (λ i h. sym (has_later a i) ∙ e (suc i) (suc-le-suc h)
    ∙ has_later b i) in
    sym (div-add-mod' a 2) ∙ ap₂ (λ (x y : ℕ). x * 2 + y) high low ∙ div-add-mod' b 2

-- ---- a member in common

-- A set that is not empty has a member.
pub has_some : (n a : ℕ) → a < 2 ^ n → a ≢ 0 → (i : ℕ) × (i < n) × (has a i ≡ true)
has_some zero a p e = absurd (e (lt-one p))
has_some (suc n) a p e =
    let rest : a / 2 ≢ 0 → (i : ℕ) × (i < n) × (has (a / 2) i ≡ true) = λ h. has_some n (a / 2) (half_lt n a p) h in
    ⊎_elim
    (λ z.
    let m = rest (λ h. e (sym (div-add-mod' a 2) ∙ ap₂ (λ (x y : ℕ). x * 2 + y) h z)) in
    (suc m.0, suc-le-suc m.1, has_later a m.0 ∙ m.2))
    (λ z. (0, zero-lt-suc n, has_first a ∙ ap (λ (x : ℕ). eqb x 1) z))
    (bit a)

parts : (x y : Bool) → (x && y) ≡ true → (x ≡ true) × (y ≡ true)
parts true y e = (refl, e)
parts false y e = absurd (true≢false (sym e))

pub meet_at : (n a b : ℕ) → a < 2 ^ n → meet a b ≡ true → (i : ℕ) × (i < n) × (has a i ≡ true) × (has b i ≡ true)
unfolding meet
meet_at n a b p e =
    let m =
    has_some n (bit_and a b) (lt_of_le_of_lt (and_le_l a b) p)
    (eqb-false (bit_and a b) 0 (not-true (eqb (bit_and a b) 0) e)) in
    let h = parts (has a m.0) (has b m.0) (sym (has_and a b m.0) ∙ m.2) in
    (m.0, m.1, h.0, h.1)

pub meet_of : (a b i : ℕ) → has a i ≡ true → has b i ≡ true → meet a b ≡ true
unfolding meet
meet_of a b i p q =
    let h : has (bit_and a b) i ≡ true = has_and a b i ∙ ap₂ ◌&&◌ p q in
    ap not (ne_eqb (bit_and a b) 0 (λ e. true≢false (sym h ∙ ap (λ (x : ℕ). has x i) e ∙ has_none i)))

pub meet_not : (a b i : ℕ) → meet a b ≡ false → has a i ≡ true → has b i ≡ false
meet_not a b i e p = go (has b i) refl
  where
    go : (x : Bool) → has b i ≡ x → has b i ≡ false
    go true q = absurd (true≢false (sym (meet_of a b i p q) ∙ e))
    go false q = q

pub meet_none : (n a b : ℕ) → a < 2 ^ n → ((i : ℕ) → i < n → has a i ≡ true → has b i ≡ true → ⊥) → meet a b ≡ false
meet_none n a b p f = go (meet a b) refl
  where
    go : (m : Bool) → meet a b ≡ m → meet a b ≡ false
    go true e = let m = meet_at n a b p e in absurd (f m.0 m.1 m.2 m.3)
    go false e = e

-- ---- subsets

pub minus_low : (a b : ℕ) → a < 2 ^ most → bit_xor a (bit_and a b) < 2 ^ most
minus_low a b h = xor_lt most a (bit_and a b) h (lt_of_le_of_lt (and_le_l a b) h)

-- ---- a member added or taken out

pub has_with : (a i j : ℕ) → has (bit_or a (2 ^ i)) j ≡ (has a j || eqb j i)
has_with a i j = has_or a (2 ^ i) j ∙ ap (λ (x : Bool). has a j || x) (has_single i j)

and_single : (a i : ℕ) → has a i ≡ true → bit_and a (2 ^ i) ≡ 2 ^ i
and_single a i h =
    same (suc i) (bit_and a (2 ^ i)) (2 ^ i) (lt_of_le_of_lt (and_le_r a (2 ^ i)) (pow-lt (le_refl (suc i))))
    (pow-lt (le_refl (suc i)))
    (λ j l. has_and a (2 ^ i) j ∙ ap (λ (x : Bool). has a j && x) (has_single i j) ∙ go j (eqb j i) refl
    ∙ sym (has_single i j))
  where
    go : (j : ℕ) (x : Bool) → eqb j i ≡ x → (has a j && x) ≡ eqb j i
    go j true e = ap (λ (x : Bool). x && true) (ap (has a) (eqb-true j i e) ∙ h) ∙ sym e
    go j false e = and-false (has a j) ∙ sym e

-- Flipping the bit of a member takes it out.
pub xor_single : (a i : ℕ) → has a i ≡ true → bit_xor a (2 ^ i) ≡ a - 2 ^ i
xor_single a i h =
    let sum = xor_add_and a (2 ^ i) in
    let at : bit_and a (2 ^ i) ≡ 2 ^ i = and_single a i h in
    omega arith

plain : (x : Bool) → xor x false ≡ (x && true)
unfolding xor
plain true = refl
plain false = refl

pub has_without : (a i j : ℕ) → has a i ≡ true → has (a - 2 ^ i) j ≡ (has a j && not (eqb j i))
unfolding xor
has_without a i j h =
    ap (λ (x : ℕ). has x j) (sym (xor_single a i h)) ∙ has_xor a (2 ^ i) j ∙ ap (xor (has a j)) (has_single i j)
    ∙ go (eqb j i) refl
  where
    go : (x : Bool) → eqb j i ≡ x → xor (has a j) x ≡ (has a j && not x)
    go true e = ap (λ (x : Bool). xor x true) (ap (has a) (eqb-true j i e) ∙ h) ∙ sym (and-false (has a j))
    go false e = plain (has a j)

less : (x y : Bool) → xor x (x && y) ≡ (x && not y)
unfolding xor
less true true = refl
less true false = refl
less false y = refl

-- The members of a that are not in b.
pub has_minus : (a b k : ℕ) → has (bit_xor a (bit_and a b)) k ≡ (has a k && not (has b k))
has_minus a b k = has_xor a (bit_and a b) k ∙ ap (xor (has a k)) (has_and a b k) ∙ less (has a k) (has b k)

-- ---- the number of members

pub size_same : (n a b : ℕ) → ((i : ℕ) → i < n → has a i ≡ has b i) → size a n ≡ size b n
unfolding size
size_same zero a b f = refl
size_same (suc n) a b f =
    ap₂ (λ (x : Bool) (y : ℕ). elim x [ true ↦ 1 | false ↦ 0 ] + y) (f n (le_refl (suc n)))
    (size_same n a b (λ i h. f i (lt_of_lt_of_le h (le-suc n))))

pub size_le : (n a : ℕ) → size a n ≤ n
unfolding size
size_le zero a = le_refl 0
size_le (suc n) a =
    let rest = size_le n a in elim (has a n) as
    (λ (x : Bool). elim x [ true ↦ 1 | false ↦ 0 ] + size a n ≤ suc n) [ true ↦ omega arith | false ↦ omega arith ]

-- One member more.
pub size_more : (n a b i : ℕ) → i < n → has a i ≡ true → has b i ≡ false → ((j : ℕ) → j ≢ i → has a j ≡ has b j)
    → size a n ≡ suc (size b n)
unfolding size
size_more zero a b i l p q f = absurd (omega arith)
size_more (suc n) a b i l p q f =
    let rest : i < n → size a n ≡ suc (size b n) = λ h. size_more n a b i h p q f in
    by_cases (ℕ_discrete n i)
    (λ e.
    let there : has a n ≡ true = ap (has a) e ∙ p in
    let gone : has b n ≡ false = ap (has b) e ∙ q in
    let below : size a n ≡ size b n = size_same n a b (λ j h. f j (omega arith)) in
    rw (there, gone, below) (omega arith))
    (λ e.
    let here : has a n ≡ has b n = f n e in
    let below : size a n ≡ suc (size b n) = rest (omega arith) in
    rw (here, below) (omega arith))

pub size_without : (n a i : ℕ) → i < n → has a i ≡ true → size a n ≡ suc (size (a - 2 ^ i) n)
size_without n a i l h =
    size_more n a (a - 2 ^ i) i l h (has_without a i i h ∙ ap (λ (x : Bool). has a i && not x) (eq-eqb i i refl)
    ∙ and-false (has a i))
    (λ j e. sym (has_without a i j h ∙ ap (λ (x : Bool). has a j && not x) (ne_eqb j i e) ∙ and-true (has a j)))

pub size_sub : (n a b : ℕ) → ((i : ℕ) → has a i ≡ true → has b i ≡ true) → size a n ≤ size b n
unfolding size
size_sub zero a b f = omega arith
size_sub (suc n) a b f = omega (arith, at_most (has a n) (has b n) (f n), size_sub n a b f)
  where
    at_most : (x y : Bool) → (x ≡ true → y ≡ true)
        → elim x [ true ↦ 1 | false ↦ 0 ] ≤ elim y [ true ↦ 1 | false ↦ 0 ]
    at_most true true g = omega arith
    at_most true false g = absurd (true≢false (sym (g refl)))
    at_most false y g = omega arith
