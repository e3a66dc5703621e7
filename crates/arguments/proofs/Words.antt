-- Reading a word, digit by digit.
use Prim.Native.Nat.{ℕ, suc, ◌+◌, ◌-◌, ◌*◌, ◌≤◌, ◌<◌}
use mathlib.Core.Bool.{Bool, true, false, ◌&&◌}
use mathlib.Core.List.{List, [], ◌∷◌}
use mathlib.Core.Path.{◌≡◌, refl, sym, ap, ◌∙◌}
use native.Mathlib.Numerals.{add-one}
use native.Mathlib.Omega.{arith}
use borrow.Author.Tests.{lt-ltb, le-ltb}
use lib.Dec.{ltb}
use lib.ListN.{length, get_or, drop}
use lib.Seq.{drop-cons}
use Rattle.std.proofs.lemmas.List.{drop_all}
use Rattle.std.proofs.Common.{Option, Some, None}
use Rattle.plan.specs.Limits.{word_values}
use Rattle.base.specs.Lists.{every}
use Rattle.format.specs.Lines.{is_digit, decimal}
use Rattle.base.proofs.Bools.{by_bool, elim_true, elim_false}
use Rattle.arguments.specs.Words.{digit_in, value_in}

-- The value of a word of digits that stands behind others, whose value is n.
abbrev pub value_from : ℕ → List ℕ → Option ℕ
value_from n w = elim (every is_digit w && ltb (decimal n w) word_values) [ true ↦ Some (decimal n w) | false ↦ None ]

decimal_grows : (n : ℕ) (w : List ℕ) → n ≤ decimal n w
unfolding decimal
decimal_grows n [] = omega arith
decimal_grows n (b ∷ w) = omega (arith, decimal_grows (n * 10 + (b - 48)) w)

too_large : (n : ℕ) (w : List ℕ) → word_values ≤ n → value_from n w ≡ None
too_large n w h =
    by_bool (every is_digit w)
    (λ e. rw (value_from, e, le-ltb (decimal n w) word_values (omega (arith, decimal_grows n w))))
    (λ e. rw (value_from, e))

module _ (n b : ℕ) (w : List ℕ) where
  a_digit : (d : ℕ) → digit_in b ≡ Some d → value_from n (b ∷ w) ≡ value_from (n * 10 + d) w
  unfolding decimal
  a_digit d e =
      by_bool (is_digit b)
      (λ t.
      let is : Some (b - 48) ≡ Some d = sym (elim_true (is_digit b) (Some (b - 48)) None t) ∙ e in
      let same : b - 48 ≡ d = cc in
      ap (λ (x : Bool). elim (x && every is_digit w && ltb (decimal (n * 10 + (b - 48)) w) word_values)
      [ true ↦ Some (decimal (n * 10 + (b - 48)) w) | false ↦ None ]) t
      ∙ ap (λ (x : ℕ). value_from (n * 10 + x) w) same)
      (λ f. let not : None ≡ Some d = sym (elim_false (is_digit b) (Some (b - 48)) None f) ∙ e in cc)

  no_digit : digit_in b ≡ None → value_from n (b ∷ w) ≡ None
  no_digit e =
      by_bool (is_digit b)
      (λ t. let not : Some (b - 48) ≡ None = sym (elim_true (is_digit b) (Some (b - 48)) None t) ∙ e in cc)
      (λ f. rw (value_from, f))

all_read : (n : ℕ) → n < word_values → Some n ≡ value_from n []
unfolding decimal
all_read n h = sym (elim_true (ltb n word_values) (Some n) None (lt-ltb n word_values h))

-- What is left of the word, after the digits so far, gives the value of the whole.
pub record Walked (w : List ℕ) (i n : ℕ) : Type 0 where
  pub left : value_from n (drop i w) ≡ value_in w
  pub small : n < word_values

pub walked_none : (w : List ℕ) → Walked w 0 0
walked_none w = record { left = refl; small = omega arith }

module _ {w : List ℕ} {i n : ℕ} (walked : Walked w i n) where
  pub walked_end : length w ≤ i → Some n ≡ value_in w
  walked_end h = rw (← walked.left, drop_all i w h) (all_read n walked.small)

  module _ (h : i < length w) where
    pub walked_stop : digit_in (get_or w i 0) ≡ None → None ≡ value_in w
    walked_stop e = rw (← walked.left, drop-cons w i 0) (sym (no_digit n (get_or w i 0) (drop (suc i) w) e))

    module _ {d : ℕ} (e : digit_in (get_or w i 0) ≡ Some d) where
      next : value_from (n * 10 + d) (drop (suc i) w) ≡ value_in w
      next = rw (← walked.left, drop-cons w i 0) (sym (a_digit n (get_or w i 0) (drop (suc i) w) d e))

      pub walked_over : word_values ≤ n * 10 + d → None ≡ value_in w
      walked_over large = sym (too_large (n * 10 + d) (drop (suc i) w) large) ∙ next

      pub walked_more : {m : ℕ} → m ≡ n * 10 + d → m < word_values → Walked w (i + 1) m
      walked_more is small = record { left = rw (add-one, is) next; small = small }
