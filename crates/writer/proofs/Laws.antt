-- One write after another, the digits of a value, and a form by its first byte.
use Prim.Native.Nat.{ℕ, zero, suc, ◌+◌, ◌*◌, ◌/◌, ◌%◌, ◌^◌, ◌≤◌, ◌<◌}
use mathlib.Core.Bool.{true, not}
use mathlib.Core.List.{List, [], ◌∷◌, ◌++◌}
use mathlib.Core.Path.{◌≡◌, refl, ap, ◌∙◌}
use native.Mathlib.Nat.{add-zero, zero-add, add-suc, suc-add, pow-suc}
use native.Mathlib.Numerals.{add-one}
use native.Mathlib.Omega.{arith}
use borrow.Author.Tests.{ne_eqb, eqb-false, not-true}
use lib.Dec.{eqb}
use lib.ListN.{length, get_or, drop, set, length-append, drop_of_length-le}
use lib.Seq.{sets, sets-eq, drop-cons}
use Rattle.plan.specs.Limits.{most_digits}
use Rattle.base.specs.Lists.{every}
use Rattle.format.specs.Lines.{numeral, filled}
use Rattle.base.proofs.Bools.{and_left, and_right}
use Rattle.format.proofs.Laws.{Kind, value, letter, literal, kind, filled_value, filled_letter, filled_literal}
use Rattle.format.proofs.Values.{by_size, written_one, written_more, written_most}
use Rattle.writer.specs.Wrote.{Wrote, WroteLine, WrotePiece, LettersFit, HoldsText}
use Rattle.writer.specs.declared.Line.{Line}

sets_append : (l : List ℕ) (i : ℕ) (a b : List ℕ) → sets (sets l i a) (i + length a) b ≡ sets l i (a ++ b)
sets_append l i [] b = rw add-zero
sets_append l i (v ∷ a) b = rw (add-suc, ← suc-add) (sets_append (set l i v) (suc i) a b)

pub wrote_none : (area : List ℕ) (at : ℕ) → Wrote area at [] at area
wrote_none area at = record { area = refl; place = omega arith }

-- One write after another is one write.
pub wrote_then :
    {before area after x y : List ℕ} {at next end : ℕ}
    → Wrote before at x next area → Wrote area next y end after → Wrote before at (x ++ y) end after
wrote_then {before} {area} {after} {x} {y} {at} {next} {end} v w =
    record {
      area = rw (← sets_append before at x y, ← v.area, ← v.place) w.area;
      place = simp length-append (omega (arith, v.place, w.place));
    }

-- A write of all of a text into an area that is long enough for it.
pub wrote_whole :
    {before after text : List ℕ} {size : ℕ} → Wrote before 0 text size after → length text ≤ length before
    → HoldsText text before after size
wrote_whole {before} {after} {text} {size} w h =
    record {
      area = w.area ∙ sets-eq text before 0 (omega arith) ∙ rw zero-add;
      size_is = omega (arith, w.place);
    }

-- A number below 10 ^ k has the same digits where there is room for one more.
roomier : (k n : ℕ) → n < 10 ^ suc k → numeral (suc k) n ≡ numeral (suc (suc k)) n
roomier zero n h = let small : n < 10 = omega arith in rw (written_one 1 n small, written_one 0 n small)
roomier (suc k) n h =
    by_size n
    (λ s. rw (written_one (suc (suc k)) n s, written_one (suc k) n s))
    (λ l.
    rw (written_more (suc (suc k)) n l, written_more (suc k) n l)
    (ap (λ ds. ds ++ ((48 + n % 10) ∷ [])) (roomier k (n / 10) (omega (arith, pow-suc 10 (suc k))))))

module _ (n : ℕ) {before after : List ℕ} {at end d : ℕ} where
  pub only_digit : n < 10 → d ≡ 48 + n → Wrote before at (d ∷ []) end after
      → Wrote before at (numeral most_digits n) end after
  only_digit h e w = rw (written_one 4 n h, ← e) w

  pub last_digit :
      {area : List ℕ} {next : ℕ} → 10 ≤ n → n < 10 ^ most_digits → d ≡ 48 + n % 10
      → Wrote before at (numeral most_digits (n / 10)) next area → Wrote area next (d ∷ []) end after
      → Wrote before at (numeral most_digits n) end after
  last_digit l h e v w = rw (written_more 4 n l, roomier 3 (n / 10) (omega arith), ← e) (wrote_then v w)

-- A value that is not there counts as 0.
abbrev Padded : List ℕ → Type 0
Padded form = (vs : List ℕ) → filled form (vs ++ (0 ∷ [])) ≡ filled form vs

padded : {b : ℕ} → Kind b → (form : List ℕ) → Padded form → Padded (b ∷ form)
unfolding filled
padded value form rest [] = refl
padded value form rest (v ∷ vs) = ap (λ s. numeral most_digits v ++ s) (rest vs)
padded letter form rest [] = refl
padded letter form rest (v ∷ vs) = ap (λ s. v ∷ s) (rest vs)
padded (literal {b} p q) form rest vs =
    rw (filled_literal form (vs ++ (0 ∷ [])) b p q, filled_literal form vs b p q) (ap (λ s. b ∷ s) (rest vs))

pub filled_padded : (form vs : List ℕ) → filled form (vs ++ (0 ∷ [])) ≡ filled form vs
unfolding filled
filled_padded [] vs = refl
filled_padded (b ∷ form) vs = padded (kind b) form (filled_padded form) vs

-- A byte of a form stands for five bytes at most.
abbrev Short : List ℕ → Type 0
Short form = (vs : List ℕ) → length (filled form vs) ≤ 5 * length form

short : {b : ℕ} → Kind b → (form : List ℕ) → Short form → Short (b ∷ form)
short value form rest vs =
    rw (filled_value form vs)
    (simp length-append (omega (arith, written_most most_digits (get_or vs 0 0), rest (drop 1 vs))))
short letter form rest vs = rw (filled_letter form vs) (omega (arith, rest (drop 1 vs)))
short (literal {b} p q) form rest vs = rw (filled_literal form vs b p q) (omega (arith, rest vs))

pub filled_short : (form vs : List ℕ) → length (filled form vs) ≤ 5 * length form
unfolding filled
filled_short [] vs = omega arith
filled_short (b ∷ form) vs = short (kind b) form (filled_short form) vs

pub wrote_short :
    (form vs : List ℕ) {before after : List ℕ} {at next : ℕ} → Wrote before at (filled form vs) next after
    → next ≤ at + 5 * length form
wrote_short form vs w = omega (arith, w.place, filled_short form vs)

-- A line by the first byte of its form.
module _ {before area : List ℕ} {line : Line} {next b : ℕ} where
  pub value_piece :
      b ≡ 35 → Wrote before line.at (numeral most_digits line.first) next area
      → WrotePiece before line b (record { at = next; first = line.second; second = 0 }) area
  value_piece e v =
      rw e
      record {
        line_is = λ form end after w.
            rw (filled_value form (line.first ∷ line.second ∷ []), ← filled_padded form (line.second ∷ []))
            (wrote_then v w);
        short = omega (arith, v.place, written_most most_digits line.first);
        bytes = λ h. (h.1, omega arith);
      }

  pub letter_piece :
      b ≡ 64 → Wrote before line.at (line.first ∷ []) next area
      → WrotePiece before line b (record { at = next; first = line.second; second = 0 }) area
  letter_piece e v =
      rw e
      record {
        line_is = λ form end after w.
            rw (filled_letter form (line.first ∷ line.second ∷ []), ← filled_padded form (line.second ∷ []))
            (wrote_then v w);
        short = omega (arith, v.place);
        bytes = λ h. (h.1, omega arith);
      }

  pub literal_piece :
      (b ≡ 35 → ⊥) → (b ≡ 64 → ⊥) → Wrote before line.at (b ∷ []) next area
      → WrotePiece before line b (record { at = next; first = line.first; second = line.second }) area
  literal_piece p q v =
      record {
        line_is = λ form end after w.
            rw (filled_literal form (line.first ∷ line.second ∷ []) b (ne_eqb b 35 p) (ne_eqb b 64 q))
            (wrote_then v w);
        short = omega (arith, v.place);
        bytes = λ h. h;
      }

-- What is left of a line after one more byte of its form.
pub piece_then :
    (form : List ℕ) (i : ℕ) {area after : List ℕ} {line rest : Line} → i < length form
    → WrotePiece area line (get_or form i 0) rest after
    → (next : ℕ) (last : List ℕ) → WroteLine after rest (drop (i + 1) form) next last
    → WroteLine area line (drop i form) next last
piece_then form i h piece next last w =
    rw (drop-cons form i 0 h) (piece.line_is (drop (suc i) form) next last (rw add-one at w))

-- A line whose form is at its end.
pub line_end : (form : List ℕ) (i : ℕ) → length form ≤ i → (line : Line) (area : List ℕ)
    → WroteLine area line (drop i form) line.at area
unfolding filled
line_end form i h line area = rw (drop_of_length-le form h) (wrote_none area line.at)

-- A form with no letter.
letterless : (form : List ℕ) → every (λ b. not (eqb b 64)) form ≡ true → (i : ℕ) → get_or form i 0 ≡ 64 → ⊥
letterless [] t i e = omega arith
letterless (b ∷ form) t zero e =
    eqb-false b 64 (not-true _ (and_left (not (eqb b 64)) (every (λ b. not (eqb b 64)) form) t)) e
letterless (b ∷ form) t (suc i) e =
    letterless form (and_right (not (eqb b 64)) (every (λ b. not (eqb b 64)) form) t) i e

pub letters_fit : (form : List ℕ) → every (λ b. not (eqb b 64)) form ≡ true → (v w : ℕ) → LettersFit form v w
letters_fit form t v w i e = absurd (letterless form t i e)
