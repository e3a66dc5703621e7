-- A line and its form. In a form `#` (35) stands for a value, `@` (64) for a node's letter, any other byte for
-- itself.
use Rattle.std.specs.Prelude.{ℕ, zero, suc, ◌+◌, ◌-◌, ◌*◌, ◌/◌, ◌%◌, Bool, true, false, not, ◌&&◌, ◌||◌, List, [], ◌∷◌, ◌++◌, ltb, eqb, length, get_or, drop}
use Rattle.std.proofs.Math.Option.{Option, none, some}
use Rattle.plan.specs.Limits.{between, most_digits}
use Rattle.plan.specs.Plan.{is_letter}

-- The digits at the front of the bytes.
abbrev pub is_digit : ℕ → Bool
is_digit b = between 48 57 b

unfoldable pub digits : List ℕ → List ℕ
digits [] = []
digits (b ∷ s) = elim (is_digit b) [ true ↦ b ∷ digits s | false ↦ [] ]

-- One digit, or several up to so many, of which the first is not `0` (48).
abbrev pub is_sized : ℕ → ℕ → ℕ → Bool
is_sized most size first = between 1 most size && (eqb size 1 || not (eqb first 48))

-- A value, and the number that digits say after a number.
unfoldable pub is_value : List ℕ → Bool
is_value ds = is_sized most_digits (length ds) (get_or ds 0 0)

unfoldable pub decimal : ℕ → List ℕ → ℕ
decimal n [] = n
decimal n (b ∷ ds) = decimal (n * 10 + (b - 48)) ds

-- The digits of a number below 10 ^ k, with no leading zero.
unfoldable pub numeral : ℕ → ℕ → List ℕ
numeral zero n = []
numeral (suc k) n = elim (ltb n 10) [ true ↦ (48 + n) ∷ [] | false ↦ numeral k (n / 10) ++ ((48 + n % 10) ∷ []) ]

-- The number of values in a form, a letter counted as one.
abbrev pub slots : List ℕ → ℕ
slots [] = 0
slots (b ∷ form) = elim (eqb b 35 || eqb b 64) [ true ↦ suc (slots form) | false ↦ slots form ]

-- What a form matches at the front of the bytes: its values in order, and the bytes that follow.
pub record Fields : Type 0 where
  pub values : List ℕ
  pub rest : List ℕ

abbrev pub with_value : ℕ → Option Fields → Option Fields
with_value v none = none
with_value v (some f) = some (record { values = v ∷ f.values; rest = f.rest })

unfoldable pub matched : List ℕ → List ℕ → Option Fields
matched [] s = some (record { values = []; rest = s })
matched (b ∷ form) s =
    elim (eqb b 35) [
      | true ↦ elim (is_value (digits s))
          [ true ↦ with_value (decimal 0 (digits s)) (matched form (drop (length (digits s)) s)) | false ↦ none ]
      | false ↦ elim (eqb b 64) [
        | true ↦ elim (is_letter (get_or s 0 0))
            [ true ↦ with_value (get_or s 0 0) (matched form (drop 1 s)) | false ↦ none ]
        | false ↦ elim (ltb 0 (length s) && eqb (get_or s 0 0) b) [ true ↦ matched form (drop 1 s) | false ↦ none ]
      ]
    ]

-- The form with its values filled in.
unfoldable pub filled : List ℕ → List ℕ → List ℕ
filled [] vs = []
filled (b ∷ form) vs =
    elim (eqb b 35) [
      | true ↦ numeral most_digits (get_or vs 0 0) ++ filled form (drop 1 vs)
      | false ↦ elim (eqb b 64) [ true ↦ get_or vs 0 0 ∷ filled form (drop 1 vs) | false ↦ b ∷ filled form vs ]
    ]
