-- What writing bytes into an area leaves there. A store past the area's end is no store.
use Rattle.std.specs.Prelude.{ℕ, ◌+◌, ◌≤◌, ◌<◌, List, [], ◌∷◌, ◌++◌, ◌≡◌, length, get_or, drop}
use Rattle.std.proofs.lemmas.List.Edits.{sets}
use Rattle.format.specs.Lines.{filled}
use Rattle.writer.specs.declared.Line.{Line}

-- The bytes are stored from `at` on, and `next` is the place after them.
pub record Wrote (before : List ℕ) (at : ℕ) (bytes : List ℕ) (next : ℕ) (after : List ℕ) : Type 0 where
  pub area : after ≡ sets before at bytes
  pub place : next ≡ at + length bytes

-- The same of the rest of a line, which has the form `form`.
abbrev pub WroteLine : List ℕ → Line → List ℕ → ℕ → List ℕ → Type 0
WroteLine before line form next after =
    Wrote before line.at (filled form (line.first ∷ line.second ∷ [])) next after

-- One byte of a form: whatever finishes the line after it finishes the line.
pub record WrotePiece (before : List ℕ) (line : Line) (b : ℕ) (rest : Line) (after : List ℕ) : Type 0 where
  pub line_is : (form : List ℕ) (next : ℕ) (last : List ℕ) → WroteLine after rest form next last
      → WroteLine before line (b ∷ form) next last
  pub short : rest.at ≤ line.at + 5
  pub bytes : (line.first < 256) × (line.second < 256) → (rest.first < 256) × (rest.second < 256)

-- Where a form has a letter its values are bytes.
abbrev pub LettersFit : List ℕ → ℕ → ℕ → Type 0
LettersFit form first second = (i : ℕ) → get_or form i 0 ≡ 64 → (first < 256) × (second < 256)

-- An area that holds a text at its front and is otherwise as it was.
pub record HoldsText (text before after : List ℕ) (size : ℕ) : Type 0 where
  pub area : after ≡ text ++ drop (length text) before
  pub size_is : size ≡ length text
