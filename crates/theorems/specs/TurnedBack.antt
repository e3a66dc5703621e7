-- A file turned back: each of the five calls answers the refusal's number and figure, and leaves what it was lent.
use Rattle.std.specs.Prelude.{ℕ, List, [], ◌∷◌, ◌++◌, ◌≢◌, ◌≡◌, get_or}
use Rattle.plan.specs.declared.Refusal.{Refusal}
use Rattle.read.specs.Answer.{read_of}
use Rattle.inspect.specs.Answer.{check_of}
use Rattle.vialbluff.specs.Cells.{refusal_cells, read_cells, check_cells, WriteLeaves, ListLeaves, BestLeaves}

-- What a call left in `out` is a refusal: its first cell is 0 on success, else the refusal's number.
abbrev pub IsRefusal : List ℕ → Type 0
IsRefusal out = get_or out 0 0 ≢ 0

-- A call left an answer in `out`, and what it was lent is as it stood.
pub record LeavesArea (answer before after out : List ℕ) : Type 0 where
  pub cells : out ≡ answer
  pub area : after ≡ before

-- BEST's refusal has one cell more, which is 0.
pub record TurnedBack (s : List ℕ) (r : Refusal) : Type 0 where
  pub read : read_cells (read_of s) ≡ refusal_cells r
  pub write : (v : ℕ) (before after out : List ℕ) → WriteLeaves s v before after out
      → LeavesArea (refusal_cells r) before after out
  pub check : (v : ℕ) (row : List ℕ) → check_cells (check_of s v row) ≡ refusal_cells r
  pub list : (cap : ℕ) (before after out : List ℕ) → ListLeaves s cap before after out
      → LeavesArea (refusal_cells r) before after out
  pub best : (cap : ℕ) (before after out : List ℕ) → BestLeaves s cap before after out
      → LeavesArea (refusal_cells r ++ 0 ∷ []) before after out

-- Where a call that was lent an area answers any refusal, the area is as it stood.
pub record Untouched (s : List ℕ) : Type 0 where
  pub write : (v : ℕ) (before after out : List ℕ) → WriteLeaves s v before after out → IsRefusal out → after ≡ before
  pub list : (cap : ℕ) (before after out : List ℕ) → ListLeaves s cap before after out → IsRefusal out
      → after ≡ before
  pub best : (cap : ℕ) (before after out : List ℕ) → BestLeaves s cap before after out → IsRefusal out
      → after ≡ before
