-- An answer as four numbers, BEST's as five: 0 and its values, or the refusal's number and figure.
use Rattle.std.specs.Prelude.{ℕ, Bool, true, false, Result, Ok, Err, List, [], ◌∷◌, ◌++◌, ◌≡◌}
use Rattle.plan.specs.Refusals.{number_of, figure_of}
use Rattle.plan.specs.declared.Refusal.{Refusal}
use Rattle.read.specs.declared.Counts.{Counts}
use Rattle.write.specs.Answer.{write_of}
use Rattle.answers.specs.Listed.{list_of}
use Rattle.answers.specs.Shortest.{best_of}
use Rattle.answers.specs.declared.Best.{Best}

abbrev pub refusal_cells : Refusal → List ℕ
refusal_cells r = number_of r ∷ figure_of r ∷ 0 ∷ 0 ∷ []

abbrev pub read_cells : Result Counts Refusal → List ℕ
read_cells (Ok c) = 0 ∷ c.acts ∷ c.nodes ∷ c.variants ∷ []
read_cells (Err r) = refusal_cells r

abbrev pub write_cells : Result ℕ Refusal → List ℕ
write_cells (Ok bytes) = 0 ∷ bytes ∷ 0 ∷ 0 ∷ []
write_cells (Err r) = refusal_cells r

abbrev pub check_cells : Result Bool Refusal → List ℕ
check_cells (Ok true) = 0 ∷ 1 ∷ 0 ∷ 0 ∷ []
check_cells (Ok false) = 0 ∷ 0 ∷ 0 ∷ 0 ∷ []
check_cells (Err r) = refusal_cells r

abbrev pub list_cells : Result ℕ Refusal → List ℕ
list_cells (Ok rows) = 0 ∷ rows ∷ 0 ∷ 0 ∷ []
list_cells (Err r) = refusal_cells r

abbrev pub best_cells : Result Best Refusal → List ℕ
best_cells (Ok b) = 0 ∷ b.variant ∷ b.makespan ∷ b.count ∷ b.shortest ∷ []
best_cells (Err r) = refusal_cells r ++ 0 ∷ []

-- The starts found, or those that stood there: a refusal leaves the lent starts as they stood.
abbrev pub starts_kept : Result Best Refusal → List ℕ → List ℕ
starts_kept (Ok b) before = b.timetable.starts
starts_kept (Err r) before = before

pub record WriteLeaves (s : List ℕ) (v : ℕ) (before after out : List ℕ) : Type 0 where
  pub cells : out ≡ write_cells (write_of s v before).answer
  pub area : after ≡ (write_of s v before).area

pub record ListLeaves (s : List ℕ) (cap : ℕ) (before after out : List ℕ) : Type 0 where
  pub cells : out ≡ list_cells (list_of s cap before).answer
  pub area : after ≡ (list_of s cap before).area

pub record BestLeaves (s : List ℕ) (cap : ℕ) (before after out : List ℕ) : Type 0 where
  pub cells : out ≡ best_cells (best_of s cap)
  pub starts : after ≡ starts_kept (best_of s cap) before
