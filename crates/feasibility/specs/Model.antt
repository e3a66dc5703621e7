-- The test as the code makes it, step by step. It serves the proofs: what is tested is `is_session`.
use Rattle.std.specs.Prelude.{ℕ, ◌+◌, Bool, not, cond, ◌&&◌, [], leb, ltb, eqb, get_or}
use Rattle.std.specs.Bool.{beq}
use Rattle.plan.specs.declared.Activity.{Activity}
use Rattle.sets.specs.Sets.{has}
use Rattle.base.specs.Below.{every_below, sum_below, ◌implies◌}
use Rattle.timetable.specs.Mark.{mark, places}
use Rattle.feasibility.specs.declared.Candidate.{Candidate}

-- The start of activity i, and its row in the tables.
abbrev pub start : Candidate → ℕ → ℕ
start s i = get_or s.starts.now i 0

abbrev pub no_row : Activity
no_row = record { duration = 0; units = [] }

abbrev pub row : Candidate → ℕ → Activity
row s i = get_or s.tables.now.activity i no_row

abbrev pub is_present : Candidate → ℕ → Bool
is_present s i = has s.variant.now.present i

abbrev pub mark_right : Bool → ℕ → Bool
mark_right there start = beq (eqb start mark) (not there)

unfoldable pub marks_right : Candidate → Bool
marks_right s = every_below places λ i. mark_right (is_present s i) (start s i)

-- i ends by the start of j.
abbrev pub ends_by : Candidate → ℕ → ℕ → Bool
ends_by s i j = leb (start s i + (row s i).duration) (start s j)

-- So it does if it is before j.
abbrev pub ends_before : Candidate → ℕ → ℕ → Bool
ends_before s i j = has (get_or s.variant.now.preds j 0) i implies ends_by s i j

unfoldable pub after_all : Candidate → ℕ → Bool
after_all s j = every_below s.tables.now.acts λ i. ends_before s i j

unfoldable pub order_kept : Candidate → Bool
order_kept s = every_below s.tables.now.acts λ j. after_all s j

-- i is present and runs on a tick.
abbrev pub runs_at : Candidate → ℕ → ℕ → Bool
runs_at s tick i = is_present s i && leb (start s i) tick && ltb tick (start s i + (row s i).duration)

-- The units of resource r that are held on a tick, and whether they are within the capacity of each resource.
unfoldable pub held_at : Candidate → ℕ → ℕ → ℕ
held_at s tick r = sum_below s.tables.now.acts λ i. cond (runs_at s tick i) (get_or (row s i).units r 0) 0

unfoldable pub within_at : Candidate → ℕ → Bool
within_at s tick =
    every_below s.tables.now.resources λ r. leb (held_at s tick r) (get_or s.tables.now.capacity r 0)

-- So it is at every start.
unfoldable pub within_all : Candidate → Bool
within_all s = every_below s.tables.now.acts λ j. within_at s (start s j)

-- The whole test.
abbrev pub is_right : Candidate → Bool
is_right s = marks_right s && order_kept s && within_all s
