-- Which words of a command line are numbers, which are an activity and its start, and what they say.
use Rattle.std.specs.Prelude.{ℕ, ◌+◌, ◌-◌, Bool, true, false, ◌&&◌, List, ltb, eqb, length, get_or, take, drop, set}
use Rattle.std.specs.Prelude.{Option, Some, None, Result, Ok, Err, position, option_and_then}
use Rattle.base.specs.Lists.{every}
use Rattle.plan.specs.Limits.{word_values}
use Rattle.format.specs.Lines.{is_digit, is_sized, decimal}
use Rattle.timetable.specs.Mark.{mark, places}
use Rattle.timetable.specs.declared.Timetable.{Timetable}
use Rattle.arguments.specs.declared.Start.{Start}
use Rattle.arguments.specs.declared.Misplaced.{Misplaced}
use Rattle.arguments.specs.declared.Misplaced.TheVariants.{NotAStart, Twice}

-- A number of 32 bits in one to ten decimal digits, with no leading zero and no sign.
abbrev pub is_number : List ℕ → Bool
is_number w = is_sized 10 (length w) (get_or w 0 0) && every is_digit w && ltb (decimal 0 w) word_values

abbrev pub number_in : List ℕ → Option ℕ
number_in w = elim (is_number w) [ true ↦ Some (decimal 0 w) | false ↦ None ]

-- The place of the first comma.
abbrev pub comma : List ℕ → Option ℕ
comma w = position (λ b. eqb b 44) w

-- The number of an activity, and a start that is not the mark.
abbrev pub start_at : ℕ → ℕ → Option Start
start_at i t = elim (ltb i places && ltb t mark) [ true ↦ Some (record { activity = i; start = t }) | false ↦ None ]

infixl 10 ◌>>=◌
abbrev pub ◌>>=◌ : {A B : Type 0} → Option A → (A → Option B) → Option B
o >>= f = option_and_then f o

-- `I,T`: activity I starts at T.
abbrev pub start_in : List ℕ → Option Start
start_in w = do
  at ← comma w
  i ← number_in (take at w)
  t ← number_in (drop (at + 1) w)
  start_at i t

-- A start goes into a timetable once for each activity.
abbrev pub placed_at : Timetable → Start → Result Timetable Misplaced
placed_at t s =
    elim (eqb (get_or t.starts s.activity 0) mark)
    [ true ↦ Ok (record { starts = set t.starts s.activity s.start }) | false ↦ Err Twice ]

abbrev pub placed_by : Timetable → Option Start → Result Timetable Misplaced
placed_by t (Some s) = placed_at t s
placed_by t None = Err NotAStart

abbrev pub placed_in : Timetable → List ℕ → Result Timetable Misplaced
placed_in t w = placed_by t (start_in w)

-- The value of a digit.
abbrev pub digit_in : ℕ → Option ℕ
digit_in b = elim (is_digit b) [ true ↦ Some (b - 48) | false ↦ None ]

-- The value of a word of digits that fits 32 bits.
abbrev pub value_in : List ℕ → Option ℕ
value_in w = elim (every is_digit w && ltb (decimal 0 w) word_values) [ true ↦ Some (decimal 0 w) | false ↦ None ]
