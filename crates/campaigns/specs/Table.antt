-- The worked campaigns, each with the answer that the papers give or, in edition 2, the plain enumerator. A row is a
-- call, a file and the answer.
use Prim.Native.Char.{code}
use Rattle.std.specs.Prelude.{ℕ, zero, suc, ◌-◌, ◌<◌, true, false, List, [], ◌∷◌, ◌++◌, map, ◌≡◌, eqb, length, drop, replicate}
use Prim.Native.String.{String}
use Rattle.std.proofs.Math.Option.{some}
use Rattle.base.specs.Lists.{cells_of}
use Rattle.plan.specs.declared.Refusal.{Refusal}
use Rattle.plan.specs.declared.Refusal.TheVariants.{Length, Form, Range, GroupOfOne, OverCapacity, Twice}
use Rattle.plan.specs.declared.Refusal.TheVariants.{TooManyVariants, NoSuchVariant, OverCap, AreaTooShort}
use Rattle.plan.specs.Plan.{Plan}
use Rattle.format.specs.Parse.{parse, holds}
use Rattle.term.specs.Term.{Term, term_of}
use Rattle.term.specs.Variants.{variant_count}
use Rattle.schedule.specs.Schedule.{makespan}
use Rattle.schedule.specs.Sessions.{sessions, starts_of}
use Rattle.variant.specs.Project.{project_of, variant_at}
use Rattle.judge.specs.Judge.{accepts, judge}
use Rattle.answers.specs.Listed.{list_of}
use Rattle.answers.specs.Shortest.{best_of}
use Rattle.std.specs.Prelude.{Bool, Result, Ok, Err}
use Rattle.read.specs.Answer.{read_of}
use Rattle.read.specs.declared.Counts.{Counts}
use Rattle.timetable.specs.Mark.{mark, places}
use Rattle.write.specs.Answer.{write_of}
use Rattle.inspect.specs.Answer.{check_of}

-- The bytes of a text whose lines are shown with `/` (47): each line is ended by byte 10.
abbrev pub file : String → List ℕ
file String.[] = 10 ∷ []
file (String.◌∷◌ c s) = elim (eqb (code c) 47) [ true ↦ 10 ∷ file s | false ↦ code c ∷ file s ]

abbrev pub times : ℕ → List ℕ → List ℕ
times zero s = []
times (suc n) s = s ++ times n s

-- A timetable of the starts of the first activities; the others are absent.
abbrev pub timetable : List ℕ → List ℕ
timetable starts = starts ++ replicate (places - length starts) mark

abbrev pub absent : ℕ
absent = mark

-- An area of cells that are all 7; WRITE is lent 160 of them.
abbrev pub sevens : ℕ → List ℕ
sevens n = replicate n 7

abbrev pub lent : List ℕ
lent = sevens 160

-- READ's answer to an accepted plan.
abbrev pub counted : ℕ → ℕ → ℕ → Result Counts Refusal
counted acts nodes variants = Ok (record { acts = acts; nodes = nodes; variants = variants })

pub data Row : Type 0 where
  reads : List ℕ → Result Counts Refusal → Row
  -- V, also where it is over the limit
  has_variants : List ℕ → ℕ → Row
  writes : List ℕ → ℕ → List ℕ → Row
  checks : List ℕ → ℕ → List ℕ → Result Bool Refusal → Row
  -- LIST into an area of so many cells: the answer, and the rows from the front
  lists : List ℕ → ℕ → ℕ → Result ℕ Refusal → List (List ℕ) → Row
  spans : List ℕ → ℕ → List ℕ → Row
  -- BEST: its variant, its makespan, the number of rows, how many of them are shortest, and the starts
  finds : List ℕ → ℕ → ℕ → ℕ → ℕ → ℕ → List ℕ → Row
  stops : List ℕ → ℕ → Refusal → Row

-- The file's lines say a plan whose nodes are one whole term with n variants, be they too many or not.
pub record HasVariants (s : List ℕ) (n : ℕ) : Type 0 where
  pub plan : Plan
  pub lines : parse s ≡ holds plan
  pub term : Term
  pub whole : term_of plan.nodes ≡ some term
  pub count : variant_count term ≡ n

-- The makespans of the active sessions of variant v, in their order.
pub record Spans (s : List ℕ) (v : ℕ) (makespans : List ℕ) : Type 0 where
  pub plan : Plan
  pub term : Term
  pub accepted : judge s ≡ accepts plan term
  pub within : v < variant_count term
  pub same :
      map (λ row. makespan (project_of plan (variant_at term v)) (starts_of row))
      (sessions (project_of plan (variant_at term v)) mark)
      ≡ makespans

-- What a row says of the definitions.
abbrev pub Holds : Row → Type 0
Holds (reads s answer) = read_of s ≡ answer
Holds (has_variants s n) = HasVariants s n
Holds (writes s v bytes) =
    write_of s v lent ≡ record { answer = Ok (length bytes); area = bytes ++ drop (length bytes) lent }
Holds (checks s v starts answer) = check_of s v starts ≡ answer
Holds (lists s cap cells answer rows) =
    list_of s cap (sevens cells)
    ≡ record { answer = answer; area = cells_of rows ++ drop (length (cells_of rows)) (sevens cells) }
Holds (spans s v makespans) = Spans s v makespans
Holds (finds s cap v span count shortest starts) =
    best_of s cap
    ≡ Ok
    (record {
      variant = v;
      makespan = span;
      count = count;
      shortest = shortest;
      timetable = record { starts = timetable starts };
    })
Holds (stops s cap r) = best_of s cap ≡ Err r

abbrev pub dot_test : List ℕ
dot_test =
    file "plan=1/res=3/acts=5/act=0,4/act=1,2/act=1,3/act=2,5/act=1,6"
    ++ file "nodes=9/node=s,2/node=x,2/node=a,0/node=p,2/node=a,1/node=a,2/node=p,2/node=a,3/node=a,4"

abbrev pub twice_under_x : List ℕ
twice_under_x = file "plan=1/res=1/acts=1/act=0,1/nodes=3/node=x,2/node=a,0/node=a,0"

abbrev pub twice_under_p : List ℕ
twice_under_p = file "plan=1/res=1/acts=1/act=0,1/nodes=3/node=p,2/node=a,0/node=a,0"

abbrev pub three_orders : List ℕ
three_orders =
    file "plan=1/res=1/acts=2/act=0,1/act=0,2"
    ++ file "nodes=10/node=x,3/node=s,2/node=a,0/node=a,1/node=s,2/node=a,1/node=a,0/node=p,2/node=a,0/node=a,1"

abbrev pub feasible_below : List ℕ
feasible_below =
    file "plan=1/res=2/acts=2/act=0,1/act=1,2/nodes=7/node=x,2/node=p,2/node=a,0/node=a,1/node=s,2/node=a,0/node=a,1"

abbrev pub other_activities : List ℕ
other_activities = file "plan=1/res=1/acts=2/act=0,1/act=0,1/nodes=3/node=x,2/node=a,0/node=a,1"

abbrev pub group_of_one : List ℕ
group_of_one = file "plan=1/res=1/acts=1/act=0,1/nodes=2/node=s,1/node=a,0"

abbrev pub two_contested : List ℕ
two_contested =
    file "plan=1/res=2/acts=4/act=0,1/act=0,1/act=1,1/act=1,1/nodes=5/node=p,4/node=a,0/node=a,1/node=a,2/node=a,3"

abbrev pub free_resource_waits : List ℕ
free_resource_waits =
    file "plan=1/res=2/acts=4/act=0,10/act=1,1/act=0,1/act=1,20"
    ++ file "nodes=6/node=p,2/node=a,0/node=s,3/node=a,1/node=a,2/node=a,3"

abbrev pub three_shortest : List ℕ
three_shortest = file "plan=1/res=1/acts=3/act=0,1/act=0,1/act=0,1/nodes=5/node=p,2/node=a,1/node=s,2/node=a,2/node=a,0"

abbrev pub example2 : List ℕ
example2 =
    file "plan=1/res=4/acts=8/act=0,1/act=1,2/act=2,2/act=1,1/act=0,1/act=0,2/act=3,1/act=1,2"
    ++ (file "nodes=13/node=p,4/node=s,2/node=p,2/node=a,0/node=a,1/node=a,2"
    ++ file "node=s,2/node=a,3/node=a,4/node=a,5/node=s,2/node=a,6/node=a,7")

-- Soak tests: two sequences side by side and one more after both; two activities on one resource, in sequence and side
-- by side.
abbrev pub soak : List ℕ
soak =
    file "plan=1/res=2/acts=6/act=0,16000/act=0,12000/act=0,20000/act=1,20000/act=0,20000/act=1,20000"
    ++ file "nodes=10/node=s,2/node=p,2/node=s,2/node=a,0/node=a,1/node=s,3/node=a,2/node=a,3/node=a,4/node=a,5"

abbrev pub long_in_sequence : List ℕ
long_in_sequence = file "plan=1/res=1/acts=2/act=0,20000/act=0,20000/nodes=3/node=s,2/node=a,0/node=a,1"

abbrev pub long_side_by_side : List ℕ
long_side_by_side = file "plan=1/res=1/acts=2/act=0,20000/act=0,20000/nodes=3/node=p,2/node=a,0/node=a,1"

-- Edition 2: two arms and a camera; two arms side by side; an activity that holds an arm and the camera; one that needs
-- both arms; three units that are shared three ways; an activity without a resource.
abbrev pub two_arm_bench : List ℕ
two_arm_bench =
    file "plan=2/res=2/cap=2/cap=1/acts=5/act=4,1,0/act=3,1,1/act=2,2,0/act=5,1,0/act=2,0,1"
    ++ file "nodes=7/node=p,4/node=s,2/node=a,0/node=a,2/node=a,1/node=a,3/node=a,4"

abbrev three_side_by_side : List ℕ
three_side_by_side = file "nodes=4/node=p,3/node=a,0/node=a,1/node=a,2"

abbrev four_side_by_side : List ℕ
four_side_by_side = file "nodes=5/node=p,4/node=a,0/node=a,1/node=a,2/node=a,3"

abbrev pub two_arms : List ℕ
two_arms = file "plan=2/res=1/cap=2/acts=4/act=3,1/act=2,1/act=2,1/act=1,1" ++ four_side_by_side

abbrev pub arm_and_camera : List ℕ
arm_and_camera = file "plan=2/res=2/cap=2/cap=1/acts=4/act=2,1,1/act=3,0,1/act=1,1,0/act=2,2,0" ++ four_side_by_side

abbrev pub both_arms : List ℕ
both_arms = file "plan=2/res=1/cap=2/acts=3/act=3,2/act=2,1/act=4,1" ++ three_side_by_side

abbrev pub shared_three_ways : List ℕ
shared_three_ways = file "plan=2/res=1/cap=3/acts=4/act=2,1/act=3,1/act=1,1/act=2,2" ++ four_side_by_side

abbrev pub without_resource : List ℕ
without_resource = file "plan=2/res=1/cap=1/acts=3/act=2,1/act=3,1/act=4,0" ++ three_side_by_side

-- The dot test in edition 2.
abbrev dot_units : List ℕ
dot_units = file "plan=2/res=3/cap=1/cap=1/cap=1/acts=5/act=4,1,0,0/act=2,0,1,0/act=3,0,1,0/act=5,0,0,1/act=6,0,1,0"

abbrev pub dot_test_units : List ℕ
dot_test_units =
    dot_units ++ file "nodes=9/node=s,2/node=x,2/node=a,0/node=p,2/node=a,1/node=a,2/node=p,2/node=a,3/node=a,4"

-- Two activities in both sequences and side by side, on a resource of two units of which each holds one.
abbrev pub three_orders_units : List ℕ
three_orders_units =
    file "plan=2/res=1/cap=2/acts=2/act=1,1/act=2,1/nodes=10/node=x,3/node=s,2/node=a,0/node=a,1"
    ++ file "node=s,2/node=a,1/node=a,0/node=p,2/node=a,0/node=a,1"

-- A plan whose term is activity 0, by the lines before its nodes.
abbrev single : String → List ℕ
single lines = file lines ++ file "nodes=1/node=a,0"

abbrev pub at_capacity : List ℕ
at_capacity = single "plan=2/res=1/cap=15/acts=1/act=1,15"

abbrev pub over_capacity : List ℕ
over_capacity = single "plan=2/res=1/cap=14/acts=1/act=1,15"

-- The longest file, and the dot test with bytes past its end, n in all.
abbrev longest_act : List ℕ
longest_act = file "act=20000,15,15,15,15,15,15,15,15,15,15,15,15,15,15,15,15"

abbrev pub longest_file : List ℕ
longest_file =
    file "plan=2/res=16"
    ++ (times 16 (file "cap=15")
    ++ (file "acts=24" ++ (times 24 longest_act ++ (file "nodes=64/node=x,63" ++ times 63 (file "node=a,23")))))

abbrev pub dot_padded : ℕ → List ℕ
dot_padded n = dot_test ++ replicate (n - length dot_test) 48

abbrev pub dot_rows : List (List ℕ)
dot_rows =
    (0 ∷ 0 ∷ absent ∷ absent ∷ 4 ∷ 4 ∷ [])
    ∷ (1 ∷ absent ∷ 0 ∷ 2 ∷ 5 ∷ 5 ∷ [])
    ∷ (1 ∷ absent ∷ 3 ∷ 0 ∷ 5 ∷ 5 ∷ [])
    ∷ []

abbrev pub two_contested_rows : List (List ℕ)
two_contested_rows =
    (0 ∷ 0 ∷ 1 ∷ 0 ∷ 1 ∷ []) ∷ (0 ∷ 0 ∷ 1 ∷ 1 ∷ 0 ∷ []) ∷ (0 ∷ 1 ∷ 0 ∷ 0 ∷ 1 ∷ []) ∷ (0 ∷ 1 ∷ 0 ∷ 1 ∷ 0 ∷ []) ∷ []

abbrev pub example2_rows : List (List ℕ)
example2_rows =
    (0 ∷ 0 ∷ 0 ∷ 2 ∷ 2 ∷ 3 ∷ 1 ∷ 0 ∷ 3 ∷ [])
    ∷ (0 ∷ 0 ∷ 0 ∷ 2 ∷ 4 ∷ 5 ∷ 1 ∷ 0 ∷ 2 ∷ [])
    ∷ (0 ∷ 0 ∷ 1 ∷ 3 ∷ 0 ∷ 1 ∷ 2 ∷ 0 ∷ 3 ∷ [])
    ∷ (0 ∷ 0 ∷ 1 ∷ 3 ∷ 0 ∷ 3 ∷ 1 ∷ 0 ∷ 3 ∷ [])
    ∷ (0 ∷ 0 ∷ 3 ∷ 5 ∷ 0 ∷ 1 ∷ 2 ∷ 0 ∷ 1 ∷ [])
    ∷ (0 ∷ 0 ∷ 3 ∷ 5 ∷ 0 ∷ 3 ∷ 1 ∷ 0 ∷ 1 ∷ [])
    ∷ (0 ∷ 2 ∷ 0 ∷ 3 ∷ 2 ∷ 3 ∷ 0 ∷ 0 ∷ 3 ∷ [])
    ∷ (0 ∷ 2 ∷ 0 ∷ 3 ∷ 4 ∷ 5 ∷ 0 ∷ 0 ∷ 2 ∷ [])
    ∷ (0 ∷ 2 ∷ 1 ∷ 3 ∷ 0 ∷ 3 ∷ 0 ∷ 0 ∷ 3 ∷ [])
    ∷ (0 ∷ 2 ∷ 3 ∷ 5 ∷ 0 ∷ 3 ∷ 0 ∷ 0 ∷ 1 ∷ [])
    ∷ (0 ∷ 3 ∷ 1 ∷ 4 ∷ 0 ∷ 2 ∷ 0 ∷ 0 ∷ 3 ∷ [])
    ∷ (0 ∷ 3 ∷ 3 ∷ 5 ∷ 0 ∷ 2 ∷ 0 ∷ 0 ∷ 1 ∷ [])
    ∷ []

abbrev pub soak_rows : List (List ℕ)
soak_rows =
    (0 ∷ 0 ∷ 16000 ∷ 28000 ∷ 48000 ∷ 68000 ∷ 88000 ∷ [])
    ∷ (0 ∷ 0 ∷ 36000 ∷ 16000 ∷ 36000 ∷ 56000 ∷ 76000 ∷ [])
    ∷ (0 ∷ 20000 ∷ 36000 ∷ 0 ∷ 20000 ∷ 48000 ∷ 68000 ∷ [])
    ∷ (0 ∷ 20000 ∷ 60000 ∷ 0 ∷ 20000 ∷ 40000 ∷ 72000 ∷ [])
    ∷ []

abbrev pub two_arm_bench_rows : List (List ℕ)
two_arm_bench_rows =
    (0 ∷ 0 ∷ 0 ∷ 4 ∷ 6 ∷ 3 ∷ [])
    ∷ (0 ∷ 0 ∷ 0 ∷ 8 ∷ 3 ∷ 3 ∷ [])
    ∷ (0 ∷ 0 ∷ 2 ∷ 5 ∷ 7 ∷ 0 ∷ [])
    ∷ (0 ∷ 0 ∷ 2 ∷ 9 ∷ 4 ∷ 0 ∷ [])
    ∷ (0 ∷ 0 ∷ 4 ∷ 7 ∷ 0 ∷ 0 ∷ [])
    ∷ (0 ∷ 0 ∷ 6 ∷ 4 ∷ 6 ∷ 0 ∷ [])
    ∷ (0 ∷ 0 ∷ 7 ∷ 5 ∷ 0 ∷ 0 ∷ [])
    ∷ (0 ∷ 3 ∷ 0 ∷ 7 ∷ 0 ∷ 3 ∷ [])
    ∷ (0 ∷ 5 ∷ 2 ∷ 9 ∷ 0 ∷ 0 ∷ [])
    ∷ []

abbrev pub two_arms_rows : List (List ℕ)
two_arms_rows =
    (0 ∷ 0 ∷ 0 ∷ 2 ∷ 3 ∷ [])
    ∷ (0 ∷ 0 ∷ 0 ∷ 3 ∷ 2 ∷ [])
    ∷ (0 ∷ 0 ∷ 1 ∷ 3 ∷ 0 ∷ [])
    ∷ (0 ∷ 0 ∷ 2 ∷ 0 ∷ 3 ∷ [])
    ∷ (0 ∷ 0 ∷ 3 ∷ 0 ∷ 2 ∷ [])
    ∷ (0 ∷ 0 ∷ 3 ∷ 1 ∷ 0 ∷ [])
    ∷ (0 ∷ 1 ∷ 0 ∷ 2 ∷ 0 ∷ [])
    ∷ (0 ∷ 1 ∷ 2 ∷ 0 ∷ 0 ∷ [])
    ∷ (0 ∷ 2 ∷ 0 ∷ 0 ∷ 2 ∷ [])
    ∷ (0 ∷ 2 ∷ 0 ∷ 1 ∷ 0 ∷ [])
    ∷ (0 ∷ 2 ∷ 1 ∷ 0 ∷ 0 ∷ [])
    ∷ []

abbrev pub arm_and_camera_rows : List (List ℕ)
arm_and_camera_rows =
    (0 ∷ 0 ∷ 2 ∷ 0 ∷ 2 ∷ [])
    ∷ (0 ∷ 2 ∷ 4 ∷ 2 ∷ 0 ∷ [])
    ∷ (0 ∷ 3 ∷ 0 ∷ 0 ∷ 1 ∷ [])
    ∷ (0 ∷ 3 ∷ 0 ∷ 2 ∷ 0 ∷ [])
    ∷ []

abbrev pub shared_three_ways_rows : List (List ℕ)
shared_three_ways_rows =
    (0 ∷ 0 ∷ 0 ∷ 0 ∷ 2 ∷ [])
    ∷ (0 ∷ 0 ∷ 2 ∷ 0 ∷ 1 ∷ [])
    ∷ (0 ∷ 0 ∷ 2 ∷ 2 ∷ 0 ∷ [])
    ∷ (0 ∷ 1 ∷ 2 ∷ 0 ∷ 0 ∷ [])
    ∷ (0 ∷ 2 ∷ 0 ∷ 2 ∷ 0 ∷ [])
    ∷ (0 ∷ 2 ∷ 1 ∷ 0 ∷ 0 ∷ [])
    ∷ (0 ∷ 3 ∷ 0 ∷ 0 ∷ 1 ∷ [])
    ∷ []

-- The eleven x of activities 2 and 3, 4 and 5 and so on.
abbrev eleven_choices : List ℕ
eleven_choices =
    file "node=x,2/node=a,2/node=a,3/node=x,2/node=a,4/node=a,5/node=x,2/node=a,6/node=a,7/node=x,2/node=a,8/node=a,9"
    ++ (file "node=x,2/node=a,10/node=a,11/node=x,2/node=a,12/node=a,13/node=x,2/node=a,14/node=a,15"
    ++ (file "node=x,2/node=a,16/node=a,17/node=x,2/node=a,18/node=a,19"
    ++ file "node=x,2/node=a,20/node=a,21/node=x,2/node=a,22/node=a,23"))

abbrev twenty_four_activities : List ℕ
twenty_four_activities = file "plan=1/res=1/acts=24" ++ times 24 (file "act=0,1")

abbrev pub twelve_choices : List ℕ
twelve_choices = twenty_four_activities ++ (file "nodes=37/node=p,12/node=x,2/node=a,0/node=a,1" ++ eleven_choices)

abbrev pub one_choice_more : List ℕ
one_choice_more = twenty_four_activities ++ (file "nodes=38/node=p,12/node=x,3/node=a,0/node=a,1/node=a,0" ++ eleven_choices)

unfoldable pub table : List Row
table =
    -- The dot test.
    reads dot_test (counted 5 9 2)
    -- Durations on both sides of their limits, and a leading zero.
    ∷ reads (file "plan=1/res=1/acts=1/act=0,2000/nodes=1/node=a,0") (counted 1 1 1)
    ∷ reads (file "plan=1/res=1/acts=1/act=0,2001/nodes=1/node=a,0") (counted 1 1 1)
    ∷ reads (file "plan=1/res=1/acts=1/act=0,20000/nodes=1/node=a,0") (counted 1 1 1)
    ∷ reads (file "plan=1/res=1/acts=1/act=0,20001/nodes=1/node=a,0") (Err (Range 4))
    ∷ reads (file "plan=1/res=1/acts=1/act=0,0/nodes=1/node=a,0") (Err (Range 4))
    ∷ reads (file "plan=1/res=1/acts=1/act=0,04/nodes=1/node=a,0") (Err (Form 4))
    -- A group of one has its own number, on whichever line it stands, whatever else is wrong with the term. Other
    -- counts on both sides of their limits; activity 1 is no group.
    ∷ reads group_of_one (Err (GroupOfOne 6))
    ∷ reads (file "plan=1/res=1/acts=2/act=0,1/act=0,1/nodes=4/node=s,2/node=a,0/node=p,1/node=a,1")
    (Err (GroupOfOne 9))
    ∷ reads (file "plan=1/res=1/acts=2/act=0,1/act=0,1/nodes=4/node=p,2/node=x,1/node=a,0/node=a,1")
    (Err (GroupOfOne 8))
    ∷ reads (file "plan=1/res=1/acts=1/act=0,1/nodes=1/node=x,1") (Err (GroupOfOne 6))
    ∷ reads (file "plan=1/res=1/acts=1/act=0,1/nodes=2/node=s,0/node=a,0") (Err (Range 6))
    ∷ reads (file "plan=1/res=1/acts=1/act=0,1/nodes=2/node=p,64/node=a,0") (Err (Range 6))
    ∷ reads (file "plan=1/res=1/acts=2/act=0,1/act=0,1/nodes=1/node=a,1") (counted 2 1 1)
    -- An earlier line goes first, whatever its number.
    ∷ reads (file "plan=1/res=1/acts=1/act=0,1/nodes=02/node=s,1/node=a,0") (Err (Form 5))
    ∷ reads (file "plan=1/res=1/acts=1/act=0,1/nodes=3/node=b,2/node=s,1/node=a,0") (Err (Form 6))
    ∷ reads (file "plan=1/res=1/acts=1/act=0,1/nodes=3/node=s,64/node=s,1/node=a,0") (Err (Range 6))
    ∷ reads (file "plan=1/res=1/acts=1/act=0,1/nodes=3/node=s,1/node=s,64/node=b,0") (Err (GroupOfOne 6))
    -- Edition 2. A count of units above its resource's capacity gives 11; 16 is out of range, whatever the capacity.
    -- Each count goes by its own resource, and all may be 0.
    ∷ reads at_capacity (counted 1 1 1)
    ∷ reads over_capacity (Err (OverCapacity 5))
    ∷ reads (single "plan=2/res=1/cap=15/acts=1/act=1,16") (Err (Range 5))
    ∷ reads (single "plan=2/res=1/cap=14/acts=1/act=1,16") (Err (Range 5))
    ∷ reads (single "plan=2/res=2/cap=2/cap=1/acts=2/act=1,2,1/act=1,0,0") (counted 2 1 1)
    ∷ reads (single "plan=2/res=2/cap=2/cap=1/acts=2/act=1,2,1/act=1,0,2") (Err (OverCapacity 7))
    ∷ reads (single "plan=2/res=2/cap=1/cap=2/acts=2/act=1,1,2/act=1,2,0") (Err (OverCapacity 7))
    -- 3 goes before 11 on its line, and an earlier line first.
    ∷ reads (single "plan=2/res=1/cap=1/acts=1/act=20001,2") (Err (Range 5))
    ∷ reads (single "plan=2/res=2/cap=1/cap=1/acts=1/act=1,2,16") (Err (Range 6))
    ∷ reads (single "plan=2/res=1/cap=1/acts=2/act=1,2/act=0,1") (Err (OverCapacity 5))
    ∷ reads (file "plan=2/res=1/cap=1/acts=1/act=1,2/nodes=2/node=s,1/node=a,0") (Err (OverCapacity 5))
    -- Capacities on both sides of their limits; a `cap` line or a count too few or too many; other editions.
    ∷ reads (single "plan=2/res=1/cap=0/acts=1/act=1,0") (Err (Range 3))
    ∷ reads (single "plan=2/res=1/cap=1/acts=1/act=1,1") (counted 1 1 1)
    ∷ reads (single "plan=2/res=1/cap=16/acts=1/act=1,1") (Err (Range 3))
    ∷ reads (single "plan=2/res=2/cap=1/acts=1/act=1,1,1") (Err (Form 4))
    ∷ reads (single "plan=2/res=1/cap=1/cap=1/acts=1/act=1,1") (Err (Form 4))
    ∷ reads (single "plan=2/res=2/cap=1/cap=1/acts=1/act=1,1") (Err (Form 6))
    ∷ reads (single "plan=2/res=1/cap=1/acts=1/act=1,1,1") (Err (Form 5))
    ∷ reads (single "plan=1/res=1/cap=1/acts=1/act=0,1") (Err (Form 3))
    ∷ reads (single "plan=0/res=1/acts=1/act=0,1") (Err (Range 1))
    ∷ reads (single "plan=3/res=1/cap=1/acts=1/act=1,1") (Err (Range 1))
    -- The longest file, and a byte more. A file of edition 1 up to that length is judged by its lines.
    ∷ reads longest_file (counted 24 64 63)
    ∷ reads (longest_file ++ (10 ∷ [])) (Err Length)
    ∷ reads (dot_padded 984) (Err (Form 19))
    ∷ reads (dot_padded 2175) (Err (Form 19))
    ∷ reads (dot_padded 2176) (Err Length)
    ∷ reads dot_test_units (counted 5 9 2)
    ∷ reads two_arm_bench (counted 5 7 1)
    -- Activity 0 twice, under an x and under a p.
    ∷ reads twice_under_x (counted 1 3 2)
    ∷ reads twice_under_p (Err Twice)
    -- An x over two activities in both sequences and side by side; over the two side by side and in sequence; over the
    -- two alone.
    ∷ reads three_orders (counted 2 10 3)
    ∷ reads feasible_below (counted 2 7 2)
    ∷ reads other_activities (counted 2 3 2)
    -- p over twelve x of two distinct activities, and with one of an x's two activities named there once more: 6144.
    ∷ reads twelve_choices (counted 24 37 4096)
    ∷ has_variants twelve_choices 4096
    ∷ reads one_choice_more (Err TooManyVariants)
    ∷ has_variants one_choice_more 6144
    -- The dot test's variants written out; there is no third.
    ∷ writes dot_test 0
    (file "plan=1/res=3/acts=5/act=0,4/act=1,2/act=1,3/act=2,5/act=1,6"
    ++ file "nodes=5/node=s,2/node=a,0/node=p,2/node=a,3/node=a,4")
    ∷ checks dot_test 2 (timetable []) (Err NoSuchVariant)
    -- The same in edition 2, with its `cap` lines; a plan that is its own variant.
    ∷ writes dot_test_units 0 (dot_units ++ file "nodes=5/node=s,2/node=a,0/node=p,2/node=a,3/node=a,4")
    ∷ writes two_arm_bench 0 two_arm_bench
    -- An s in an s and a p in a p through a picked x are dissolved, and an s in a p is not.
    ∷ writes (file "plan=1/res=1/acts=4/act=0,1/act=0,1/act=0,1/act=0,1"
    ++ file "nodes=7/node=s,2/node=x,2/node=s,2/node=a,0/node=a,1/node=a,2/node=a,3") 0
    (file "plan=1/res=1/acts=4/act=0,1/act=0,1/act=0,1/act=0,1/nodes=4/node=s,3/node=a,0/node=a,1/node=a,3")
    ∷ writes (file "plan=1/res=1/acts=4/act=0,1/act=0,1/act=0,1/act=0,1"
    ++ file "nodes=7/node=p,2/node=a,3/node=x,2/node=a,2/node=p,2/node=a,0/node=a,1") 1
    (file "plan=1/res=1/acts=4/act=0,1/act=0,1/act=0,1/act=0,1/nodes=4/node=p,3/node=a,3/node=a,0/node=a,1")
    ∷ writes (file "plan=1/res=1/acts=3/act=0,1/act=0,1/act=0,1/nodes=5/node=p,2/node=s,2/node=a,0/node=a,1/node=a,2") 0
    (file "plan=1/res=1/acts=3/act=0,1/act=0,1/act=0,1/nodes=5/node=p,2/node=s,2/node=a,0/node=a,1/node=a,2")
    -- An x under an s under an x.
    ∷ writes (file "plan=1/res=1/acts=4/act=0,1/act=0,1/act=0,1/act=0,1"
    ++ file "nodes=7/node=x,2/node=s,2/node=x,2/node=a,0/node=a,1/node=a,2/node=a,3") 1
    (file "plan=1/res=1/acts=4/act=0,1/act=0,1/act=0,1/act=0,1/nodes=3/node=s,2/node=a,1/node=a,2")
    ∷ writes (file "plan=1/res=1/acts=4/act=0,1/act=0,1/act=0,1/act=0,1"
    ++ file "nodes=7/node=x,2/node=s,2/node=x,2/node=a,0/node=a,1/node=a,2/node=a,3") 2
    (file "plan=1/res=1/acts=4/act=0,1/act=0,1/act=0,1/act=0,1/nodes=1/node=a,3")
    -- The dot test's shortest session; one tick too early; two on a resource at once; a present one with the mark; an
    -- absent one with a start.
    ∷ checks dot_test 0 (timetable (0 ∷ absent ∷ absent ∷ 4 ∷ 4 ∷ [])) (Ok true)
    ∷ checks dot_test 0 (timetable (0 ∷ absent ∷ absent ∷ 4 ∷ 3 ∷ [])) (Ok false)
    ∷ checks dot_test 1 (timetable (absent ∷ 0 ∷ 1 ∷ 5 ∷ 5 ∷ [])) (Ok false)
    ∷ checks dot_test 1 (timetable (absent ∷ 0 ∷ 2 ∷ 5 ∷ 5 ∷ [])) (Ok true)
    ∷ checks dot_test 0 (timetable (0 ∷ absent ∷ absent ∷ 4 ∷ [])) (Ok false)
    ∷ checks dot_test 0 (timetable (0 ∷ 0 ∷ absent ∷ 4 ∷ 4 ∷ [])) (Ok false)
    -- 65535 is a start like any other: of a present activity, and not the mark of an absent one.
    ∷ checks dot_test 0 (timetable (0 ∷ absent ∷ absent ∷ 65535 ∷ 4 ∷ [])) (Ok true)
    ∷ checks dot_test 0 (timetable (0 ∷ 65535 ∷ absent ∷ 4 ∷ 4 ∷ [])) (Ok false)
    ∷ checks soak 0 (timetable (37535 ∷ 53535 ∷ 17535 ∷ 37535 ∷ 65535 ∷ 85535 ∷ [])) (Ok true)
    ∷ checks soak 0 (timetable (20000 ∷ 36000 ∷ 0 ∷ 20000 ∷ 48000 ∷ 65535 ∷ [])) (Ok false)
    -- Ends at 2^32 and past it: the first does not end on tick 0, nor by the start of the second.
    ∷ checks long_in_sequence 0 (timetable (4294947294 ∷ 4294967294 ∷ [])) (Ok true)
    ∷ checks long_in_sequence 0 (timetable (4294947295 ∷ 4294967294 ∷ [])) (Ok false)
    ∷ checks long_in_sequence 0 (timetable (4294947296 ∷ 0 ∷ [])) (Ok false)
    ∷ checks long_side_by_side 0 (timetable (4294967294 ∷ 0 ∷ [])) (Ok true)
    ∷ checks long_side_by_side 0 (timetable (4294947296 ∷ 4294960000 ∷ [])) (Ok false)
    -- In sequence, also where the two may stand side by side: feasible for variant 0, though not active.
    ∷ checks feasible_below 1 (timetable (0 ∷ 1 ∷ [])) (Ok true)
    ∷ checks feasible_below 0 (timetable (0 ∷ 1 ∷ [])) (Ok true)
    -- The units that are left suffice, or one is wanting, of the first resource or the second.
    ∷ checks two_arms 0 (timetable (0 ∷ 0 ∷ 2 ∷ 4 ∷ [])) (Ok true)
    ∷ checks two_arms 0 (timetable (0 ∷ 0 ∷ 1 ∷ 4 ∷ [])) (Ok false)
    ∷ checks arm_and_camera 0 (timetable (0 ∷ 2 ∷ 0 ∷ 2 ∷ [])) (Ok true)
    ∷ checks arm_and_camera 0 (timetable (0 ∷ 1 ∷ 0 ∷ 2 ∷ [])) (Ok false)
    ∷ checks arm_and_camera 0 (timetable (0 ∷ 2 ∷ 0 ∷ 1 ∷ [])) (Ok false)
    ∷ checks both_arms 0 (timetable (0 ∷ 3 ∷ 3 ∷ [])) (Ok true)
    ∷ checks both_arms 0 (timetable (0 ∷ 2 ∷ 3 ∷ [])) (Ok false)
    ∷ checks shared_three_ways 0 (timetable (0 ∷ 0 ∷ 0 ∷ 2 ∷ [])) (Ok true)
    ∷ checks shared_three_ways 0 (timetable (0 ∷ 0 ∷ 0 ∷ 1 ∷ [])) (Ok false)
    ∷ checks without_resource 0 (timetable (0 ∷ 2 ∷ 1 ∷ [])) (Ok true)
    ∷ checks without_resource 0 (timetable (0 ∷ 1 ∷ 1 ∷ [])) (Ok false)
    -- An activity runs on tick 2^32, which is not tick 0, where both arms are held. Both are held up to 2^32, and a
    -- third activity ends where they start, or a tick later.
    ∷ checks two_arms 0 (timetable (4294967294 ∷ 4294967294 ∷ 0 ∷ 0 ∷ [])) (Ok true)
    ∷ checks two_arms 0 (timetable (4294967294 ∷ 4294967294 ∷ 4294967292 ∷ 0 ∷ [])) (Ok true)
    ∷ checks two_arms 0 (timetable (4294967294 ∷ 4294967294 ∷ 4294967293 ∷ 0 ∷ [])) (Ok false)
    -- The dot test: variant 1 has two sessions of makespan 11, variant 0 one of 10. Caps on both sides of their number.
    ∷ spans dot_test 0 (10 ∷ [])
    ∷ spans dot_test 1 (11 ∷ 11 ∷ [])
    ∷ lists dot_test 3 20 (Ok 3) dot_rows
    ∷ lists dot_test 3 18 (Ok 3) dot_rows
    ∷ lists dot_test 3 17 (Err (AreaTooShort 18)) []
    ∷ lists dot_test 2 18 (Err OverCap) []
    ∷ lists dot_test 0 18 (Err OverCap) []
    -- Activity 0 under both picks of an x: one session of both variants, which counts once, under variant 0.
    ∷ spans twice_under_x 0 (1 ∷ [])
    ∷ spans twice_under_x 1 (1 ∷ [])
    ∷ lists twice_under_x 1 4 (Ok 1) ((0 ∷ 0 ∷ []) ∷ [])
    ∷ lists twice_under_x 1 2 (Ok 1) ((0 ∷ 0 ∷ []) ∷ [])
    ∷ lists twice_under_x 1 1 (Err (AreaTooShort 2)) []
    -- Both sessions of variant 2 are a lower variant's: 0 before 1 counts under variant 0, 1 before 0 under variant 1.
    ∷ spans three_orders 0 (3 ∷ [])
    ∷ spans three_orders 1 (3 ∷ [])
    ∷ spans three_orders 2 (3 ∷ 3 ∷ [])
    ∷ lists three_orders 2 6 (Ok 2) ((0 ∷ 0 ∷ 1 ∷ []) ∷ (1 ∷ 2 ∷ 0 ∷ []) ∷ [])
    ∷ lists three_orders 2 5 (Err (AreaTooShort 6)) []
    -- The session of variant 1 is not active for variant 0, so it counts under variant 1.
    ∷ spans feasible_below 0 (2 ∷ [])
    ∷ spans feasible_below 1 (3 ∷ [])
    ∷ lists feasible_below 2 6 (Ok 2) ((0 ∷ 0 ∷ 0 ∷ []) ∷ (1 ∷ 0 ∷ 1 ∷ []) ∷ [])
    ∷ lists feasible_below 2 5 (Err (AreaTooShort 6)) []
    -- The sessions of both variants start on tick 0, with other activities: they count apart.
    ∷ spans other_activities 0 (1 ∷ [])
    ∷ spans other_activities 1 (1 ∷ [])
    ∷ lists other_activities 2 6 (Ok 2) ((0 ∷ 0 ∷ absent ∷ []) ∷ (1 ∷ absent ∷ 0 ∷ []) ∷ [])
    ∷ lists other_activities 2 5 (Err (AreaTooShort 6)) []
    -- Two contested resources on one tick; a free resource that has to wait; three sessions that are equally long;
    -- document 000, Example 2, second term.
    ∷ spans two_contested 0 (2 ∷ 2 ∷ 2 ∷ 2 ∷ [])
    ∷ lists two_contested 4 20 (Ok 4) two_contested_rows
    ∷ spans free_resource_waits 0 (31 ∷ 22 ∷ [])
    ∷ lists free_resource_waits 2 11 (Ok 2) ((0 ∷ 0 ∷ 0 ∷ 10 ∷ 11 ∷ []) ∷ (0 ∷ 2 ∷ 0 ∷ 1 ∷ 2 ∷ []) ∷ [])
    ∷ spans three_shortest 0 (3 ∷ 3 ∷ 3 ∷ [])
    ∷ lists three_shortest 3 12 (Ok 3) ((0 ∷ 1 ∷ 2 ∷ 0 ∷ []) ∷ (0 ∷ 2 ∷ 0 ∷ 1 ∷ []) ∷ (0 ∷ 2 ∷ 1 ∷ 0 ∷ []) ∷ [])
    ∷ spans example2 0 (5 ∷ 6 ∷ 5 ∷ 5 ∷ 7 ∷ 7 ∷ 5 ∷ 6 ∷ 5 ∷ 7 ∷ 6 ∷ 7 ∷ [])
    ∷ lists example2 12 108 (Ok 12) example2_rows
    -- Starts and makespans over 65535.
    ∷ reads soak (counted 6 10 1)
    ∷ spans soak 0 (108000 ∷ 96000 ∷ 88000 ∷ 92000 ∷ [])
    ∷ lists soak 4 28 (Ok 4) soak_rows
    ∷ lists soak 4 27 (Err (AreaTooShort 28)) []
    -- Edition 2: sessions and their makespans.
    ∷ spans two_arm_bench 0 (11 ∷ 10 ∷ 12 ∷ 11 ∷ 9 ∷ 11 ∷ 10 ∷ 9 ∷ 11 ∷ [])
    ∷ lists two_arm_bench 9 55 (Ok 9) two_arm_bench_rows
    ∷ lists two_arm_bench 9 53 (Err (AreaTooShort 54)) []
    ∷ spans two_arms 0 (4 ∷ 5 ∷ 5 ∷ 4 ∷ 5 ∷ 5 ∷ 4 ∷ 4 ∷ 5 ∷ 5 ∷ 5 ∷ [])
    ∷ lists two_arms 11 55 (Ok 11) two_arms_rows
    ∷ spans arm_and_camera 0 (5 ∷ 7 ∷ 5 ∷ 5 ∷ [])
    ∷ lists arm_and_camera 4 20 (Ok 4) arm_and_camera_rows
    ∷ spans both_arms 0 (7 ∷ 9 ∷ 7 ∷ [])
    ∷ lists both_arms 3 12 (Ok 3) ((0 ∷ 0 ∷ 3 ∷ 3 ∷ []) ∷ (0 ∷ 2 ∷ 0 ∷ 5 ∷ []) ∷ (0 ∷ 4 ∷ 0 ∷ 0 ∷ []) ∷ [])
    ∷ spans shared_three_ways 0 (4 ∷ 5 ∷ 5 ∷ 5 ∷ 4 ∷ 4 ∷ 5 ∷ [])
    ∷ lists shared_three_ways 7 35 (Ok 7) shared_three_ways_rows
    ∷ spans without_resource 0 (5 ∷ 5 ∷ [])
    ∷ lists without_resource 2 8 (Ok 2) ((0 ∷ 0 ∷ 2 ∷ 0 ∷ []) ∷ (0 ∷ 3 ∷ 0 ∷ 0 ∷ []) ∷ [])
    -- The last variant of the longest file.
    ∷ spans longest_file 62 (20000 ∷ [])
    -- The dot test's listing in both editions.
    ∷ spans dot_test_units 1 (11 ∷ 11 ∷ [])
    ∷ lists dot_test_units 3 18 (Ok 3) dot_rows
    -- Side by side the two do not wait for each other, so that each variant has a session of its own.
    ∷ lists three_orders_units 3 9 (Ok 3) ((0 ∷ 0 ∷ 1 ∷ []) ∷ (1 ∷ 2 ∷ 0 ∷ []) ∷ (2 ∷ 0 ∷ 0 ∷ []) ∷ [])
    -- BEST. The dot test with the program's cap, and caps on both sides of the number of its sessions.
    ∷ finds dot_test 1000000 0 10 3 1 (0 ∷ absent ∷ absent ∷ 4 ∷ 4 ∷ [])
    ∷ finds dot_test 3 0 10 3 1 (0 ∷ absent ∷ absent ∷ 4 ∷ 4 ∷ [])
    ∷ stops dot_test 2 OverCap
    ∷ stops dot_test 0 OverCap
    -- One session of both variants; sessions of variants 0 and 1 that are equally long, and 0 goes first; the shorter
    -- one of variant 0; caps on both sides of each number. Plans that the reader turns back.
    ∷ finds twice_under_x 1000000 0 1 1 1 (0 ∷ [])
    ∷ finds twice_under_x 1 0 1 1 1 (0 ∷ [])
    ∷ stops twice_under_x 0 OverCap
    ∷ finds three_orders 2 0 3 2 2 (0 ∷ 1 ∷ [])
    ∷ stops three_orders 1 OverCap
    ∷ finds other_activities 2 0 1 2 2 (0 ∷ absent ∷ [])
    ∷ stops other_activities 1 OverCap
    ∷ finds feasible_below 2 0 2 2 1 (0 ∷ 0 ∷ [])
    ∷ stops feasible_below 1 OverCap
    ∷ stops twice_under_p 1000000 Twice
    ∷ stops group_of_one 1000000 (GroupOfOne 6)
    -- Two contested resources on one tick; 22 is missed if a free resource never waits; the first of the three,
    -- whatever is found first; document 000, Example 2, second term: the first of five.
    ∷ finds two_contested 1000000 0 2 4 4 (0 ∷ 1 ∷ 0 ∷ 1 ∷ [])
    ∷ finds free_resource_waits 1000000 0 22 2 1 (2 ∷ 0 ∷ 1 ∷ 2 ∷ [])
    ∷ finds three_shortest 1000000 0 3 3 3 (1 ∷ 2 ∷ 0 ∷ [])
    ∷ finds example2 1000000 0 5 12 5 (0 ∷ 0 ∷ 2 ∷ 2 ∷ 3 ∷ 1 ∷ 0 ∷ 3 ∷ [])
    -- A shortest session that is longer than 65535, the third of four.
    ∷ finds soak 4 0 88000 4 1 (20000 ∷ 36000 ∷ 0 ∷ 20000 ∷ 48000 ∷ 68000 ∷ [])
    ∷ stops soak 3 OverCap
    -- Edition 2: the first of several that are equally short; the dot test's answer in both editions.
    ∷ finds two_arm_bench 9 0 9 9 2 (0 ∷ 4 ∷ 7 ∷ 0 ∷ 0 ∷ [])
    ∷ stops two_arm_bench 8 OverCap
    ∷ finds two_arms 11 0 4 11 4 (0 ∷ 0 ∷ 2 ∷ 3 ∷ [])
    ∷ finds arm_and_camera 4 0 5 4 3 (0 ∷ 2 ∷ 0 ∷ 2 ∷ [])
    ∷ finds both_arms 3 0 7 3 2 (0 ∷ 3 ∷ 3 ∷ [])
    ∷ finds shared_three_ways 7 0 4 7 3 (0 ∷ 0 ∷ 0 ∷ 2 ∷ [])
    ∷ finds without_resource 2 0 5 2 2 (0 ∷ 2 ∷ 0 ∷ [])
    ∷ finds dot_test_units 3 0 10 3 1 (0 ∷ absent ∷ absent ∷ 4 ∷ 4 ∷ [])
    ∷ stops dot_test_units 2 OverCap
    ∷ finds at_capacity 1000000 0 1 1 1 (0 ∷ [])
    ∷ stops over_capacity 1000000 (OverCapacity 5)
    ∷ []
