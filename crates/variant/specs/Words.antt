-- Sessions in the words of the paper, with no tests. p is a plan and w the chosen term of a variant.
use Rattle.std.specs.Prelude.{ℕ, ◌+◌, ◌≤◌, ◌<◌, ◌≢◌, ◌↔◌, ◌⊎◌, ◌≡◌, length, get_or}
use mathlib.Core.List.{List, Memᴰ, Nodup}
use Rattle.base.specs.Lists.{sum_over}
use Rattle.plan.specs.Plan.{Plan, own_resource}
use Rattle.term.specs.Term.{Term, Forest, act, seq, pll, xor, nil, cons}
use Rattle.term.specs.Variants.{activities, activities_of_all}
use Rattle.schedule.specs.Schedule.{Starts}
use Rattle.schedule.specs.Sessions.{starts_of}
use Rattle.variant.specs.Project.{activity_at, units_at}
use Rattle.timetable.specs.Mark.{mark, places}

-- Activity i is one of the variant's.
abbrev pub Present : Term → ℕ → Type 0
Present w i = Memᴰ i (activities w)

-- i precedes j: some s of the term has i under an earlier child than j.
unfoldable mutual
  pub Precedes : Term → ℕ → ℕ → Type 0
  Precedes (act k) i j = ⊥
  Precedes (seq f) i j = Earlier f i j ⊎ PrecedesInOne f i j
  Precedes (pll f) i j = PrecedesInOne f i j
  Precedes (xor f) i j = PrecedesInOne f i j

  -- some child has such an s
  pub PrecedesInOne : Forest → ℕ → ℕ → Type 0
  PrecedesInOne nil i j = ⊥
  PrecedesInOne (cons t f) i j = Precedes t i j ⊎ PrecedesInOne f i j

  -- i is under a child, and j under one that follows it
  pub Earlier : Forest → ℕ → ℕ → Type 0
  Earlier nil i j = ⊥
  Earlier (cons t f) i j = (Present t i × Memᴰ j (activities_of_all f)) ⊎ Earlier f i j

-- An end is start plus duration.
abbrev pub end_in : Plan → Starts → ℕ → ℕ
end_in p S i = S i + (activity_at p i).duration

-- The variant has activity i, and it runs on tick t.
pub record Running (p : Plan) (w : Term) (S : Starts) (t i : ℕ) : Type 0 where
  pub present : Present w i
  pub begun : S i ≤ t
  pub unfinished : t < end_in p S i

-- Each activity starts no earlier than the end of all that precede it.
abbrev pub InOrder : Plan → Term → Starts → Type 0
InOrder p w S = (i j : ℕ) → Present w i → Present w j → Precedes w i j → end_in p S i ≤ S j

-- Besides, on every tick what runs, each activity taken once, holds no more units of a resource than it has.
pub record Keeps (p : Plan) (w : Term) (S : Starts) : Type 0 where
  pub after : InOrder p w S
  pub within :
      (t r : ℕ) → r < length p.capacities → (is : List ℕ) → Nodup is
      → ((i : ℕ) → Memᴰ i is → Running p w S t i)
      → sum_over (λ i. units_at p i r) is ≤ get_or p.capacities r 0

-- The same for a plan of the first edition, where each activity has a resource of its own: two on one resource do not
-- overlap.
abbrev pub resource_of : Plan → ℕ → ℕ
resource_of p i = own_resource (activity_at p i).units

pub record KeepsApart (p : Plan) (w : Term) (S : Starts) : Type 0 where
  pub after : InOrder p w S
  pub apart :
      (i j : ℕ) → Present w i → Present w j → i ≢ j → resource_of p i ≡ resource_of p j
      → (end_in p S i ≤ S j) ⊎ (end_in p S j ≤ S i)

-- n is the makespan: latest end less earliest start.
pub record Makespan (p : Plan) (w : Term) (S : Starts) (n : ℕ) : Type 0 where
  pub first : ℕ
  pub last : ℕ
  pub starts : Present w first
  pub ends : Present w last
  pub earliest : (i : ℕ) → Present w i → S first ≤ S i
  pub latest : (i : ℕ) → Present w i → end_in p S i ≤ end_in p S last
  pub between : S first + n ≡ end_in p S last

-- A feasible session in which no single start can be made smaller, the others unchanged, so that it remains feasible.
pub record IsActive (p : Plan) (w : Term) (S : Starts) : Type 0 where
  pub keeps : Keeps p w S
  pub least :
      (j : ℕ) (R : Starts) → Present w j → R j < S j → ((i : ℕ) → i ≢ j → R i ≡ S i) → Keeps p w R → ⊥

-- Of the first n activities, exactly the absent ones have the mark.
abbrev pub MarksAbsent : Term → ℕ → List ℕ → Type 0
MarksAbsent w n row = (i : ℕ) → i < n → (starts_of row i ≡ mark) ↔ (Present w i → ⊥)

-- A timetable that is a feasible session.
pub record Session (p : Plan) (w : Term) (row : List ℕ) : Type 0 where
  pub marks : MarksAbsent w places row
  pub keeps : Keeps p w (starts_of row)

-- The starts of the plan's activities in an active session.
pub record ActiveSession (p : Plan) (w : Term) (row : List ℕ) : Type 0 where
  pub long : length row ≡ length p.activities
  pub marks : MarksAbsent w (length p.activities) row
  pub active : IsActive p w (starts_of row)

-- Session a of the variant stands before b: at the first of its activities at which they differ it starts sooner.
pub record Sooner (w : Term) (a b : List ℕ) : Type 0 where
  pub activity : ℕ
  pub present : Present w activity
  pub sooner : starts_of a activity < starts_of b activity
  pub same : (i : ℕ) → Present w i → i < activity → starts_of a i ≡ starts_of b i
