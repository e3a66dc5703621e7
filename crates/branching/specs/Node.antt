-- A node of the search: what is frozen is closed under precedence, has all that has begun, and is active by itself. And
-- where an activity may start among the frozen ones: the frozen set and the starts are plain functions, of which only
-- what they say of the project's activities counts.
use Rattle.std.specs.Prelude.{ℕ, ◌+◌, ◌≤◌, ◌<◌, Bool, true, false, ◌||◌, ◌≡◌, eqb}
use Rattle.schedule.specs.Project.{Project}
use Rattle.schedule.specs.Schedule.{Starts, end_of, load}
use Rattle.schedule.specs.Bounds.{Has}
use Rattle.schedule.specs.Facts.{among, Active}

abbrev pub Frozen : Project → (ℕ → Bool) → ℕ → Type 0
Frozen p F i = Has (among p F) i

-- Not frozen, and all that precedes it is.
pub record Open (p : Project) (F : ℕ → Bool) (i : ℕ) : Type 0 where
  pub has : Has p i
  pub waits : F i ≡ false
  pub freed : (k : ℕ) → Has p k → p.precedes k i ≡ true → F k ≡ true

-- i may start at t: it is ready, and its units are left while it would run.
pub record Room (p : Project) (F : ℕ → Bool) (S : Starts) (i t : ℕ) : Type 0 where
  pub from_floor : p.floor ≤ t
  pub ready : (k : ℕ) → Frozen p F k → p.precedes k i ≡ true → end_of p S k + p.gap k i ≤ t
  pub fits : (u r : ℕ) → r < p.resources → t ≤ u → u < t + p.duration i
      → load (among p F) S u r + p.units i r ≤ p.capacity r

pub record Soonest (p : Project) (F : ℕ → Bool) (S : Starts) (i e : ℕ) : Type 0 where
  pub room : Room p F S i e
  pub least : (t : ℕ) → Room p F S i t → e ≤ t

-- The set with j added.
abbrev pub adding : (ℕ → Bool) → ℕ → ℕ → Bool
adding F j i = eqb i j || F i

pub record Node (p : Project) (F : ℕ → Bool) (S : Starts) : Type 0 where
  pub inside : (i : ℕ) → i < p.size → F i ≡ true → p.present i ≡ true
  pub closed : (i j : ℕ) → Has p i → Frozen p F j → p.precedes i j ≡ true → F i ≡ true
  pub begun : (i : ℕ) → Has p i → p.free i ≡ false → F i ≡ true
  pub is_active : Active (among p F) S
