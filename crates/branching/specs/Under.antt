-- The schedules under a node: they agree with it, and in each component what is not frozen starts after what is, by
-- start and then number, save what has begun.
use Rattle.std.specs.Prelude.{ℕ, ◌≤◌, ◌<◌, Bool, true, false, ◌≡◌}
use Rattle.schedule.specs.Project.{Project}
use Rattle.schedule.specs.Schedule.{Starts}
use Rattle.schedule.specs.Bounds.{Has}
use Rattle.schedule.specs.Facts.{among, Agree}
use Rattle.branching.specs.Node.{Frozen}

-- Two activities with a common resource are of one component.
abbrev pub Components : Project → (ℕ → ℕ) → Type 0
Components p comp =
    (i k r : ℕ) → Has p i → Has p k → r < p.resources → 0 < p.units i r → 0 < p.units k r → comp i ≡ comp k

-- a before b, and where they are equal i before j.
pub record Ahead (a i b j : ℕ) : Type 0 where
  pub low : a ≤ b
  pub tie : a ≡ b → i < j

pub record Under (p : Project) (comp : ℕ → ℕ) (F : ℕ → Bool) (S T : Starts) : Type 0 where
  pub agrees : Agree (among p F) S T
  pub after : (k i : ℕ) → Frozen p F k → p.free k ≡ true → Has p i → F i ≡ false → comp i ≡ comp k
      → Ahead (T k) k (T i) i
