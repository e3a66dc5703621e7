-- A diagram of the scan stands for a node: what is frozen is a node, what else is placed starts at its earliest, and
-- what is not placed can start at `line` or later only. T keeps what has yet to end.
use Rattle.std.specs.Prelude.{ℕ, ◌+◌, ◌≤◌, ◌<◌, true, false, ◌≡◌}
use Rattle.schedule.specs.Project.{Project}
use Rattle.schedule.specs.Schedule.{end_of}
use Rattle.schedule.specs.Bounds.{Has}
use Rattle.branching.specs.Node.{Open, Room, Soonest, Node}
use Rattle.scan.specs.Scan.{Diagram}

pub record Standing (p : Project) (d : Diagram) (line : ℕ) : Type 0 where
  pub node : Node p d.frozen d.starts
  pub inside : (i : ℕ) → d.placed i ≡ true → Has p i
  pub known : (i : ℕ) → d.term i ≡ true → Has p i
  pub within : (i : ℕ) → d.frozen i ≡ true → d.placed i ≡ true
  pub waiting : (i : ℕ) → Has p i → d.frozen i ≡ false → d.term i ≡ true
  pub running : (i : ℕ) → d.frozen i ≡ true → d.tick < end_of p d.starts i → d.term i ≡ true
  pub before : (i : ℕ) → d.frozen i ≡ true → d.starts i < d.tick
  pub behind : (i k : ℕ) → d.placed i ≡ true → Has p k → p.precedes k i ≡ true → d.frozen k ≡ true
  pub at : (i : ℕ) → d.placed i ≡ true → d.frozen i ≡ false
      → Soonest p d.frozen d.starts i (d.starts i)
  pub unplaced : (i : ℕ) → Open p d.frozen i → d.placed i ≡ false → (x : ℕ)
      → Room p d.frozen d.starts i x
      → line ≤ x
  pub late : (i : ℕ) → Open p d.frozen i → (x : ℕ) → Room p d.frozen d.starts i x
      → d.tick ≤ x + p.duration i
