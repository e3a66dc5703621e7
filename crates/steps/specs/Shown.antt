-- The line and the working array show a diagram of the scan.
use Rattle.std.specs.Prelude.{ℕ, ◌+◌, ◌≤◌, ◌<◌, true, false, not, ◌&&◌, List, ◌⊎◌, ◌≡◌}
use Rattle.sets.specs.Sets.{has}
use Rattle.scan.specs.Scan.{Diagram}
use Rattle.scan.specs.Scan.{is_next}
use Rattle.instance.specs.Instance.{own_of}
use Rattle.instance.specs.Table.{acts_of, present_of, duration_at, own_at, tight_of, project_in}
use Rattle.profile.specs.Work.{end_at, ready_at, free_at, start_at, soon_at}
use Rattle.steps.specs.Steps.{frozen_in, loose_in}
use Rattle.steps.specs.declared.Line.{Line}

pub record Shows (t : List ℕ) (l : Line) (w : List ℕ) (d : Diagram) : Type 0 where
  pub tick : d.tick ≡ l.tick
  pub placed : (i : ℕ) → d.placed i ≡ has l.placed i
  pub frozen : (i : ℕ) → d.frozen i ≡ has (frozen_in l) i
  pub term : (i : ℕ) → d.term i ≡ has l.term i
  pub left : (i : ℕ) → has l.left i ≡ (has (present_of t) i && not (d.frozen i))
  pub loose : (i : ℕ) → has (loose_in l) i ≡ true → d.starts i ≡ soon_at t w i
  pub ended : (i : ℕ) → has (frozen_in l) i ≡ true → d.starts i + duration_at t i ≡ end_at w i
  pub passed : (i : ℕ) → has (loose_in l) i ≡ true → has l.passed i ≡ not (is_next (project_in t) (own_of t) d i)
  pub passed_placed : (i : ℕ) → has l.passed i ≡ true → has l.placed i ≡ true
  -- Where no two of a component can run together: it is free from its last frozen end on, unless that is not behind the
  -- scan-line, and what is placed has been ready before.
  pub tight : (i : ℕ) → has (frozen_in l) i ≡ true → has (tight_of t) i ≡ true
      → (end_at w i ≤ free_at w (own_at t i)) ⊎ (end_at w i ≤ l.tick)
  pub freed : (i : ℕ) → has (tight_of t) i ≡ true
      → (free_at w (own_at t i) ≡ 0)
      ⊎ ((k : ℕ) × (has (frozen_in l) k ≡ true) × (own_at t k ≡ own_at t i) × (end_at w k ≡ free_at w (own_at t i)))
  pub readied : (i : ℕ) → has (loose_in l) i ≡ true → has (tight_of t) i ≡ true → ready_at w i ≤ l.tick
  -- Any other is kept free.
  pub roomy : (i : ℕ) → i < acts_of t → has (tight_of t) i ≡ false → free_at w (own_at t i) ≡ 0
  -- There a frozen one is live, or it ends by the start of another frozen one of its component.
  pub live : (k : ℕ) → has (frozen_in l) k ≡ true → has (tight_of t) k ≡ false
      → (has l.live k ≡ true)
      ⊎ ((j : ℕ) × (has (frozen_in l) j ≡ true) × (own_at t j ≡ own_at t k) × (end_at w k ≤ start_at t w j))
  pub live_frozen : (k : ℕ) → has l.live k ≡ true → has (frozen_in l) k ≡ true
