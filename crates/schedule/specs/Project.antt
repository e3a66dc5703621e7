-- A project: the activities of one variant, with all that a schedule of them has to respect. Activities are numbered
-- below `size`, resources (devices in the paper's words) below `resources`.
use Rattle.std.specs.Prelude.{ℕ, Bool}

pub record Project : Type 0 where
  pub size : ℕ
  pub present : ℕ → Bool
  pub duration : ℕ → ℕ
  -- i precedes j, and the ticks from the end of i to the start of j are at least gap i j
  pub precedes : ℕ → ℕ → Bool
  pub gap : ℕ → ℕ → ℕ
  pub resources : ℕ
  pub capacity : ℕ → ℕ
  -- units i r: what activity i holds of resource r while it runs
  pub units : ℕ → ℕ → ℕ
  -- a free activity starts at `floor` or later, any other at its `begun`
  pub free : ℕ → Bool
  pub floor : ℕ
  pub begun : ℕ → ℕ
