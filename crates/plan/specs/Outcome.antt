-- A call that is lent an area: what it answers, and what it leaves in the area.
use Rattle.std.specs.Prelude.{ℕ, List}

pub record Outcome (A : Type 0) : Type 0 where
  pub answer : A
  pub area : List ℕ
