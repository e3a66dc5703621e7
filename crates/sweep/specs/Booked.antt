-- The book of the orders of the variants below one of them.
use Rattle.std.specs.Prelude.{ℕ, ◌^◌, ◌≤◌, ◌<◌, List, ◌≡◌}
use Rattle.sets.specs.Sets.{most, has}
use Rattle.term.specs.Term.{Term}
use Rattle.term.specs.Variants.{activities, member}
use Rattle.variant.specs.Precedence.{precedes}
use Rattle.variant.specs.Project.{variant_at}
use Rattle.orders.specs.Book.{present_at, order_at, entries_of, Book}

-- Entry e has the activities of a variant and their order.
pub record IsEntry (b : List ℕ) (e : ℕ) (w : Term) : Type 0 where
  pub small : present_at b e < 2 ^ most
  pub members : (i : ℕ) → has (present_at b e) i ≡ member i (activities w)
  pub before : (i j : ℕ) → j < most → has (order_at b e j) i ≡ precedes w i j

-- The entries are the orders of the variants below v.
pub record Booked (t : Term) (v : ℕ) (heads b : List ℕ) : Type 0 where
  pub book : Book heads b
  pub few : entries_of heads ≤ v
  pub each : (u : ℕ) → u < v → (e : ℕ) × (e < entries_of heads) × IsEntry b e (variant_at t u)
  pub only : (e : ℕ) → e < entries_of heads → (u : ℕ) × (u < v) × IsEntry b e (variant_at t u)
