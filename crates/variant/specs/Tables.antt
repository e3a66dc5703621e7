-- The order of one variant in tables. What rests on the plan alone stays in the tables of the plan.
use Rattle.std.specs.Prelude.{ℕ, ◌^◌, ◌<◌, List, ◌≡◌, get_or}
use Rattle.sets.specs.Sets.{most, has}
use Rattle.term.specs.Term.{Term}
use Rattle.term.specs.Variants.{activities, member}
use Rattle.variant.specs.Precedence.{precedes}

-- The order of a term: bit i is set in `present` exactly if the term has activity i, and in entry j of `preds` exactly
-- if i precedes j.
pub record OrderOf (w : Term) (present : ℕ) (preds : List ℕ) : Type 0 where
  pub small : present < 2 ^ most
  pub members : (i : ℕ) → has present i ≡ member i (activities w)
  pub low : (j : ℕ) → j < most → get_or preds j 0 < 2 ^ most
  pub before : (i j : ℕ) → j < most → has (get_or preds j 0) i ≡ precedes w i j
