-- The order that a chosen term puts on its activities: i precedes j if some s has i under an earlier child than j.
use Rattle.std.specs.Prelude.{ℕ, Bool, false, ◌&&◌, ◌||◌}
use Rattle.term.specs.Term.{Term, Forest, act, seq, pll, xor, nil, cons}
use Rattle.term.specs.Variants.{activities, activities_of_all, member}

unfoldable mutual
  pub precedes : Term → ℕ → ℕ → Bool
  precedes (act k) i j = false
  precedes (seq f) i j = earlier f i j || within_one f i j
  precedes (pll f) i j = within_one f i j
  precedes (xor f) i j = within_one f i j

  pub within_one : Forest → ℕ → ℕ → Bool
  within_one nil i j = false
  within_one (cons t f) i j = precedes t i j || within_one f i j

  pub earlier : Forest → ℕ → ℕ → Bool
  earlier nil i j = false
  earlier (cons t f) i j = member i (activities t) && member j (activities_of_all f) || earlier f i j
