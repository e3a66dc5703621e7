-- The members of a set one by one, the lowest first.
use Rattle.std.specs.Prelude.{ℕ, ◌<◌, ◌≡◌, Option, MatchOption}
use Rattle.sets.specs.Lowest.{lowest_of, after_lowest}
use Rattle.sets.specs.declared.Iter.{Iter}

-- A call takes the lowest member off what is left and gives it, or gives none where none is left.
abbrev pub TakesLowest : Iter → Option ℕ → Iter → Type 0
TakesLowest s r t =
    MatchOption r ((s.left ≡ 0) × (t.left ≡ 0))
    (λ i. (0 < s.left) × (i ≡ lowest_of s.left) × (t.left ≡ after_lowest s.left))
