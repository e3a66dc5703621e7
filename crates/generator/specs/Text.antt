-- What the contracts cite.
use Rattle.std.specs.Prelude.{◌≡◌, ℕ, ◌≤◌, List, length, take}

-- n counts bytes at the start of xs. The second part follows from the first; with both, a caller lends `&xs[..n]`
-- with no proof.
pub record Counts (n : ℕ) (xs : List ℕ) : Type 0 where
  pub within : n ≤ length xs
  pub part : n ≡ length (take n xs)
