use mathlib.Core.Path.{refl}
use native.Mathlib.Omega.{arith}
use lib.Count.{trailing_le}
use Rattle.sets.specs.Lowest.{lowest_of}
use Rattle.sets.proofs.lowest.Goals as goal

-- `lowest` meets its contract.
pub overflow_cast-result : goal.overflow_cast-result
overflow_cast-result c = omega (arith, trailing_le 32 c.args.set)

pub returns : goal.returns
unfolding lowest_of
returns c = refl
