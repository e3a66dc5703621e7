use mathlib.Core.Path.{refl}
use Rattle.sets.specs.Sets.{meet}
use Rattle.sets.proofs.meets.Goals as goal

-- `meets` meets its contract, which says what the code says.
pub returns : goal.returns
unfolding meet
returns c = refl
