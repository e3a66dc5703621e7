use mathlib.Core.Path.{refl}
use Rattle.sets.specs.Lowest.{after_lowest}
use Rattle.sets.proofs.after_lowest.Goals as goal

pub returns : goal.returns
unfolding after_lowest
returns c = refl
