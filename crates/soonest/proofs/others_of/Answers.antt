use mathlib.Core.Path.{◌∙◌, ap}
use Rattle.sets.specs.Sets.{has}
use Rattle.soonest.proofs.Row.{present_below, itself}
use Rattle.soonest.proofs.others_of.Goals as goal

-- `others_of` meets its contract.
pub without-requires : goal.without-requires
without-requires c = (
  present_below _ _ c.requires.0 c.requires.1,
  ap (λ x. has x c.args.j) c.common.ensures ∙ itself _ c.requires.0 _ c.requires.1,
)
