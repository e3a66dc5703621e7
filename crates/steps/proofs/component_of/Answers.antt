use native.Mathlib.Omega.{arith}
use Rattle.steps.proofs.Loops.{own_below}
use Rattle.steps.proofs.component_of.Goals as goal

pub returns : goal.returns
returns c = (
  c.lowest.ensures,
  omega (arith, c.lowest.ensures, own_below c.args.table.now c.requires.0 c.args.i c.requires.1),
)
