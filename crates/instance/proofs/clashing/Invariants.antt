use mathlib.Core.Bool.{not, ◌&&◌}
use lib.Dec.{eqb}
use Rattle.instance.specs.Instance.{fit_together}
use Rattle.instance.specs.Steps.{Passing}
use Rattle.instance.proofs.clashing.Given as goal

-- `clashing` meets its contract.
abbrev pub invariant-loop-k : goal.invariant-loop-k
invariant-loop-k l = Passing l.k (λ j. not (eqb l.i j) && not (fit_together l.table l.i j)) l.set
