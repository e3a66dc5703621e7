-- The lesser number falls.
use Rattle.enumerator.proofs.unit.divisor.Given as goal

abbrev pub decreases-loop-less : goal.decreases-loop-less
decreases-loop-less l = l.less
