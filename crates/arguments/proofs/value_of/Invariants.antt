use Rattle.arguments.proofs.Words.{Walked}
use Rattle.arguments.proofs.value_of.Given as goal

abbrev pub invariant-loop-b : goal.invariant-loop-b
invariant-loop-b l = Walked l.word l.b-index l.value
