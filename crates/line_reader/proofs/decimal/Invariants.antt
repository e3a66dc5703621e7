use Rattle.line_reader.proofs.Values.{ReadAsFar}
use Rattle.line_reader.proofs.decimal.Given as goal

abbrev pub invariant-loop-b : goal.invariant-loop-b
invariant-loop-b l = ReadAsFar l.digits l.number l.b-index
