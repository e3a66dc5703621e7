use Rattle.std.proofs.Common.{arith}
use Rattle.line_reader.proofs.Values.{read_again, read_whole}
use Rattle.line_reader.proofs.decimal.Goals as goal

pub loop-b-preserved : goal.loop-b-preserved
loop-b-preserved c =
    rw c.from.ensures
    (read_again c.args.digits.now c.loop-b.number c.loop-b.b-index c.loop-b.invariant (omega arith) c.requires.0)

pub returns : goal.returns
returns c = read_whole c.args.digits.now c.loop-b.number c.loop-b.b-index c.loop-b.invariant (omega arith)
