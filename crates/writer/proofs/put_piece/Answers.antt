use Rattle.writer.proofs.Laws.{value_piece, letter_piece, literal_piece}
use Rattle.writer.proofs.put_piece.Goals as goal

pub returns-then-b-eq35 : goal.returns-then-b-eq35
returns-then-b-eq35 c = value_piece c.if-b-eq35.true c.put_value.ensures

pub returns-then-b-eq64 : goal.returns-then-b-eq64
returns-then-b-eq64 c = letter_piece c.if-b-eq64.true c.put_byte.ensures

pub returns : goal.returns
returns c =
    literal_piece c.if-b-eq35.false
    c.if-b-eq64.false c.put_byte-2.ensures
