use Rattle.std.proofs.Common.{◌∙◌, sym}
use Rattle.line_reader.specs.Seen.{said}
use Rattle.line_reader.proofs.Forms.{at_end, letter_read, no_letter}
use Rattle.line_reader.proofs.letter.Goals as goal

pub returns-in_err-b : goal.returns-in_err-b
returns-in_err-b c = rw c.from_residual.ensures (at_end (said c.args.line) 64 c.in_err-b.ensures.cases)

pub returns-then-is_letter : goal.returns-then-is_letter
returns-then-is_letter c =
    rw c.from.ensures
    (letter_read (said c.args.line) _ _ c.in_ok-b.ensures.cases.0 (sym c.is_letter.ensures ∙ c.if-is_letter.true))

pub returns-else-is_letter : goal.returns-else-is_letter
returns-else-is_letter c =
    no_letter (said c.args.line) _ _ c.in_ok-b.ensures.cases.0 (sym c.is_letter.ensures ∙ c.if-is_letter.false)
