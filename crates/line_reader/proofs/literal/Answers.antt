use Rattle.line_reader.specs.Seen.{said}
use Rattle.line_reader.proofs.Forms.{at_end, literal_read, no_literal}
use Rattle.line_reader.proofs.literal.Goals as goal

pub returns-in_err-first : goal.returns-in_err-first
returns-in_err-first c = rw c.from_residual.ensures (at_end (said c.args.line) c.args.b c.in_err-first.ensures.cases)

pub returns-then-first-b : goal.returns-then-first-b
returns-then-first-b c =
    literal_read (said c.args.line) _ _ c.in_ok-first.ensures.cases.0 c.args.b c.requires.0 c.requires.1
    c.if-first-b.true

pub returns-else-first-b : goal.returns-else-first-b
returns-else-first-b c =
    no_literal (said c.args.line) _ _ c.in_ok-first.ensures.cases.0 c.args.b c.requires.0 c.requires.1
    c.if-first-b.false
