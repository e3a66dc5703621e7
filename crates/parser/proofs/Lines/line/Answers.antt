use Rattle.line_reader.specs.Seen.{said}
use Rattle.parser.proofs.Matching.{shorter}
use Rattle.parser.proofs.Lines.line.Goals as goal

-- A line has some bytes.
pub go_on-requires : goal.go_on-requires
go_on-requires c =
    shorter c.args.form.now c.args.self.now.rest.now (said c.in_ok-line.line)
    (rw c.in_ok-line.ensures.ok_part at c.read_line.ensures)
    c.requires
