use Rattle.std.proofs.Common.{◌∙◌, sym, ap, drop, ◌+◌, arith}
use Rattle.line_reader.specs.Seen.{said}
use Rattle.line_reader.proofs.Forms.{after, line_again, line_done}
use Rattle.line_reader.proofs.read_line.Goals as goal

pub returns-in_err-line : goal.returns-in_err-line
returns-in_err-line c =
    let loop = c.loop-b in
    let rest = drop (loop.b-index + 1) c.args.form.now in
    rw c.from_residual.ensures
    (sym loop.invariant ∙ line_again c.args.form.now loop.b-index (said loop.line) (omega arith)
    ∙ ap (after rest) c.in_err-line.ensures)

pub loop-b-preserved : goal.loop-b-preserved
loop-b-preserved c =
    let loop = c.loop-b in
    let rest = drop (loop.b-index + 1) c.args.form.now in
    sym (ap (after rest) c.in_ok-line.ensures)
    ∙ sym (line_again c.args.form.now loop.b-index (said loop.line) (omega arith)) ∙ loop.invariant

pub returns : goal.returns
returns c =
    let loop = c.loop-b in
    sym loop.invariant ∙ line_done c.args.form.now loop.b-index (said loop.line) (omega arith)
