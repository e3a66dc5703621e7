use Rattle.std.proofs.Common.{sym}
use borrow.Author.Tests.{eqb-true, eqb-false}
use lib.ListN.{length}
use Rattle.parser.proofs.Readers.{nothing_left, something_left}
use Rattle.parser.proofs.Lines.end.Goals as goal

pub returns-then-is_empty : goal.returns-then-is_empty
returns-then-is_empty c =
    let lines = c.args.self.now in
    nothing_left lines.number lines.rest.now (eqb-true (length lines.rest.now) 0 (sym c.if-is_empty.ensures))

pub returns-else-is_empty : goal.returns-else-is_empty
returns-else-is_empty c =
    let lines = c.args.self.now in
    something_left lines.number lines.rest.now (eqb-false (length lines.rest.now) 0 (sym c.if-is_empty.ensures))
