use Rattle.std.proofs.Common.{◌∙◌, sym}
use Rattle.plan.specs.Limits.{between}
use Rattle.plan.specs.declared.Refusal.TheVariants.{Range}
use Rattle.format.specs.Parse.{a_line, number}
use Rattle.parser.proofs.Readers.{one_taken, not_taken, passed, failed, untested, refused}
use Rattle.parser.proofs.Lines.count.Goals as goal

pub returns-in_err-value-clause-read : goal.returns-in_err-value-clause-read
returns-in_err-value-clause-read c =
    refused _ c.from_residual.result c.from_residual.ensures.1
    (untested (between c.args.low c.args.high) Range (a_line c.args.form.now number)
    (not_taken number c.in_err-value.ensures))

pub returns-then-in_range-clause-read : goal.returns-then-in_range-clause-read
returns-then-in_range-clause-read c =
    passed (between c.args.low c.args.high) Range (a_line c.args.form.now number)
    (one_taken number c.in_ok-value.ensures c.requires)
    (sym c.in_range.ensures ∙ c.if-in_range.true)

pub returns-else-in_range-clause-read : goal.returns-else-in_range-clause-read
returns-else-in_range-clause-read c =
    failed (between c.args.low c.args.high) Range (a_line c.args.form.now number)
    (one_taken number c.in_ok-value.ensures c.requires)
    (sym c.in_range.ensures ∙ c.if-in_range.false)
