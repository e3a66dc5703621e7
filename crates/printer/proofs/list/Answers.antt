-- READ and LIST tell of one plan, so the rows fit the area.
use Rattle.std.proofs.Common.{sym, ◌∙◌, arith}
use Rattle.printer.proofs.Areas.{few_activities, rows_fit}
use Rattle.printer.proofs.list.Goals as goal

pub overflow_add-result : goal.overflow_add-result
overflow_add-result c = omega (arith, few_activities c.args.file.now _ (sym c.read.ensures ∙ c.in_ok-counts.was))

pub returns-clause-fits : goal.returns-clause-fits
returns-clause-fits c =
    omega (
      arith,
      rows_fit c.args.file.now _ (sym c.read.ensures ∙ c.in_ok-counts.was) _ _ _ c.list.ensures c.in_ok-rows.rows
          c.in_ok-rows.was,
    )
