use Rattle.tally.specs.Seen.{setting_in}
use Rattle.instance.specs.Table.{project_in}
use Rattle.soonest.specs.Row.{row_in}
use Rattle.tally.proofs.Rows.{seen_counted, seen_enough}
use Rattle.tally.proofs.leave.Goals as goal

pub returns-then-cells-table-clause-area_after : goal.returns-then-cells-table-clause-area_after
returns-then-cells-table-clause-area_after c =
    let a = c.args in
    let t = a.table.now in
    seen_counted (project_in t) (setting_in t) (row_in t a.work.now) a.cells.now c.rank.new.cells a.area.now
    c.list.new.area c.if-cells-table.true c.rank.ensures.cells_after c.list.ensures

pub returns-else-cells-table-clause-area_after : goal.returns-else-cells-table-clause-area_after
returns-else-cells-table-clause-area_after c =
    let a = c.args in
    let t = a.table.now in
    seen_enough (project_in t) (setting_in t) (row_in t a.work.now) a.cells.now a.area.now c.if-cells-table.false
