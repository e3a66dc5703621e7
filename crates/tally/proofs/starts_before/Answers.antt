use native.Mathlib.Omega.{arith}
use mathlib.Core.Path.{sym, ◌∙◌}
use Rattle.tally.proofs.Rows.{starts_passed, start_same, start_other}
use Rattle.tally.proofs.starts_before.Goals as goal

pub returns-then-start-cells : goal.returns-then-start-cells
returns-then-start-cells c =
    let a = c.args in
    let pre = c.requires in
    sym
    (c.loop-i.invariant
    ∙ start_other a.table.now a.work.now a.cells.now pre.0 pre.1 c.loop-i.i pre.2
    c.start_of-start.result (omega arith) c.start_of-start.ensures c.if-start-cells.true)

pub loop-i-preserved : goal.loop-i-preserved
loop-i-preserved c =
    let a = c.args in
    let pre = c.requires in
    c.loop-i.invariant
    ∙ start_same a.table.now a.work.now a.cells.now pre.0 pre.1 c.loop-i.i pre.2
    c.start_of-start.result (omega arith) c.start_of-start.ensures c.if-start-cells.false

pub returns : goal.returns
returns c =
    let a = c.args in
    let pre = c.requires in
    sym
    (c.loop-i.invariant
    ∙ starts_passed a.table.now a.work.now a.cells.now pre.0 pre.1 c.loop-i.i pre.2 (omega arith))
