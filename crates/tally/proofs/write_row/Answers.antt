use mathlib.Core.Path.{◌≡◌, ap, ◌∙◌}
use native.Mathlib.Omega.{arith}
use lib.ListN.{set, length-set}
use lib.Seq.{paste}
use Rattle.instance.specs.Table.{variant_of, acts_of}
use Rattle.soonest.specs.Row.{row_in}
use Rattle.soonest.proofs.Row.{row_length}
use Rattle.tally.proofs.Rows.{row_start, one_more, row_done}
use Rattle.tally.proofs.write_row.Goals as goal

pub loop-i-preserved : goal.loop-i-preserved
loop-i-preserved c =
    let a = c.args in
    let t = a.table.now in
    let i = c.loop-i.i in
    one_more (set a.row.now 0 (variant_of t)) (row_in t a.work.now) c.loop-i.row 1 i c.start_of.result
    (omega (arith, length-set a.row.now 0 (variant_of t)))
    (omega (arith, row_length t a.work.now))
    (row_start t a.work.now c.requires.0 c.requires.1 i c.start_of.result (omega arith) c.start_of.ensures)
    c.loop-i.invariant

pub returns : goal.returns
returns c =
    let a = c.args in
    let t = a.table.now in
    let all : c.loop-i.i ≡ acts_of t = omega arith in
    c.loop-i.invariant
    ∙ ap (paste (set a.row.now 0 (variant_of t)) 1 (row_in t a.work.now)) all
    ∙ row_done t a.work.now a.row.now (omega arith)
