use Prim.Native.Nat.{◌+◌, ◌*◌}
use native.Mathlib.Omega.{arith}
use Rattle.instance.specs.Table.{acts_of}
use Rattle.tally.specs.Seen.{line_in}
use Rattle.tally.proofs.Rows.{row_placed_lem, line_length, placed_not}
use Rattle.tally.proofs.list.Goals as goal

pub returns-then-at-acts : goal.returns-then-at-acts
returns-then-at-acts c =
    let a = c.args in
    let t = a.table.now in
    row_placed_lem a.area.now (line_in t a.work.now) c.write_row.new.row
    (a.count * (acts_of t + 1)) (acts_of t + 1)
    (omega (arith, c.if-at-acts.true))
    (line_length t a.work.now c.requires.0 c.requires.1)
    c.write_row.ensures

pub returns-else-at-acts : goal.returns-else-at-acts
returns-else-at-acts c =
    let a = c.args in
    let t = a.table.now in
    placed_not a.area.now (line_in t a.work.now) (a.count * (acts_of t + 1))
    (omega (arith, line_length t a.work.now c.requires.0 c.requires.1, c.if-at-acts.false))
