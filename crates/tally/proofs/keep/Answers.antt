use mathlib.Core.Path.{◌≡◌}
use native.Mathlib.Omega.{arith}
use lib.ListN.{length}
use Rattle.timetable.specs.Mark.{places}
use Rattle.soonest.specs.Row.{row_in}
use Rattle.tally.specs.Seen.{starts_from, timetable_of}
use Rattle.tally.proofs.Rows.{timetable_start, timetable_length, timetable_below, one_more, all_stored, tally_stored}
use Rattle.tally.proofs.keep.Goals as goal

pub loop-i-preserved : goal.loop-i-preserved
loop-i-preserved c =
    let a = c.args in
    let t = a.table.now in
    let i = c.loop-i.i in
    one_more a.cells.now (timetable_of (row_in t a.work.now)) c.loop-i.cells starts_from i c.start_of.result
    (omega (arith, c.requires.2.size))
    (omega (arith, timetable_length t a.work.now c.requires.0 c.requires.1))
    (timetable_start t a.work.now c.requires.0 c.requires.1 i c.start_of.result (omega arith) c.start_of.ensures)
    c.loop-i.invariant

pub returns : goal.returns
returns c =
    let a = c.args in
    let t = a.table.now in
    let w = a.work.now in
    let pre = c.requires in
    let s = timetable_of (row_in t w) in
    let size : length s ≡ places = timetable_length t w pre.0 pre.1 in
    let back = all_stored a.cells.now s c.loop-i.cells c.loop-i.i (omega arith) pre.2.size size c.loop-i.invariant in
    record {
      tally = tally_stored a.cells.now s c.loop-i.cells pre.2 size (timetable_below t w pre.0 pre.1) back;
      cells_after = back;
    }
