use mathlib.Core.Path.{◌≡◌, sym, ◌∙◌}
use Rattle.schedule.specs.Schedule.{latest_end}
use Rattle.schedule.specs.Sessions.{starts_of}
use Rattle.instance.specs.Table.{project_in}
use Rattle.soonest.specs.Row.{row_in}
use Rattle.tally.proofs.Rows.{last_is, by_end, by_variant, by_starts}
use Rattle.tally.proofs.is_before.Goals as goal
use Rattle.tally.proofs.is_before.Goals.{Start}

-- The latest end is that of the row.
last : (s : Start)
    → let a = s.args in
    a.latest ≡ latest_end (project_in a.table.now) (starts_of (row_in a.table.now a.work.now))
last s = s.requires.last ∙ last_is s.args.table.now s.args.work.now s.requires.whole s.requires.ended

pub returns-then-end-cells : goal.returns-then-end-cells
returns-then-end-cells c =
    let a = c.args in
    by_end a.table.now a.work.now a.cells.now a.latest (last (goal.at.returns-then-end-cells c).Start) c.if-end-cells.true

pub returns-then-variant-cells : goal.returns-then-variant-cells
returns-then-variant-cells c =
    let a = c.args in
    by_variant a.table.now a.work.now a.cells.now
    (sym (last (goal.at.returns-then-variant-cells c).Start) ∙ c.if-end-cells.false)
    c.if-variant-cells.true

pub returns : goal.returns
returns c =
    let a = c.args in
    c.starts_before.ensures
    ∙ by_starts a.table.now a.work.now a.cells.now
    (sym (last (goal.at.returns c).Start) ∙ c.if-end-cells.false)
    c.if-variant-cells.false
