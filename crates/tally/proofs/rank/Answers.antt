use native.Mathlib.Omega.{arith}
use mathlib.Core.Path.{◌≡◌, sym, ◌∙◌}
use lib.ListN.{set}
use Rattle.schedule.specs.Schedule.{latest_end}
use Rattle.schedule.specs.Sessions.{starts_of}
use Rattle.instance.specs.Table.{variant_of, project_in}
use Rattle.soonest.specs.Row.{row_in}
use Rattle.tally.specs.Seen.{setting_in, best_end_cell, best_variant_cell}
use Rattle.tally.proofs.Rows.{last_is, rank_before, rank_after, tally_set, tied, tied_tally}
use Rattle.tally.proofs.rank.Goals as goal
use Rattle.tally.proofs.rank.Goals.{Start}

pub keep-requires : goal.keep-requires
keep-requires c =
    let leaf = c.requires.0 in
    let a = c.args in
    let cells = tied a.cells.now c.ties_with.result in (
      leaf.whole,
      leaf.ended,
      tally_set (set cells best_end_cell a.latest) best_variant_cell (variant_of a.table.now) (omega arith)
          (omega arith)
          (tally_set cells best_end_cell a.latest (omega arith) (omega arith)
          (tied_tally a.cells.now leaf.tally _ a.latest c.ties_with.ensures)),
    )

-- The latest end is that of the row.
last : (s : Start)
    → let a = s.args in
    a.latest ≡ latest_end (project_in a.table.now) (starts_of (row_in a.table.now a.work.now))
last s =
    let leaf = s.requires.0 in
    leaf.last ∙ last_is s.args.table.now s.args.work.now leaf.whole leaf.ended

pub returns-then-is_before-clause-cells_after : goal.returns-then-is_before-clause-cells_after
returns-then-is_before-clause-cells_after c =
    let a = c.args in
    let t = a.table.now in
    rank_before (project_in t) (setting_in t) (row_in t a.work.now) a.cells.now c.ties_with.result a.latest
    c.requires.0.tally (last (goal.at.returns-then-is_before-clause-cells_after c).Start) c.ties_with.ensures
    c.keep.new.cells (sym c.is_before.ensures ∙ c.if-is_before.true) c.keep.ensures.cells_after

pub returns-else-is_before : goal.returns-else-is_before
returns-else-is_before c =
    let tally = c.requires.0.tally in
    let a = c.args in
    let t = a.table.now in
    record {
      tally = tied_tally a.cells.now tally _ a.latest c.ties_with.ensures;
      cells_after = rank_after (project_in t) (setting_in t) (row_in t a.work.now) a.cells.now c.ties_with.result
          a.latest tally
          (last (goal.at.returns-else-is_before c).Start)
          c.ties_with.ensures
          (sym c.is_before.ensures ∙ c.if-is_before.false);
    }
