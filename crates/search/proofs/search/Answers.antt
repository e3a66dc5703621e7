use mathlib.Core.Path.{sym, ◌∙◌}
use Rattle.scan.specs.Scan.{Diagram, begun}
use Rattle.instance.specs.Instance.{own_of}
use Rattle.instance.specs.Table.{present_of, project_in}
use Rattle.unbranched.specs.Position.{Position, Given}
use Rattle.search.proofs.Branches.{uncontested}
use Rattle.search.proofs.Entry.{first_line, first_work, first_latest, first_position, found_all}
use Rattle.search.proofs.search.Goals as goal
use Rattle.search.proofs.search.Goals.{Start}

-- What stands before the first move.
given : (s : Start) → Given s.args.table.now s.args.book.now s.args.cells.now
given s = record { whole = s.requires.0; prior = s.requires.1; tally = s.requires.2 }

position : (s : Start)
    → (d : Diagram) × Position s.args.table.now (first_line (present_of s.args.table.now)) first_work d
position s =
    let t = s.args.table.now in
    (begun (project_in t) (own_of t), first_position t s.requires.0)

pub complete-requires : goal.complete-requires
complete-requires c =
    let t = c.args.table.now in
    let whole = c.requires.0 in (
      given (goal.at.complete-requires c).Start,
      uncontested t (present_of t) whole.present_low
          (sym c.crowding-many.ensures ∙ c.if-many-eq0.true),
      first_latest t whole,
      position (goal.at.complete-requires c).Start,
    )

pub descend-requires : goal.descend-requires
descend-requires c =
    (given (goal.at.descend-requires c).Start, first_latest c.args.table.now c.requires.0, c.crowding-many.ensures, position (goal.at.descend-requires c).Start)

pub returns-then-many-eq0 : goal.returns-then-many-eq0
returns-then-many-eq0 c =
    let explored = c.complete.ensures in
    record {
      tally = explored.tally;
      found = found_all c.args.table.now c.requires.0 explored;
    }

pub returns-else-many-eq0 : goal.returns-else-many-eq0
returns-else-many-eq0 c =
    let explored = c.descend.ensures in
    record {
      tally = explored.tally;
      found = found_all c.args.table.now c.requires.0 explored;
    }
