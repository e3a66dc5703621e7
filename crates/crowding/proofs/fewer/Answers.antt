use mathlib.Core.Path.{sym, ap, ◌∙◌}
use Rattle.sets.specs.Sets.{has}
use Rattle.instance.specs.Table.{tight_of}
use Rattle.crowding.proofs.Frozen.{fewer_loose, fewer_alone, fewer_beside}
use Rattle.crowding.proofs.fewer.Goals as goal
use Rattle.crowding.proofs.fewer.Goals.{else-here-both-via-then-here-both+else-contains, else-here-both-via-else-here-both}

pub returns-then-contains : goal.returns-then-contains
returns-then-contains c =
    fewer_alone _ c.requires.0 _ _ c.requires.1 c.requires.2 c.requires.3 c.requires.4 c.if-here-both.true
    (ap (has (tight_of c.args.table.now)) (sym c.lowest.ensures) ∙ sym c.contains.ensures ∙ c.if-contains.true)

pub returns : goal.returns
returns c =
    let t = c.args.table.now in
    elim c.else-here-both.branch [
      | else-here-both-via-then-here-both+else-contains w ↦
          fewer_loose t c.requires.0 _ _ c.requires.1 c.requires.2 c.requires.3 c.requires.4
          (ap (has (tight_of t)) (sym w.lowest.ensures) ∙ sym w.contains.ensures ∙ w.if-contains.false)
      | else-here-both-via-else-here-both w ↦
          fewer_beside t c.requires.0 _ _ c.requires.1 c.requires.2 c.requires.3 c.requires.4 w.if-here-both.false
    ]
