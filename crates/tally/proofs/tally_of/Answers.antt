use mathlib.Core.Path.{sym, ◌∙◌}
use Prim.Native.Nat.{◌+◌}
use native.Mathlib.Omega.{arith}
use lib.ListN.{get_or, drop, length-set, length-drop}
use lib.Seq.{get_or-drop}
use Rattle.tally.proofs.Rows.{one_copied}
use Rattle.tally.specs.Seen.{starts_from}
use Rattle.tally.proofs.tally_of.Goals as goal

pub loop-i-preserved : goal.loop-i-preserved
loop-i-preserved c =
    let cells = c.args.cells.now in
    let i = c.loop-i.i in
    let x = get_or cells (starts_from + i) 0 in (
      length-set c.loop-i.best.starts i x ∙ c.loop-i.invariant.0,
      one_copied c.loop-i.best.starts (drop starts_from cells) i x (omega arith)
          (omega (arith, length-drop starts_from cells, c.requires.size))
          (sym (get_or-drop starts_from cells i 0)) c.loop-i.invariant.1,
    )
