use native.Mathlib.Omega.{arith}
use mathlib.Core.Path.{ap, ◌∙◌}
use lib.Bits.{bit_or}
use Rattle.sets.proofs.Laws.{has_none}
use Rattle.orders.proofs.Differing.{differing_same, differing_more}
use Rattle.orders.proofs.differences.Goals as goal
use Rattle.orders.proofs.differences.Goals.{then-entry-j, else-entry-j}

pub loop-j-init : goal.loop-j-init
loop-j-init c =
    record { low = omega arith; passed = λ j l. absurd (omega arith); ahead = λ j l. has_none j }

pub loop-j-preserved : goal.loop-j-preserved
loop-j-preserved c =
    elim c.if-entry-j.branch [
      | then-entry-j w ↦
          differing_more c.loop-j.invariant (w.set-is ∙ w.union-set.ensures ∙ ap (bit_or c.loop-j.set) w.single.ensures)
          (omega arith) w.if-entry-j.true
      | else-entry-j w ↦ differing_same c.loop-j.invariant w.set-is w.if-entry-j.false
    ]
