use native.Mathlib.Omega.{arith}
use Rattle.std.proofs.lemmas.Bool.Decides.{nat_tests}
use Rattle.instance.proofs.Fill.{passing_none, passing_yes, passing_no}
use Rattle.instance.proofs.clashing.Goals as goal
use Rattle.instance.proofs.clashing.Goals.{then-k-i+then-not-fit, else-k-i}
use Rattle.instance.proofs.clashing.Goals.{else-k-i-via-then-k-i+else-not-fit, else-k-i-via-else-k-i}

pub loop-k-init : goal.loop-k-init
loop-k-init c = passing_none _

pub loop-k-preserved : goal.loop-k-preserved
loop-k-preserved c =
    elim c.if-k-i.branch [
      | then-k-i+then-not-fit w ↦
          passing_yes c.loop-k.invariant (omega (arith, c.requires.0.counted.acts_few))
          (grind (arith, nat_tests, w.fit.ensures))
          (cc (w.union-set.ensures, w.single.ensures))
      | else-k-i w ↦
          passing_no c.loop-k.invariant
          (elim w.else-k-i.branch [
            | else-k-i-via-then-k-i+else-not-fit w' ↦ grind (arith, nat_tests, w'.fit.ensures)
            | else-k-i-via-else-k-i w' ↦ grind (arith, nat_tests)
          ])
          w.set-is
    ]
