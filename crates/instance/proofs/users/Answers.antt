use native.Mathlib.Omega.{arith}
use Rattle.std.proofs.lemmas.Bool.Decides.{nat_tests}
use Rattle.instance.proofs.Fill.{passing_none, passing_yes, passing_no}
use Rattle.instance.proofs.users.Goals as goal
use Rattle.instance.proofs.users.Goals.{then-units_of-gt0, else-units_of-gt0}

pub loop-i-init : goal.loop-i-init
loop-i-init c = passing_none _

pub loop-i-preserved : goal.loop-i-preserved
loop-i-preserved c =
    elim c.if-units_of-gt0.branch [
      | then-units_of-gt0 w ↦
          passing_yes c.loop-i.invariant (omega arith) (grind (arith, nat_tests))
          (cc (w.union-set.ensures, w.single.ensures))
      | else-units_of-gt0 w ↦ passing_no c.loop-i.invariant (grind (arith, nat_tests)) w.set-is
    ]
