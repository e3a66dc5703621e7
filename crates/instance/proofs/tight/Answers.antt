use native.Mathlib.Omega.{arith}
use Rattle.instance.proofs.Fill.{passing_none, passing_yes, passing_no}
use Rattle.instance.proofs.Clashes.{tight_is}
use Rattle.instance.proofs.tight.Goals as goal
use Rattle.instance.proofs.tight.Goals.{then-all_clash, else-all_clash}

pub loop-i-init : goal.loop-i-init
loop-i-init c = passing_none _

pub loop-i-preserved : goal.loop-i-preserved
loop-i-preserved c =
    let is = tight_is c.requires (omega arith) c.all_clash.ensures in
    elim c.if-all_clash.branch [
      | then-all_clash w ↦
          passing_yes c.loop-i.invariant (omega (arith, c.requires.grouped.counted.acts_few))
          (cc (is, w.if-all_clash.true))
          (cc (w.union-set.ensures, w.single.ensures))
      | else-all_clash w ↦ passing_no c.loop-i.invariant (cc (is, w.if-all_clash.false)) w.set-is
    ]
