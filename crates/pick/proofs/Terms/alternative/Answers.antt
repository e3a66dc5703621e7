use Rattle.std.proofs.Common.{arith}
use Rattle.pick.proofs.Walking.{aside_start, aside_inside, aside_step, aside_found}
use Rattle.pick.proofs.Terms.alternative.Goals as goal

pub loop-at-init : goal.loop-at-init
loop-at-init c = aside_start c.requires

pub loop-at-smaller : goal.loop-at-smaller
loop-at-smaller c =
    let l = c.loop-at in
    omega (
      arith,
      l.invariant.within,
      c.requires.spanned.ends.later l.at l.invariant.later (aside_inside c.requires l.invariant),
    )

pub loop-at-preserved : goal.loop-at-preserved
loop-at-preserved c = aside_step c.requires c.loop-at.invariant c.loop-at-test.true

pub returns : goal.returns
returns c = aside_found c.requires c.loop-at.invariant c.loop-at-test.false
