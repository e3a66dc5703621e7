use native.Mathlib.Omega.{arith}
use Rattle.instance.proofs.Merging.{merging_none, merging_more, merging_all}
use Rattle.instance.proofs.merge_all.Goals as goal

pub loop-r-init : goal.loop-r-init
loop-r-init c = merging_none c.args.acts c.args.table.now c.requires.0.acts_are c.requires.1

pub loop-r-preserved : goal.loop-r-preserved
loop-r-preserved c =
    let pre = c.requires.0 in
    merging_more (omega (arith, pre.acts_are, pre.acts_few)) (omega (arith, pre.resources_few)) c.loop-r.invariant
    (rw pre.acts_are c.users-on.ensures) c.joined-all.ensures c.merge.ensures

pub returns : goal.returns
returns c = merging_all c.loop-r.invariant (omega (arith, c.requires.0.resources_are))
