use native.Mathlib.Omega.{arith}
use Rattle.instance.proofs.Links.{linking_none, linking_more, linking_all}
use Rattle.instance.proofs.link_all.Goals as goal

pub loop-j-init : goal.loop-j-init
loop-j-init c = linking_none c.requires

pub loop-j-preserved : goal.loop-j-preserved
loop-j-preserved c =
    linking_more (omega arith) c.requires.long c.loop-j.invariant c.nearest-near.ensures c.link.ensures

pub returns : goal.returns
returns c = linking_all c.requires c.loop-j.invariant (omega arith)
