use Rattle.std.proofs.Common.{arith}
use Rattle.pick.proofs.Walking.{along_within, along_low, along_step, along_end}
use Rattle.pick.proofs.Terms.walk.Goals as goal

pub offset_bounds-self-at : goal.offset_bounds-self-at
offset_bounds-self-at c = omega (arith, along_within c.requires c.loop-test.true c.loop.invariant)

pub bounds-self-at : goal.bounds-self-at
bounds-self-at c = along_within c.requires c.loop-test.true c.loop.invariant

pub combined-ways-requires : goal.combined-ways-requires
combined-ways-requires c = (c.loop.invariant.low, along_low c.requires c.loop-test.true c.loop.invariant)

pub loop-preserved : goal.loop-preserved
loop-preserved c = along_step c.requires c.loop-test.true c.combined-ways.ensures c.loop.invariant

pub returns : goal.returns
returns c =
    along_end c.requires c.loop.at _ c.loop.ways c.loop.invariant (omega (arith, c.loop-test.false))
