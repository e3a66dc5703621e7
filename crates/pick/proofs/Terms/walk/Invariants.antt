-- `walk` combines the variants of one child after another.
use Rattle.std.proofs.Common.{◌-◌}
use Rattle.pick.proofs.Walking.{Along}
use Rattle.pick.proofs.Terms.walk.Given as goal

abbrev pub invariant-loop : goal.invariant-loop
invariant-loop l = Along l.self.nodes.now l.apart l.k l.from l.at (l.k - l.counter) l.ways
