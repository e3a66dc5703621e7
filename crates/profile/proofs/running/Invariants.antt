use Rattle.sets.proofs.Turns.{Gathering}
use Rattle.profile.proofs.Runs.{runs}
use Rattle.profile.proofs.running.Given as goal

-- `running` meets its contract. The loop's invariant: of those that have been looked at, the ones that run are
-- gathered.
abbrev pub invariant-loop-k : goal.invariant-loop-k
invariant-loop-k l = Gathering (runs l.table l.work l.first l.last) l.set l.on l.k-iterator.left
