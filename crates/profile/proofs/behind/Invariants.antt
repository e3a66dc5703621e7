use lib.Dec.{ltb}
use Rattle.sets.proofs.Turns.{Gathering}
use Rattle.profile.specs.Work.{end_at}
use Rattle.profile.proofs.behind.Given as goal

-- `behind` meets its contract. The loop's invariant: of those that have been looked at, the ones that end behind the
-- tick are gathered.
abbrev pub invariant-loop-k : goal.invariant-loop-k
invariant-loop-k l = Gathering (λ k. ltb l.tick (end_at l.work k)) l.set l.found l.k-iterator.left
