use Prim.Native.Nat.{ℕ}
use mathlib.Core.List.{List}
use lib.ListN.{get_or}
use Rattle.soonest.specs.Soonest.{Soonest}
use Rattle.sets.proofs.Turns.{Passed}
use Rattle.soonest.proofs.misplaced.Given as goal

-- `misplaced` meets its contract. The loop's invariant: those of the set that have been looked at start as soon as
-- they fit.
-- Activity j starts as soon as it fits in the order.
abbrev pub Soon : List ℕ → List ℕ → List ℕ → ℕ → Type 0
Soon table work order j = Soonest table work (get_or order j 0) j

abbrev pub invariant-loop-j : goal.invariant-loop-j
invariant-loop-j l = Passed (Soon l.table l.work l.order) l.set l.j-iterator.left
