use native.Mathlib.Omega.{arith}
use Rattle.search.proofs.Choosing.{left_j, acts_j, below_j, below_c}
use Rattle.search.proofs.settle.Goals as goal

-- `settle` meets its contract.
pub without-requires : goal.without-requires
without-requires c = let given = c.requires in (below_j given, left_j given)

pub without-requires-2 : goal.without-requires-2
without-requires-2 c = let given = c.requires in (below_c given, given.due)

pub soon_of-requires : goal.soon_of-requires
soon_of-requires c = let given = c.requires in (given.sets.laid, acts_j given)

pub offset_bounds-table-j : goal.offset_bounds-table-j
offset_bounds-table-j c = omega (arith, below_j c.requires)

pub bounds-table-j : goal.bounds-table-j
bounds-table-j c = omega (arith, below_j c.requires)

pub store_end-requires : goal.store_end-requires
store_end-requires c = omega (arith, below_j c.requires)
