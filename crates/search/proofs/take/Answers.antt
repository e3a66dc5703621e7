use native.Mathlib.Omega.{arith}
use Rattle.search.proofs.Choosing.{below_j, below_c, takes_so}
use Rattle.search.proofs.take.Goals as goal

pub end_of-end-requires : goal.end_of-end-requires
end_of-end-requires c = omega (arith, below_j c.requires)

pub store_free-requires : goal.store_free-requires
store_free-requires c = omega (arith, below_c c.requires)

pub returns : goal.returns
returns c =
    takes_so c.requires c.settle-next.ensures c.end_of-end.ensures c.store_free.ensures
