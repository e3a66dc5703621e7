use Prim.Native.Nat.{◌^◌}
use lib.Bits.{bit_or}
use Rattle.instance.specs.Table.{next_from}
use Rattle.instance.proofs.Stores.{Storing}
use Rattle.instance.proofs.link.Given as goal

-- `link` meets its contract. The loop's invariant: with the members still to come linked too, the column is what it
-- is to be.
abbrev pub invariant-loop-i : goal.invariant-loop-i
invariant-loop-i l = Storing next_from (λ x. bit_or x (2 ^ l.j)) l.initial.table l.set l.table l.i-iterator.left
