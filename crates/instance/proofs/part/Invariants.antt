use Prim.Native.Nat.{◌^◌}
use mathlib.Core.Path.{◌≡◌}
use Rattle.instance.specs.Table.{component_from}
use Rattle.instance.specs.Steps.{Filled}
use Rattle.instance.proofs.part.Given as goal

-- `part` meets its contract.
abbrev pub invariant-loop-i : goal.invariant-loop-i
invariant-loop-i l = Filled l.initial.table component_from l.i (λ k x. x ≡ 2 ^ k) l.table
