use mathlib.Core.Path.{◌≡◌}
use Rattle.instance.specs.Instance.{row_of}
use Rattle.instance.specs.Steps.{Filled}
use Rattle.instance.proofs.fill_durations.Given as goal

-- `fill_durations` meets its contract.
abbrev pub invariant-loop-i : goal.invariant-loop-i
invariant-loop-i l = Filled l.initial.table 0 l.i (λ k x. x ≡ (row_of l.tables k).duration) l.table
