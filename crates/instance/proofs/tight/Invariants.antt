use Rattle.instance.specs.Instance.{own_of, is_tight}
use Rattle.instance.specs.Steps.{Passing}
use Rattle.instance.proofs.tight.Given as goal

-- `tight` meets its contract.
abbrev pub invariant-loop-i : goal.invariant-loop-i
invariant-loop-i l = Passing l.i (λ k. is_tight l.table (own_of l.table k)) l.set
