use Rattle.instance.proofs.Merging.{Merging}
use Rattle.instance.proofs.merge_all.Given as goal

-- `merge_all` meets its contract. The loop's invariant: the components are those by the resources passed.
abbrev pub invariant-loop-r : goal.invariant-loop-r
invariant-loop-r l = Merging l.initial.table l.r l.table
