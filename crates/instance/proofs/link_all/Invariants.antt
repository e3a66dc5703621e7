use Rattle.instance.proofs.Links.{Linking}
use Rattle.instance.proofs.link_all.Given as goal

-- `link_all` meets its contract. The loop's invariant: the activities passed are linked, the others not yet.
abbrev pub invariant-loop-j : goal.invariant-loop-j
invariant-loop-j l = Linking l.initial.table l.j l.table
