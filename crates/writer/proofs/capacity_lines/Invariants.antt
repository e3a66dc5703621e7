use Rattle.format.specs.Text.{capacity_lines}
use Rattle.writer.proofs.Lines.{Left}
use Rattle.writer.proofs.capacity_lines.Given as goal

-- Their form has no letter.
abbrev pub invariant-loop-units : goal.invariant-loop-units
invariant-loop-units l = Left 30 capacity_lines l.capacities l.initial.area l.at l.area l.next l.units-index
