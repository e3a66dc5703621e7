use native.Mathlib.Omega.{arith}
use Rattle.plan.specs.Limits.{capacity_form}
use Rattle.writer.proofs.Laws.{filled_short}
use Rattle.writer.proofs.Lines.{left_then, left_none}
use Rattle.writer.proofs.Pieces.{capacities_joined}
use Rattle.writer.proofs.capacity_lines.Goals as goal

pub loop-units-preserved : goal.loop-units-preserved
loop-units-preserved c =
    left_then capacities_joined c.loop-units.invariant c.from.result 0 (omega arith) (cc) (filled_short capacity_form _)
    c.put_line-next.ensures

pub returns : goal.returns
returns c = left_none capacities_joined c.loop-units.invariant (omega arith)
