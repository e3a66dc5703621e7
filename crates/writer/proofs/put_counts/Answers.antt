use native.Mathlib.Omega.{arith}
use Rattle.plan.specs.Limits.{bytes}
use Rattle.writer.proofs.Laws.{filled_short}
use Rattle.writer.proofs.Lines.{left_then, left_none}
use Rattle.writer.proofs.Pieces.{counts_joined}
use Rattle.writer.proofs.put_counts.Goals as goal

pub loop-held-preserved : goal.loop-held-preserved
loop-held-preserved c =
    left_then counts_joined c.loop-held.invariant c.from.result 0 (omega arith) (cc) (filled_short (bytes ",#") _)
    c.put_line-next.ensures

pub returns : goal.returns
returns c = left_none counts_joined c.loop-held.invariant (omega arith)
