use Rattle.unbranched.proofs.Advancing.{Advancing, to_do}
use Rattle.unbranched.proofs.advance.Given as goal

-- `advance` meets its contract. The loop's invariant: what the moves so far have led to. Each turn leaves less to do.
abbrev pub invariant-loop-rivals : goal.invariant-loop-rivals
invariant-loop-rivals l =
    Advancing l.table l.fn.from l.fn.work l.work l.line l.last l.many l.rivals

abbrev pub decreases-loop-rivals : goal.decreases-loop-rivals
decreases-loop-rivals l = to_do l.work l.line l.rivals
