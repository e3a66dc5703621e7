use Rattle.completion.proofs.Turned.{Turning}
use Rattle.completion.proofs.complete.Given as goal

-- `complete` meets its contract. The loop's invariant is `Turning`; the measure is what is left.
abbrev pub invariant-loop-cands : goal.invariant-loop-cands
invariant-loop-cands l = Turning l.table l.line l.fn.work l.work l.last l.rest l.cands

abbrev pub decreases-loop-cands : goal.decreases-loop-cands
decreases-loop-cands l = l.rest
