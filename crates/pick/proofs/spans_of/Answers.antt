use Rattle.std.proofs.Common.{arith, subst, ◌∙◌, ◌+◌, ◌-◌, ◌<◌, length, length-set}
use Rattle.pick.specs.Model.{Stopped}
use Rattle.pick.proofs.Spanning.{begun, stopped_step}
use Rattle.pick.proofs.spans_of.Goals as goal
use Rattle.pick.proofs.spans_of.Goals.{In-loop-i}

-- In a turn, at the node before.
inside : (c : In-loop-i) → c.loop-i.i - 1 < length c.args.nodes.now
inside c = omega (arith, c.loop-i-test.true, c.loop-i.auto.i)

behind : (c : In-loop-i) → Stopped c.args.nodes.now c.loop-i.spans (c.loop-i.i - 1 + 1)
behind c = subst (Stopped c.args.nodes.now c.loop-i.spans) (omega (arith, c.loop-i-test.true)) c.loop-i.invariant.stopped

pub span_of-requires : goal.span_of-requires
span_of-requires c =
    let (few, one) = c.requires in
    let (t, reads) = one in
    let l = (goal.at.span_of-requires c).In-loop-i in
    (inside l, begun _ _ (c.loop-i.i - 1) (inside l) (behind l) t few reads)

pub loop-i-preserved : goal.loop-i-preserved
loop-i-preserved c =
    let l = (goal.at.loop-i-preserved c).In-loop-i in
    let sized = c.loop-i.invariant.sized in
    record {
      sized = length-set c.loop-i.spans (c.loop-i.i - 1) c.span_of.result ∙ sized;
      stopped =
          stopped_step _ _ (c.loop-i.i - 1) (inside l) (behind l) c.span_of.result
          (omega (arith, c.requires.0, inside l, sized)) c.span_of.ensures;
    }
