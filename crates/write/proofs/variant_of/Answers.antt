use Rattle.write.proofs.Writing.{nodes_picked}
use Rattle.write.proofs.variant_of.Goals as goal

-- `variant_of` meets its contract: the nodes of an accepted plan, with their spans, are what `pick` asks for.
pub returns : goal.returns
returns c = λ t h.
    nodes_picked c.args.campaign.now t c.args.v c.pick-picked.result
    (rw c.all_nodes.ensures at c.pick-picked.ensures t h.plan.valid.term)
