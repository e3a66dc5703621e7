use Rattle.std.proofs.Common.{ap, ◌∙◌}
use Rattle.term.specs.Term.{term_of}
use Rattle.precedence.proofs.InTables.{one_term, held}
use Rattle.precedence.proofs.tabled.Goals as goal

-- `tabled` meets its contract: the nodes that are picked are one whole term, whose order is the variant's.
pub ordered-requires : goal.ordered-requires
ordered-requires c =
    let (t, h) = c.requires in
    let picks = c.pick-picked.ensures t (ap term_of c.all_nodes.ensures ∙ h.plan.valid.term) in
    one_term t c.args.v (c.all_nodes-2.ensures ∙ picks.writes) c.args.campaign.now h

pub returns : goal.returns
returns c = λ t h.
    let picks = c.pick-picked.ensures t (ap term_of c.all_nodes.ensures ∙ h.plan.valid.term) in
    held t c.args.v (c.all_nodes-2.ensures ∙ picks.writes) c.ordered.result c.ordered.ensures
