use borrow.Author.Tests.{eq-eqb, ne_eqb}
use Rattle.tally.specs.Leaf.{start_of}
use Rattle.tally.proofs.start_of.Goals as goal

pub returns-then-end-eq0 : goal.returns-then-end-eq0
unfolding start_of
returns-then-end-eq0 c = rw (eq-eqb c.args.end 0 c.if-end-eq0.true)

pub returns-else-end-eq0 : goal.returns-else-end-eq0
unfolding start_of
returns-else-end-eq0 c = rw (ne_eqb c.args.end 0 c.if-end-eq0.false)
