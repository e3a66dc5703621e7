-- The cycle of the two readers, `term` and `children`.
use Rattle.std.proofs.Common.{arith}
use Rattle.precedence.proofs.Nodes.{seq_group, other_group}
use Rattle.precedence.proofs.Places.{leaf_ranged, leaf_read, group_begins, group_read, none_left}
use Rattle.precedence.proofs.Places.{child_begins, others_begin, children_read}
use Rattle.precedence.proofs.+children_term.Goals as goal

pub children-returns-then-left-eq0 : goal.children-returns-then-left-eq0
children-returns-then-left-eq0 t c = none_left _ _ c.if-left-eq0.true c.requires.1

pub children-term-first-requires : goal.children-term-first-requires
children-term-first-requires t c =
    (omega (arith, c.decreases), (child_begins _ _ c.if-left-eq0.false c.requires.0, c.requires.1))

pub children-children-rest-requires : goal.children-children-rest-requires
children-children-rest-requires t c =
    let (inside, further, begins, low) =
    others_begin _ _ _ c.if-left-eq0.false c.requires.0 c.requires.1 c.term-first.ensures
    c.after-before_rest.ensures in
    (omega (arith, c.decreases), (begins, low))

pub children-returns : goal.children-returns
children-returns t c =
    children_read _ _ c.if-left-eq0.false c.term-first.ensures c.after-before_rest.ensures
    c.children-rest.ensures c.union.ensures

pub term-activity-requires : goal.term-activity-requires
term-activity-requires t c = (leaf_ranged _ _ c.in-Act.is c.from.ensures c.requires.0, c.requires.1)

pub term-returns-in-Act : goal.term-returns-in-Act
term-returns-in-Act t c = leaf_read _ _ c.in-Act.is c.from.ensures c.activity.ensures

pub term-children-requires : goal.term-children-requires
term-children-requires t c =
    (omega (arith, c.decreases), (group_begins _ _ (seq_group c.in-Seq.is) c.requires.0, c.requires.1))

pub term-returns-in-Seq : goal.term-returns-in-Seq
term-returns-in-Seq t c = group_read _ _ (seq_group c.in-Seq.is) c.children.ensures

pub term-children-requires-in-Pll : goal.term-children-requires-in-Pll
term-children-requires-in-Pll t c =
    (omega (arith, c.decreases), (group_begins _ _ (other_group c.in-Pll.is) c.requires.0, c.requires.1))

pub term-returns-in-Pll : goal.term-returns-in-Pll
term-returns-in-Pll t c = group_read _ _ (other_group c.in-Pll.is) c.children-in-Pll.ensures
