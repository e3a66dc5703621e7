-- The cycle of the two readers, `term` and `children`.
use Rattle.std.proofs.Common.{arith}
use Rattle.term_reader.proofs.Walks.{run_out, activity_read, group_read, xor_read}
use Rattle.term_reader.proofs.Walks.{none_left, no_child, no_other, child_joined, further}
use Rattle.term_reader.proofs.+children_term.Goals as goal

pub children-returns-then-left-eq0 : goal.children-returns-then-left-eq0
children-returns-then-left-eq0 t c = none_left _ c.if-left-eq0.true

pub children-returns-in_err-first : goal.children-returns-in_err-first
children-returns-in_err-first t c =
    rw c.from_residual.ensures (no_child c.args.nodes.now _ _ c.if-left-eq0.false c.in_err-first.ensures)

pub children-children-requires : goal.children-children-requires
children-children-requires t c = (omega (arith, c.decreases, further _ c.in_ok-first.ensures), c.requires)

pub children-returns-in_err-rest : goal.children-returns-in_err-rest
children-returns-in_err-rest t c =
    rw c.from_residual-in_err-rest.ensures
    (no_other _ _ _ c.if-left-eq0.false c.in_ok-first.ensures c.in_err-rest.ensures)

pub children-returns : goal.children-returns
children-returns t c =
    rw c.joined.ensures
    (child_joined _ c.if-left-eq0.false c.in_ok-first.ensures c.in_ok-rest.ensures)

pub term-returns-in_err-i : goal.term-returns-in_err-i
term-returns-in_err-i t c = rw c.from_residual.ensures (run_out _ _ c.in_err-i.ensures.lookup.3)

pub term-returns-in-Act : goal.term-returns-in-Act
term-returns-in-Act t c =
    let (inside, is) = c.in_ok-i.ensures.lookup.3 in
    activity_read _ _ c.in-Act.is c.from.ensures inside (is _) c.single.ensures

pub term-returns-in-Seq : goal.term-returns-in-Seq
term-returns-in-Seq t c =
    let (inside, is) = c.in_ok-i.ensures.lookup.3 in
    group_read _ _ _ c.in-Seq.is inside (is _) c.children-in-Seq.ensures

pub term-returns-in-Xor : goal.term-returns-in-Xor
term-returns-in-Xor t c =
    let (inside, is) = c.in_ok-i.ensures.lookup.3 in
    xor_read _ _ _ c.in-Xor.is inside (is _) c.children.ensures
