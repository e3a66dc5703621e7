use native.Mathlib.Omega.{arith}
use mathlib.Core.Path.{ap, ◌∙◌}
use lib.Bits.{bit_or}
use Rattle.sets.proofs.Turns.{Turn, taken, none_left}
use Rattle.search.proofs.Choosing.{conflicts_first, conflicts_more, conflicts_less, conflicts_last}
use Rattle.search.proofs.in_conflict.Goals as goal
use Rattle.search.proofs.in_conflict.Goals.{In-Some}

turn : (l : In-Some) → Turn l.loop-j.j-iterator.left l.next.new.self.left l.in-Some.j
turn l = taken l.loop-j.invariant.gathering.rest_low l.in-Some.ensures.steps

pub loop-j-init : goal.loop-j-init
loop-j-init c =
    let a = c.args in
    rw (c.into_iter-j-iterator.ensures.into_iter_gives, c.activities-j-items.ensures)
    (conflicts_first a.work.now a.line a.set c.requires c.minus.ensures)

pub ready_of-requires : goal.ready_of-requires
ready_of-requires c = omega (arith, (turn (goal.at.ready_of-requires c).In-Some).below)

pub single-requires : goal.single-requires
single-requires c = (turn (goal.at.single-requires c).In-Some).below

pub loop-j-preserved-then-ready_of-line : goal.loop-j-preserved-then-ready_of-line
loop-j-preserved-then-ready_of-line c =
    let a = c.args in
    conflicts_more a.work.now a.line a.set c.loop-j.invariant
    (turn (goal.at.loop-j-preserved-then-ready_of-line c).In-Some)
    (omega (arith, c.ready_of.ensures, c.if-ready_of-line.true))
    (c.union-found.ensures ∙ ap (bit_or c.loop-j.found) c.single.ensures)

pub loop-j-preserved : goal.loop-j-preserved
loop-j-preserved c =
    let a = c.args in
    conflicts_less a.work.now a.line a.set c.loop-j.invariant (turn (goal.at.loop-j-preserved c).In-Some)
    (omega (arith, c.ready_of.ensures, c.if-ready_of-line.false))

pub returns : goal.returns
returns c =
    let a = c.args in
    conflicts_last a.work.now a.line a.set c.loop-j.invariant (none_left c.in-None.ensures.steps)
