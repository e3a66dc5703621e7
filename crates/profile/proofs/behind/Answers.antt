use mathlib.Core.Path.{ap, ◌∙◌}
use Rattle.std.proofs.Common.{arith}
use borrow.Author.Tests.{lt-ltb, le-ltb}
use lib.Bits.{bit_or}
use Rattle.sets.proofs.Turns.{taken, none_left, gather_none, gather_more, gather_less, gathered}
use Rattle.profile.proofs.behind.Goals as goal

pub loop-k-init : goal.loop-k-init
loop-k-init c =
    rw (c.into_iter-k-iterator.ensures.into_iter_gives, c.activities-k-items.ensures) (gather_none _ _ c.requires)

pub loop-k-preserved-then-tick-end_of : goal.loop-k-preserved-then-tick-end_of
loop-k-preserved-then-tick-end_of c =
    gather_more _ _ (taken c.loop-k.invariant.rest_low c.in-Some.ensures.steps) c.loop-k.invariant _
    (lt-ltb _ _ (omega arith))
    (c.union-found.ensures ∙ ap (bit_or c.loop-k.found) c.single.ensures)

pub loop-k-preserved : goal.loop-k-preserved
loop-k-preserved c =
    gather_less _ _ (taken c.loop-k.invariant.rest_low c.in-Some.ensures.steps) c.loop-k.invariant
    (le-ltb _ _ (omega arith))

pub returns : goal.returns
returns c =
    record {
      low = c.loop-k.invariant.low;
      members = gathered _ _ (none_left c.in-None.ensures.steps) c.loop-k.invariant;
    }
