use native.Mathlib.Omega.{arith}
use Rattle.sets.proofs.Turns.{taken, none_left, passed_more, passed_all}
use Rattle.soonest.proofs.misplaced.Goals as goal

pub is_soonest-requires : goal.is_soonest-requires
is_soonest-requires c =
    let pre = c.requires in
    let turn = taken c.loop-j.invariant.low c.in-Some.ensures.steps in
    (pre.0, pre.1, pre.5 _ turn.below, pre.3 _ (c.loop-j.invariant.inside _ turn.there))

pub returns-then-not-is_soonest : goal.returns-then-not-is_soonest
returns-then-not-is_soonest c =
    let turn = taken c.loop-j.invariant.low c.in-Some.ensures.steps in
    record {
      upto = omega arith;
      one = λ some. (c.loop-j.invariant.inside _ turn.there, c.is_soonest.ensures.fails c.if-not-is_soonest.true);
      none = λ all. absurd (omega arith);
    }

pub loop-j-preserved : goal.loop-j-preserved
loop-j-preserved c =
    passed_more _ _ (taken c.loop-j.invariant.low c.in-Some.ensures.steps)
    (c.is_soonest.ensures.holds c.if-not-is_soonest.false)
    c.loop-j.invariant

pub returns : goal.returns
returns c =
    record {
      upto = omega arith;
      one = λ some. absurd (omega arith);
      none = λ all. passed_all _ _ (none_left c.in-None.ensures.steps) c.loop-j.invariant;
    }
