use native.Mathlib.Omega.{arith}
use Rattle.soonest.proofs.Row.{present_below, among_others}
use Rattle.soonest.proofs.Waits.{latest_early, waits_more, soonest_not}
use Rattle.soonest.proofs.is_soonest.Goals as goal

pub overflow_add-t : goal.overflow_add-t
overflow_add-t c =
    let below = present_below _ c.args.j c.requires.0 c.requires.3 in
    omega (arith, latest_early _ c.args.before c.requires.1.timed, c.requires.0.laid.short _ below)

pub blocked-t-requires : goal.blocked-t-requires
blocked-t-requires c =
    rw c.others_of-others.ensures (among_others _ c.requires.0 _ c.requires.3 _ c.requires.1, c.loop-t.invariant.low)

pub returns-then-t-eq0 : goal.returns-then-t-eq0
returns-then-t-eq0 c =
    soonest_not _ _ _ _ _ c.loop-t.invariant _ (rw c.others_of-others.ensures at c.blocked-t.ensures) c.if-t-eq0.true
    (omega arith)

pub loop-t-preserved : goal.loop-t-preserved
loop-t-preserved c =
    waits_more _ _ _ _ _ c.loop-t.invariant _ (rw c.others_of-others.ensures at c.blocked-t.ensures)
    c.requires.1.timed c.if-t-eq0.false
