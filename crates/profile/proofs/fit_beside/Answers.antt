use native.Mathlib.Omega.{arith}
use mathlib.Core.Path.{sym, ◌∙◌}
use Rattle.profile.proofs.Room.{others}
use Rattle.profile.proofs.Beside.{falling, falling_among, falls_later, falls, fallen}
use Rattle.profile.proofs.fit_beside.Goals as goal

pub loop-tick-init : goal.loop-tick-init
loop-tick-init c =
    λ set late. falling _ _ _ _ _ _ _ late _ _ c.requires.1 c.max.ensures c.behind-beside.ensures

pub has_left-requires : goal.has_left-requires
has_left-requires c =
    let (set, late) = c.requires.2 in
    others _ _ _ _ (falling_among _ _ _ _ _ _ _ late (c.loop-tick.invariant set late))

pub opening-tick-requires : goal.opening-tick-requires
opening-tick-requires c =
    let (set, late) = c.requires.2 in
    (falling_among _ _ _ _ _ _ _ late (c.loop-tick.invariant set late), sym c.has_left.ensures ∙ c.loop-tick-test.true)

pub loop-tick-preserved : goal.loop-tick-preserved
loop-tick-preserved c =
    λ set late.
    falls _ _ _ _ _ _ _ late (c.loop-tick.invariant set late) c.opening-tick.ensures
    c.behind-beside-in-loop-tick.ensures

pub loop-tick-smaller : goal.loop-tick-smaller
loop-tick-smaller c =
    let (set, late) = c.requires.2 in
    let later = falls_later _ _ _ _ _ _ _ late (c.loop-tick.invariant set late) c.opening-tick.ensures in
    omega (arith, (loop-tick-preserved c set late).early, later)

pub returns : goal.returns
returns c =
    λ set late.
    fallen _ _ _ _ _ _ _ late (c.loop-tick.invariant set late) (sym c.has_left.ensures ∙ c.loop-tick-test.false)
