use native.Mathlib.Omega.{arith}
use Rattle.sweep.proofs.sweep.Goals as goal

pub sweep_with-requires : goal.sweep_with-requires
sweep_with-requires c =
    let (t, h) = c.requires.0 in
    ((t, h, omega (arith, h.counted, c.if-campaign-le-FEW.true)), c.requires.1)

pub sweep_with-requires-2 : goal.sweep_with-requires-2
sweep_with-requires-2 c =
    let (t, h) = c.requires.0 in
    ((t, h, omega (arith, h.valid.few)), c.requires.1)
