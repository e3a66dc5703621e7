use Prim.Native.Nat.{ℕ, ◌-◌}
use native.Mathlib.Omega.{arith}
use mathlib.Core.Path.{ap, ap₂, ◌∙◌}
use lib.Bits.{bit_or}
use Rattle.instance.specs.Table.{duration_at}
use Rattle.search.proofs.Choosing.{lives_so}
use Rattle.search.proofs.still_live.Goals as goal

pub returns : goal.returns
returns c =
    let a = c.args in
    lives_so c.requires.1 (omega (arith, c.requires.2, c.requires.0.acts)) c.common.ensures
    (ap (λ (x : ℕ). x - duration_at a.table.now a.j) c.end_of.ensures) c.behind-here.ensures
    (c.union-2.ensures
    ∙ ap₂ bit_or c.minus.ensures
    (c.union.ensures ∙ ap (bit_or c.behind-here.result) c.single.ensures))
