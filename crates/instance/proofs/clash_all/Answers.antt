use Prim.Native.Nat.{◌+◌}
use native.Mathlib.Omega.{arith}
use Rattle.instance.specs.Table.{component_from, clash_from}
use Rattle.instance.specs.Steps.{IsClash}
use Rattle.instance.proofs.Fill.{filled_more}
use Rattle.instance.proofs.Same.{clash_same, grouped_same, filled_same}
use Rattle.instance.proofs.clash_all.Goals as goal

pub clashing-requires : goal.clashing-requires
clashing-requires c =
    let counted = c.requires.counted in
    let so_far = c.loop-i.invariant in (
      grouped_same (filled_same counted so_far (omega (arith, counted.acts_few))) so_far.long
          (λ i b. so_far.before (component_from + i) (omega arith)) c.requires,
      omega arith,
    )

pub loop-i-preserved : goal.loop-i-preserved
loop-i-preserved c =
    let t = c.args.table.now in
    let counted = c.requires.counted in
    let so_far = c.loop-i.invariant in
    filled_more t clash_from (IsClash t) c.loop-i.i c.loop-i.table c.clashing.result
    (omega (arith, counted.size, counted.acts_few)) so_far
    (clash_same (filled_same counted so_far (omega (arith, counted.acts_few))) (omega (arith, counted.acts_few))
    c.clashing.ensures)
