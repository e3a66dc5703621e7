use native.Mathlib.Omega.{arith}
use mathlib.Core.Path.{refl, sym, ap, ◌∙◌}
use Prim.Native.Nat.{ℕ}
use Rattle.sets.specs.Sets.{has}
use Rattle.steps.proofs.Loops.{common_low, common_parts}
use Rattle.steps.proofs.move_line.Goals as goal

pub first_stop-stop-requires : goal.first_stop-stop-requires
first_stop-stop-requires c =
    let l = c.args.line in (
      c.requires.laid,
      c.requires.timed,
      omega (arith, c.loose.ensures, common_low l.placed l.left c.requires.placed_low),
      λ i y.
          c.requires.placed i
          (common_parts l.placed l.left i (sym (ap (λ (x : ℕ). has x i) c.loose.ensures) ∙ y)).0,
    )

pub returns : goal.returns
returns c =
    record {
      stop = rw c.loose.ensures at c.first_stop-stop.ensures;
      placed = refl;
      left = refl;
      term = refl;
      passed = refl;
      live = refl;
    }
