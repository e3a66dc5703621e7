-- An accepted plan has each variant below V.
use Prim.Native.Nat.{ℕ, ◌<◌}
use native.Mathlib.Omega.{arith}
use Rattle.term.specs.Term.{Term}
use Rattle.judge.specs.Campaign.{HoldsPlan, HoldsVariant}
use Rattle.judge.specs.declared.Campaign.{Campaign}

pub has_variant : {c : Campaign} {t : Term} → HoldsPlan c t → (v : ℕ) → v < c.variants → HoldsVariant c t v
has_variant h v l = record { plan = h; below = omega (arith, h.counted) }
