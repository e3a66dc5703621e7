-- Tests on numbers, as facts.
use Prim.Native.Nat.{ℕ, ◌≤◌, ◌<◌}
use mathlib.Core.Bool.{Bool, true, false, not}
use mathlib.Core.Path.{◌≡◌}
use native.Mathlib.Omega.{arith}
use borrow.Author.Tests.{leb-true, le-leb, lt-leb, ne_eqb}
use lib.Dec.{leb, eqb}
use Rattle.base.proofs.Bools.{by_bool, both, and_left, and_right}
use Rattle.plan.specs.Limits.{between}
use Rattle.format.specs.Lines.{is_sized}

-- A test decides between two.
abbrev pub choose {ℓ} : {A : Type ℓ} → Bool → A → A → A
choose b x y = elim b [ true ↦ x | false ↦ y ]

pub between_facts : (low high n : ℕ) → between low high n ≡ true → (low ≤ n) × (n ≤ high)
between_facts low high n e =
    (leb-true low n (and_left (leb low n) (leb n high) e), leb-true n high (and_right (leb low n) (leb n high) e))

pub facts_between : (low high n : ℕ) → low ≤ n → n ≤ high → between low high n ≡ true
facts_between low high n h k = both (le-leb low n h) (le-leb n high k)

-- A size of digits by its test: of several the first counts.
module _ (most size first : ℕ) where
  pub several : 2 ≤ size → size ≤ most → not (eqb first 48) ≡ is_sized most size first
  several h l = simp (facts_between 1 most size (omega arith) l, ne_eqb size 1 (omega arith))

  pub under_size : size < 1 → false ≡ is_sized most size first
  under_size h = simp (lt-leb 1 size h)

  pub over_size : most < size → false ≡ is_sized most size first
  over_size h = by_bool (leb 1 size) (λ e. simp (e, lt-leb size most h)) (λ e. simp e)
