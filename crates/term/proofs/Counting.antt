-- V by sums and products, and sums and products that stop at a cap.
use Prim.Native.Nat.{ℕ, zero, suc, ◌+◌, ◌*◌, ◌≤◌, min}
use mathlib.Core.Bool.{true, false≢true, and-eq-true_iff}
use mathlib.Core.List.{List, [], ◌∷◌, map}
use mathlib.Core.Path.{◌≡◌, refl, sym, ap₂, ◌∙◌}
use native.Mathlib.Decide.{dec_le}
use native.Mathlib.Nat.{zero-mul, suc-mul, mul-zero, mul_comm, one-le-mul, le-mul_of_pos_right, min-eq_left}
use native.Mathlib.Nat.{min-eq_right}
use native.Mathlib.Omega.{arith}
use lib.ListN.{length, length-append, length-map}
use Rattle.term.specs.Term.{Term, Forest, act, seq, pll, xor, nil, cons, size, full, full_all, plural}
use Rattle.term.specs.Variants.{paired, variants, combinations, alternatives, variant_count}
use Rattle.term.specs.Model.{count, product, total}

length_paired : (ts : List Term) (fs : List Forest) → length (paired ts fs) ≡ length ts * length fs
unfolding paired
length_paired [] fs = sym (zero-mul (length fs))
length_paired (t ∷ ts) fs =
    length-append (map (cons t) fs) (paired ts fs)
    ∙ rw (length-map fs (cons t), length_paired ts fs, suc-mul (length ts) (length fs)) (omega arith)

mutual
  unfolding variants count

  pub length_variants : (t : Term) → length (variants t) ≡ count t
  length_variants (act i) = refl
  length_variants (seq f) = length-map (combinations f) seq ∙ length_combinations f
  length_variants (pll f) = length-map (combinations f) pll ∙ length_combinations f
  length_variants (xor f) = length_alternatives f

  pub length_combinations : (f : Forest) → length (combinations f) ≡ product f
  length_combinations nil = refl
  length_combinations (cons t f) =
      length_paired (variants t) (combinations f) ∙ ap₂ ◌*◌ (length_variants t) (length_combinations f)

  pub length_alternatives : (f : Forest) → length (alternatives f) ≡ total f
  length_alternatives nil = refl
  length_alternatives (cons t f) =
      length-append (variants t) (alternatives f) ∙ ap₂ ◌+◌ (length_variants t) (length_alternatives f)

pub variant_count_count : (t : Term) → variant_count t ≡ count t
unfolding variant_count
variant_count_count t = length_variants t

-- A number above the cap may be taken for the cap, in a sum and in a product.
module _ (c : ℕ) where
  capped_times : (a b : ℕ) → min (a * b) c ≡ min (min a c * b) c
  capped_times a zero = rw (mul-zero a, mul-zero (min a c))
  capped_times a (suc b) =
      elim (dec_le a c) [
        | yes h ↦ rw (min-eq_left h)
        | no h ↦
            let above : c ≤ a = omega arith in
            rw (min-eq_right above)
            (omega (
              arith,
              le-mul_of_pos_right {m = suc b} a (omega arith),
              le-mul_of_pos_right {m = suc b} c (omega arith),
            ))
      ]

  pub capped_product : (a b : ℕ) → min (a * b) c ≡ min (min a c * min b c) c
  capped_product a b =
      capped_times a b ∙ rw (mul_comm (min a c) b) (capped_times b (min a c) ∙ rw (mul_comm (min b c) (min a c)))

  pub capped_sum : (a b : ℕ) → min (a + b) c ≡ min (min a c + min b c) c
  capped_sum a b = omega arith

-- A full term has a variant.
mutual
  unfolding count full size

  pub some_variant : (t : Term) → full t ≡ true → 1 ≤ count t
  some_variant (act i) h = omega arith
  some_variant (seq f) h = some_combination f ((and-eq-true_iff (plural f) (full_all f)).0 h).1
  some_variant (pll f) h = some_combination f ((and-eq-true_iff (plural f) (full_all f)).0 h).1
  some_variant (xor f) h = let (n, g) = (and-eq-true_iff (plural f) (full_all f)).0 h in some_alternative f n g

  pub some_combination : (f : Forest) → full_all f ≡ true → 1 ≤ product f
  some_combination nil h = omega arith
  some_combination (cons t f) h =
      let (p, q) = (and-eq-true_iff (full t) (full_all f)).0 h in one-le-mul (some_variant t p) (some_combination f q)

  pub some_alternative : (f : Forest) → plural f ≡ true → full_all f ≡ true → 1 ≤ total f
  some_alternative nil n h = absurd (false≢true n)
  some_alternative (cons t f) n h = omega (arith, some_variant t ((and-eq-true_iff (full t) (full_all f)).0 h).0)
