-- A variant chosen by its number, without the list of them all.
use Prim.Native.Nat.{ℕ, zero, suc, ◌+◌, ◌-◌, ◌*◌, ◌/◌, ◌%◌, ◌≤◌, ◌<◌}
use mathlib.Core.Bool.{Bool, true, false}
use mathlib.Core.List.{List, [], ◌∷◌, ◌++◌, map}
use mathlib.Core.Path.{◌≡◌, refl, sym, ap, ap₂, ◌∙◌}
use native.Mathlib.Decide.{dec_lt}
use native.Mathlib.Nat.{zero-mul, mul-zero, suc-mul, div-eq_of_lt, mod-eq_of_lt, mod-lt, div-eq-sub-div}
use native.Mathlib.Nat.{mod-eq-sub-mod, div-lt_iff_lt-mul}
use native.Mathlib.Numerals.{add-one}
use native.Mathlib.Omega.{arith}
use borrow.Author.Tests.{ltb-true, ltb-false}
use lib.Dec.{ltb}
use lib.ListN.{length, get_or, length-map, get_or-append, get_or-map}
use lib.Seq.{get_or-append-add}
use Rattle.term.specs.Term.{Term, Forest, act, seq, pll, xor, nil, cons}
use Rattle.term.specs.Variants.{variants, combinations, alternatives, paired}
use Rattle.term.proofs.Counting.{length_variants, length_combinations}
use Rattle.term.specs.Model.{count, product, total}
use Rattle.variant.specs.Project.{variant_at}
use Rattle.variant.specs.Pick.{pick, pick_each, pick_one}

-- In range, the default is never read.
get_d_any {ℓ} : {A : Type ℓ} (l : List A) (n : ℕ) (d e : A) → n < length l → get_or l n d ≡ get_or l n e
get_d_any [] n d e h = absurd (omega arith)
get_d_any (x ∷ xs) zero d e h = refl
get_d_any (x ∷ xs) (suc n) d e h = get_d_any xs n d e (omega arith)

get_d_mapped {ℓ κ} : {A : Type ℓ} {B : Type κ} (f : A → B) (l : List A) (n : ℕ) (d : A) (e : B) → n < length l
    → get_or (map f l) n e ≡ f (get_or l n d)
get_d_mapped f l n d e h = get_d_any (map f l) n e (f d) (omega (arith, length-map l f)) ∙ get_or-map f l n d

-- The part of a list behind another.
get_d_behind {ℓ} : {A : Type ℓ} (xs ys : List A) (n : ℕ) (d : A) → length xs ≤ n
    → get_or (xs ++ ys) n d ≡ get_or ys (n - length xs) d
get_d_behind xs ys n d h = ap (λ (k : ℕ). get_or (xs ++ ys) k d) (omega arith) ∙ get_or-append-add xs ys (n - length xs) d

pub pos_right : (a b v : ℕ) → v < a * b → 0 < b
pos_right a zero v h = absurd (omega (arith, mul-zero a))
pos_right a (suc b) v h = omega arith

abbrev pair_at : List Term → List Forest → ℕ → ℕ → Forest
pair_at ts fs a b = cons (get_or ts a (act 0)) (get_or fs b nil)

paired_at : (ts : List Term) (fs : List Forest) (v : ℕ) → v < length ts * length fs
    → get_or (paired ts fs) v nil ≡ pair_at ts fs (v / length fs) (v % length fs)
unfolding paired
paired_at [] fs v h = absurd (omega (arith, zero-mul (length fs)))
paired_at (t ∷ ts) fs v h = go (paired_at ts fs (v - length fs)) (dec_lt v (length fs))
  where
    n : ℕ
    n = length fs

    firsts : List Forest
    firsts = map (cons t) fs

    many : length firsts ≡ length fs
    many = length-map fs (cons t)

    go : (v - n < length ts * n → get_or (paired ts fs) (v - n) nil ≡ pair_at ts fs ((v - n) / n) ((v - n) % n))
        → Dec (v < n)
        → get_or (firsts ++ paired ts fs) v nil ≡ pair_at (t ∷ ts) fs (v / n) (v % n)
    go below (yes l) =
        get_or-append firsts (paired ts fs) nil v (omega (arith, many))
        ∙ get_d_mapped (cons t) fs v nil nil l
        ∙ ap₂ (pair_at (t ∷ ts) fs) (sym (div-eq_of_lt l)) (sym (mod-eq_of_lt l))
    go below (no l) =
        let pos : 0 < n = pos_right (suc (length ts)) n v h in
        get_d_behind firsts (paired ts fs) v nil (omega (arith, many))
        ∙ ap (λ (k : ℕ). get_or (paired ts fs) (v - k) nil) many
        ∙ below (omega (arith, suc-mul (length ts) n))
        ∙ ap₂ (pair_at (t ∷ ts) fs) (sym (div-eq-sub-div pos (omega arith) ∙ add-one ((v - n) / n)))
        (sym (mod-eq-sub-mod (omega arith)))

-- Of each child and of one child, by the counts.
each_at : (t : Term) (f : Forest) (v : ℕ) → v < count t * product f
    → pair_at (variants t) (combinations f) (v / product f) (v % product f) ≡ get_or (combinations (cons t f)) v nil
unfolding variants
each_at t f v h =
    rw (← length_combinations f)
    (sym (paired_at (variants t) (combinations f) v (rw (length_variants t, length_combinations f) h)))

abbrev pub choice : Bool → Term → Term → Term
choice b x y = elim b [ true ↦ x | false ↦ y ]

one_at : (t : Term) (f : Forest) (v : ℕ) → (v < count t → pick t v ≡ variant_at t v)
    → (v - count t < total f → pick_one f (v - count t) ≡ get_or (alternatives f) (v - count t) (act 0))
    → v < count t + total f → (b : Bool) → ltb v (count t) ≡ b
    → choice b (pick t v) (pick_one f (v - count t)) ≡ get_or (alternatives (cons t f)) v (act 0)
unfolding variants
one_at t f v here there h true e =
    let l : v < count t = ltb-true v (count t) e in
    here l ∙ sym (get_or-append (variants t) (alternatives f) (act 0) v (omega (arith, length_variants t)))
one_at t f v here there h false e =
    let l : count t ≤ v = ltb-false v (count t) e in
    there (omega arith)
    ∙ ap (λ (k : ℕ). get_or (alternatives f) (v - k) (act 0)) (sym (length_variants t))
    ∙ sym (get_d_behind (variants t) (alternatives f) v (act 0) (omega (arith, length_variants t)))

mutual
  unfolding variants count pick

  pub pick_is : (t : Term) (v : ℕ) → v < count t → pick t v ≡ variant_at t v
  pick_is (act i) v h = let z : 0 ≡ v = omega arith in ap (λ (k : ℕ). get_or (act i ∷ []) k (act 0)) z
  pick_is (seq f) v h =
      ap seq (pick_each_is f v h)
      ∙ sym (get_d_mapped seq (combinations f) v nil (act 0) (omega (arith, length_combinations f)))
  pick_is (pll f) v h =
      ap pll (pick_each_is f v h)
      ∙ sym (get_d_mapped pll (combinations f) v nil (act 0) (omega (arith, length_combinations f)))
  pick_is (xor f) v h = pick_one_is f v h

  pub pick_each_is : (f : Forest) (v : ℕ) → v < product f → pick_each f v ≡ get_or (combinations f) v nil
  pick_each_is nil v h = let z : 0 ≡ v = omega arith in ap (λ (k : ℕ). get_or (nil ∷ []) k nil) z
  pick_each_is (cons t f) v h =
      let pos : 0 < product f = pos_right (count t) (product f) v h in
      ap₂ cons (pick_is t (v / product f) ((div-lt_iff_lt-mul pos).1 h)) (pick_each_is f (v % product f) (mod-lt v pos))
      ∙ each_at t f v h

  pub pick_one_is : (f : Forest) (v : ℕ) → v < total f → pick_one f v ≡ get_or (alternatives f) v (act 0)
  pick_one_is nil v h = absurd (omega arith)
  pick_one_is (cons t f) v h =
      one_at t f v (λ l. pick_is t v l) (λ l. pick_one_is f (v - count t) l) h (ltb v (count t)) refl
