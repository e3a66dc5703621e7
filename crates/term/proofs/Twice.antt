-- An activity stands twice in a variant exactly if two of its nodes meet first at an s or p.
use Prim.Native.Nat.{ℕ, ◌≤◌}
use mathlib.Core.Bool.{Bool, true, false, ◌&&◌, ◌||◌, or-false, or-true, and-eq-true_iff, false≢true}
use mathlib.Core.List.Memᴰ
use mathlib.Core.List.{List, [], ◌∷◌, ◌++◌, map, Memᴰ}
use mathlib.Core.Logic.{◌↔◌}
use mathlib.Core.Path.{◌≡◌, refl, sym, ap, ap₂, ◌∙◌}
use borrow.Author.Tests.{eqb-true, eq-eqb}
use lib.Dec.{eqb}
use lib.ListN.{length}
use Rattle.term.specs.Term.{Term, Forest, act, seq, pll, xor, nil, cons, full, full_all, plural}
use Rattle.term.specs.Variants.{paired, variants, combinations, alternatives, activities, activities_of_all}
use Rattle.term.specs.Variants.{member, repeats, some_of, twice}
use Rattle.term.specs.Clash.{Repeats, share, clash, clash_together, clash_apart}
use Rattle.term.proofs.Counting.{length_variants, length_combinations, some_variant, some_combination}
use Rattle.term.proofs.SomeOf.{some_cong, some_append, some_map, some_swap, some_found, some_is, some_pair}
use Rattle.term.proofs.SomeOf.{pair_cong, pair_or, pair_first, pair_second}

-- `member` and `repeats` by `some_of`.
member_some : (i : ℕ) (xs : List ℕ) → member i xs ≡ some_of (eqb i) xs
unfolding member some_of
member_some i [] = refl
member_some i (x ∷ xs) = ap (◌||◌ (eqb i x)) (member_some i xs)

pub member_append : (i : ℕ) (xs ys : List ℕ) → member i (xs ++ ys) ≡ member i xs || member i ys
member_append i xs ys =
    member_some i (xs ++ ys) ∙ some_append (eqb i) xs ys ∙ ap₂ ◌||◌ (sym (member_some i xs)) (sym (member_some i ys))

pub repeats_append : (xs ys : List ℕ) → repeats (xs ++ ys) ≡ repeats xs || share xs ys || repeats ys
unfolding repeats share some_of
repeats_append [] ys = refl
repeats_append (x ∷ xs) ys =
    rw (member_append x xs ys, repeats_append xs ys)
    (regroup (member x xs) (member x ys) (repeats xs) (share xs ys) (repeats ys))
  where
    regroup : (a b c d e : Bool) → a || b || (c || d || e) ≡ a || c || (b || d) || e
    regroup true b c d e = refl
    regroup false true true d e = refl
    regroup false true false d e = refl
    regroup false false c d e = refl

-- Some pair of a variant of the first child and a combination of the others.
some_paired : (p : Forest → Bool) (ts : List Term) (fs : List Forest)
    → some_of p (paired ts fs) ≡ some_of (λ t. some_of (λ f. p (cons t f)) fs) ts
unfolding paired some_of
some_paired p [] fs = refl
some_paired p (t ∷ ts) fs =
    some_append p (map (cons t) fs) (paired ts fs) ∙ ap₂ ◌||◌ (some_map p (cons t) fs) (some_paired p ts fs)

-- The variants of a full term have, together, exactly its activities, and so do the combinations of a full forest.
variants_some : (t : Term) → full t ≡ true → 1 ≤ length (variants t)
variants_some t h = rw (length_variants t) (some_variant t h)

combinations_some : (f : Forest) → full_all f ≡ true → 1 ≤ length (combinations f)
combinations_some f h = rw (length_combinations f) (some_combination f h)

abbrev full_children : (f : Forest) → plural f && full_all f ≡ true → full_all f ≡ true
full_children f h = ((and-eq-true_iff (plural f) (full_all f)).0 h).1

mutual
  unfolding variants activities full some_of

  seen : (t : Term) (q : ℕ → Bool) → full t ≡ true
      → some_of (λ v. some_of q (activities v)) (variants t) ≡ some_of q (activities t)
  seen (act i) q h = or-false (some_of q (i ∷ []))
  seen (seq f) q h =
      some_map (λ v. some_of q (activities v)) seq (combinations f) ∙ seen_together f q (full_children f h)
  seen (pll f) q h =
      some_map (λ v. some_of q (activities v)) pll (combinations f) ∙ seen_together f q (full_children f h)
  seen (xor f) q h = seen_apart f q (full_children f h)

  seen_together : (f : Forest) (q : ℕ → Bool) → full_all f ≡ true
      → some_of (λ g. some_of q (activities_of_all g)) (combinations f) ≡ some_of q (activities_of_all f)
  seen_together nil q h = refl
  seen_together (cons t f) q h =
      let (ht, hf) = (and-eq-true_iff (full t) (full_all f)).0 h in
      some_paired (λ g. some_of q (activities_of_all g)) (variants t) (combinations f)
      ∙ pair_cong (λ v g. some_append q (activities v) (activities_of_all g)) (variants t) (combinations f)
      ∙ pair_or (λ v g. some_of q (activities v)) (λ v g. some_of q (activities_of_all g)) (variants t) (combinations f)
      ∙ ap₂ ◌||◌
      (pair_first (λ v. some_of q (activities v)) (variants t) (combinations f) (combinations_some f hf) ∙ seen t q ht)
      (pair_second (λ g. some_of q (activities_of_all g)) (variants t) (combinations f) (variants_some t ht)
      ∙ seen_together f q hf)
      ∙ sym (some_append q (activities t) (activities_of_all f))

  seen_apart : (f : Forest) (q : ℕ → Bool) → full_all f ≡ true
      → some_of (λ v. some_of q (activities v)) (alternatives f) ≡ some_of q (activities_of_all f)
  seen_apart nil q h = refl
  seen_apart (cons t f) q h =
      let (ht, hf) = (and-eq-true_iff (full t) (full_all f)).0 h in
      some_append (λ v. some_of q (activities v)) (variants t) (alternatives f)
      ∙ ap₂ ◌||◌ (seen t q ht) (seen_apart f q hf)
      ∙ sym (some_append q (activities t) (activities_of_all f))

member_together : (f : Forest) → full_all f ≡ true → (i : ℕ)
    → some_of (λ g. member i (activities_of_all g)) (combinations f) ≡ member i (activities_of_all f)
member_together f h i =
    some_cong (λ g. member_some i (activities_of_all g)) (combinations f) ∙ seen_together f (eqb i) h
    ∙ sym (member_some i (activities_of_all f))

shared : (t : Term) (f : Forest) → full t ≡ true → full_all f ≡ true
    → some_pair (λ v g. share (activities v) (activities_of_all g)) (variants t) (combinations f)
    ≡ share (activities t) (activities_of_all f)
unfolding share
shared t f ht hf =
    some_cong
    (λ v. some_swap (λ g i. member i (activities_of_all g)) (combinations f) (activities v)
    ∙ some_cong (member_together f hf) (activities v))
    (variants t)
    ∙ seen t (λ i. member i (activities_of_all f)) ht

mutual
  unfolding variants activities full some_of clash repeats member

  twice_variants : (t : Term) → full t ≡ true → some_of (λ v. repeats (activities v)) (variants t) ≡ clash t
  twice_variants (act i) h = refl
  twice_variants (seq f) h =
      some_map (λ v. repeats (activities v)) seq (combinations f) ∙ twice_together f (full_children f h)
  twice_variants (pll f) h =
      some_map (λ v. repeats (activities v)) pll (combinations f) ∙ twice_together f (full_children f h)
  twice_variants (xor f) h = twice_apart f (full_children f h)

  twice_together : (f : Forest) → full_all f ≡ true
      → some_of (λ g. repeats (activities_of_all g)) (combinations f) ≡ clash_together f
  twice_together nil h = refl
  twice_together (cons t f) h =
      let (ht, hf) = (and-eq-true_iff (full t) (full_all f)).0 h in
      some_paired (λ g. repeats (activities_of_all g)) (variants t) (combinations f)
      ∙ pair_cong (λ v g. repeats_append (activities v) (activities_of_all g)) (variants t) (combinations f)
      ∙ pair_or (λ v g. repeats (activities v) || share (activities v) (activities_of_all g))
      (λ v g. repeats (activities_of_all g)) (variants t) (combinations f)
      ∙ ap₂ ◌||◌
      (pair_or (λ v g. repeats (activities v)) (λ v g. share (activities v) (activities_of_all g))
      (variants t) (combinations f)
      ∙ ap₂ ◌||◌
      (pair_first (λ v. repeats (activities v)) (variants t) (combinations f) (combinations_some f hf)
      ∙ twice_variants t ht)
      (shared t f ht hf))
      (pair_second (λ g. repeats (activities_of_all g)) (variants t) (combinations f) (variants_some t ht)
      ∙ twice_together f hf)

  twice_apart : (f : Forest) → full_all f ≡ true
      → some_of (λ v. repeats (activities v)) (alternatives f) ≡ clash_apart f
  twice_apart nil h = refl
  twice_apart (cons t f) h =
      let (ht, hf) = (and-eq-true_iff (full t) (full_all f)).0 h in
      some_append (λ v. repeats (activities v)) (variants t) (alternatives f)
      ∙ ap₂ ◌||◌ (twice_variants t ht) (twice_apart f hf)

pub twice_clash : (t : Term) → full t ≡ true → twice t ≡ clash t
unfolding twice
twice_clash t h = twice_variants t h

pub member_found : (i : ℕ) (xs : List ℕ) → member i xs ≡ true → Memᴰ i xs
member_found i xs e =
    let (x, m, h) = some_found (eqb i) xs (sym (member_some i xs) ∙ e) in Memᴰ.cast (eqb-true i x h) m

pub member_is : {i : ℕ} {xs : List ℕ} → Memᴰ i xs → member i xs ≡ true
member_is {i} {xs} m = member_some i xs ∙ some_is (eqb i) m (eq-eqb i i refl)

split_at : {i : ℕ} {xs : List ℕ} → Memᴰ i xs → (a b : List ℕ) × (xs ≡ a ++ i ∷ b)
split_at {i} (Memᴰ.head {x = x} {xs = xs} e) = ([], xs, ap (λ (j : ℕ). j ∷ xs) (sym e))
split_at {i} (Memᴰ.tail {x = x} {xs = xs} m) = let (a, b, e) = split_at m in (x ∷ a, b, ap (◌∷◌ x) e)

repeats_found : (xs : List ℕ) → repeats xs ≡ true → Repeats xs
unfolding repeats
repeats_found [] e = absurd (false≢true e)
repeats_found (x ∷ xs) e = go (repeats_found xs) (member x xs) refl e
  where
    go : (repeats xs ≡ true → Repeats xs) → (b : Bool) → member x xs ≡ b → b || repeats xs ≡ true → Repeats (x ∷ xs)
    go later true h e = let (b, c, s) = split_at (member_found x xs h) in (x, [], b, c, ap (◌∷◌ x) s)
    go later false h e = let (i, a, b, c, s) = later e in (i, x ∷ a, b, c, ap (◌∷◌ x) s)

repeats_is : (xs : List ℕ) → Repeats xs → repeats xs ≡ true
repeats_is xs (i, a, b, c, e) =
    let s : share (a ++ i ∷ b) (i ∷ c) ≡ true =
    unfold share in some_is (λ j. member j (i ∷ c)) (Memᴰ.append_right a (Memᴰ.head refl))
    (member_is (Memᴰ.head refl)) in
    ap repeats e ∙ repeats_append (a ++ i ∷ b) (i ∷ c) ∙ rw (s, or-true (repeats (a ++ i ∷ b)))

pub twice_means : (t : Term) → (twice t ≡ true) ↔ ((v : Term) × Memᴰ v (variants t) × Repeats (activities v))
unfolding twice
twice_means t = (
  λ e. let (v, m, h) =
      some_found (λ v. repeats (activities v)) (variants t) e in (v, m, repeats_found (activities v) h),
  λ h. some_is (λ v. repeats (activities v)) h.1 (repeats_is (activities h.0) h.2),
)
