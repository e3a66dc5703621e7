-- The variants of a term are exactly its reduced subterms.
use mathlib.Core.Bool.{true, and-eq-true_iff, false≢true}
use mathlib.Core.List.Memᴰ
use mathlib.Core.List.{Memᴰ}
use mathlib.Core.Logic.{◌↔◌, ⊎_elim}
use mathlib.Core.Path.{◌≡◌, refl, sym, ap, ◌∙◌, subst}
use Rattle.term.specs.Term.{Term, Forest, act, seq, pll, xor, nil, cons}
use Rattle.term.specs.Variants.{variants, combinations, alternatives}
use Rattle.term.specs.Reduced.{OneOf, head, tail, Replaces, pick, in_seq, in_pll, in_xor, ReplacesIn, first, later}
use Rattle.term.specs.Reduced.{Steps, done, step, xor_free, xor_free_all, Reduced}
use Rattle.term.proofs.Members.{paired_mem, paired_cases, paired_mono, append_mono, map_mono}

-- A variant after a replacement is one before it.
picked : {c v : Term} {f : Forest} → OneOf c f → Memᴰ v (variants c) → Memᴰ v (alternatives f)
unfolding variants
picked (head {f = f}) m = Memᴰ.append_left (alternatives f) m
picked (tail {d = d} o) m = Memᴰ.append_right (variants d) (picked o m)

mutual
  unfolding variants

  before : {t u v : Term} → Replaces t u → Memᴰ v (variants u) → Memᴰ v (variants t)
  before (pick o) m = picked o m
  before (in_seq {f} {g} r) m = map_mono seq (combinations g) (combinations f) (λ h n. together_before r n) m
  before (in_pll {f} {g} r) m = map_mono pll (combinations g) (combinations f) (λ h n. together_before r n) m
  before (in_xor r) m = apart_before r m

  together_before : {f g h : Forest} → ReplacesIn f g → Memᴰ h (combinations g) → Memᴰ h (combinations f)
  together_before (first {t} {u} {f} r) m =
      paired_mono (variants u) (variants t) (combinations f) (combinations f) (λ v n. before r n) (λ g n. n) m
  together_before (later {t} {f} {g} r) m =
      paired_mono (variants t) (variants t) (combinations g) (combinations f) (λ v n. n) (λ h n. together_before r n)
      m

  apart_before : {f g : Forest} {v : Term} → ReplacesIn f g → Memᴰ v (alternatives g)
      → Memᴰ v (alternatives f)
  apart_before (first {t} {u} {f} r) m =
      append_mono (variants u) (alternatives f) (variants t) (alternatives f) (λ n. before r n) (λ n. n) m
  apart_before (later {t} {f} {g} r) m =
      append_mono (variants t) (alternatives g) (variants t) (alternatives f) (λ n. n) (λ n. apart_before r n) m

-- An xor-free term is a variant of itself.
mutual
  unfolding variants xor_free

  itself : (t : Term) → xor_free t ≡ true → Memᴰ t (variants t)
  itself (act i) e = Memᴰ.head refl
  itself (seq f) e = Memᴰ.map seq (itself_together f e)
  itself (pll f) e = Memᴰ.map pll (itself_together f e)
  itself (xor f) e = absurd (false≢true e)

  itself_together : (f : Forest) → xor_free_all f ≡ true → Memᴰ f (combinations f)
  itself_together nil e = Memᴰ.head refl
  itself_together (cons t f) e =
      let (p, q) = (and-eq-true_iff (xor_free t) (xor_free_all f)).0 e in paired_mem (itself t p) (itself_together f q)

variant_of_reduced : {t v : Term} → Steps Replaces t v → xor_free v ≡ true → Memᴰ v (variants t)
variant_of_reduced {v} done e = itself v e
variant_of_reduced (step r s) e = before r (variant_of_reduced s e)

-- Steps one after another, and steps inside something larger.
steps_join : {A : Type 0} {R : A → A → Type 0} {a b c : A} → Steps R a b → Steps R b c → Steps R a c
steps_join done q = q
steps_join (step r p) q = step r (steps_join p q)

steps_map : {A B : Type 0} {R : A → A → Type 0} {S : B → B → Type 0} {a b : A} (f : A → B)
    → ((x y : A) → R x y → S (f x) (f y))
    → Steps R a b → Steps S (f a) (f b)
steps_map f h done = done
steps_map f h (step {a} {b} r p) = step (h a b r) (steps_map f h p)

-- A variant comes by replacements, and is xor-free.
mutual
  unfolding variants

  reduces : (t v : Term) → Memᴰ v (variants t) → Steps Replaces t v
  reduces (act i) v m = subst (Steps Replaces (act i)) (sym (Memᴰ.eq_of_singleton m)) done
  reduces (seq f) v m =
      let (g, n, e) =
      Memᴰ.of_map seq (combinations f) m in subst (Steps Replaces (seq f)) e
      (steps_map seq (λ x y r. in_seq r) (reduces_together f g n))
  reduces (pll f) v m =
      let (g, n, e) =
      Memᴰ.of_map pll (combinations f) m in subst (Steps Replaces (pll f)) e
      (steps_map pll (λ x y r. in_pll r) (reduces_together f g n))
  reduces (xor f) v m = let (c, o, p) = reduces_apart f v m in step (pick o) p

  reduces_together : (f g : Forest) → Memᴰ g (combinations f) → Steps ReplacesIn f g
  reduces_together nil g m = subst (Steps ReplacesIn nil) (sym (Memᴰ.eq_of_singleton m)) done
  reduces_together (cons t f) g m =
      let (u, h, k, l, e) = paired_cases (variants t) (combinations f) m in
      subst (Steps ReplacesIn (cons t f)) e
      (steps_join (steps_map (λ x. cons x f) (λ x y r. first r) (reduces t u k))
      (steps_map (cons u) (λ x y r. later r) (reduces_together f h l)))

  reduces_apart : (f : Forest) (v : Term) → Memᴰ v (alternatives f) → (c : Term) × OneOf c f × Steps Replaces c v
  reduces_apart nil v m = absurd (Memᴰ.not-nil m)
  reduces_apart (cons t f) v m =
      ⊎_elim (λ n. (t, head, reduces t v n)) (λ n. let (c, o, p) = reduces_apart f v n in (c, tail o, p))
      (Memᴰ.append_cases (variants t) m)

mutual
  unfolding variants xor_free

  free_variants : (t v : Term) → Memᴰ v (variants t) → xor_free v ≡ true
  free_variants (act i) v m = ap xor_free (Memᴰ.eq_of_singleton m)
  free_variants (seq f) v m =
      let (g, n, e) = Memᴰ.of_map seq (combinations f) m in ap xor_free (sym e) ∙ free_together f g n
  free_variants (pll f) v m =
      let (g, n, e) = Memᴰ.of_map pll (combinations f) m in ap xor_free (sym e) ∙ free_together f g n
  free_variants (xor f) v m = free_apart f v m

  free_together : (f g : Forest) → Memᴰ g (combinations f) → xor_free_all g ≡ true
  free_together nil g m = ap xor_free_all (Memᴰ.eq_of_singleton m)
  free_together (cons t f) g m =
      let (u, h, k, l, e) = paired_cases (variants t) (combinations f) m in
      ap xor_free_all (sym e) ∙ (and-eq-true_iff (xor_free u) (xor_free_all h)).1 (free_variants t u k, free_together f h l)

  free_apart : (f : Forest) (v : Term) → Memᴰ v (alternatives f) → xor_free v ≡ true
  free_apart nil v m = absurd (Memᴰ.not-nil m)
  free_apart (cons t f) v m =
      ⊎_elim (λ n. free_variants t v n) (λ n. free_apart f v n) (Memᴰ.append_cases (variants t) m)

pub variants_reduced : (t v : Term) → Memᴰ v (variants t) ↔ Reduced t v
variants_reduced t v = (
  λ m. record { steps = reduces t v m; free = free_variants t v m },
  λ r. variant_of_reduced r.steps r.free,
)
