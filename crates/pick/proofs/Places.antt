-- The terms that stand at a place of the nodes.
use Prim.Native.Nat.{ℕ, zero, suc, ◌+◌, ◌*◌, ◌≤◌, ◌<◌}
use mathlib.Core.Bool.{Bool, true, false, and-eq-true_iff}
use mathlib.Core.List.{List, [], ◌∷◌}
use mathlib.Core.Option.{Option, none, some, none-ne-some, some-injective}
use mathlib.Core.Path.{◌≡◌, refl, sym, ap, ◌∙◌, subst}
use native.Mathlib.Nat.{le-mul_of_pos_right, mul_comm}
use native.Mathlib.Numerals.{add-one}
use native.Mathlib.Omega.{arith}
use lib.Dec.{leb}
use lib.ListN.{length, length-append}
use borrow.Author.Tests.{leb-true}
use Rattle.plan.specs.declared.Node.{Node}
use Rattle.plan.specs.declared.Node.TheVariants.{Act, Seq, Pll, Xor}
use Rattle.term.specs.Term.{Term, Forest, act, seq, pll, xor, nil, cons, size, nodes, nodes_of_all, firsts, others}
use Rattle.term.specs.Term.{place, forest, single, term_of, full, full_all, plural}
use Rattle.term.specs.Model.{count, product, total, children_of}
use Rattle.term.proofs.Counting.{some_variant, some_combination}
use Rattle.pick.specs.Model.{onto, terms, Enough, first, rest, terms_at, term_at, node_at}

-- Where `forest` reads the nodes, it reads these terms, and no group lacks a child.
group_is : (make : Forest → Term) (k : ℕ) (f g : Forest) (b : Bool) → leb k (size f) ≡ b
    → elim b as (λ x. Option Forest) [ true ↦ some (cons (make (firsts k f)) (others k f)) | false ↦ none ] ≡ some g
    → (cons (make (firsts k f)) (others k f) ≡ g) × (k ≤ size f)
group_is make k f g true h e = (some-injective _ g e, leb-true k (size f) h)
group_is make k f g false h e = absurd (none-ne-some g e)

place_is : (n : Node) (f g : Forest) → place n f ≡ some g → (onto n f ≡ g) × (children_of n ≤ size f)
unfolding place onto
place_is (Act i) f g e = (some-injective (cons (act i) f) g e, omega arith)
place_is (Seq k) f g e = group_is seq k f g (leb k (size f)) refl e
place_is (Pll k) f g e = group_is pll k f g (leb k (size f)) refl e
place_is (Xor k) f g e = group_is xor k f g (leb k (size f)) refl e

forest_is : (ns : List Node) (f : Forest) → forest ns ≡ some f → (terms ns ≡ f) × Enough ns
unfolding forest terms Enough
forest_is [] f e = (some-injective nil f e, tt)
forest_is (n ∷ ns) f e = go (forest ns) (forest_is ns) e
  where
    go : (o : Option Forest) → ((g : Forest) → o ≡ some g → (terms ns ≡ g) × Enough ns)
        → elim o [ none ↦ none | some g ↦ place n g ] ≡ some f
        → (onto n (terms ns) ≡ f) × ((children_of n ≤ size (terms ns)) × Enough ns)
    go none below e = absurd (none-ne-some f e)
    go (some g) below e =
        let (same, enough) = below g refl in
        let (is, wide) = place_is n g f e in
        (ap (onto n) same ∙ is, (subst (λ (h : Forest). children_of n ≤ size h) (sym same) wide, enough))

pub whole : (ns : List Node) (t : Term) → term_of ns ≡ some t → (terms ns ≡ cons t nil) × Enough ns
unfolding term_of
whole ns t e = forest_is ns (cons t nil) (go (forest ns) e)
  where
    go : (o : Option Forest) → single o ≡ some t → o ≡ some (cons t nil)
    go none e = absurd (none-ne-some t e)
    go (some nil) e = absurd (none-ne-some t e)
    go (some (cons u nil)) e = cc
    go (some (cons u (cons v f))) e = absurd (none-ne-some t e)

-- A place before the end begins a term, and a term that is there begins before the end.
onto_cons : (n : Node) (f : Forest) → onto n f ≡ cons (first (onto n f)) (rest (onto n f))
unfolding onto
onto_cons (Act i) f = refl
onto_cons (Seq k) f = refl
onto_cons (Pll k) f = refl
onto_cons (Xor k) f = refl

pub terms_cons : (ns : List Node) (i : ℕ) → i < length ns → terms_at ns i ≡ cons (term_at ns i) (rest (terms_at ns i))
unfolding terms
terms_cons [] i h = absurd (omega arith)
terms_cons (n ∷ ns) zero h = onto_cons n (terms ns)
terms_cons (n ∷ ns) (suc i) h = terms_cons ns i (omega arith)

pub inside : (ns : List Node) (i : ℕ) → 0 < size (terms_at ns i) → i < length ns
unfolding terms size
inside [] zero h = absurd (omega arith)
inside [] (suc i) h = absurd (omega arith)
inside (n ∷ ns) zero h = omega arith
inside (n ∷ ns) (suc i) h = omega (arith, inside ns i h)

terms_next : (ns : List Node) (i : ℕ) → i < length ns → terms_at ns i ≡ onto (node_at ns i) (terms_at ns (suc i))
unfolding terms
terms_next [] i h = absurd (omega arith)
terms_next (n ∷ ns) zero h = refl
terms_next (n ∷ ns) (suc i) h = terms_next ns i (omega arith)

pub terms_at_lem : (ns : List Node) (i : ℕ) → i < length ns → terms_at ns i ≡ onto (node_at ns i) (terms_at ns (i + 1))
terms_at_lem ns i h = terms_next ns i h ∙ ap (λ (j : ℕ). onto (node_at ns i) (terms_at ns j)) (sym (add-one i))

enough_next : (ns : List Node) (i : ℕ) → Enough ns → i < length ns
    → children_of (node_at ns i) ≤ size (terms_at ns (suc i))
unfolding Enough
enough_next [] i e h = absurd (omega arith)
enough_next (n ∷ ns) zero e h = e.0
enough_next (n ∷ ns) (suc i) e h = enough_next ns i e.1 (omega arith)

pub enough_at : (ns : List Node) (i : ℕ) → Enough ns → i < length ns
    → children_of (node_at ns i) ≤ size (terms_at ns (i + 1))
enough_at ns i e h = omega (arith, enough_next ns i e h, ap (λ (j : ℕ). size (terms_at ns j)) (add-one i))

-- A group's children and what follows them.
pub split_nodes : (k : ℕ) (f : Forest)
    → length (nodes_of_all f) ≡ length (nodes_of_all (firsts k f)) + length (nodes_of_all (others k f))
unfolding firsts others nodes
split_nodes zero f = omega arith
split_nodes (suc k) nil = omega arith
split_nodes (suc k) (cons t f) =
    omega (
      arith,
      split_nodes k f,
      length-append (nodes t) (nodes_of_all f),
      length-append (nodes t) (nodes_of_all (firsts k f)),
    )

pub total_firsts : (k : ℕ) (f : Forest) → total (firsts k f) ≤ total f
unfolding firsts count
total_firsts zero f = omega arith
total_firsts (suc k) nil = omega arith
total_firsts (suc k) (cons t f) = omega (arith, total_firsts k f)

-- Each term full, and with few variants: so are the terms inside.
abbrev pub Fair : ℕ → Forest → Type 0
Fair b nil = Unit {0}
Fair b (cons t f) = (full t ≡ true) × (count t ≤ b) × Fair b f

module _ (b : ℕ) where
  fair_product : (f : Forest) → full_all f ≡ true → product f ≤ b → Fair b f
  unfolding count full
  fair_product nil h l = tt
  fair_product (cons t f) h l =
      let (p, q) = (and-eq-true_iff (full t) (full_all f)).0 h in
      let here : count t ≤ count t * product f = le-mul_of_pos_right (count t) (some_combination f q) in
      let there : product f ≤ product f * count t = le-mul_of_pos_right (product f) (some_variant t p) in
      (p, omega arith, fair_product f q (omega (arith, mul_comm (count t) (product f))))

  fair_total : (f : Forest) → full_all f ≡ true → total f ≤ b → Fair b f
  unfolding count full
  fair_total nil h l = tt
  fair_total (cons t f) h l =
      let (p, q) = (and-eq-true_iff (full t) (full_all f)).0 h in
      (p, omega arith, fair_total f q (omega arith))

  fair_both : (k : ℕ) (f : Forest) → Fair b (firsts k f) → Fair b (others k f) → Fair b f
  unfolding firsts others
  fair_both zero f x y = y
  fair_both (suc k) nil x y = tt
  fair_both (suc k) (cons t f) (p, l, x) y = (p, l, fair_both k f x y)

  fair_onto : (n : Node) (f : Forest) → Fair b (onto n f) → Fair b f
  unfolding onto count full
  fair_onto (Act i) f (p, l, x) = x
  fair_onto (Seq k) f (p, l, x) =
      fair_both k f
      (fair_product (firsts k f) ((and-eq-true_iff (plural (firsts k f)) (full_all (firsts k f))).0 p).1 l) x
  fair_onto (Pll k) f (p, l, x) =
      fair_both k f
      (fair_product (firsts k f) ((and-eq-true_iff (plural (firsts k f)) (full_all (firsts k f))).0 p).1 l) x
  fair_onto (Xor k) f (p, l, x) =
      fair_both k f
      (fair_total (firsts k f) ((and-eq-true_iff (plural (firsts k f)) (full_all (firsts k f))).0 p).1 l) x

  pub fair_at : (ns : List Node) (i : ℕ) → Fair b (terms ns) → Fair b (terms_at ns i)
  unfolding terms
  fair_at [] zero h = tt
  fair_at [] (suc i) h = tt
  fair_at (n ∷ ns) zero h = h
  fair_at (n ∷ ns) (suc i) h = fair_at ns i (fair_onto n (terms ns) h)

  pub fair_few : (f : Forest) → 1 ≤ b → Fair b f → count (first f) ≤ b
  unfolding count
  fair_few nil l h = l
  fair_few (cons t f) l (p, m, x) = m
