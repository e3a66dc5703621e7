-- What a variant is made of: its activities are among the term's, its nodes no more, it has no x, and it is full if
-- the term is.
use Prim.Native.Nat.{ℕ, suc, ◌+◌, ◌-◌, ◌/◌, ◌%◌, ◌≤◌, ◌<◌}
use mathlib.Core.Bool.{Bool, true, false, ◌&&◌, and-eq-true_iff}
use mathlib.Core.List.{List, ◌++◌}
use mathlib.Core.Path.{◌≡◌, refl, ap, ◌∙◌}
use native.Mathlib.Nat.{mod-lt, div-lt_iff_lt-mul}
use native.Mathlib.Omega.{arith}
use borrow.Author.Tests.{ltb-true, ltb-false}
use lib.Dec.{leb, ltb}
use lib.ListN.{length, length-append}
use Rattle.plan.specs.Limits.{fewest_children}
use Rattle.base.proofs.Bools.{both, and_left, and_right}
use Rattle.term.specs.Term.{Term, Forest, act, seq, pll, xor, nil, cons, size, nodes, nodes_of_all, full, full_all}
use Rattle.term.specs.Term.{plural}
use Rattle.term.specs.Variants.{activities, activities_of_all, member}
use Rattle.term.specs.Reduced.{xor_free, xor_free_all}
use Rattle.term.specs.Model.{count, product, total}
use Rattle.variant.proofs.Members.{member_left, member_right, member_either}
use Rattle.variant.specs.Pick.{pick, pick_each, pick_one}
use Rattle.variant.proofs.Pick.{pos_right, choice}

-- What holds of a term and each of its variants: by the forms of both, `Each` for an s or p, `One` for an x.
pub record Inherited (P : Term → Term → Type 0) (Each : Forest → Forest → Type 0)
    (One : Forest → Term → Type 0) : Type 0 where
  pub of_act : (i : ℕ) → P (act i) (act i)
  pub of_seq : (f g : Forest) → Each f g → P (seq f) (seq g)
  pub of_pll : (f g : Forest) → Each f g → P (pll f) (pll g)
  pub of_xor : (f : Forest) (u : Term) → One f u → P (xor f) u
  pub of_nil : Each nil nil
  pub of_cons : (t u : Term) (f g : Forest) → P t u → Each f g → Each (cons t f) (cons u g)
  pub here : (t u : Term) (f : Forest) → P t u → One (cons t f) u
  pub there : (t u : Term) (f : Forest) → One f u → One (cons t f) u

module _ {P : Term → Term → Type 0} {Each : Forest → Forest → Type 0} {One : Forest → Term → Type 0}
    (k : Inherited P Each One) where
  either : (t : Term) (f : Forest) (v : ℕ) → v < count t + total f → (v < count t → P t (pick t v))
      → (v - count t < total f → One f (pick_one f (v - count t)))
      → (b : Bool) → ltb v (count t) ≡ b → One (cons t f) (choice b (pick t v) (pick_one f (v - count t)))
  either t f v h and_left rest true e = k.here t (pick t v) f (and_left (ltb-true v (count t) e))
  either t f v h and_left rest false e =
      let l : count t ≤ v = ltb-false v (count t) e in k.there t (pick_one f (v - count t)) f (rest (omega arith))

  mutual
    unfolding count pick

    pub inherited : (t : Term) (v : ℕ) → v < count t → P t (pick t v)
    inherited (act i) v h = k.of_act i
    inherited (seq f) v h = k.of_seq f (pick_each f v) (kept_each f v h)
    inherited (pll f) v h = k.of_pll f (pick_each f v) (kept_each f v h)
    inherited (xor f) v h = k.of_xor f (pick_one f v) (kept_one f v h)

    kept_each : (f : Forest) (v : ℕ) → v < product f → Each f (pick_each f v)
    kept_each nil v h = k.of_nil
    kept_each (cons t f) v h =
        let pos : 0 < product f = pos_right (count t) (product f) v h in
        k.of_cons t (pick t (v / product f)) f (pick_each f (v % product f))
        (inherited t (v / product f) ((div-lt_iff_lt-mul pos).1 h))
        (kept_each f (v % product f) (mod-lt v pos))

    kept_one : (f : Forest) (v : ℕ) → v < total f → One f (pick_one f v)
    kept_one nil v h = absurd (omega arith)
    kept_one (cons t f) v h =
        either t f v h (λ l. inherited t v l) (λ l. kept_one f (v - count t) l) (ltb v (count t)) refl

-- The activities.
abbrev Within : List ℕ → List ℕ → Type 0
Within xs ys = (i : ℕ) → member i xs ≡ true → member i ys ≡ true

within_both : (xs ys zs ws : List ℕ) → Within xs ys → Within zs ws → Within (xs ++ zs) (ys ++ ws)
within_both xs ys zs ws f g i e =
    member_either i xs zs (λ m. member_left i ys ws (f i m)) (λ m. member_right i ys ws (g i m)) e

activities_kept :
    Inherited
    (λ t u. Within (activities u) (activities t))
    (λ f g. Within (activities_of_all g) (activities_of_all f))
    (λ f u. Within (activities u) (activities_of_all f))
unfolding activities
activities_kept =
    record {
      of_act = λ i j e. e;
      of_seq = λ f g w. w;
      of_pll = λ f g w. w;
      of_xor = λ f u w. w;
      of_nil = λ i e. e;
      of_cons = λ t u f g p q. within_both (activities u) (activities t) (activities_of_all g) (activities_of_all f) p q;
      here = λ t u f w i e. member_left i (activities t) (activities_of_all f) (w i e);
      there = λ t u f w i e. member_right i (activities t) (activities_of_all f) (w i e);
    }

pub pick_activities : (t : Term) (v : ℕ) → v < count t → (i : ℕ) → member i (activities (pick t v)) ≡ true
    → member i (activities t) ≡ true
pick_activities t v h = inherited activities_kept t v h

-- The nodes.
length_cons : (t : Term) (f : Forest) → length (nodes_of_all (cons t f)) ≡ length (nodes t) + length (nodes_of_all f)
unfolding nodes
length_cons t f = length-append (nodes t) (nodes_of_all f)

nodes_kept :
    Inherited
    (λ t u. length (nodes u) ≤ length (nodes t))
    (λ f g. length (nodes_of_all g) ≤ length (nodes_of_all f))
    (λ f u. length (nodes u) ≤ length (nodes_of_all f))
unfolding nodes
nodes_kept =
    record {
      of_act = λ i. omega arith;
      of_seq = λ f g l. omega arith;
      of_pll = λ f g l. omega arith;
      of_xor = λ f u l. omega arith;
      of_nil = omega arith;
      of_cons = λ t u f g p q. omega (arith, length_cons t f, length_cons u g);
      here = λ t u f l. omega (arith, length_cons t f);
      there = λ t u f l. omega (arith, length_cons t f);
    }

pub pick_nodes : (t : Term) (v : ℕ) → v < count t → length (nodes (pick t v)) ≤ length (nodes t)
pick_nodes t v h = inherited nodes_kept t v h

-- No x.
xor_free_kept : Inherited (λ t u. xor_free u ≡ true) (λ f g. xor_free_all g ≡ true) (λ f u. xor_free u ≡ true)
unfolding xor_free
xor_free_kept =
    record {
      of_act = λ i. refl;
      of_seq = λ f g e. e;
      of_pll = λ f g e. e;
      of_xor = λ f u e. e;
      of_nil = refl;
      of_cons = λ t u f g p q. both p q;
      here = λ t u f e. e;
      there = λ t u f e. e;
    }

pub pick_xor_free : (t : Term) (v : ℕ) → v < count t → xor_free (pick t v) ≡ true
pick_xor_free t v h = inherited xor_free_kept t v h

-- Every group has two children or more.
abbrev FullAs : Forest → Forest → Type 0
FullAs f g = (size g ≡ size f) × (full_all f ≡ true → full_all g ≡ true)

group_full : (f g : Forest) → FullAs f g → plural f && full_all f ≡ true → plural g && full_all g ≡ true
group_full f g (s, below) e =
    let (some, all) = (and-eq-true_iff (plural f) (full_all f)).0 e in
    both (ap (leb fewest_children) s ∙ some) (below all)

full_kept :
    Inherited
    (λ t u. full t ≡ true → full u ≡ true)
    FullAs
    (λ f u. full_all f ≡ true → full u ≡ true)
unfolding full size
full_kept =
    record {
      of_act = λ i e. e;
      of_seq = group_full;
      of_pll = group_full;
      of_xor = λ f u below e. below (and_right (plural f) (full_all f) e);
      of_nil = (refl, λ e. e);
      of_cons = λ t u f g p q. (
        ap suc q.0,
        λ e.
            let (a, b) = (and-eq-true_iff (full t) (full_all f)).0 e in
            both (p a) (q.1 b),
      );
      here = λ t u f below e. below (and_left (full t) (full_all f) e);
      there = λ t u f below e. below (and_right (full t) (full_all f) e);
    }

pub pick_full : (t : Term) (v : ℕ) → v < count t → full t ≡ true → full (pick t v) ≡ true
pick_full t v h = inherited full_kept t v h
