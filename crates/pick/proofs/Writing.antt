-- What is written: nodes behind nodes, a group's node once its children are there, and children in their group's
-- place.
use Prim.Native.Nat.{ℕ, zero, suc, ◌+◌, ◌≤◌, ◌<◌}
use mathlib.Core.List.{List, [], ◌∷◌, ◌++◌, append_assoc, append-nil}
use mathlib.Core.Path.{◌≡◌, refl, sym, ap, ap₂, subst, ◌∙◌}
use native.Mathlib.Omega.{arith}
use lib.ListN.{length, take, set, length-append, length-set}
use lib.Seq.{length-take-le, take-set-lt, set_at}
use Rattle.std.specs.Prelude.{Option, Some, None}
use Rattle.plan.specs.Limits.{most_nodes}
use Rattle.plan.specs.declared.Node.{Node}
use Rattle.term.specs.Term.{Term, Forest, act, seq, pll, xor, nil, cons, size, nodes, nodes_of_all}
use Rattle.variant.specs.Written.{joined}
use Rattle.pick.specs.Model.{node_at, put_in, Grown}
use Rattle.pick.specs.declared.Group.{Group}
use Rattle.pick.specs.declared.Group.TheVariants.{Sequence, Parallel}
use Rattle.pick.specs.declared.output.Picked.{Picked}

take_node : (ns : List Node) (i : ℕ) → i < length ns → take (suc i) ns ≡ take i ns ++ (node_at ns i ∷ [])
take_node [] i h = absurd (omega arith)
take_node (n ∷ ns) zero h = refl
take_node (n ∷ ns) (suc i) h = ap (◌∷◌ n) (take_node ns i (omega arith))

-- One forest before another.
pub nodes_joined : (f g : Forest) → nodes_of_all (joined f g) ≡ nodes_of_all f ++ nodes_of_all g
unfolding joined nodes
nodes_joined nil g = refl
nodes_joined (cons t f) g =
    ap (λ (l : List Node). nodes t ++ l) (nodes_joined f g)
    ∙ sym (append_assoc (nodes t) (nodes_of_all f) (nodes_of_all g))

pub size_joined : (f g : Forest) → size (joined f g) ≡ size f + size g
unfolding joined size
size_joined nil g = omega arith
size_joined (cons t f) g = omega (arith, size_joined f g)

pub joined_nil : (f : Forest) → joined f nil ≡ f
unfolding joined
joined_nil nil = refl
joined_nil (cons t f) = ap (cons t) (joined_nil f)

-- Each term has a node.
some_node : (t : Term) → 0 < length (nodes t)
unfolding nodes
some_node (act i) = omega arith
some_node (seq f) = omega arith
some_node (pll f) = omega arith
some_node (xor f) = omega arith

pub size_nodes : (f : Forest) → size f ≤ length (nodes_of_all f)
unfolding size nodes
size_nodes nil = omega arith
size_nodes (cons t f) = omega (arith, size_nodes f, some_node t, length-append (nodes t) (nodes_of_all f))

-- A child is put before the others by itself, and has no more nodes then.
data Put : Term → (Forest → Forest) → Type 0 where
  whole : {t : Term} → Put t (cons t)
  seq_apart : {f : Forest} → Put (seq f) (joined f)
  pll_apart : {f : Forest} → Put (pll f) (joined f)

put_is : (outer : Option Group) (t : Term) → Put t (put_in outer t)
put_is None t = whole
put_is (Some Sequence) (act i) = whole
put_is (Some Sequence) (seq f) = seq_apart
put_is (Some Sequence) (pll f) = whole
put_is (Some Sequence) (xor f) = whole
put_is (Some Parallel) (act i) = whole
put_is (Some Parallel) (seq f) = whole
put_is (Some Parallel) (pll f) = pll_apart
put_is (Some Parallel) (xor f) = whole

joined_put : {t : Term} {put : Forest → Forest} → Put t put → (g : Forest) → put g ≡ joined (put nil) g
unfolding joined
joined_put whole g = refl
joined_put (seq_apart {f}) g = ap (λ (h : Forest). joined h g) (sym (joined_nil f))
joined_put (pll_apart {f}) g = ap (λ (h : Forest). joined h g) (sym (joined_nil f))

nodes_put : {t : Term} {put : Forest → Forest} → Put t put → length (nodes_of_all (put nil)) ≤ length (nodes t)
unfolding nodes
nodes_put (whole {t}) = omega (arith, ap length (append-nil (nodes t)))
nodes_put (seq_apart {f}) = omega (arith, ap (λ (h : Forest). length (nodes_of_all h)) (joined_nil f))
nodes_put (pll_apart {f}) = omega (arith, ap (λ (h : Forest). length (nodes_of_all h)) (joined_nil f))

pub put_before : (outer : Option Group) (t : Term) (g : Forest) → put_in outer t g ≡ joined (put_in outer t nil) g
put_before outer t g = joined_put (put_is outer t) g

pub put_nodes : (outer : Option Group) (t : Term) → length (nodes_of_all (put_in outer t nil)) ≤ length (nodes t)
put_nodes outer t = nodes_put (put_is outer t)

-- Nothing more, and one thing after another.
pub grown_none : {d : Picked} → length d.node ≡ most_nodes → Grown d d nil 0
unfolding nodes size
grown_none {d} h =
    record { sized = h; at = omega arith; children_are = refl; adds = sym (append-nil (take d.nodes d.node)) }

pub grown_more : {d e r : Picked} {f g : Forest} {m n : ℕ} → Grown d e f m → Grown e r g n
    → Grown d r (joined f g) (m + n)
grown_more {d} {e} {r} {f} {g} x y =
    record {
      sized = y.sized;
      at = omega (arith, x.at, y.at, ap length (nodes_joined f g), length-append (nodes_of_all f) (nodes_of_all g));
      children_are = omega (arith, x.children_are, y.children_are, size_joined f g);
      adds =
          y.adds
          ∙ ap (λ (l : List Node). l ++ nodes_of_all g) x.adds
          ∙ append_assoc (take d.nodes d.node) (nodes_of_all f) (nodes_of_all g)
          ∙ ap (λ (l : List Node). take d.nodes d.node ++ l) (sym (nodes_joined f g));
    }

pub recounted : {d r : Picked} {f : Forest} {m n : ℕ} → m ≡ n → Grown d r f m → Grown d r f n
recounted {d} {r} {f} e g = subst (Grown d r f) e g

-- A node whose room was left before its children.
pub grown_node : {d e i r : Picked} {f : Forest} {at c : ℕ} (n : Node) (t : Term) → length d.node ≡ most_nodes
    → d.nodes < most_nodes → at ≡ d.nodes
    → e.nodes ≡ d.nodes + 1 → e.node ≡ d.node
    → Grown e i f c
    → nodes t ≡ n ∷ nodes_of_all f → r.nodes ≡ i.nodes → r.node ≡ set i.node at n → Grown d r (cons t nil) 1
unfolding nodes size
grown_node {d} {e} {i} {r} {f} {at} n t h b place after same g is stays put =
    record {
      sized = ap length put ∙ length-set i.node at n ∙ g.sized;
      at = omega (arith, stays, after, g.at, ap length is, ap length (append-nil (nodes t)));
      children_are = refl;
      adds =
          ap₂ take stays (put ∙ ap (λ (j : ℕ). set i.node j n) place)
          ∙ take-set-lt i.nodes i.node d.nodes n (omega (arith, after, g.at))
          ∙ ap (λ (ns : List Node). set ns d.nodes n)
          (g.adds ∙ ap (λ (ns : List Node). ns ++ nodes_of_all f) opened
          ∙ append_assoc written (node_at d.node d.nodes ∷ []) (nodes_of_all f))
          ∙ set_at written (node_at d.node d.nodes) (nodes_of_all f) n d.nodes
          (length-take-le d.nodes d.node (omega (arith, h)))
          ∙ ap (λ (ns : List Node). written ++ ns) (sym is ∙ sym (append-nil (nodes t)));
    }
  where
    written : List Node
    written = take d.nodes d.node

    opened : take e.nodes e.node ≡ written ++ (node_at d.node d.nodes ∷ [])
    opened =
        let next : e.nodes ≡ suc d.nodes = omega (arith, after) in
        ap₂ take next same ∙ take_node d.node d.nodes (omega (arith, h))
