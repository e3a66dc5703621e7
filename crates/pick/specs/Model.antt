-- Serves the proofs: the terms that stand at a place of the nodes, and what is written of them.
use Rattle.std.specs.Prelude.{ℕ, suc, ◌+◌, ◌*◌, ◌≤◌, ◌<◌, min, Bool, true, false, List, [], ◌∷◌, ◌++◌, ◌≡◌}
use Rattle.std.specs.Prelude.{length, get_or, take, drop, Option, Some, None}
use Rattle.plan.specs.Limits.{most_variants, most_nodes}
use Rattle.plan.specs.declared.Node.{Node}
use Rattle.plan.specs.declared.Node.TheVariants.{Act, Seq, Pll, Xor}
use Rattle.term.specs.Term.{Term, Forest, act, seq, pll, xor, nil, cons, size, nodes_of_all, firsts, others}
use Rattle.term.specs.Model.{count, product, total, children_of}
use Rattle.variant.specs.Written.{in_seq, in_pll, dissolved, dissolved_in}
use Rattle.variant.specs.Pick.{pick, pick_each, pick_one}
use Rattle.pick.specs.declared.Group.{Group}
use Rattle.pick.specs.declared.Group.TheVariants.{Sequence, Parallel}
use Rattle.pick.specs.declared.Place.{Place}
use Rattle.pick.specs.declared.Span.{Span}
use Rattle.pick.specs.declared.output.Picked.{Picked}

-- The terms that the nodes are, from their end: `forest` of crate term, without its test that a group's children are
-- there.
unfoldable pub onto : Node → Forest → Forest
onto (Act i) f = cons (act i) f
onto (Seq k) f = cons (seq (firsts k f)) (others k f)
onto (Pll k) f = cons (pll (firsts k f)) (others k f)
onto (Xor k) f = cons (xor (firsts k f)) (others k f)

unfoldable pub terms : List Node → Forest
terms [] = nil
terms (n ∷ ns) = onto n (terms ns)

-- That test, at every node.
unfoldable pub Enough : List Node → Type 0
Enough [] = Unit {0}
Enough (n ∷ ns) = (children_of n ≤ size (terms ns)) × Enough ns

abbrev pub first : Forest → Term
first nil = act 0
first (cons t f) = t

abbrev pub rest : Forest → Forest
rest nil = nil
rest (cons t f) = f

abbrev pub terms_at : List Node → ℕ → Forest
terms_at ns i = terms (drop i ns)

abbrev pub term_at : List Node → ℕ → Term
term_at ns i = first (terms_at ns i)

abbrev pub node_at : List Node → ℕ → Node
node_at ns i = get_or ns i (Act 0)

abbrev pub span_at : List Span → ℕ → Span
span_at spans i = get_or spans i (record { next = 0; count = 0 })

-- From a place on, the spans say where each term ends.
pub record Ends (ns : List Node) (spans : List Span) (from : ℕ) : Type 0 where
  pub later : (i : ℕ) → from ≤ i → i < length ns → i < (span_at spans i).next
  pub rests : (i : ℕ) → from ≤ i → i < length ns → terms_at ns (span_at spans i).next ≡ rest (terms_at ns i)

-- From a place on, the spans say where each term ends and how many variants it has.
pub record Spanned (ns : List Node) (spans : List Span) (from : ℕ) : Type 0 where
  pub ends : Ends ns spans from
  pub counts : (i : ℕ) → from ≤ i → i < length ns → (span_at spans i).count ≡ count (term_at ns i)

-- A count stops one above the most variants that a plan may have.
abbrev pub stop : ℕ
stop = suc most_variants

-- The same, with counts that stop there.
pub record Stopped (ns : List Node) (spans : List Span) (from : ℕ) : Type 0 where
  pub ends : Ends ns spans from
  pub counts : (i : ℕ) → from ≤ i → i < length ns → (span_at spans i).count ≡ min (count (term_at ns i)) stop

-- The variants of children: of one of them, or of all together.
abbrev pub ways : Bool → Forest → ℕ
ways true f = total f
ways false f = product f

abbrev pub combine : Bool → ℕ → ℕ → ℕ
combine true a b = a + b
combine false a b = a * b

-- What the walk along k children needs, and what it finds.
pub record ChildrenFrom (ns : List Node) (spans : List Span) (k from : ℕ) : Type 0 where
  pub short : length ns ≤ most_nodes
  pub stopped : Stopped ns spans from
  pub enough : k ≤ size (terms_at ns from)

pub record AlongChildren (ns : List Node) (apart : Bool) (k from : ℕ) (r : Span) : Type 0 where
  pub later : from ≤ r.next
  pub ends : terms_at ns r.next ≡ others k (terms_at ns from)
  pub counts : r.count ≡ min (ways apart (firsts k (terms_at ns from))) stop

-- What the span of a node needs, whose children begin at a place, and what it is.
pub record Begun (ns : List Node) (spans : List Span) (node : Node) (from : ℕ) : Type 0 where
  pub short : length ns ≤ most_nodes
  pub stopped : Stopped ns spans from
  pub enough : children_of node ≤ size (terms_at ns from)

pub record Ended (ns : List Node) (node : Node) (from : ℕ) (r : Span) : Type 0 where
  pub later : from ≤ r.next
  pub ends : terms_at ns r.next ≡ rest (onto node (terms_at ns from))
  pub counts : r.count ≡ min (count (first (onto node (terms_at ns from)))) stop

-- What the search for the child that v falls into needs, and what it finds.
pub record AmongAlternatives (ns : List Node) (spans : List Span) (from v : ℕ) : Type 0 where
  pub short : length ns ≤ most_nodes
  pub spanned : Spanned ns spans from
  pub below : v < total (terms_at ns from)

pub record AlternativeFound (ns : List Node) (from v : ℕ) (r : Place) : Type 0 where
  pub later : from ≤ r.at
  pub inside : r.at < length ns
  pub below : r.v < count (term_at ns r.at)
  pub same : pick (term_at ns r.at) r.v ≡ pick_one (terms_at ns from) v
  pub smaller : length (nodes_of_all (terms_at ns r.at)) ≤ length (nodes_of_all (terms_at ns from))

-- A group's node and term; whether it gives its children to the group around it.
abbrev pub node_by : Group → ℕ → Node
node_by Sequence k = Seq k
node_by Parallel k = Pll k

abbrev pub term_by : Group → Forest → Term
term_by Sequence = seq
term_by Parallel = pll

abbrev pub joins : Group → Option Group → Bool
joins g None = false
joins Sequence (Some Sequence) = true
joins Sequence (Some Parallel) = false
joins Parallel (Some Sequence) = false
joins Parallel (Some Parallel) = true

-- How a child is put into a group, or into none: a sequence takes a sequence apart, and a parallel group a parallel one.
abbrev pub put_in : Option Group → Term → Forest → Forest
put_in None = cons
put_in (Some Sequence) = in_seq
put_in (Some Parallel) = in_pll

-- What variant v of a term, and of each of several, is in a group.
unfoldable pub parts_of : Option Group → Term → ℕ → Forest
parts_of outer t v = put_in outer (dissolved (pick t v)) nil

unfoldable pub parts_of_each : Group → Forest → ℕ → Forest
parts_of_each kind f v = dissolved_in (put_in (Some kind)) (pick_each f v)

-- What one step adds to the nodes that are written, and to the children of the group around it.
pub record Grown (d r : Picked) (f : Forest) (children : ℕ) : Type 0 where
  pub sized : length r.node ≡ most_nodes
  pub at : r.nodes ≡ d.nodes + length (nodes_of_all f)
  pub children_are : children ≡ size f
  pub adds : take r.nodes r.node ≡ take d.nodes d.node ++ nodes_of_all f

-- What every step needs: right spans, and room for all that is still to be read.
pub record Going (ns : List Node) (spans : List Span) (at : ℕ) (d : Picked) : Type 0 where
  pub short : length ns ≤ most_nodes
  pub enough : Enough ns
  pub spanned : Spanned ns spans 0
  pub sized : length d.node ≡ most_nodes
  pub room : d.nodes + length (nodes_of_all (terms_at ns at)) ≤ most_nodes

pub record OfTerm (ns : List Node) (spans : List Span) (p : Place) (d : Picked) : Type 0 where
  pub going : Going ns spans p.at d
  pub inside : p.at < length ns
  pub below : p.v < count (term_at ns p.at)

pub record OfGroup (ns : List Node) (spans : List Span) (kind : Group) (k : ℕ) (p : Place) (d : Picked) : Type 0 where
  pub of_term : OfTerm ns spans p d
  pub is : node_at ns p.at ≡ node_by kind k

pub record OfEach (ns : List Node) (spans : List Span) (k : ℕ) (p : Place) (all : ℕ) (d : Picked) : Type 0 where
  pub going : Going ns spans p.at d
  pub enough : k ≤ size (terms_at ns p.at)
  pub counts : all ≡ product (firsts k (terms_at ns p.at))
  pub below : p.v < all
