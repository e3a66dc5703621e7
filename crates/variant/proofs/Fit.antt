-- A full term of at most `most_nodes` nodes whose activities are in range is written in nodes that are in range.
use Prim.Native.Nat.{ℕ, ◌≤◌, ◌<◌}
use mathlib.Core.Bool.{true, false, ◌&&◌, false≢true, and-eq-true_iff}
use mathlib.Core.List.{List}
use mathlib.Core.Path.{◌≡◌, refl, sym, ◌∙◌}
use native.Mathlib.Omega.{arith}
use borrow.Author.Tests.{ltb-true, lt-ltb, le-leb, eq-eqb, eqb-true}
use lib.Dec.{ltb, eqb}
use lib.ListN.{length, length-append}
use Rattle.plan.specs.Limits.{most_nodes, most_children, is_child_count}
use Rattle.plan.specs.Plan.{is_node}
use Rattle.base.specs.Lists.{every}
use Rattle.base.proofs.Bools.{both, and_left, and_right}
use Rattle.base.proofs.Every.{every_append}
use Rattle.term.specs.Term.{Term, Forest, act, seq, pll, xor, nil, cons, size, nodes, nodes_of_all, full, full_all}
use Rattle.term.specs.Term.{plural}
use Rattle.term.specs.Variants.{activities, activities_of_all, member}
use Rattle.variant.proofs.Members.{or_elim, or_left, member_left, member_right, member_either}

-- The activities of nodes in range.
abbrev Below : ℕ → List ℕ → Type 0
Below n xs = (i : ℕ) → member i xs ≡ true → i < n

mutual
  unfolding nodes activities member

  pub nodes_below : (t : Term) (n : ℕ) → every (is_node n) (nodes t) ≡ true → Below n (activities t)
  nodes_below (act k) n e i m =
      let l : k < n = ltb-true k n (and_left (ltb k n) true e) in
      or_elim (eqb i k) false (λ q. let s : i ≡ k = eqb-true i k q in omega arith) (λ q. absurd (false≢true q)) m
  nodes_below (seq f) n e i m =
      nodes_of_all_below f n (and_right (is_child_count (size f)) (every (is_node n) (nodes_of_all f)) e) i m
  nodes_below (pll f) n e i m =
      nodes_of_all_below f n (and_right (is_child_count (size f)) (every (is_node n) (nodes_of_all f)) e) i m
  nodes_below (xor f) n e i m =
      nodes_of_all_below f n (and_right (is_child_count (size f)) (every (is_node n) (nodes_of_all f)) e) i m

  nodes_of_all_below : (f : Forest) (n : ℕ) → every (is_node n) (nodes_of_all f) ≡ true → Below n (activities_of_all f)
  nodes_of_all_below nil n e i m = absurd (false≢true m)
  nodes_of_all_below (cons t f) n e i m =
      let (a, b) =
      (and-eq-true_iff (every (is_node n) (nodes t)) (every (is_node n) (nodes_of_all f))).0
      (sym (every_append (is_node n) (nodes t) (nodes_of_all f)) ∙ e) in
      member_either i (activities t) (activities_of_all f) (λ k. nodes_below t n a i k)
      (λ k. nodes_of_all_below f n b i k) m

-- A term has a node, and a forest one for each child.
pub nodes_some : (t : Term) → 1 ≤ length (nodes t)
unfolding nodes
nodes_some (act i) = omega arith
nodes_some (seq f) = omega arith
nodes_some (pll f) = omega arith
nodes_some (xor f) = omega arith

size_nodes : (f : Forest) → size f ≤ length (nodes_of_all f)
unfolding nodes size
size_nodes nil = omega arith
size_nodes (cons t f) = omega (arith, size_nodes f, nodes_some t, length-append (nodes t) (nodes_of_all f))

group_fits : (f : Forest) (n : ℕ) → (full_all f ≡ true → every (is_node n) (nodes_of_all f) ≡ true)
    → plural f && full_all f ≡ true → length (nodes_of_all f) ≤ most_children
    → is_child_count (size f) && every (is_node n) (nodes_of_all f) ≡ true
group_fits f n below e l =
    let (s, a) = (and-eq-true_iff (plural f) (full_all f)).0 e in
    both (both s (le-leb (size f) most_children (omega (arith, size_nodes f)))) (below a)

mutual
  unfolding nodes full activities member

  pub nodes_fit : (t : Term) (n : ℕ) → full t ≡ true → Below n (activities t) → length (nodes t) ≤ most_nodes
      → every (is_node n) (nodes t) ≡ true
  nodes_fit (act i) n e b l = both (lt-ltb i n (b i (or_left (eqb i i) false (eq-eqb i i refl)))) refl
  nodes_fit (seq f) n e b l = group_fits f n (λ a. nodes_of_all_fit f n a b (omega arith)) e (omega arith)
  nodes_fit (pll f) n e b l = group_fits f n (λ a. nodes_of_all_fit f n a b (omega arith)) e (omega arith)
  nodes_fit (xor f) n e b l = group_fits f n (λ a. nodes_of_all_fit f n a b (omega arith)) e (omega arith)

  nodes_of_all_fit : (f : Forest) (n : ℕ) → full_all f ≡ true → Below n (activities_of_all f)
      → length (nodes_of_all f) ≤ most_nodes → every (is_node n) (nodes_of_all f) ≡ true
  nodes_of_all_fit nil n e b l = refl
  nodes_of_all_fit (cons t f) n e b l =
      let (p, q) = (and-eq-true_iff (full t) (full_all f)).0 e in
      let m = length-append (nodes t) (nodes_of_all f) in
      every_append (is_node n) (nodes t) (nodes_of_all f)
      ∙ both
      (nodes_fit t n p (λ i k. b i (member_left i (activities t) (activities_of_all f) k)) (omega arith))
      (nodes_of_all_fit f n q (λ i k. b i (member_right i (activities t) (activities_of_all f) k)) (omega arith))
