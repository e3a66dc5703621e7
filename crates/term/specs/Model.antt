-- How the program goes over nodes and terms: V by sums and products, and nodes that begin with no term. It need not
-- be believed: V is proved to be `variant_count`.
use Rattle.std.specs.Prelude.{ℕ, ◌+◌, ◌*◌, List, ◌++◌, ◌≡◌}
use Rattle.plan.specs.declared.Node.{Node}
use Rattle.plan.specs.declared.Node.TheVariants.{Act, Seq, Pll, Xor}
use Rattle.term.specs.Term.{Term, Forest, act, seq, pll, xor, nil, cons, size, nodes, nodes_of_all}

unfoldable mutual
  pub count : Term → ℕ
  count (act i) = 1
  count (seq f) = product f
  count (pll f) = product f
  count (xor f) = total f

  pub product : Forest → ℕ
  product nil = 1
  product (cons t f) = count t * product f

  pub total : Forest → ℕ
  total nil = 0
  total (cons t f) = count t + total f

-- A node is followed by as many terms as it says.
abbrev pub children_of : Node → ℕ
children_of (Act i) = 0
children_of (Seq k) = k
children_of (Pll k) = k
children_of (Xor k) = k

-- What a reader from left to right finds. No term, or no forest of that size, begins the nodes:
abbrev pub NoTerm : List Node → Type 0
NoTerm ns = (t : Term) (r : List Node) → nodes t ++ r ≡ ns → ⊥

abbrev pub NoForest : ℕ → List Node → Type 0
NoForest k ns = (f : Forest) (r : List Node) → size f ≡ k → nodes_of_all f ++ r ≡ ns → ⊥
