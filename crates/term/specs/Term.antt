-- The activity terms of document 000, Definition 1, and the nodes that write a term down in prefix order.
use Rattle.std.specs.Prelude.{ℕ, zero, suc, Bool, true, false, ◌&&◌, List, [], ◌∷◌, ◌++◌, leb}
use Rattle.std.proofs.Math.Option.{Option, none, some}
use Rattle.plan.specs.Limits.{fewest_children}
use Rattle.plan.specs.declared.Node.{Node}
use Rattle.plan.specs.declared.Node.TheVariants.{Act, Seq, Pll, Xor}

mutual
  pub data Term : Type 0 where
    act : ℕ → Term
    seq pll xor : Forest → Term

  -- The children of a group, in order.
  pub data Forest : Type 0 where
    nil : Forest
    cons : Term → Forest → Forest

unfoldable pub size : Forest → ℕ
size nil = 0
size (cons t f) = suc (size f)

-- Every group has two children or more.
abbrev pub plural : Forest → Bool
plural f = leb fewest_children (size f)

unfoldable mutual
  pub full : Term → Bool
  full (act i) = true
  full (seq f) = plural f && full_all f
  full (pll f) = plural f && full_all f
  full (xor f) = plural f && full_all f

  pub full_all : Forest → Bool
  full_all nil = true
  full_all (cons t f) = full t && full_all f

-- The nodes of a term: a group's node says how many children follow.
unfoldable mutual
  pub nodes : Term → List Node
  nodes (act i) = Act i ∷ []
  nodes (seq f) = Seq (size f) ∷ nodes_of_all f
  nodes (pll f) = Pll (size f) ∷ nodes_of_all f
  nodes (xor f) = Xor (size f) ∷ nodes_of_all f

  pub nodes_of_all : Forest → List Node
  nodes_of_all nil = []
  nodes_of_all (cons t f) = nodes t ++ nodes_of_all f

-- The terms that a list of nodes makes, from its end: a group takes its children off the terms behind it.
unfoldable pub firsts : ℕ → Forest → Forest
firsts zero f = nil
firsts (suc k) nil = nil
firsts (suc k) (cons t f) = cons t (firsts k f)

unfoldable pub others : ℕ → Forest → Forest
others zero f = f
others (suc k) nil = nil
others (suc k) (cons t f) = others k f

abbrev pub group : (Forest → Term) → ℕ → Forest → Option Forest
group make k f = elim (leb k (size f)) [ true ↦ some (cons (make (firsts k f)) (others k f)) | false ↦ none ]

unfoldable pub place : Node → Forest → Option Forest
place (Act i) f = some (cons (act i) f)
place (Seq k) f = group seq k f
place (Pll k) f = group pll k f
place (Xor k) f = group xor k f

unfoldable pub forest : List Node → Option Forest
forest [] = some nil
forest (n ∷ ns) = elim (forest ns) [ none ↦ none | some f ↦ place n f ]

-- The one whole term that the nodes are, if they are one.
abbrev pub single : Option Forest → Option Term
single none = none
single (some nil) = none
single (some (cons t nil)) = some t
single (some (cons t (cons u f))) = none

unfoldable pub term_of : List Node → Option Term
term_of ns = single (forest ns)
