-- Nodes: the first of a term, and the children behind it.
use Prim.Native.Nat.{ℕ, suc}
use mathlib.Core.Path.{◌≡◌, refl, sym, ap, ◌∙◌}
use mathlib.Core.Bool.{Bool, true, false}
use mathlib.Core.List.{List, [], ◌∷◌, ◌++◌, head-eq_of_cons-eq, tail-eq_of_cons-eq}
use mathlib.Core.Logic.{◌≢◌, ◌⊎◌, inl, inr}
use native.Mathlib.Omega.{arith}
use lib.ListN.{length}
use Rattle.base.specs.Lists.{every}
use Rattle.base.proofs.Bools.{and_right}
use Rattle.plan.specs.Plan.{letter_of, value_of, is_node}
use Rattle.plan.specs.declared.Node.{Node}
use Rattle.plan.specs.declared.Node.TheVariants.{Act, Seq, Pll, Xor}
use Rattle.term.specs.Term.{Term, Forest, act, seq, pll, xor, size, nodes, nodes_of_all}
use Rattle.sets.specs.Sets.{most}
use Rattle.term.specs.Variants.{activities, activities_of_all}
use Rattle.variant.specs.Precedence.{precedes}
use Rattle.precedence.specs.Walk.{among}

-- Is the node an s?
abbrev pub sequential : Node → Bool
sequential (Act i) = false
sequential (Seq k) = true
sequential (Pll k) = false
sequential (Xor k) = false

-- The node of a group of k children, in sequence or not.
pub record IsGroup (x : Node) (k : ℕ) (in_sequence : Bool) : Type 0 where
  pub group : letter_of x ≢ 97
  pub value : value_of x ≡ k
  pub order : sequential x ≡ in_sequence

pub seq_group : {x : Node} {k : ℕ} → x ≡ Seq k → IsGroup x k true
seq_group e = rw e (record { group = λ d. absurd (omega arith); value = refl; order = refl })

pub other_group : {x : Node} {k : ℕ} → (x ≡ Pll k) ⊎ (x ≡ Xor k) → IsGroup x k false
other_group (inl e) = rw e (record { group = λ d. absurd (omega arith); value = refl; order = refl })
other_group (inr e) = rw e (record { group = λ d. absurd (omega arith); value = refl; order = refl })

pub some_nodes : (t : Term) → (x : Node) × (xs : List Node) × (nodes t ≡ x ∷ xs)
unfolding nodes
some_nodes (act i) = (Act i, [], refl)
some_nodes (seq f) = (Seq (size f), nodes_of_all f, refl)
some_nodes (pll f) = (Pll (size f), nodes_of_all f, refl)
some_nodes (xor f) = (Xor (size f), nodes_of_all f, refl)

pub is_act : (t : Term) (rest : List Node) (i : ℕ) (xs : List Node) → nodes t ++ rest ≡ Act i ∷ xs
    → t ≡ act i
unfolding nodes
is_act (act k) rest i xs e = cc
is_act (seq f) rest i xs e = cc
is_act (pll f) rest i xs e = cc
is_act (xor f) rest i xs e = cc

-- A group is its node and the children behind it, which have its activities and its order.
pub record Opened (t : Term) (rest : List Node) (k : ℕ) (in_sequence : Bool) (xs : List Node) : Type 0 where
  pub children : Forest
  pub count : size children ≡ k
  pub begins : nodes_of_all children ++ rest ≡ xs
  pub ranged : every (is_node most) (nodes t) ≡ true → every (is_node most) (nodes_of_all children) ≡ true
  pub long : length (nodes t) ≡ suc (length (nodes_of_all children))
  pub acts : activities t ≡ activities_of_all children
  pub order : (i j : ℕ) → precedes t i j ≡ among in_sequence children i j

group_opened : (t : Term) (f : Forest) (y : Node) → nodes t ≡ y ∷ nodes_of_all f → size f ≡ value_of y
    → activities t ≡ activities_of_all f
    → ((i j : ℕ) → precedes t i j ≡ among (sequential y) f i j) → (rest : List Node) (x : Node) (xs : List Node)
    → nodes t ++ rest ≡ x ∷ xs → Opened t rest (value_of x) (sequential x) xs
group_opened t f y written count acts order rest x xs e =
    let same : y ∷ (nodes_of_all f ++ rest) ≡ x ∷ xs = ap (λ (l : List Node). l ++ rest) (sym written) ∙ e in
    let head : y ≡ x = head-eq_of_cons-eq same in
    record {
      children = f;
      count = count ∙ ap value_of head;
      begins = tail-eq_of_cons-eq same;
      ranged = λ h. and_right (is_node most y) _ (ap (every (is_node most)) (sym written) ∙ h);
      long = ap length written;
      acts = acts;
      order = λ i j. order i j ∙ ap (λ (z : Node). among (sequential z) f i j) head;
    }

pub opened : (t : Term) (rest : List Node) (x : Node) (xs : List Node) → letter_of x ≢ 97 → nodes t ++ rest ≡ x ∷ xs
    → Opened t rest (value_of x) (sequential x) xs
unfolding nodes activities precedes
opened (act i) rest x xs d e = absurd (d (ap letter_of (sym (head-eq_of_cons-eq e))))
opened (seq f) rest x xs d e = group_opened (seq f) f (Seq (size f)) refl refl refl (λ i j. refl) rest x xs e
opened (pll f) rest x xs d e = group_opened (pll f) f (Pll (size f)) refl refl refl (λ i j. refl) rest x xs e
opened (xor f) rest x xs d e = group_opened (xor f) f (Xor (size f)) refl refl refl (λ i j. refl) rest x xs e
