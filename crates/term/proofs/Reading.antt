-- How nodes are read as a term. A term is the only one that its nodes begin with, `term_of` finds exactly that term,
-- and groups whose counts are in range make a full term.
use Prim.Native.Nat.{ℕ, zero, suc, ◌≤◌}
use mathlib.Core.Bool.{Bool, true, false, ◌&&◌, not, and-eq-true_iff}
use mathlib.Core.List.{List, [], ◌∷◌, ◌++◌, append_assoc, append-nil, head-eq_of_cons-eq, tail-eq_of_cons-eq}
use mathlib.Core.List.{cons≢nil}
use mathlib.Core.Option.{Option, none, some, none-ne-some, some-injective}
use mathlib.Core.Path.{◌≡◌, refl, sym, ap, ap₂, ◌∙◌, subst}
use native.Mathlib.Omega.{arith}
use lib.Dec.{T, T_not, leb, eqb, eqb_refl}
use lib.ListN.{length}
use borrow.Author.Tests.{leb-true, le-leb}
use Rattle.plan.specs.Limits.{most_children, is_edition, is_resource_count, is_capacity, is_act_count, is_node_count}
use Rattle.plan.specs.Limits.{is_child_count}
use Rattle.plan.specs.Plan.{Plan, letter_of, is_activity, is_within, is_node, is_plan}
use Rattle.plan.specs.declared.Node.{Node}
use Rattle.base.specs.Lists.{every}
use Rattle.plan.specs.declared.Node.TheVariants.{Act, Seq, Pll, Xor}
use Rattle.term.specs.Term.{Term, Forest, act, seq, pll, xor, nil, cons, size, nodes, nodes_of_all, firsts}
use Rattle.term.specs.Term.{others, group, place, forest, single, term_of, full, full_all, plural}
use Rattle.term.specs.Model.{NoTerm, NoForest, children_of}
use Rattle.base.proofs.Bools.{and_left, and_right}
use Rattle.base.proofs.Every.{every_append}

-- Nodes of two letters never begin one list.
unlike : {m n : Node} {xs ys : List Node} → m ∷ xs ≡ n ∷ ys → T (not (eqb (letter_of m) (letter_of n))) → ⊥
unlike {m} {n} e d =
    let h : letter_of m ≡ letter_of n = ap letter_of (head-eq_of_cons-eq e) in
    T_not (eqb (letter_of m) (letter_of n)) d (subst (λ (k : ℕ). T (eqb (letter_of m) k)) h (eqb_refl (letter_of m)))

mutual
  unfolding nodes size

  pub unique : (t u : Term) (r s : List Node) → nodes t ++ r ≡ nodes u ++ s → (t ≡ u) × (r ≡ s)
  unique (act i) (act j) r s e = (cc, cc)
  unique (act i) (seq g) r s e = absurd (unlike e tt)
  unique (act i) (pll g) r s e = absurd (unlike e tt)
  unique (act i) (xor g) r s e = absurd (unlike e tt)
  unique (seq f) (act j) r s e = absurd (unlike e tt)
  unique (seq f) (seq g) r s e = let (p, q) = unique_all f g r s (cc) (cc) in (ap seq p, q)
  unique (seq f) (pll g) r s e = absurd (unlike e tt)
  unique (seq f) (xor g) r s e = absurd (unlike e tt)
  unique (pll f) (act j) r s e = absurd (unlike e tt)
  unique (pll f) (seq g) r s e = absurd (unlike e tt)
  unique (pll f) (pll g) r s e = let (p, q) = unique_all f g r s (cc) (cc) in (ap pll p, q)
  unique (pll f) (xor g) r s e = absurd (unlike e tt)
  unique (xor f) (act j) r s e = absurd (unlike e tt)
  unique (xor f) (seq g) r s e = absurd (unlike e tt)
  unique (xor f) (pll g) r s e = absurd (unlike e tt)
  unique (xor f) (xor g) r s e = let (p, q) = unique_all f g r s (cc) (cc) in (ap xor p, q)

  pub unique_all : (f g : Forest) (r s : List Node) → size f ≡ size g → nodes_of_all f ++ r ≡ nodes_of_all g ++ s
      → (f ≡ g) × (r ≡ s)
  unique_all nil nil r s k e = (refl, e)
  unique_all nil (cons u g) r s k e = absurd (omega arith)
  unique_all (cons t f) nil r s k e = absurd (omega arith)
  unique_all (cons t f) (cons u g) r s k e =
      let (p, e') =
      unique t u (nodes_of_all f ++ r) (nodes_of_all g ++ s)
      (sym (append_assoc (nodes t) (nodes_of_all f) r) ∙ e ∙ append_assoc (nodes u) (nodes_of_all g) s) in
      let (q, d) = unique_all f g r s (omega arith) e' in
      (ap₂ cons p q, d)

-- One forest before another, and how a group takes the first one off again.
abbrev pub join : Forest → Forest → Forest
join nil g = g
join (cons t f) g = cons t (join f g)

size_join : (f g : Forest) → size f ≤ size (join f g)
unfolding size
size_join nil g = omega arith
size_join (cons t f) g = omega (arith, size_join f g)

firsts_join : (f g : Forest) → firsts (size f) (join f g) ≡ f
unfolding size firsts
firsts_join nil g = refl
firsts_join (cons t f) g = ap (cons t) (firsts_join f g)

others_join : (f g : Forest) → others (size f) (join f g) ≡ g
unfolding size others
others_join nil g = refl
others_join (cons t f) g = others_join f g

-- What a group's node makes, where there are terms enough behind it; and where it makes something, there are.
abbrev grouping : (Forest → Term) → ℕ → Forest → Bool → Option Forest
grouping make k f b = elim b [ true ↦ some (cons (make (firsts k f)) (others k f)) | false ↦ none ]

group_takes : (make : Forest → Term) (k : ℕ) (f : Forest) → k ≤ size f
    → group make k f ≡ some (cons (make (firsts k f)) (others k f))
group_takes make k f h = ap (grouping make k f) (le-leb k (size f) h)

group_took : (make : Forest → Term) (k : ℕ) (f g : Forest) → group make k f ≡ some g
    → (k ≤ size f) × (g ≡ cons (make (firsts k f)) (others k f))
group_took make k f g e = go (leb k (size f)) refl e
  where
    go : (b : Bool) → leb k (size f) ≡ b → grouping make k f b ≡ some g
        → (k ≤ size f) × (g ≡ cons (make (firsts k f)) (others k f))
    go true h e = (leb-true k (size f) h, cc)
    go false h e = absurd (none-ne-some g e)

grouped : (make : Forest → Term) (f g : Forest) → group make (size f) (join f g) ≡ some (cons (make f) g)
grouped make f g = group_takes make (size f) (join f g) (size_join f g) ∙ rw (firsts_join, others_join)

mutual
  unfolding nodes forest place

  pub forest_nodes : (t : Term) (ns : List Node) (g : Forest) → forest ns ≡ some g
      → forest (nodes t ++ ns) ≡ some (cons t g)
  forest_nodes (act i) ns g e = rw e
  forest_nodes (seq f) ns g e = rw (forest_all f ns g e) (grouped seq f g)
  forest_nodes (pll f) ns g e = rw (forest_all f ns g e) (grouped pll f g)
  forest_nodes (xor f) ns g e = rw (forest_all f ns g e) (grouped xor f g)

  pub forest_all : (f : Forest) (ns : List Node) (g : Forest) → forest ns ≡ some g
      → forest (nodes_of_all f ++ ns) ≡ some (join f g)
  forest_all nil ns g e = e
  forest_all (cons t f) ns g e =
      rw append_assoc (forest_nodes t (nodes_of_all f ++ ns) (join f g) (forest_all f ns g e))

-- What a group took is its nodes again.
taken : (k : ℕ) (f : Forest) → k ≤ size f
    → (size (firsts k f) ≡ k) × (nodes_of_all (firsts k f) ++ nodes_of_all (others k f) ≡ nodes_of_all f)
unfolding size firsts others nodes
taken zero f h = (refl, refl)
taken (suc k) nil h = absurd (omega arith)
taken (suc k) (cons t f) h =
    let (n, e) = taken k f (omega arith) in (
      ap suc n,
      append_assoc (nodes t) (nodes_of_all (firsts k f)) (nodes_of_all (others k f))
          ∙ ap (λ (l : List Node). nodes t ++ l) e,
    )

group_placed : (make : Forest → Term) (n : ℕ → Node) → ((f : Forest) → nodes (make f) ≡ n (size f) ∷ nodes_of_all f)
    → (k : ℕ) (f g : Forest) → group make k f ≡ some g → nodes_of_all g ≡ n k ∷ nodes_of_all f
unfolding nodes
group_placed make n written k f g e =
    let (h, g-is) = group_took make k f g e in
    let (s, ns-are) = taken k f h in
    ap nodes_of_all g-is ∙ rw (written, s) (ap (λ (l : List Node). n k ∷ l) ns-are)

placed : (n : Node) (f g : Forest) → place n f ≡ some g → nodes_of_all g ≡ n ∷ nodes_of_all f
unfolding place nodes
placed (Act i) f g e = ap nodes_of_all (some-injective g (cons (act i) f) (sym e))
placed (Seq k) f g e = group_placed seq Seq (λ h. refl) k f g e
placed (Pll k) f g e = group_placed pll Pll (λ h. refl) k f g e
placed (Xor k) f g e = group_placed xor Xor (λ h. refl) k f g e

pub nodes_forest : (ns : List Node) (f : Forest) → forest ns ≡ some f → nodes_of_all f ≡ ns
unfolding forest nodes
nodes_forest [] f e = ap nodes_of_all (some-injective f nil (sym e))
nodes_forest (n ∷ ns) f e = go (forest ns) (nodes_forest ns) e
  where
    go : (o : Option Forest) → ((g : Forest) → o ≡ some g → nodes_of_all g ≡ ns)
        → elim o [ none ↦ none | some g ↦ place n g ] ≡ some f → nodes_of_all f ≡ n ∷ ns
    go none below e = absurd (none-ne-some f e)
    go (some g) below e = placed n g f e ∙ ap (◌∷◌ n) (below g refl)

-- `term_of` reads a term's nodes as that term, and nothing else.
pub term_of_nodes : (t : Term) → term_of (nodes t) ≡ some t
unfolding term_of forest
term_of_nodes t = ap single (ap forest (sym (append-nil (nodes t))) ∙ forest_nodes t [] nil refl)

pub nodes_term_of : (ns : List Node) (t : Term) → term_of ns ≡ some t → nodes t ≡ ns
unfolding term_of nodes
nodes_term_of ns t e = sym (append-nil (nodes t)) ∙ nodes_forest ns (cons t nil) (go (forest ns) e)
  where
    go : (o : Option Forest) → single o ≡ some t → o ≡ some (cons t nil)
    go none e = absurd (none-ne-some t e)
    go (some nil) e = absurd (none-ne-some t e)
    go (some (cons u nil)) e = cc
    go (some (cons u (cons v f))) e = absurd (none-ne-some t e)

pub none_if : (ns : List Node) → ((t : Term) → nodes t ≡ ns → ⊥) → term_of ns ≡ none
none_if ns h = go (term_of ns) refl
  where
    go : (o : Option Term) → term_of ns ≡ o → term_of ns ≡ none
    go none e = e
    go (some t) e = absurd (h t (nodes_term_of ns t e))

pub none_at_all : (ns : List Node) → NoTerm ns → term_of ns ≡ none
none_at_all ns h = none_if ns (λ t e. h t [] (append-nil (nodes t) ∙ e))

-- a term, and then more
pub none_with_more : (ns : List Node) (t : Term) (x : Node) (r : List Node) → nodes t ++ (x ∷ r) ≡ ns
    → term_of ns ≡ none
none_with_more ns t x r h =
    none_if ns (λ u e. cons≢nil (unique t u (x ∷ r) [] (h ∙ sym e ∙ sym (append-nil (nodes u)))).1)

pub no_nodes : NoTerm []
unfolding nodes
no_nodes (act i) r e = cons≢nil e
no_nodes (seq f) r e = cons≢nil e
no_nodes (pll f) r e = cons≢nil e
no_nodes (xor f) r e = cons≢nil e

opened : (t : Term) (r : List Node) (n : Node) (ns : List Node) → nodes t ++ r ≡ n ∷ ns
    → (f : Forest) × (size f ≡ children_of n) × (nodes_of_all f ++ r ≡ ns)
unfolding nodes size
opened (act i) r n ns e = (nil, ap children_of (head-eq_of_cons-eq e), tail-eq_of_cons-eq e)
opened (seq f) r n ns e = (f, ap children_of (head-eq_of_cons-eq e), tail-eq_of_cons-eq e)
opened (pll f) r n ns e = (f, ap children_of (head-eq_of_cons-eq e), tail-eq_of_cons-eq e)
opened (xor f) r n ns e = (f, ap children_of (head-eq_of_cons-eq e), tail-eq_of_cons-eq e)

pub no_group : (n : Node) (ns : List Node) → NoForest (children_of n) ns → NoTerm (n ∷ ns)
no_group n ns h t r e = let (f, k, d) = opened t r n ns e in h f r k d

pub no_first : (k : ℕ) (ns : List Node) → NoTerm ns → NoForest (suc k) ns
unfolding nodes size
no_first k ns h nil r n e = omega arith
no_first k ns h (cons t f) r n e = h t (nodes_of_all f ++ r) (sym (append_assoc (nodes t) (nodes_of_all f) r) ∙ e)

pub no_rest : (k : ℕ) (t : Term) (ns : List Node) → NoForest k ns → NoForest (suc k) (nodes t ++ ns)
unfolding nodes size
no_rest k t ns h nil r n e = omega arith
no_rest k t ns h (cons u f) r n e =
    h f r (omega arith) (unique u t (nodes_of_all f ++ r) ns (sym (append_assoc (nodes u) (nodes_of_all f) r) ∙ e)).1

-- Where every group's node counts its children in range, the term is full.
and_map : (a b c d : Bool) → (a ≡ true → c ≡ true) → (b ≡ true → d ≡ true) → a && b ≡ true → c && d ≡ true
and_map a b c d f g e = let (p, q) = (and-eq-true_iff a b).0 e in (and-eq-true_iff c d).1 (f p, g q)

full_group : (f : Forest) (n : ℕ) → (every (is_node n) (nodes_of_all f) ≡ true → full_all f ≡ true)
    → is_child_count (size f) && every (is_node n) (nodes_of_all f) ≡ true → plural f && full_all f ≡ true
full_group f n below e =
    and_map (is_child_count (size f)) (every (is_node n) (nodes_of_all f)) (plural f) (full_all f)
    (and_left (plural f) (leb (size f) most_children)) below e

mutual
  unfolding nodes full

  pub full_nodes : (t : Term) (n : ℕ) → every (is_node n) (nodes t) ≡ true → full t ≡ true
  full_nodes (act i) n e = refl
  full_nodes (seq f) n e = full_group f n (λ h. full_all_lem f n h) e
  full_nodes (pll f) n e = full_group f n (λ h. full_all_lem f n h) e
  full_nodes (xor f) n e = full_group f n (λ h. full_all_lem f n h) e

  pub full_all_lem : (f : Forest) (n : ℕ) → every (is_node n) (nodes_of_all f) ≡ true → full_all f ≡ true
  full_all_lem nil n e = refl
  full_all_lem (cons t f) n e =
      and_map (every (is_node n) (nodes t)) (every (is_node n) (nodes_of_all f)) (full t) (full_all f)
      (λ h. full_nodes t n h) (λ h. full_all_lem f n h)
      (sym (every_append (is_node n) (nodes t) (nodes_of_all f)) ∙ e)

pub full_term_of : (ns : List Node) (n : ℕ) (t : Term) → every (is_node n) ns ≡ true → term_of ns ≡ some t
    → full t ≡ true
full_term_of ns n t h e = full_nodes t n (ap (every (is_node n)) (nodes_term_of ns t e) ∙ h)

-- In the term of a plan every group has two children or more.
pub plan_full : (p : Plan) (t : Term) → is_plan p ≡ true → term_of p.nodes ≡ some t → full t ≡ true
plan_full p t ranges =
    let others =
    is_edition p.edition && is_resource_count (length p.capacities)
    && every (is_capacity p.edition) p.capacities && is_act_count (length p.activities)
    && every (is_activity p.edition (length p.capacities)) p.activities
    && every (λ a. is_within p.capacities a.units) p.activities && is_node_count (length p.nodes) in
    let n = length p.activities in
    full_term_of p.nodes n t (and_right others (every (is_node n) p.nodes) ranges)
