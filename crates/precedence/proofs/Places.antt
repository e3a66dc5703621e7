-- The two readers at a place of the nodes: what stands there, and what each way makes of it.
use Prim.Native.Nat.{ℕ, ◌+◌, ◌-◌, ◌<◌}
use mathlib.Core.Path.{◌≡◌, refl, sym, ap, ◌∙◌, subst}
use mathlib.Core.Bool.{Bool, true, ◌&&◌}
use mathlib.Core.List.{List, ◌∷◌, ◌++◌, append_assoc}
use mathlib.Core.Logic.{◌≢◌}
use native.Mathlib.Nat.{add-zero}
use native.Mathlib.Omega.{arith}
use lib.Bits.{bit_or}
use lib.Dec.{ltb}
use lib.ListN.{length, drop, get_or, length-append, length-drop}
use lib.Seq.{drop-drop, drop-append_seam}
use borrow.Author.Tests.{ltb-true}
use Rattle.std.proofs.lemmas.List.{drop_more}
use Rattle.base.specs.Lists.{every}
use Rattle.base.proofs.Bools.{and_left, and_right}
use Rattle.base.proofs.Every.{every_append}
use Rattle.plan.specs.Plan.{is_node}
use Rattle.plan.specs.declared.Node.{Node}
use Rattle.plan.specs.declared.Node.TheVariants.{Act}
use Rattle.term.specs.Term.{Term, Forest, act, nil, cons, size, nodes, nodes_of_all}
use Rattle.sets.specs.Sets.{most}
use Rattle.term.specs.Variants.{activities, activities_of_all}
use Rattle.variant.specs.Precedence.{precedes}
use Rattle.precedence.specs.declared.Walk.{Walk}
use Rattle.precedence.specs.Walk.{after_of, among, TermAt, ForestAt, Low, OrderJoined, OrderRead, OrderReadAll}
use Rattle.precedence.proofs.Nodes.{IsGroup, some_nodes, is_act, Opened, opened}
use Rattle.precedence.proofs.Joined.{joins_as, none, both, low_after}

module _ (ns : List Node) (at : ℕ) where
  -- ---- the reader of terms

  pub inside : (t : Term) (rest : List Node) → nodes t ++ rest ≡ drop at ns → at < length ns
  inside t rest e =
      let (x, xs, d) = some_nodes t in
      omega (arith, ap length e, length-append (nodes t) rest, length-drop at ns, ap length d)

  -- The node that stands at a place begins the term there.
  abbrev node : Node
  node = get_or ns at (Act 0)

  here : (t : Term) (rest : List Node) → nodes t ++ rest ≡ drop at ns → nodes t ++ rest ≡ node ∷ drop (at + 1) ns
  here t rest e = e ∙ drop_more ns at (Act 0) (inside t rest e)

  module _ {i k : ℕ} (is : node ≡ Act k) (s : i ≡ k) where
    leaf : (t : Term) (rest : List Node) → nodes t ++ rest ≡ drop at ns → t ≡ act i
    leaf t rest e =
        is_act t rest i (drop (at + 1) ns)
        (here t rest e ∙ ap (λ (x : Node). x ∷ drop (at + 1) ns) (is ∙ ap Act (sym s)))

    pub leaf_ranged : TermAt ns at → i < most
    unfolding nodes
    leaf_ranged h =
        ltb-true i most
        (and_left (ltb i most) true
        (ap (λ (t : Term). every (is_node most) (nodes t)) (sym (leaf h.term h.rest h.begins)) ∙ h.ranged))

    pub leaf_read : {before : ℕ} {preds found : List ℕ} {w : Walk}
        → OrderJoined (activities (act i)) (precedes (act i)) (at + 1) before preds found w
        → OrderRead ns at before preds found w
    unfolding nodes
    leaf_read {before} {preds} {found} {w} h =
        record {
          joins = λ t rest e.
              subst (λ (u : Term). OrderJoined (activities u) (precedes u) (at + length (nodes u)) before preds found w)
              (sym (leaf t rest e)) h;
        }

  module _ {k : ℕ} {in_sequence : Bool} (g : IsGroup node k in_sequence) where
    group : (t : Term) (rest : List Node) → nodes t ++ rest ≡ drop at ns
        → Opened t rest k in_sequence (drop (at + 1) ns)
    group t rest e =
        rw (← g.value, ← g.order) (opened t rest node (drop (at + 1) ns) g.group (here t rest e))

    pub group_begins : TermAt ns at → ForestAt ns (at + 1) k
    group_begins h =
        let o = group h.term h.rest h.begins in
        record {
          children = o.children;
          rest = h.rest;
          count = o.count;
          begins = o.begins;
          ranged = o.ranged h.ranged;
        }

    pub group_read : {before : ℕ} {preds found : List ℕ} {w : Walk}
        → OrderReadAll ns (at + 1) k before in_sequence preds found w → OrderRead ns at before preds found w
    group_read h =
        record {
          joins = λ t rest e.
              let o = group t rest e in
              joins_as o.acts o.order (omega (arith, o.long)) (h.joins o.children rest o.count o.begins);
        }

  -- ---- the reader of children

  no_children : (in_sequence : Bool) {before : ℕ} {preds : List ℕ} (f : Forest) → size f ≡ 0 → Low before preds
      → OrderJoined (activities_of_all f) (among in_sequence f) (at + length (nodes_of_all f)) before preds preds
      (record { next = at; set = 0 })
  unfolding nodes size
  no_children in_sequence nil s l =
      joins_as refl (λ i j. refl) (sym (add-zero at)) (none in_sequence at _ _ l)
  no_children in_sequence (cons t f) s l = absurd (omega arith)

  pub none_left : {in_sequence : Bool} {left before : ℕ} {preds : List ℕ} → left ≡ 0 → Low before preds
      → OrderReadAll ns at left before in_sequence preds preds (record { next = at; set = 0 })
  none_left {in_sequence} z l = record { joins = λ f rest s e. no_children in_sequence f (s ∙ z) l }

  -- Children that are left are a child and the others, which begin where its nodes end.
  record Split (f : Forest) (rest : List Node) (left : ℕ) : Type 0 where
    child : Term
    others : Forest
    whole : f ≡ cons child others
    count : size others ≡ left - 1
    begins : nodes child ++ (nodes_of_all others ++ rest) ≡ drop at ns
    goes_on_lem : nodes_of_all others ++ rest ≡ drop (at + length (nodes child)) ns

  split : (f : Forest) (rest : List Node) (left : ℕ) → left ≢ 0 → size f ≡ left
      → nodes_of_all f ++ rest ≡ drop at ns → Split f rest left
  unfolding nodes size
  split nil rest left z s e = absurd (z (sym s))
  split (cons t f) rest left z s e =
      let begins : nodes t ++ (nodes_of_all f ++ rest) ≡ drop at ns =
      sym (append_assoc (nodes t) (nodes_of_all f) rest) ∙ e in
      record {
        child = t;
        others = f;
        whole = refl;
        count = omega arith;
        begins = begins;
        goes_on_lem = sym (drop-append_seam (nodes t) (nodes_of_all f ++ rest)) ∙ ap (drop (length (nodes t))) begins
            ∙ drop-drop (length (nodes t)) at ns;
      }

  module _ (t : Term) (f g : Forest) (e : f ≡ cons t g) (h : every (is_node most) (nodes_of_all f) ≡ true) where
    ranged_both : every (is_node most) (nodes t) && every (is_node most) (nodes_of_all g) ≡ true
    unfolding nodes
    ranged_both =
        sym (every_append (is_node most) (nodes t) (nodes_of_all g))
        ∙ ap (λ (u : Forest). every (is_node most) (nodes_of_all u)) (sym e) ∙ h

    ranged_child : every (is_node most) (nodes t) ≡ true
    ranged_child = and_left _ _ ranged_both

    ranged_others : every (is_node most) (nodes_of_all g) ≡ true
    ranged_others = and_right _ _ ranged_both

  pub child_begins : {left : ℕ} → left ≢ 0 → ForestAt ns at left → TermAt ns at
  child_begins {left} z h =
      let parts : Split h.children h.rest left = split h.children h.rest left z h.count h.begins in
      record {
        inside = inside parts.child (nodes_of_all parts.others ++ h.rest) parts.begins;
        term = parts.child;
        rest = nodes_of_all parts.others ++ h.rest;
        begins = parts.begins;
        ranged = ranged_child parts.child h.children parts.others parts.whole h.ranged;
      }

  -- After a child the reader is further on, at the other children.
  pub others_begin : (in_sequence : Bool) {left before between : ℕ} {preds found : List ℕ} {first : Walk} → left ≢ 0
      → ForestAt ns at left → Low before preds
      → OrderRead ns at before preds found first → between ≡ after_of in_sequence before first.set
      → (at < length ns) × (at < first.next) × ForestAt ns first.next (left - 1) × Low between found
  others_begin in_sequence {left} {first = first} z h l p b =
      let parts : Split h.children h.rest left = split h.children h.rest left z h.count h.begins in
      let child = p.joins parts.child (nodes_of_all parts.others ++ h.rest) parts.begins in
      let (x, xs, d) = some_nodes parts.child in (
        (child_begins z h).inside,
        omega (arith, child.goes, ap length d),
        record {
          children = parts.others;
          rest = h.rest;
          count = parts.count;
          begins = parts.goes_on_lem ∙ ap (λ (n : ℕ). drop n ns) (sym child.goes);
          ranged = ranged_others parts.child h.children parts.others parts.whole h.ranged;
        },
        rw b (low_after in_sequence first l child),
      )

  pub children_read : {in_sequence : Bool} {left before between set : ℕ} {preds middle found : List ℕ}
      {first others : Walk} → left ≢ 0
      → OrderRead ns at before preds middle first → between ≡ after_of in_sequence before first.set
      → OrderReadAll ns first.next (left - 1) between in_sequence middle found others
      → set ≡ bit_or first.set others.set
      → OrderReadAll ns at left before in_sequence preds found (record { next = others.next; set = set })
  unfolding nodes
  children_read {in_sequence} {left} {first = first} {others} z p b q u =
      record {
        joins = λ f rest s e.
            let parts : Split f rest left = split f rest left z s e in
            let t : Term = parts.child in
            let g : Forest = parts.others in
            let child = p.joins t (nodes_of_all g ++ rest) parts.begins in
            let more =
            q.joins g rest parts.count (parts.goes_on_lem ∙ ap (λ (n : ℕ). drop n ns) (sym child.goes)) in
            let end : first.next + length (nodes_of_all g) ≡ at + length (nodes t ++ nodes_of_all g) =
            omega (arith, child.goes, length-append (nodes t) (nodes_of_all g)) in
            rw (parts.whole, u)
            (joins_as refl (λ i j. refl) end
            (both in_sequence t g (at + length (nodes t)) (first.next + length (nodes_of_all g)) _ _ _ _ first others child
            (rw b at more)));
      }
