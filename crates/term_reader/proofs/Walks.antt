-- Each way of the two readers, over lists of nodes.
use Prim.Native.Nat.{ℕ, zero, suc, ◌+◌, ◌-◌, ◌^◌, ◌≤◌, ◌<◌}
use mathlib.Core.Path.{◌≡◌, refl, sym, ap, ap₂, ◌∙◌, subst}
use mathlib.Core.Bool.{Bool, true, false, ◌&&◌, ◌||◌, or-false}
use mathlib.Core.List.{List, [], ◌∷◌, ◌++◌, append_assoc, append-nil}
use mathlib.Core.Option.{none, some}
use mathlib.Core.Logic.{◌≢◌, ◌⊎◌, inl, inr}
use native.Mathlib.Nat.{add-zero}
use native.Mathlib.Omega.{arith}
use lib.Bits.{bit_or}
use lib.Dec.{eqb}
use lib.ListN.{length, drop, get_or, length-append, length-drop, drop_of_length-le}
use borrow.Author.Tests.{eqb-true, eqb-false}
use Rattle.std.proofs.Common.{Option, Some, None}
use Rattle.std.proofs.lemmas.List.{drop_more}
use Rattle.std.specs.Bool.{then_some}
use Rattle.base.specs.Lists.{every}
use Rattle.base.proofs.Bools.{by_bool}
use Rattle.plan.specs.Plan.{is_node}
use Rattle.plan.specs.declared.Node.{Node}
use Rattle.plan.specs.declared.Node.TheVariants.{Act, Seq, Pll, Xor}
use Rattle.sets.specs.Sets.{most, meet}
use Rattle.term.specs.Term.{Term, Forest, act, seq, pll, xor, nil, cons, size, nodes, nodes_of_all, term_of}
use Rattle.term.specs.Clash.{clash, clash_together, clash_apart}
use Rattle.term.specs.Model.{NoTerm, NoForest, children_of}
use Rattle.term.proofs.Reading.{no_nodes, no_group, no_first, no_rest, none_at_all, none_with_more, term_of_nodes}
use Rattle.term.proofs.Reading.{full_term_of}
use Rattle.term.proofs.Twice.{twice_clash}
use Rattle.term_reader.specs.declared.Walk.{Walk}
use Rattle.term_reader.specs.Reading.{reading_of}
use Rattle.term_reader.specs.Walk.{joined_of, mask, mask_all, clash_all, WalkedTerm, WalkedChildren}
use Rattle.term_reader.specs.Walk.{TermRead, ChildrenRead}
use Rattle.term_reader.proofs.Masks.{meet_share}

module _ (ns : List Node) where
  -- ---- the reader of a term

  pub run_out : (at : ℕ) → length ns ≤ at → NoTerm (drop at ns)
  run_out at l t r h = no_nodes t r (h ∙ drop_of_length-le ns {i = at} l)

  -- The node that stands at a place.
  here : (at : ℕ) (n m : Node) → n ≡ m → at < length ns → n ≡ get_or ns at n → drop at ns ≡ m ∷ drop (at + 1) ns
  here at n m d l e = drop_more ns at n l ∙ ap (λ (x : Node). x ∷ drop (at + 1) ns) (sym e ∙ d)

  pub activity_read : (at : ℕ) {i m set : ℕ} {n : Node} → n ≡ Act i → m ≡ i → at < length ns → n ≡ get_or ns at n
      → set ≡ 2 ^ m → WalkedTerm ns at (record { next = at + 1; set = set; clash = false })
  unfolding nodes mask clash
  activity_read at {m = m} {n = n} d s l e h =
      record {
        term = act m;
        goes = refl;
        begins = sym (here at n (Act m) (d ∙ ap Act (sym s)) l e);
        members = h;
        clashes = refl;
      }

  -- A kind of group: its node, its term, and whether all of its children are done.
  record Kind (node : ℕ → Node) (make : Forest → Term) (all : Bool) : Type 0 where
    written : (f : Forest) → nodes (make f) ≡ node (size f) ∷ nodes_of_all f
    members : (f : Forest) → mask (make f) ≡ mask_all f
    clashes : (f : Forest) → clash (make f) ≡ clash_all all f
    wide : (k : ℕ) → children_of (node k) ≡ k

  -- A group is read once its children are.
  one_group : {node : ℕ → Node} {make : Forest → Term} {all : Bool} → Kind node make all → (at k : ℕ) (r : Option Walk)
      → drop at ns ≡ node k ∷ drop (at + 1) ns → ChildrenRead ns (at + 1) k all r → TermRead ns at r
  one_group {node} kind at k None e h =
      λ t r c. no_group (node k) (drop (at + 1) ns) (λ f q z. h f q (z ∙ kind.wide k)) t r (c ∙ e)
  one_group {node} {make} kind at k (Some w) e h =
      record {
        term = make h.children;
        goes = h.goes ∙ rw kind.written (omega arith);
        begins =
            ap (λ (l : List Node). l ++ drop w.next ns) (kind.written h.children)
            ∙ ap₂ (λ (n : ℕ) (l : List Node). node n ∷ l) h.count h.begins ∙ sym e;
        members = h.members ∙ sym (kind.members h.children);
        clashes = h.clashes ∙ sym (kind.clashes h.children);
      }

  seq_kind : Kind Seq seq true
  unfolding nodes mask clash
  seq_kind = record { written = λ f. refl; members = λ f. refl; clashes = λ f. refl; wide = λ k. refl }

  pll_kind : Kind Pll pll true
  unfolding nodes mask clash
  pll_kind = record { written = λ f. refl; members = λ f. refl; clashes = λ f. refl; wide = λ k. refl }

  xor_kind : Kind Xor xor false
  unfolding nodes mask clash
  xor_kind = record { written = λ f. refl; members = λ f. refl; clashes = λ f. refl; wide = λ k. refl }

  pub group_read : (at : ℕ) {k : ℕ} {n : Node} (r : Option Walk) → (n ≡ Seq k) ⊎ (n ≡ Pll k)
      → at < length ns → n ≡ get_or ns at n → ChildrenRead ns (at + 1) k true r → TermRead ns at r
  group_read at {k} {n} r (inl d) l e = one_group seq_kind at k r (here at n (Seq k) d l e)
  group_read at {k} {n} r (inr d) l e = one_group pll_kind at k r (here at n (Pll k) d l e)

  pub xor_read : (at : ℕ) {k : ℕ} {n : Node} (r : Option Walk) → n ≡ Xor k
      → at < length ns → n ≡ get_or ns at n → ChildrenRead ns (at + 1) k false r → TermRead ns at r
  xor_read at {k} {n} r d l e = one_group xor_kind at k r (here at n (Xor k) d l e)

  -- ---- the reader of children

  none_clash : (all : Bool) → false ≡ clash_all all nil
  unfolding clash
  none_clash true = refl
  none_clash false = refl

  pub none_left : {at left : ℕ} {all : Bool} → left ≡ 0
      → WalkedChildren ns at left all (record { next = at; set = 0; clash = false })
  unfolding nodes size mask
  none_left {at} {all = all} z =
      record {
        children = nil;
        count = sym z;
        goes = sym (add-zero at);
        begins = refl;
        members = refl;
        clashes = none_clash all;
      }

  pub no_child : (at left : ℕ) → left ≢ 0 → NoTerm (drop at ns) → NoForest left (drop at ns)
  no_child at zero z h = absurd (z refl)
  no_child at (suc left) z h = no_first left (drop at ns) h

  pub no_other : (at left : ℕ) {first : Walk} → left ≢ 0 → WalkedTerm ns at first
      → NoForest (left - 1) (drop first.next ns) → NoForest left (drop at ns)
  no_other at zero z h o = absurd (z refl)
  no_other at (suc left) {first} z h o =
      let less : suc left - 1 ≡ left = omega arith in
      subst (NoForest (suc left)) h.begins
      (no_rest left h.term (drop first.next ns) (subst (λ (k : ℕ). NoForest k (drop first.next ns)) less o))

  joined_clash : (all : Bool) (t : Term) (f : Forest)
      → clash t || all && meet (mask t) (mask_all f) || clash_all all f ≡ clash_all all (cons t f)
  unfolding clash
  joined_clash true t f = ap (λ (b : Bool). clash t || b || clash_together f) (meet_share t f)
  joined_clash false t f = ap (λ (b : Bool). b || clash_apart f) (or-false (clash t))

  -- A child joined to the children after it is the children.
  pub child_joined : {at left : ℕ} {all : Bool} {first rest : Walk} → left ≢ 0 → WalkedTerm ns at first
      → WalkedChildren ns first.next (left - 1) all rest
      → WalkedChildren ns at left all (joined_of all first rest)
  unfolding nodes size mask
  child_joined {all = all} {first} {rest} z h o =
      record {
        children = cons h.term o.children;
        count = omega (arith, o.count);
        goes = omega (arith, h.goes, o.goes, length-append (nodes h.term) (nodes_of_all o.children));
        begins =
            append_assoc (nodes h.term) (nodes_of_all o.children) (drop rest.next ns)
            ∙ ap (λ (l : List Node). nodes h.term ++ l) o.begins ∙ h.begins;
        members = ap₂ bit_or h.members o.members;
        clashes = rw (h.members, o.members, h.clashes, o.clashes) (joined_clash all h.term o.children);
      }

  some_nodes : (t : Term) → 0 < length (nodes t)
  unfolding nodes
  some_nodes (act i) = omega arith
  some_nodes (seq f) = omega arith
  some_nodes (pll f) = omega arith
  some_nodes (xor f) = omega arith

  -- After a term fewer nodes are left.
  pub further : {at : ℕ} {w : Walk} → WalkedTerm ns at w → length ns - w.next < length ns - at
  further {at} {w} h =
      omega (
        arith,
        some_nodes h.term,
        length-append (nodes h.term) (drop w.next ns),
        ap length h.begins,
        length-drop at ns,
        length-drop w.next ns,
      )

  -- ---- the walk from the first node on

  with_rest : (t : Term) (rest : List Node) → nodes t ++ rest ≡ ns → length (nodes t) ≢ length ns → term_of ns ≡ none
  with_rest t [] e l = absurd (l (ap length (sym (append-nil (nodes t)) ∙ e)))
  with_rest t (x ∷ rest) e l = none_with_more ns t x rest e

  pub nothing : NoTerm ns → reading_of (term_of ns) ≡ None
  unfolding reading_of
  nothing h = ap reading_of (none_at_all ns h)

  pub found : (w : Walk) → every (is_node most) ns ≡ true → WalkedTerm ns 0 w
      → then_some (eqb w.next (length ns)) w.clash ≡ reading_of (term_of ns)
  unfolding reading_of
  found w r h =
      by_bool (eqb w.next (length ns))
      (λ e.
      let last : w.next ≡ length ns = eqb-true w.next (length ns) e in
      let end : drop w.next ns ≡ [] = drop_of_length-le ns {i = w.next} (omega arith) in
      let all : nodes h.term ≡ ns =
      sym (append-nil (nodes h.term)) ∙ ap (λ (x : List Node). nodes h.term ++ x) (sym end) ∙ h.begins in
      let read : term_of ns ≡ some h.term = ap term_of (sym all) ∙ term_of_nodes h.term in
      rw (e, read, h.clashes) (ap Some (sym (twice_clash h.term (full_term_of ns most h.term r read)))))
      (λ e.
      rw (e, with_rest h.term (drop w.next ns) h.begins (λ l. eqb-false w.next (length ns) e (omega arith))))
