-- The walk from the first node on, with nothing before it, where the nodes are one whole term.
use Prim.Native.Nat.{ℕ, zero, suc, ◌^◌, ◌<◌}
use mathlib.Core.Path.{◌≡◌, refl, sym, ap, ◌∙◌, subst}
use mathlib.Core.Bool.{Bool, ◌&&◌, ◌||◌, and-false}
use mathlib.Core.List.{List, [], ◌++◌, append-nil}
use mathlib.Core.Option.{some}
use lib.Dec.{lit<}
use lib.ListN.{get_or, replicate}
use Rattle.plan.specs.Plan.{is_node}
use Rattle.plan.specs.declared.Node.{Node}
use Rattle.base.specs.Lists.{every}
use Rattle.sets.specs.Sets.{most, has}
use Rattle.sets.proofs.Laws.{has_none}
use Rattle.term.specs.Term.{Term, nodes, term_of}
use Rattle.term.specs.Variants.{activities, member}
use Rattle.term.proofs.Reading.{nodes_term_of}
use Rattle.variant.specs.Precedence.{precedes}
use Rattle.variant.specs.Tables.{OrderOf}
use Rattle.precedence.specs.declared.Walk.{Walk}
use Rattle.precedence.specs.Order.{OneTerm}
use Rattle.precedence.specs.Walk.{TermAt, Low, OrderRead}
use Rattle.precedence.proofs.Places.{inside}

none_yet : (n j : ℕ) → ◌≡◌ {A = ℕ} (get_or (replicate n 0) j 0) 0
none_yet zero j = refl
none_yet (suc n) zero = refl
none_yet (suc n) (suc j) = none_yet n j

pub low_at_first : Low 0 (replicate most 0)
low_at_first =
    record {
      outer = lit< tt;
      long = refl;
      each = λ j. subst (λ (x : ℕ). x < 2 ^ most) (sym (none_yet most j)) (lit< tt);
    }

pub begins : (ns : List Node) → OneTerm ns → TermAt ns 0
begins ns h =
    let written = nodes_term_of ns h.term h.read in
    let all : nodes h.term ++ [] ≡ ns = append-nil (nodes h.term) ∙ written in
    record {
      inside = inside ns 0 h.term [] all;
      term = h.term;
      rest = [];
      begins = all;
      ranged = ap (every (is_node most)) written ∙ h.ranged;
    }

pub found : (ns : List Node) (preds : List ℕ) (w : Walk) → OrderRead ns 0 0 (replicate most 0) preds w → (t : Term)
    → term_of ns ≡ some t → OrderOf t w.set preds
found ns preds w h t e =
    let joins = h.joins t [] (append-nil (nodes t) ∙ nodes_term_of ns t e) in
    record {
      small = joins.small;
      members = joins.members;
      low = λ j l. joins.low j;
      before = λ i j l.
          joins.preceded i j
          ∙ ap (λ (x : ℕ). has x i || member j (activities t) && has 0 i || precedes t i j) (none_yet most j)
          ∙ ap (λ (x : Bool). x || member j (activities t) && x || precedes t i j) (has_none i)
          ∙ ap (λ (x : Bool). x || precedes t i j) (and-false (member j (activities t)));
    }
