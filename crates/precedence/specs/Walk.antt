-- What the two readers find. These definitions serve the contracts of private functions and their proofs alone; the
-- contract of `ordered` speaks of `OrderOf`.
use Rattle.std.specs.Prelude.{ℕ, ◌+◌, ◌^◌, ◌<◌, ◌≡◌, Bool, true, false, ◌&&◌, ◌||◌, List, ◌++◌, length, drop, get_or}
use Rattle.std.specs.Int.Bits.{bit_or}
use Rattle.plan.specs.Plan.{is_node}
use Rattle.plan.specs.declared.Node.{Node}
use Rattle.base.specs.Lists.{every}
use Rattle.sets.specs.Sets.{most, has}
use Rattle.term.specs.Term.{Term, Forest, size, nodes, nodes_of_all}
use Rattle.term.specs.Variants.{activities, activities_of_all, member}
use Rattle.variant.specs.Precedence.{precedes, within_one, earlier}
use Rattle.precedence.specs.declared.Walk.{Walk}

-- A child stands before the children after it in an s alone.
abbrev pub after_of : Bool → ℕ → ℕ → ℕ
after_of true before child = bit_or before child
after_of false before child = before

-- The nodes from a place on begin with a term, or with that many children; its numbers are in range.
pub record TermAt (ns : List Node) (at : ℕ) : Type 0 where
  pub inside : at < length ns
  pub term : Term
  pub rest : List Node
  pub begins : nodes term ++ rest ≡ drop at ns
  pub ranged : every (is_node most) (nodes term) ≡ true

pub record ForestAt (ns : List Node) (at left : ℕ) : Type 0 where
  pub children : Forest
  pub rest : List Node
  pub count : size children ≡ left
  pub begins : nodes_of_all children ++ rest ≡ drop at ns
  pub ranged : every (is_node most) (nodes_of_all children) ≡ true

-- `most` sets of `most` activities, and one more.
pub record Low (before : ℕ) (preds : List ℕ) : Type 0 where
  pub outer : before < 2 ^ most
  pub long : length preds ≡ most
  pub each : (j : ℕ) → get_or preds j 0 < 2 ^ most

-- What a reader that was handed `before` returns, and makes of `preds`, for nodes with these activities and this order
-- among them: what stands before the whole comes before each of its activities.
pub record OrderJoined (acts : List ℕ) (order : ℕ → ℕ → Bool) (next before : ℕ) (preds found : List ℕ)
    (w : Walk) : Type 0 where
  pub goes : w.next ≡ next
  pub small : w.set < 2 ^ most
  pub members : (i : ℕ) → has w.set i ≡ member i acts
  pub long : length found ≡ length preds
  pub low : (j : ℕ) → get_or found j 0 < 2 ^ most
  pub preceded : (i j : ℕ)
      → has (get_or found j 0) i ≡ has (get_or preds j 0) i || member j acts && has before i || order i j

-- The order among children: in an s those of earlier children come first.
abbrev pub among : Bool → Forest → ℕ → ℕ → Bool
among in_sequence f i j = in_sequence && earlier f i j || within_one f i j

-- What they return, and make of `preds`, for the term, or for the children, that the nodes begin with.
pub record OrderRead (ns : List Node) (at before : ℕ) (preds found : List ℕ) (w : Walk) : Type 0 where
  pub joins : (t : Term) (rest : List Node) → nodes t ++ rest ≡ drop at ns
      → OrderJoined (activities t) (precedes t) (at + length (nodes t)) before preds found w

pub record OrderReadAll (ns : List Node) (at left before : ℕ) (in_sequence : Bool) (preds found : List ℕ)
    (w : Walk) : Type 0 where
  pub joins : (f : Forest) (rest : List Node) → size f ≡ left → nodes_of_all f ++ rest ≡ drop at ns
      → OrderJoined (activities_of_all f) (among in_sequence f) (at + length (nodes_of_all f)) before preds found w
