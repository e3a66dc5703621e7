-- What the two readers find. These definitions serve the contracts of private functions and their proofs alone; the
-- public contract speaks of `reading_of`.
use Rattle.std.specs.Prelude.{ℕ, ◌+◌, ◌^◌, ◌≡◌, Bool, true, false, ◌&&◌, ◌||◌, List, ◌++◌, length, drop, Option, Some, None}
use Rattle.std.specs.Int.Bits.{bit_or}
use Rattle.plan.specs.declared.Node.{Node}
use Rattle.sets.specs.Sets.{meet}
use Rattle.term.specs.Term.{Term, Forest, act, seq, pll, xor, nil, cons, size, nodes, nodes_of_all}
use Rattle.term.specs.Clash.{clash, clash_together, clash_apart}
use Rattle.term.specs.Model.{NoTerm, NoForest}
use Rattle.term_reader.specs.declared.Walk.{Walk}

-- A child joined to those after it: all of them done, or one of them.
abbrev pub joined_of : Bool → Walk → Walk → Walk
joined_of all first rest =
    record {
      next = rest.next;
      set = bit_or first.set rest.set;
      clash = first.clash || all && meet first.set rest.set || rest.clash;
    }

-- The activities of a term as a set.
unfoldable mutual
  pub mask : Term → ℕ
  mask (act i) = 2 ^ i
  mask (seq f) = mask_all f
  mask (pll f) = mask_all f
  mask (xor f) = mask_all f

  pub mask_all : Forest → ℕ
  mask_all nil = 0
  mask_all (cons t f) = bit_or (mask t) (mask_all f)

-- Has a variant of the children an activity twice, where all of them are done, or one of them?
abbrev pub clash_all : Bool → Forest → Bool
clash_all true f = clash_together f
clash_all false f = clash_apart f

-- A walk tells of a term, or of children, whose nodes begin at a place.
pub record WalkedTerm (ns : List Node) (at : ℕ) (w : Walk) : Type 0 where
  pub term : Term
  pub goes : w.next ≡ at + length (nodes term)
  pub begins : nodes term ++ drop w.next ns ≡ drop at ns
  pub members : w.set ≡ mask term
  pub clashes : w.clash ≡ clash term

pub record WalkedChildren (ns : List Node) (at left : ℕ) (all : Bool) (w : Walk) : Type 0 where
  pub children : Forest
  pub count : size children ≡ left
  pub goes : w.next ≡ at + length (nodes_of_all children)
  pub begins : nodes_of_all children ++ drop w.next ns ≡ drop at ns
  pub members : w.set ≡ mask_all children
  pub clashes : w.clash ≡ clash_all all children

-- What the readers return: a walk, or nothing where no term, or not so many, begins there.
abbrev pub TermRead : List Node → ℕ → Option Walk → Type 0
TermRead ns at None = NoTerm (drop at ns)
TermRead ns at (Some w) = WalkedTerm ns at w

abbrev pub ChildrenRead : List Node → ℕ → ℕ → Bool → Option Walk → Type 0
ChildrenRead ns at left all None = NoForest left (drop at ns)
ChildrenRead ns at left all (Some w) = WalkedChildren ns at left all w
