-- The order of a term: its activities as a set, and for each activity the set of those that precede it.
use Rattle.std.specs.Prelude.{◌≡◌, true, List}
use Rattle.std.proofs.Math.Option.{some}
use Rattle.plan.specs.Plan.{is_node}
use Rattle.plan.specs.declared.Node.{Node}
use Rattle.base.specs.Lists.{every}
use Rattle.sets.specs.Sets.{most}
use Rattle.term.specs.Term.{Term, term_of}
use Rattle.variant.specs.Tables.{OrderOf}
use Rattle.variant.specs.declared.Variant.{Variant}

-- Each node has its number in range, and they are one whole term.
pub record OneTerm (ns : List Node) : Type 0 where
  pub ranged : every (is_node most) ns ≡ true
  pub term : Term
  pub read : term_of ns ≡ some term

-- The order of the term that the nodes are.
abbrev pub Ordered : List Node → Variant → Type 0
Ordered ns r = (t : Term) → term_of ns ≡ some t → OrderOf t r.present r.preds
