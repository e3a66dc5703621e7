-- V of the term that a file's nodes are, by sums and products.
use Prim.Native.Nat.{ℕ}
use mathlib.Core.List.{List}
use mathlib.Core.Option.{Option, none, some, none-ne-some, some-injective}
use mathlib.Core.Path.{◌≡◌, refl, ◌∙◌}
use Rattle.plan.specs.Plan.{Plan}
use Rattle.format.specs.Parse.{parse, Result, holds, refuses}
use Rattle.term.specs.Term.{Term, term_of}
use Rattle.term.specs.Model.{count}
use Rattle.term.proofs.Counting.{variant_count_count}
use Rattle.campaigns.specs.Table.{HasVariants}

abbrev of_term : Option Term → Option ℕ
of_term none = none
of_term (some t) = some (count t)

abbrev of_result : Result → Option ℕ
of_result (holds p) = of_term (term_of p.nodes)
of_result (refuses r) = none

unfoldable pub variants_by : List ℕ → Option ℕ
variants_by s = of_result (parse s)

of_term_lem : (s : List ℕ) (n : ℕ) (p : Plan) → parse s ≡ holds p → (o : Option Term) → term_of p.nodes ≡ o
    → of_term o ≡ some n → HasVariants s n
of_term_lem s n p lines none whole e = absurd (none-ne-some n e)
of_term_lem s n p lines (some t) whole e =
    record {
      plan = p;
      lines = lines;
      term = t;
      whole = whole;
      count = variant_count_count t ∙ some-injective (count t) n e;
    }

of_result_lem : (s : List ℕ) (n : ℕ) (o : Result) → parse s ≡ o → of_result o ≡ some n → HasVariants s n
of_result_lem s n (holds p) lines e = of_term_lem s n p lines (term_of p.nodes) refl e
of_result_lem s n (refuses r) lines e = absurd (none-ne-some n e)

pub variants_are : (s : List ℕ) (n : ℕ) → variants_by s ≡ some n → HasVariants s n
unfolding variants_by
variants_are s n e = of_result_lem s n (parse s) refl e
