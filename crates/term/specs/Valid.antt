-- A valid plan and its term: each value in its range, the nodes one whole term, no activity twice in a variant, and
-- not too many variants. A file is accepted exactly if it is the text of such a plan.
use Rattle.std.specs.Prelude.{ℕ, ◌≤◌, ◌<◌, true, false, ◌≡◌}
use Rattle.std.proofs.Math.Option.{some}
use Rattle.plan.specs.Limits.{most_variants}
use Rattle.plan.specs.Plan.{Plan, is_plan}
use Rattle.term.specs.Term.{Term, term_of}
use Rattle.term.specs.Variants.{variant_count, twice}

pub record Valid (p : Plan) (t : Term) : Type 0 where
  pub ranges : is_plan p ≡ true
  pub term : term_of p.nodes ≡ some t
  pub once : twice t ≡ false
  pub few : variant_count t ≤ most_variants

-- Variant v of it.
pub record HasVariant (p : Plan) (t : Term) (v : ℕ) : Type 0 where
  pub valid : Valid p t
  pub below : v < variant_count t
