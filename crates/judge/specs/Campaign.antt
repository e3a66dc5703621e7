-- An accepted plan as the program holds it, and one of its variants.
use Rattle.std.specs.Prelude.{ℕ, ◌<◌, ◌≡◌}
use Rattle.plan.specs.Plan.{plan_of, Ranged}
use Rattle.term.specs.Term.{Term}
use Rattle.term.specs.Variants.{variant_count}
use Rattle.term.specs.Valid.{Valid}
use Rattle.pick.specs.Model.{Spanned}
use Rattle.judge.specs.declared.Campaign.{Campaign}

-- The tables hold a valid plan whose term is t, with the spans of its nodes and V.
pub record HoldsPlan (c : Campaign) (t : Term) : Type 0 where
  pub ranged : Ranged c.tables
  pub valid : Valid (plan_of c.tables) t
  pub counted : c.variants ≡ variant_count t
  pub spanned : Spanned (plan_of c.tables).nodes c.spans 0

-- It has a variant v.
pub record HoldsVariant (c : Campaign) (t : Term) (v : ℕ) : Type 0 where
  pub plan : HoldsPlan c t
  pub below : v < variant_count t
