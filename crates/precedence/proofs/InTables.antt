-- A variant's nodes are those of its dissolved term, which has the variant's activities and order.
use Prim.Native.Nat.{ℕ}
use mathlib.Core.Bool.{true}
use mathlib.Core.List.{List}
use mathlib.Core.Path.{◌≡◌, ap, ◌∙◌}
use lib.ListN.{length}
use Rattle.plan.specs.Limits.{most_acts}
use Rattle.plan.specs.Plan.{plan_of, is_node}
use Rattle.plan.specs.declared.Node.{Node}
use Rattle.base.specs.Lists.{every}
use Rattle.format.proofs.Plans.{plan_sound}
use Rattle.format.proofs.Tests.{between_facts}
use Rattle.term.specs.Term.{Term, nodes}
use Rattle.term.specs.Variants.{member}
use Rattle.term.proofs.Reading.{term_of_nodes}
use Rattle.term_reader.proofs.Tables.{every_more}
use Rattle.variant.specs.Project.{variant_at}
use Rattle.variant.specs.Tables.{OrderOf}
use Rattle.variant.specs.Written.{dissolved, variant_plan}
use Rattle.variant.proofs.Dissolve.{dissolved_activities, dissolved_precedes}
use Rattle.variant.proofs.RoundTrip.{variant_plan_lem}
use Rattle.judge.specs.Campaign.{HoldsVariant}
use Rattle.judge.specs.declared.Campaign.{Campaign}
use Rattle.precedence.specs.Order.{OneTerm, Ordered}
use Rattle.variant.specs.declared.Variant.{Variant}
use Rattle.sets.specs.Sets.{most}

-- The order of the dissolved term is the variant's.
order_dissolved : (w : Term) (present : ℕ) (preds : List ℕ) → OrderOf (dissolved w) present preds
    → OrderOf w present preds
order_dissolved w present preds o =
    record {
      small = o.small;
      members = λ i. o.members i ∙ ap (member i) (dissolved_activities w);
      low = o.low;
      before = λ i j h. o.before i j h ∙ dissolved_precedes w i j;
    }

-- Each of the variant's nodes is in range among `most` activities.
nodes_most : (c : Campaign) (t : Term) (v : ℕ) → HoldsVariant c t v
    → every (is_node most) (nodes (dissolved (variant_at t v))) ≡ true
unfolding variant_plan
nodes_most c t v h =
    let p = plan_of c.tables in
    let w = variant_at t v in
    let valid = h.plan.valid in
    let few = (between_facts 1 most_acts (length p.activities) (plan_sound p valid.ranges).acts).1 in
    let whole = variant_plan_lem p t v (record { valid = valid; below = h.below }) in
    every_more (length p.activities) most few (nodes (dissolved w)) (plan_sound (variant_plan p w) whole).nodes

module _ (t : Term) (v : ℕ) {ns : List Node} (writes : ns ≡ nodes (dissolved (variant_at t v))) where
  pub one_term : (c : Campaign) → HoldsVariant c t v → OneTerm ns
  one_term c h =
      rw writes
      (record {
        ranged = nodes_most c t v h;
        term = dissolved (variant_at t v);
        read = term_of_nodes (dissolved (variant_at t v));
      })

  pub held : (o : Variant) → Ordered ns o → OrderOf (variant_at t v) o.present o.preds
  held o given =
      let w = variant_at t v in
      order_dissolved w o.present o.preds (given (dissolved w) (rw writes (term_of_nodes (dissolved w))))
