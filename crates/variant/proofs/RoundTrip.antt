-- A variant of an accepted plan, written out, is an accepted plan again: its own only variant, with the same project,
-- so with the same schedules, and it writes the same bytes.
use Prim.Native.Nat.{ℕ, zero, suc, ◌≤◌, ◌<◌}
use mathlib.Core.Bool.{Bool, true, false}
use mathlib.Core.List.{List, [], ◌∷◌}
use mathlib.Core.Option.{some}
use mathlib.Core.Path.{◌≡◌, sym, ap, ◌∙◌, subst}
use native.Mathlib.Omega.{arith}
use lib.ListN.{length, get_or}
use Rattle.plan.specs.Limits.{most_nodes}
use Rattle.plan.specs.Plan.{Plan, is_node, is_plan}
use Rattle.base.specs.Lists.{every}
use Rattle.format.specs.Text.{text}
use Rattle.format.proofs.Plans.{Sound, plan_sound, sound_plan}
use Rattle.format.proofs.Tests.{between_facts, facts_between}
use Rattle.term.specs.Term.{Term, act, nodes, term_of, full}
use Rattle.term.specs.Variants.{variants, variant_count, activities, member, repeats, some_of, twice}
use Rattle.term.specs.Reduced.{xor_free}
use Rattle.term.specs.Valid.{HasVariant}
use Rattle.term.specs.Model.{count}
use Rattle.term.proofs.Counting.{variant_count_count}
use Rattle.term.proofs.Reading.{term_of_nodes, nodes_term_of, plan_full}
use Rattle.variant.specs.Project.{activity_at, units_at, variant_at, project_of}
use Rattle.variant.specs.Written.{dissolved, variant_plan, written}
use Rattle.variant.proofs.Members.{or_none}
use Rattle.variant.specs.Pick.{pick}
use Rattle.variant.proofs.Pick.{pick_is}
use Rattle.variant.proofs.Picked.{pick_activities, pick_nodes, pick_xor_free, pick_full}
use Rattle.variant.proofs.Dissolve.{dissolved_activities, dissolved_precedes, dissolved_nodes}
use Rattle.variant.proofs.Dissolve.{dissolved_xor_free, dissolved_full, dissolved_again, xor_free_variants}
use Rattle.variant.proofs.Dissolve.{xor_free_count, xor_free_only}
use Rattle.variant.proofs.Fit.{nodes_below, nodes_some, nodes_fit}

-- What holds of any term in the place of the variant: the project is the same, and so are the bytes written again.
pub same_project : (p : Plan) (w : Term) → project_of (variant_plan p w) (dissolved w) ≡ project_of p w
unfolding project_of variant_plan
same_project p w =
    λ k.
    record {
      size = length p.activities;
      present = λ i. member i (dissolved_activities w k);
      duration = λ i. (activity_at p i).duration;
      precedes = λ i j. dissolved_precedes w i j k;
      gap = λ i j. 0;
      resources = length p.capacities;
      capacity = λ r. get_or p.capacities r 0;
      units = units_at p;
      free = λ i. true;
      floor = 0;
      begun = λ i. 0;
    }

pub variant_plan_again : (p : Plan) (w : Term) → variant_plan (variant_plan p w) (dissolved w) ≡ variant_plan p w
unfolding variant_plan
variant_plan_again p w =
    λ k.
    record {
      edition = p.edition;
      capacities = p.capacities;
      activities = p.activities;
      nodes = nodes (dissolved_again w k);
    }

pub written_again : (p : Plan) (w : Term) → written (variant_plan p w) (dissolved w) ≡ written p w
unfolding written
written_again p w = ap text (variant_plan_again p w)

pub reads_dissolved : (p : Plan) (w : Term) → term_of (variant_plan p w).nodes ≡ some (dissolved w)
unfolding variant_plan
reads_dissolved p w = term_of_nodes (dissolved w)

-- A variant has no group of one if the term has none.
pub variant_full : (t : Term) (v : ℕ) → v < variant_count t → full t ≡ true → full (variant_at t v) ≡ true
variant_full t v below e =
    let counted : v < count t = omega (arith, variant_count_count t) in
    subst (λ w. full w ≡ true) (pick_is t v counted) (pick_full t v counted e)

-- A test that fails on every member fails on each.
none_of {ℓ} : {A : Type ℓ} (q : A → Bool) (xs : List A) (n : ℕ) (d : A) → some_of q xs ≡ false → n < length xs
    → q (get_or xs n d) ≡ false
unfolding some_of
none_of q [] n d e h = absurd (omega arith)
none_of q (x ∷ xs) zero d e h = (or_none (q x) (some_of q xs) e).0
none_of q (x ∷ xs) (suc n) d e h = none_of q xs n d (or_none (q x) (some_of q xs) e).1 (omega arith)

module _ (p : Plan) (t : Term) (v : ℕ) (c : HasVariant p t v) where
  counted : v < count t
  counted = omega (arith, c.below, variant_count_count t)

  sound : Sound p
  sound = plan_sound p c.valid.ranges

  -- What holds of the term that is picked holds of variant v.
  of_variant : (P : Term → Type 0) → P (pick t v) → P (variant_at t v)
  of_variant P = subst P (pick_is t v counted)

  pub variant_xor_free : xor_free (variant_at t v) ≡ true
  variant_xor_free = of_variant (λ w. xor_free w ≡ true) (pick_xor_free t v counted)

  pub variant_once : repeats (activities (variant_at t v)) ≡ false
  unfolding twice variant_count
  variant_once = none_of (λ w. repeats (activities w)) (variants t) v (act 0) c.valid.once c.below

  -- The activities of the variant are activities of the plan.
  pub variant_below : (i : ℕ) → member i (activities (variant_at t v)) ≡ true → i < length p.activities
  variant_below i m =
      let n = length p.activities in
      nodes_below t n (ap (every (is_node n)) (nodes_term_of p.nodes t c.valid.term) ∙ sound.nodes) i
      (of_variant (λ w. member i (activities w) ≡ true → member i (activities t) ≡ true)
      (pick_activities t v counted i) m)

  few_nodes : length (nodes (dissolved (variant_at t v))) ≤ most_nodes
  few_nodes =
      let most : length p.nodes ≤ most_nodes =
      (between_facts 1 most_nodes (length p.nodes) sound.node_count).1 in
      let fewer : length (nodes (variant_at t v)) ≤ length (nodes t) =
      of_variant (λ w. length (nodes w) ≤ length (nodes t)) (pick_nodes t v counted) in
      omega (arith, ap length (nodes_term_of p.nodes t c.valid.term), dissolved_nodes (variant_at t v))

  -- Written out, the variant is a plan again,
  pub variant_plan_lem : is_plan (variant_plan p (variant_at t v)) ≡ true
  unfolding variant_plan
  variant_plan_lem =
      let w = variant_at t v in
      let u = dissolved w in
      let full_term : full t ≡ true = plan_full p t c.valid.ranges c.valid.term in
      let below : (i : ℕ) → member i (activities u) ≡ true → i < length p.activities =
      λ i m. variant_below i (ap (member i) (sym (dissolved_activities w)) ∙ m) in
      sound_plan (variant_plan p w) (record {
        edition = sound.edition;
        resources = sound.resources;
        capacities = sound.capacities;
        acts = sound.acts;
        activities = sound.activities;
        within = sound.within;
        node_count = facts_between 1 most_nodes (length (nodes u)) (nodes_some u) few_nodes;
        nodes = nodes_fit u (length p.activities) (dissolved_full w (variant_full t v c.below full_term)) below
            few_nodes;
      })

  -- and it has one variant, with no activity twice: itself.
  dissolved_free : xor_free (dissolved (variant_at t v)) ≡ true
  dissolved_free = dissolved_xor_free (variant_at t v) ∙ variant_xor_free

  pub variant_once_again : twice (dissolved (variant_at t v)) ≡ false
  unfolding twice some_of
  variant_once_again =
      rw (
        xor_free_variants (dissolved (variant_at t v)) dissolved_free,
        dissolved_activities
            (variant_at t v),
        variant_once,
      )

  pub variant_count_lem : variant_count (dissolved (variant_at t v)) ≡ 1
  variant_count_lem = xor_free_count (dissolved (variant_at t v)) dissolved_free

  pub variant_only : variant_at (dissolved (variant_at t v)) 0 ≡ dissolved (variant_at t v)
  variant_only = xor_free_only (dissolved (variant_at t v)) dissolved_free
