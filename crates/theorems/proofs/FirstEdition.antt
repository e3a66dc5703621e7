-- A plan of the first edition: a component is the activities of one resource, and spelt out in units its plan is
-- answered alike by READ, CHECK, LIST and BEST.
use Prim.Native.Nat.{ℕ, ◌<◌}
use native.Mathlib.Omega.{arith}
use mathlib.Core.Bool.{Bool, true, false}
use mathlib.Core.List.{List}
use mathlib.Core.Logic.{◌↔◌}
use mathlib.Core.Path.{◌≡◌, refl, sym, ap, ◌∙◌}
use borrow.Author.Tests.{ltb-true, lt-ltb, eqb-true, eq-eqb}
use lib.Dec.{leb, ltb, eqb}
use lib.ListN.{length}
use Rattle.base.proofs.Bools.{by_bool, cond_true, cond_false}
use Rattle.plan.specs.Limits.{says_units}
use Rattle.plan.specs.Plan.{Plan, is_plan}
use Rattle.format.specs.Text.{text}
use Rattle.term.specs.Term.{Term}
use Rattle.term.specs.Valid.{Valid}
use Rattle.term.specs.Variants.{variant_count}
use Rattle.variant.specs.Project.{units_at, project_of}
use Rattle.variant.specs.Pairs.{is_new, pairs, pair_count}
use Rattle.variant.specs.Timetable.{is_session}
use Rattle.variant.specs.Words.{resource_of}
use Rattle.variant.specs.FirstEdition.{in_units}
use Rattle.variant.proofs.Instance.{own_at, own_units}
use Rattle.variant.proofs.FirstEdition.{second, in_units_is, in_units_valid}
use Rattle.scan.specs.Components.{component_of}
use Rattle.scan.proofs.Components.{component_joint, component_alone}
use Rattle.judge.specs.Judge.{Verdict, accepts, judge}
use Rattle.judge.proofs.Accepts.{accepted_valid, valid_accepted}
use Rattle.read.specs.Answer.{answer_to, read_of}
use Rattle.inspect.specs.Answer.{check_variant, check_by, check_of}
use Rattle.answers.specs.Listed.{cells_needed, list_within, list_by, list_of}
use Rattle.answers.specs.Shortest.{shortest_pairs, shortest_count, first_shortest, best_within, best_by, best_of}

-- An activity holds units of its own resource and of no other.
module _ (p : Plan) (valid : is_plan p ≡ true) (first : p.edition ≡ 1) where
  uses_own : (i : ℕ) → i < length p.activities → ltb 0 (units_at p i (resource_of p i)) ≡ true
  uses_own i b =
      let e = ap says_units first in
      lt-ltb 0 (units_at p i (resource_of p i))
      (omega (
        arith,
        own_units p valid e i (resource_of p i) b (own_at p valid e i b),
        cond_true {A = ℕ} 1 0 (eq-eqb (resource_of p i) (resource_of p i) refl),
      ))

  uses_alone : (i r : ℕ) → i < length p.activities → r < length p.capacities → ltb 0 (units_at p i r) ≡ true
      → resource_of p i ≡ r
  uses_alone i r b l u =
      by_bool (eqb (resource_of p i) r)
      (λ y. eqb-true (resource_of p i) r y)
      (λ z.
      absurd (omega (
        arith,
        ltb-true 0 (units_at p i r) u,
        own_units p valid (ap says_units first) i r b l,
        cond_false {A = ℕ} 1 0 z,
      )))

  pub component_resource : (w : Term) (i j : ℕ) → i < length p.activities → j < length p.activities
      → (component_of (project_of p w) i ≡ component_of (project_of p w) j) ↔ (resource_of p i ≡ resource_of p j)
  unfolding project_of
  component_resource w i j bi bj = (
    component_alone (project_of p w) (resource_of p) uses_alone (length p.capacities) i j (omega arith) bi bj,
    λ e.
        component_joint (project_of p w) (length p.capacities) i j (resource_of p i) bi bj
        (own_at p valid (ap says_units first) i bi) (uses_own i bi)
        (ap (λ (r : ℕ). ltb 0 (units_at p j r)) e ∙ uses_own j bj),
  )

-- The answers to an accepted plan ask nothing of its edition.
module _ (p : Plan) (t : Term) where
  same_check_lem : (below : Bool) (v : ℕ) (row : List ℕ)
      → check_variant below (second p) t v row ≡ check_variant below p t v row
  unfolding is_session project_of
  same_check_lem true v row = refl
  same_check_lem false v row = refl

  same_list_lem : (capped fits : Bool) (area : List ℕ)
      → list_within capped fits (second p) t area ≡ list_within capped fits p t area
  unfolding project_of is_new pairs pair_count
  same_list_lem false fits area = refl
  same_list_lem true false area = refl
  same_list_lem true true area = refl

  same_best_lem : (capped : Bool) → best_within capped (second p) t ≡ best_within capped p t
  unfolding project_of is_new pairs pair_count shortest_pairs shortest_count first_shortest
  same_best_lem true = refl
  same_best_lem false = refl

  list_second : (cap : ℕ) (area : List ℕ) → list_by (accepts (second p) t) cap area ≡ list_by (accepts p t) cap area
  unfolding project_of is_new pairs pair_count
  list_second cap area = same_list_lem (leb (pair_count p t) cap) (leb (cells_needed p t) (length area)) area

  best_second : (cap : ℕ) → best_by (accepts (second p) t) cap ≡ best_by (accepts p t) cap
  unfolding project_of is_new pairs pair_count
  best_second cap = same_best_lem (leb (pair_count p t) cap)

module _ (s : List ℕ) (p : Plan) (t : Term) (accepted : judge s ≡ accepts p t) (first : p.edition ≡ 1) where
  valid : Valid p t
  valid = (accepted_valid s p t accepted).0

  pub units_accepted : judge (text (in_units p)) ≡ accepts (in_units p) t
  units_accepted = valid_accepted (in_units p) t (in_units_valid p t valid first)

  -- What is the same of both verdicts.
  alike : {A : Type 0} (answer : Verdict → A) → answer (accepts (second p) t) ≡ answer (accepts p t)
      → answer (judge (text (in_units p))) ≡ answer (judge s)
  alike answer same =
      ap answer (units_accepted ∙ ap (λ (q : Plan). accepts q t) (in_units_is p valid.ranges first))
      ∙ same ∙ sym (ap answer accepted)

  pub units_read : read_of (text (in_units p)) ≡ read_of s
  unfolding read_of
  units_read = alike answer_to refl

  pub units_check : (v : ℕ) (timetable : List ℕ) → check_of (text (in_units p)) v timetable ≡ check_of s v timetable
  unfolding check_of
  units_check v row = alike (λ o. check_by o v row) (same_check_lem p t (ltb v (variant_count t)) v row)

  pub units_list : (cap : ℕ) (area : List ℕ) → list_of (text (in_units p)) cap area ≡ list_of s cap area
  unfolding list_of
  units_list cap area = alike (λ o. list_by o cap area) (list_second p t cap area)

  pub units_best : (cap : ℕ) → best_of (text (in_units p)) cap ≡ best_of s cap
  unfolding best_of
  units_best cap = alike (λ o. best_by o cap) (best_second p t cap)
