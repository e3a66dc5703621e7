-- A plan of the first edition: the load of a resource is the time of its activities, and spelt out in units it is the
-- same record in the second edition, valid with the same term.
use Prim.Native.Nat.{ℕ, zero, suc, ◌<◌}
use native.Mathlib.Omega.{arith}
use mathlib.Core.Bool.{Bool, true}
use mathlib.Core.List.{List, [], ◌∷◌, map}
use mathlib.Core.Path.{◌≡◌, refl, sym, ap, ap₂, ◌∙◌, subst}
use borrow.Author.Tests.{eq-eqb}
use lib.ListN.{length, replicate, length-replicate}
use Rattle.base.specs.Lists.{every}
use Rattle.base.proofs.Bools.{both, and_left, and_right}
use Rattle.base.proofs.Every.{every_then}
use Rattle.plan.specs.Limits.{says_units, is_capacity, is_unit_count, is_duration}
use Rattle.plan.specs.Plan.{Activity, Plan, one_unit, own_resource, are_units, is_activity, is_plan}
use Rattle.format.proofs.Plans.{Sound, plan_sound, sound_plan, units_own}
use Rattle.format.proofs.Tests.{between_facts, facts_between}
use Rattle.term.specs.Term.{Term}
use Rattle.term.specs.Valid.{Valid}
use Rattle.schedule.specs.Bounds.{load_of}
use Rattle.schedule.proofs.OneUnit.{load_durations}
use Rattle.variant.specs.Project.{project_of}
use Rattle.variant.specs.Words.{resource_of}
use Rattle.variant.specs.FirstEdition.{time_on, in_units}
use Rattle.variant.proofs.Instance.{bench}

-- One unit, as a count for each resource, is in the ranges of the second edition, and so is an activity that holds it.
zeros_ranged : (n : ℕ) → every (is_unit_count 2) (replicate n 0) ≡ true
zeros_ranged zero = refl
zeros_ranged (suc n) = zeros_ranged n

one_ranged : (n r : ℕ) → every (is_unit_count 2) (one_unit n r) ≡ true
one_ranged zero r = refl
one_ranged (suc n) zero = zeros_ranged n
one_ranged (suc n) (suc r) = one_ranged n r

one_length : (n r : ℕ) → length (one_unit n r) ≡ n
one_length zero r = refl
one_length (suc n) zero = ap suc (length-replicate n 0)
one_length (suc n) (suc r) = ap suc (one_length n r)

activity_ranged : (n : ℕ) (a : Activity) → is_activity 1 n a ≡ true → is_activity 2 n a ≡ true
activity_ranged n a e =
    both (and_left (is_duration a.duration) (are_units 1 n a.units) e)
    (subst (λ (us : List ℕ). are_units 2 n us ≡ true) (sym (units_own 1 n a e refl))
    (both (eq-eqb (length (one_unit n (own_resource a.units))) n (one_length n (own_resource a.units)))
    (one_ranged n (own_resource a.units))))

-- Capacities that are all 1, and a map that changes no element that passes.
all_one : (bs : List ℕ) → every (is_capacity 1) bs ≡ true → replicate (length bs) 1 ≡ bs
all_one [] e = refl
all_one (b ∷ bs) e =
    let one : 1 ≡ b = omega (arith, between_facts 1 1 b (and_left (is_capacity 1 b) (every (is_capacity 1) bs) e)) in
    ap₂ {C = List ℕ} ◌∷◌ one (all_one bs (and_right (is_capacity 1 b) (every (is_capacity 1) bs) e))

all_same {ℓ} : {A : Type ℓ} (f : A → Bool) (g : A → A) → ((x : A) → f x ≡ true → g x ≡ x) → (xs : List A)
    → every f xs ≡ true → map g xs ≡ xs
all_same f g h [] e = refl
all_same f g h (x ∷ xs) e =
    ap₂ ◌∷◌ (h x (and_left (f x) (every f xs) e)) (all_same f g h xs (and_right (f x) (every f xs) e))

-- The same record in the second edition.
abbrev pub second : Plan → Plan
second p =
    record { edition = 2; capacities = p.capacities; activities = p.activities; nodes = p.nodes }

module _ (p : Plan) (valid : is_plan p ≡ true) (first : p.edition ≡ 1) where
  pub load_time : (w : Term) (r : ℕ) → r < length p.capacities → load_of (project_of p w) r ≡ time_on p w r
  unfolding project_of time_on
  load_time w r l =
      load_durations (project_of p w) (resource_of p) (bench p w valid (ap says_units first)).one_unit_lem r l

  capacities_one : every (is_capacity 1) p.capacities ≡ true
  capacities_one = ap (λ (e : ℕ). every (is_capacity e) p.capacities) (sym first) ∙ (plan_sound p valid).capacities

  activities_one : every (is_activity 1 (length p.capacities)) p.activities ≡ true
  activities_one =
      ap (λ (e : ℕ). every (is_activity e (length p.capacities)) p.activities) (sym first)
      ∙ (plan_sound p valid).activities

  pub in_units_is : in_units p ≡ second p
  unfolding in_units
  in_units_is =
      ap₂ (λ (bs : List ℕ) (acts : List Activity).
      record { edition = 2; capacities = bs; activities = acts; nodes = p.nodes })
      (all_one p.capacities capacities_one)
      (all_same (is_activity 1 (length p.capacities)) _
      (λ a e.
      ap (λ (us : List ℕ). record { duration = a.duration; units = us })
      (sym (units_own 1 (length p.capacities) a e refl)))
      p.activities activities_one)

  -- Its values are in the ranges of the second edition.
  second_plan : is_plan (second p) ≡ true
  second_plan =
      let sound : Sound p = plan_sound p valid in
      sound_plan (second p) (record {
        edition = refl;
        resources = sound.resources;
        capacities =
            every_then (is_capacity 1) (is_capacity 2)
            (λ b e. facts_between 1 15 b (between_facts 1 1 b e).0 (omega (arith, between_facts 1 1 b e)))
            p.capacities capacities_one;
        acts = sound.acts;
        activities =
            every_then (is_activity 1 (length p.capacities)) (is_activity 2 (length p.capacities))
            (activity_ranged (length p.capacities)) p.activities activities_one;
        within = sound.within;
        node_count = sound.node_count;
        nodes = sound.nodes;
      })

pub in_units_valid : (p : Plan) (t : Term) → Valid p t → p.edition ≡ 1 → Valid (in_units p) t
in_units_valid p t v first =
    subst (λ (q : Plan). Valid q t) (sym (in_units_is p v.ranges first))
    (record { ranges = second_plan p v.ranges first; term = v.term; once = v.once; few = v.few })
