-- The refusals of a text that holds no plan are those of its length and its lines: none has a number from 4 to 9.
use Prim.Native.Nat.{ℕ, zero, suc, ◌+◌}
use mathlib.Core.Bool.{Bool, true, false, ◌||◌}
use mathlib.Core.List.{List, [], ◌∷◌}
use mathlib.Core.Option.{Option, none, some}
use mathlib.Core.Path.{◌≡◌, refl, sym, ap, ◌∙◌}
use native.Mathlib.Omega.{arith}
use lib.Dec.{eqb, ltb}
use lib.ListN.{length, replicate}
use Rattle.plan.specs.Limits.{between, longest, says_units, is_edition, is_resource_count, is_capacity, is_act_count}
use Rattle.plan.specs.Limits.{is_node_count, edition_form, resources_form, capacity_form, acts_form, act_form, nodes_form}
use Rattle.plan.specs.Limits.{node_form}
use Rattle.plan.specs.Plan.{Plan, activity_of, is_activity, is_within}
use Rattle.plan.specs.Refusals.{number_of}
use Rattle.plan.specs.declared.Refusal.{Refusal}
use Rattle.plan.specs.declared.Refusal.TheVariants.{Form, Range, GroupOfOne, OverCapacity, Length}
use Rattle.format.specs.Lines.{Fields, matched}
use Rattle.format.specs.Parse.{LinesRead, read, stop, Reader, ◌>>=◌, return, a_line, tested, the_lines, the_end}
use Rattle.format.specs.Parse.{number, a_count, the_capacities, an_activity, node_from, is_ranged, is_plural, a_node}
use Rattle.format.specs.Parse.{plan_lines, Result, holds, refuses, parse}
use Rattle.format.proofs.Tests.{choose}
use Rattle.format.proofs.Readers.{onward, judged}

abbrev pub IsEarly : Refusal → Type 0
IsEarly r = between 4 9 (number_of r) ≡ false

-- A reader that stops by such refusals alone.
abbrev StopsEarly : {A : Type 0} → Reader A → Type 0
StopsEarly reader = (line : ℕ) (s : List ℕ) (r : Refusal) → reader line s ≡ stop r → IsEarly r

same_stop : {A : Type 0} {q r : Refusal} → ◌≡◌ {A = LinesRead A} (stop q) (stop r) → q ≡ r
same_stop e = cc

never : {A : Type 0} {a : A} {line : ℕ} {s : List ℕ} {r : Refusal} → read a line s ≡ stop r → ⊥
never e = let z : ◌≡◌ {A = ℕ} 0 1 = cc in omega arith

of_early : (q r : Refusal) → IsEarly q → q ≡ r → IsEarly r
of_early q r h e = ap (λ (x : Refusal). between 4 9 (number_of x)) (sym e) ∙ h

module _ {A : Type 0} where
  early_line : (form : List ℕ) (make : List ℕ → A) → StopsEarly (a_line form make)
  unfolding a_line
  early_line form make line s r e = go (matched form s) e
    where
      said : Option Fields → LinesRead A
      said o = elim o [ none ↦ stop (Form line) | some f ↦ read (make f.values) (line + 1) f.rest ]

      go : (o : Option Fields) → said o ≡ stop r → IsEarly r
      go none e = of_early (Form line) r refl (same_stop e)
      go (some f) e = absurd (never e)

  early_tested : (passes : A → Bool) (refusal : ℕ → Refusal) (reader : Reader A) → ((n : ℕ) → IsEarly (refusal n))
      → StopsEarly reader → StopsEarly (tested passes refusal reader)
  unfolding tested
  early_tested passes refusal reader own below line s r e = go (reader line s) refl e
    where
      test : (b : Bool) (a : A) (line' : ℕ) (s' : List ℕ) → choose b (read a line' s') (stop (refusal line)) ≡ stop r
          → IsEarly r
      test true a line' s' e = absurd (never e)
      test false a line' s' e = of_early (refusal line) r (own line) (same_stop e)

      go : (o : LinesRead A) → reader line s ≡ o → judged passes refusal line o ≡ stop r → IsEarly r
      go (read a line' s') h e = test (passes a) a line' s' e
      go (stop q) h e = below line s r (h ∙ e)

early_then : {A B : Type 0} (reader : Reader A) (next : A → Reader B) → StopsEarly reader
    → ((a : A) → StopsEarly (next a)) → StopsEarly (◌>>=◌ reader next)
early_then {A} reader next first rest line s r e = go (reader line s) refl e
  where
    go : (o : LinesRead A) → reader line s ≡ o → onward next o ≡ stop r → IsEarly r
    go (read a line' s') h e = rest a line' s' r e
    go (stop q) h e = of_early q r (first line s q h) (same_stop e)

early_return : {A : Type 0} (a : A) → StopsEarly (return a)
early_return a line s r e = absurd (never e)

early_lines : {A : Type 0} (n : ℕ) (reader : Reader A) → StopsEarly reader → StopsEarly (the_lines n reader)
unfolding the_lines
early_lines zero reader below = early_return []
early_lines (suc n) reader below =
    early_then reader (λ a. ◌>>=◌ (the_lines n reader) (λ rest. return (a ∷ rest))) below
    (λ a.
    early_then (the_lines n reader) (λ rest. return (a ∷ rest)) (early_lines n reader below)
    (λ rest. early_return (a ∷ rest)))

early_count : (form : List ℕ) (fits : ℕ → Bool) → StopsEarly (a_count form fits)
early_count form fits = early_tested fits Range (a_line form number) (λ n. refl) (early_line form number)

early_capacities : (edition resources : ℕ) → StopsEarly (the_capacities edition resources)
unfolding the_capacities
early_capacities edition resources = go (says_units edition)
  where
    go : (b : Bool)
        → StopsEarly (choose b (the_lines resources (a_count capacity_form (is_capacity edition)))
        (return (replicate resources 1)))
    go true = early_lines resources (a_count capacity_form (is_capacity edition)) (early_count capacity_form _)
    go false = early_return (replicate resources 1)

early_end : StopsEarly the_end
unfolding the_end
early_end line [] r e = absurd (never e)
early_end line (b ∷ s) r e = of_early (Form line) r refl (same_stop e)

early_activity : (edition : ℕ) (capacities : List ℕ) → StopsEarly (an_activity edition capacities)
early_activity edition capacities =
    let line = a_line (act_form edition (length capacities)) (activity_of edition (length capacities)) in
    let ranged = tested (is_activity edition (length capacities)) Range line in
    early_tested (λ a. is_within capacities a.units) OverCapacity ranged (λ n. refl)
    (early_tested (is_activity edition (length capacities)) Range line (λ n. refl)
    (early_line (act_form edition (length capacities)) (activity_of edition (length capacities))))

early_node : (acts : ℕ) → StopsEarly (a_node acts)
early_node acts =
    early_tested is_plural GroupOfOne (tested (is_ranged acts) Range (a_line node_form node_from)) (λ n. refl)
    (early_tested (is_ranged acts) Range (a_line node_form node_from) (λ n. refl) (early_line node_form node_from))

early_plan : StopsEarly plan_lines
unfolding plan_lines
early_plan =
    early_then _ _ (early_count edition_form is_edition) λ e.
    early_then _ _ (early_count resources_form is_resource_count) λ r.
    early_then _ _ (early_capacities e r) λ bs.
    early_then _ _ (early_count acts_form is_act_count) λ n.
    early_then _ _ (early_lines n (an_activity e bs) (early_activity e bs)) λ acts.
    early_then _ _ (early_count nodes_form is_node_count) λ m.
    early_then _ _ (early_lines m (a_node n) (early_node n)) λ nodes.
    early_then _ _ early_end λ u.
    early_return (record { edition = e; capacities = bs; activities = acts; nodes = nodes })

same_refuses : {q r : Refusal} → refuses q ≡ refuses r → q ≡ r
same_refuses e = cc

holds_no : {p : Plan} {r : Refusal} → holds p ≡ refuses r → ⊥
holds_no e = let z : ◌≡◌ {A = ℕ} 0 1 = cc in omega arith

pub parse_early : (s : List ℕ) (r : Refusal) → parse s ≡ refuses r → IsEarly r
unfolding parse
parse_early s r e = go (eqb (length s) 0 || ltb longest (length s)) e
  where
    lines : LinesRead Plan → Result
    lines o = elim o [ read p line rest ↦ holds p | stop r ↦ refuses r ]

    read_lines : (o : LinesRead Plan) → plan_lines 1 s ≡ o → lines o ≡ refuses r → IsEarly r
    read_lines (read p line rest) h e = absurd (holds_no e)
    read_lines (stop q) h e = of_early q r (early_plan 1 s q h) (same_refuses e)

    go : (b : Bool) → choose b (refuses Length) (lines (plan_lines 1 s)) ≡ refuses r → IsEarly r
    go true e = of_early Length r refl (same_refuses e)
    go false e = read_lines (plan_lines 1 s) refl e
