-- The lines of a plan file, each read exactly.
use Prim.Native.Nat.{ℕ, zero, suc, ◌≤◌}
use mathlib.Core.Bool.{Bool, true, false, ◌&&◌, cond, false≢true}
use mathlib.Core.List.{List, [], ◌∷◌, ◌++◌}
use mathlib.Core.Path.{◌≡◌, refl, sym, ap, ap₂, subst, ◌∙◌}
use native.Mathlib.Omega.{arith}
use lib.ListN.{length, get_or, replicate}
use Rattle.plan.specs.Limits.{most_resources, last_edition, says_units, most_units, most_acts, most_nodes, is_edition}
use Rattle.plan.specs.Limits.{is_resource_count, is_capacity, is_act_count, is_node_count, edition_form, resources_form}
use Rattle.plan.specs.Limits.{capacity_form, acts_form, act_form, nodes_form, node_form}
use Rattle.plan.specs.Plan.{Activity, act_values, activity_of, letter_of, value_of, is_letter, is_activity, is_within}
use Rattle.plan.specs.declared.Node.{Node}
use Rattle.plan.specs.Plan.{is_node}
use Rattle.plan.specs.declared.Refusal.TheVariants.{Range, GroupOfOne, OverCapacity}
use Rattle.plan.proofs.Nodes.{node_number}
use Rattle.base.specs.Lists.{every}
use Rattle.format.specs.Lines.{filled, slots}
use Rattle.format.specs.Text.{capacity_lines, act_lines, node_lines}
use Rattle.format.specs.Parse.{Reader, read, a_line, tested, the_lines, number, a_count, the_capacities, an_activity}
use Rattle.format.specs.Parse.{node_from, is_ranged, is_plural, a_node}
use Rattle.base.proofs.Bools.{by_bool, both, and_left, and_right, cond_true, cond_false, elim_true, elim_false}
use Rattle.format.proofs.Tests.{between_facts}
use Rattle.format.proofs.Plans.{ranged_most, node_same, letter_is, Letter, letter_cases, letter_same}
use Rattle.format.proofs.Plans.{node_ranged, node_plural, plural_node}
use Rattle.format.proofs.Forms.{is_form, fitting, fitting_count}
use Rattle.format.proofs.Readers.{Exact, line_exact, tested_exact, Count, Joined, lines_exact}
use Rattle.format.proofs.Units.{two_values, short, most_units_lem, act_formed, act_fits, act_same, act_back}

one_value : (vs : List ℕ) → length vs ≡ 1 → get_or vs 0 0 ∷ [] ≡ vs
one_value [] e = absurd (omega arith)
one_value (v ∷ []) e = refl
one_value (v ∷ w ∷ vs) e = absurd (omega arith)

abbrev pub Number : List ℕ → (ℕ → Bool) → Type 0
Number form ok = Exact (a_count form ok) (λ n. filled form (n ∷ [])) (λ n. ok n ≡ true)

number_line : (form : List ℕ) (ok : ℕ → Bool) → is_form form ≡ true → slots form ≡ 1
    → ((n : ℕ) → ok n ≡ true → fitting form (n ∷ []) ≡ true) → Number form ok
number_line form ok formed count fits =
    line_exact form number (λ n. n ∷ []) ok formed fits (λ n e. refl)
    (λ vs fit e. one_value vs (fitting_count form vs fit ∙ count))

pub edition_line : Number edition_form is_edition
unfolding fitting
edition_line =
    number_line edition_form is_edition refl refl
    (λ n e. both (short n (omega (arith, between_facts 1 last_edition n e))) refl)

pub resources_line : Number resources_form is_resource_count
unfolding fitting
resources_line =
    number_line resources_form is_resource_count refl refl
    (λ n e. both (short n (omega (arith, between_facts 1 most_resources n e))) refl)

pub acts_line : Number acts_form is_act_count
unfolding fitting
acts_line =
    number_line acts_form is_act_count refl refl
    (λ n e. both (short n (omega (arith, between_facts 1 most_acts n e))) refl)

pub nodes_line : Number nodes_form is_node_count
unfolding fitting
nodes_line =
    number_line nodes_form is_node_count refl refl
    (λ n e. both (short n (omega (arith, between_facts 1 most_nodes n e))) refl)

-- A capacity, an activity and a node.
abbrev pub capacity_line : ℕ → List ℕ
capacity_line b = filled capacity_form (b ∷ [])

abbrev pub act_line : ℕ → ℕ → Activity → List ℕ
act_line edition resources a = filled (act_form edition resources) (act_values edition a)

abbrev pub node_line : Node → List ℕ
node_line m = filled node_form (letter_of m ∷ value_of m ∷ [])

capacity_line_lem : (edition : ℕ) → Number capacity_form (is_capacity edition)
unfolding fitting
capacity_line_lem edition =
    number_line capacity_form (is_capacity edition) refl refl
    (λ n e. both (short n (omega (arith, between_facts 1 (most_units edition) n e, most_units_lem edition))) refl)

-- In range, and within the capacities.
abbrev pub is_held : ℕ → List ℕ → Activity → Bool
is_held edition capacities a = is_activity edition (length capacities) a && is_within capacities a.units

act_line_lem : (edition : ℕ) (capacities : List ℕ) → length capacities ≤ most_resources
    → Exact (an_activity edition capacities) (act_line edition (length capacities))
    (λ a. is_held edition capacities a ≡ true)
act_line_lem edition capacities h =
    let resources : ℕ = length capacities in
    let ranged : Activity → Bool = is_activity edition resources in
    tested_exact (λ a. is_within capacities a.units) OverCapacity
    (line_exact (act_form edition resources) (activity_of edition resources) (act_values edition) ranged
    (act_formed edition resources)
    (λ a e. act_fits edition resources a e h)
    (act_same edition resources)
    (act_back edition resources))
    (λ a e. (and_left (ranged a) (is_within capacities a.units) e, and_right (ranged a) _ e))
    (λ a e w. both e w)

letter_first : (vs : List ℕ) → fitting node_form vs ≡ true → is_letter (get_or vs 0 0) ≡ true
unfolding fitting
letter_first [] fit = absurd (false≢true fit)
letter_first (v ∷ vs) fit = and_left _ _ fit

ranged_line : (n : ℕ) → n ≤ most_acts
    → Exact (tested (is_ranged n) Range (a_line node_form node_from)) node_line (λ m. is_ranged n m ≡ true)
unfolding fitting
ranged_line n h =
    line_exact node_form node_from (λ m. letter_of m ∷ value_of m ∷ []) (is_ranged n) refl
    (λ m e. both (letter_is m) (both (short (value_of m) (omega (arith, ranged_most n m h e))) refl))
    (λ m e. node_same m)
    (λ vs fit e.
    let b : Letter (get_or vs 0 0) = letter_cases (get_or vs 0 0) (letter_first vs fit) in
    ap₂ (λ l v. l ∷ v ∷ []) (letter_same b (get_or vs 1 0)) (node_number (get_or vs 0 0) (get_or vs 1 0))
    ∙ two_values vs (fitting_count node_form vs fit))

pub node_line_lem : (n : ℕ) → n ≤ most_acts → Exact (a_node n) node_line (λ m. is_node n m ≡ true)
node_line_lem n h =
    tested_exact is_plural GroupOfOne (ranged_line n h) (λ m e. (node_ranged n m e, node_plural n m e)) (plural_node n)

pub act_joined : (edition resources : ℕ) → Joined (act_line edition resources) (act_lines edition resources)
unfolding act_lines
act_joined edition resources = record { nil = refl; cons = λ a rest. refl }

pub node_joined : Joined node_line node_lines
unfolding node_lines
node_joined = record { nil = refl; cons = λ m rest. refl }

-- The capacities: lines where the edition has them, else one unit each.
abbrev pub capacity_text : ℕ → List ℕ → List ℕ
capacity_text edition bs = cond (says_units edition) (capacity_lines bs) []

pub capacity_joined : (edition : ℕ) → says_units edition ≡ true → Joined capacity_line (capacity_text edition)
unfolding capacity_lines
capacity_joined edition says =
    record {
      nil = cond_true _ _ says;
      cons = λ b rest. cond_true _ _ says ∙ ap (λ t. capacity_line b ++ t) (sym (cond_true _ _ says));
    }

one_each : (edition n : ℕ) (bs : List ℕ) → says_units edition ≡ false → Count (is_capacity edition) n bs
    → bs ≡ replicate n 1
one_each edition zero [] says k = refl
one_each edition zero (b ∷ bs) says k = absurd (omega arith)
one_each edition (suc n) [] says k = absurd (omega arith)
one_each edition (suc n) (b ∷ bs) says k =
    let fits : is_capacity edition b ≡ true = and_left _ (every (is_capacity edition) bs) k.1 in
    let one : b ≡ 1 = omega (arith, between_facts 1 1 b (rw says at fits)) in
    ap₂ ◌∷◌ one (one_each edition n bs says (omega arith, and_right (is_capacity edition b) _ k.1))

each_one : (edition n : ℕ) → says_units edition ≡ false → Count (is_capacity edition) n (replicate n 1)
each_one edition zero says = (refl, refl)
each_one edition (suc n) says =
    let (count, all) = each_one edition n says in
    (ap suc count, both {a = is_capacity edition 1} (rw says) all)

module _ (edition n : ℕ) where
  abbrev Capacities : Type 0
  Capacities = Exact (the_capacities edition n) (capacity_text edition) (Count (is_capacity edition) n)

  capacities_read : says_units edition ≡ true → Capacities
  unfolding the_capacities
  capacities_read says =
      subst (λ reader. Exact reader (capacity_text edition) (Count (is_capacity edition) n))
      (sym (elim_true _ _ _ says))
      (lines_exact (is_capacity edition) (capacity_line_lem edition) (capacity_joined edition says) n)

  capacities_one : says_units edition ≡ false → Capacities
  unfolding the_capacities
  capacities_one says =
      let is : (line : ℕ) (s : List ℕ) → the_capacities edition n line s ≡ read (replicate n 1) line s =
      λ line s. ap (λ (reader : Reader (List ℕ)). reader line s) (elim_false _ _ _ says) in
      record {
        reads =
            λ bs line s k. (
              line,
              is line (capacity_text edition bs ++ s)
                  ∙ ap₂ (λ (xs : List ℕ) t. read xs line (t ++ s)) (sym (one_each edition n bs says k))
                  (cond_false _ _ says),
            );
        wrote =
            λ line s bs line' s' e.
            let same : read (replicate n 1) line s ≡ read bs line' s' = sym (is line s) ∙ e in
            let eb : replicate n 1 ≡ bs = cc in
            let es : s ≡ s' = cc in (
              subst (Count (is_capacity edition) n) eb (each_one edition n says),
              es ∙ ap (λ t. t ++ s') (sym (cond_false _ _ says)),
            );
      }

  pub capacity_lines_lem : Capacities
  capacity_lines_lem = by_bool (says_units edition) capacities_read capacities_one

-- The activities and the nodes, by their counts.
pub act_lines_lem : (edition : ℕ) (capacities : List ℕ) (n : ℕ) → length capacities ≤ most_resources
    → Exact (the_lines n (an_activity edition capacities)) (act_lines edition (length capacities))
    (Count (is_held edition capacities) n)
act_lines_lem edition capacities n h =
    lines_exact (is_held edition capacities) (act_line_lem edition capacities h) (act_joined edition (length capacities)) n

pub node_lines_lem : (n m : ℕ) → n ≤ most_acts
    → Exact (the_lines m (a_node n)) node_lines (Count (is_node n) m)
node_lines_lem n m h = lines_exact (is_node n) (node_line_lem n h) node_joined m
