-- `is_plan` by its parts, the ranges of an activity and a node, and a node's letter and number.
use Prim.Native.Nat.{ℕ, ◌≤◌, ◌<◌}
use mathlib.Core.Bool.{Bool, true, false, not, ◌&&◌, ◌||◌, false≢true}
use mathlib.Core.Path.{◌≡◌, refl, sym, ap, ◌∙◌}
use native.Mathlib.Omega.{arith}
use borrow.Author.Tests.{ltb-true, eqb-true, ne_eqb}
use lib.Dec.{ltb, eqb}
use lib.ListN.{length}
use Rattle.plan.specs.Limits.{says_units, most_acts, longest_duration, fewest_children, most_children, is_edition}
use Rattle.plan.specs.Limits.{is_resource_count, is_capacity, is_unit_count, is_act_count, is_duration, is_node_count}
use Rattle.plan.specs.Limits.{is_child_count}
use Rattle.plan.specs.Plan.{Activity, Plan, one_unit, own_resource, letter_of, value_of}
use Rattle.plan.specs.declared.Node.{Node}
use Rattle.plan.specs.declared.Node.TheVariants.{Act, Seq, Pll, Xor}
use Rattle.plan.specs.Plan.{is_letter, node_of, are_units, is_activity, is_within, is_node, is_group_of_one, is_plan}
use Rattle.format.specs.Parse.{is_ranged, is_plural}
use Rattle.base.specs.Lists.{every, same_row}
use Rattle.base.proofs.Bools.{by_bool, both, and_left, and_right, cond_true, cond_false}
use Rattle.base.proofs.Lists.{same_row_lem}
use Rattle.format.proofs.Tests.{between_facts}

pub record Sound (p : Plan) : Type 0 where
  pub edition : is_edition p.edition ≡ true
  pub resources : is_resource_count (length p.capacities) ≡ true
  pub capacities : every (is_capacity p.edition) p.capacities ≡ true
  pub acts : is_act_count (length p.activities) ≡ true
  pub activities : every (is_activity p.edition (length p.capacities)) p.activities ≡ true
  pub within : every (λ a. is_within p.capacities a.units) p.activities ≡ true
  pub node_count : is_node_count (length p.nodes) ≡ true
  pub nodes : every (is_node (length p.activities)) p.nodes ≡ true

eight :
    (a b c d e f g h : Bool) → (a && b && c && d && e && f && g && h) ≡ true
    → (a ≡ true) × (b ≡ true) × (c ≡ true) × (d ≡ true) × (e ≡ true) × (f ≡ true) × (g ≡ true) × (h ≡ true)
eight true true true true true true true h t = (refl, refl, refl, refl, refl, refl, refl, t)
eight true true true true true true false h t = absurd (false≢true t)
eight true true true true true false g h t = absurd (false≢true t)
eight true true true true false f g h t = absurd (false≢true t)
eight true true true false e f g h t = absurd (false≢true t)
eight true true false d e f g h t = absurd (false≢true t)
eight true false c d e f g h t = absurd (false≢true t)
eight false b c d e f g h t = absurd (false≢true t)

module _ (p : Plan) where
  pub plan_sound : is_plan p ≡ true → Sound p
  plan_sound t =
      let (a, b, c, d, e, f, g, h) =
      eight
      (is_edition p.edition)
      (is_resource_count (length p.capacities))
      (every (is_capacity p.edition) p.capacities)
      (is_act_count (length p.activities))
      (every (is_activity p.edition (length p.capacities)) p.activities)
      (every (λ a. is_within p.capacities a.units) p.activities)
      (is_node_count (length p.nodes))
      (every (is_node (length p.activities)) p.nodes)
      t in
      record {
        edition = a;
        resources = b;
        capacities = c;
        acts = d;
        activities = e;
        within = f;
        node_count = g;
        nodes = h;
      }

  pub sound_plan : Sound p → is_plan p ≡ true
  sound_plan s =
      let capacities = both (both s.edition s.resources) s.capacities in
      let activities = both (both (both capacities s.acts) s.activities) s.within in
      both (both activities s.node_count) s.nodes

-- An activity in range: its duration, and its units by the plan's edition.
module _ (edition resources : ℕ) (a : Activity) (e : is_activity edition resources a ≡ true) where
  pub duration_between : (1 ≤ a.duration) × (a.duration ≤ longest_duration)
  duration_between =
      between_facts 1 longest_duration a.duration
      (and_left (is_duration a.duration) (are_units edition resources a.units) e)

  are_units_lem : are_units edition resources a.units ≡ true
  are_units_lem = and_right (is_duration a.duration) (are_units edition resources a.units) e

  module _ (says : says_units edition ≡ true) where
    counts : (eqb (length a.units) resources && every (is_unit_count edition) a.units) ≡ true
    counts = sym (cond_true _ _ says) ∙ are_units_lem

    pub units_count : length a.units ≡ resources
    units_count = eqb-true (length a.units) resources (and_left _ (every (is_unit_count edition) a.units) counts)

    pub units_ranged : every (is_unit_count edition) a.units ≡ true
    units_ranged = and_right (eqb (length a.units) resources) _ counts

  module _ (says : says_units edition ≡ false) where
    abbrev own : ℕ
    own = own_resource a.units

    one : (ltb own resources && same_row a.units (one_unit resources own)) ≡ true
    one = sym (cond_false _ _ says) ∙ are_units_lem

    pub own_below : own < resources
    own_below = ltb-true own resources (and_left _ (same_row a.units (one_unit resources own)) one)

    pub units_own : a.units ≡ one_unit resources own
    units_own = same_row_lem a.units (one_unit resources own) (and_right (ltb own resources) _ one)

pub number_most : (n : ℕ) (m : Node) → n ≤ most_acts → is_node n m ≡ true → value_of m ≤ most_children
number_most n (Act i) h e = omega (arith, ltb-true i n e)
number_most n (Seq k) h e = (between_facts fewest_children most_children k e).1
number_most n (Pll k) h e = (between_facts fewest_children most_children k e).1
number_most n (Xor k) h e = (between_facts fewest_children most_children k e).1

-- A node in range is no group of one, and what passes both tests of its line is in range.
one_child : (m : Node) → is_group_of_one m ≡ true → value_of m ≡ 1
one_child (Act i) e = absurd (false≢true e)
one_child (Seq k) e = eqb-true k 1 e
one_child (Pll k) e = eqb-true k 1 e
one_child (Xor k) e = eqb-true k 1 e

plural_count : (k : ℕ) → is_child_count k ≡ true → not (eqb k 1) ≡ true
plural_count k e = ap not (ne_eqb k 1 (λ one. omega (arith, between_facts fewest_children most_children k e)))

pub node_plural : (n : ℕ) (m : Node) → is_node n m ≡ true → is_plural m ≡ true
node_plural n (Act i) e = refl
node_plural n (Seq k) e = plural_count k e
node_plural n (Pll k) e = plural_count k e
node_plural n (Xor k) e = plural_count k e

pub node_ranged : (n : ℕ) (m : Node) → is_node n m ≡ true → is_ranged n m ≡ true
node_ranged n m e = ap (λ (b : Bool). b || is_group_of_one m) e

ranged_cases : {C : Type 0} (n : ℕ) (m : Node) → is_ranged n m ≡ true → (is_node n m ≡ true → C)
    → (is_group_of_one m ≡ true → C) → C
ranged_cases n m e node one =
    by_bool (is_node n m) node (λ f. one (sym (ap (λ (b : Bool). b || is_group_of_one m) f) ∙ e))

pub plural_node : (n : ℕ) (m : Node) → is_ranged n m ≡ true → is_plural m ≡ true → is_node n m ≡ true
plural_node n m e p =
    ranged_cases n m e (λ node. node) (λ one. absurd (false≢true (sym (ap not one) ∙ p)))

pub ranged_most : (n : ℕ) (m : Node) → n ≤ most_acts → is_ranged n m ≡ true → value_of m ≤ most_children
ranged_most n m h e = ranged_cases n m e (number_most n m h) (λ one. omega (arith, one_child m one))

-- A node is its letter and its number.
pub node_same : (n : Node) → node_of (letter_of n) (value_of n) ≡ n
node_same (Act i) = refl
node_same (Seq k) = refl
node_same (Pll k) = refl
node_same (Xor k) = refl

pub letter_is : (n : Node) → is_letter (letter_of n) ≡ true
letter_is (Act i) = refl
letter_is (Seq k) = refl
letter_is (Pll k) = refl
letter_is (Xor k) = refl

-- The four letters.
pub data Letter : ℕ → Type 0 where
  a : Letter 97
  s : Letter 115
  p : Letter 112
  x : Letter 120

pub letter_cases : (b : ℕ) → is_letter b ≡ true → Letter b
letter_cases b e =
    by_bool (eqb b 97) (λ q. rw (eqb-true b 97 q) a) λ q₁.
    by_bool (eqb b 115) (λ q. rw (eqb-true b 115 q) s) λ q₂.
    by_bool (eqb b 112) (λ q. rw (eqb-true b 112 q) p) λ q₃.
    rw (eqb-true b 120 (rw (q₁, q₂, q₃) at e)) x

pub letter_same : {b : ℕ} → Letter b → (v : ℕ) → letter_of (node_of b v) ≡ b
letter_same a v = refl
letter_same s v = refl
letter_same p v = refl
letter_same x v = refl
