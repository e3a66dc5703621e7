-- The text of a plan is no longer than its edition's limit: a line is longest where its values are greatest.
use Prim.Native.Nat.{ℕ, zero, suc, ◌+◌, ◌*◌, ◌/◌, ◌≤◌, suc-le-suc}
use mathlib.Core.Bool.{Bool, true, cond}
use mathlib.Core.List.{List, [], ◌∷◌}
use mathlib.Core.Path.{◌≡◌, refl, sym, subst}
use native.Mathlib.Nat.{suc-mul, mul-le-mul_right}
use native.Mathlib.Omega.{arith}
use borrow.Author.Tests.{leb-true}
use lib.ListN.{length, get_or, drop, length-append}
use Rattle.plan.specs.Limits.{bytes, between, longest_of, longest, last_edition, says_units, most_units, most_digits}
use Rattle.plan.specs.Limits.{most_resources, most_acts, longest_duration, most_nodes, most_children, is_capacity}
use Rattle.plan.specs.Limits.{is_unit_count, edition_form, resources_form, capacity_form, acts_form, counts_form, nodes_form}
use Rattle.plan.specs.Limits.{node_form}
use Rattle.plan.specs.Plan.{Activity, Plan, own_resource, letter_of, value_of, is_activity, is_node, is_plan}
use Rattle.plan.specs.declared.Node.{Node}
use Rattle.base.specs.Lists.{every}
use Rattle.format.specs.Lines.{numeral, filled}
use Rattle.format.specs.Text.{text}
use Rattle.base.proofs.Bools.{by_bool, and_left, and_right, cond_true}
use Rattle.format.proofs.Tests.{between_facts}
use Rattle.format.proofs.Laws.{Kind, value, letter, literal, kind, filled_value, filled_letter, filled_literal}
use Rattle.format.proofs.Values.{by_size, written_one, written_more, written_some}
use Rattle.format.proofs.Readers.{Joined}
use Rattle.format.proofs.Plans.{Sound, plan_sound, duration_between, units_ranged, own_below, number_most}
use Rattle.format.proofs.Units.{counts_end, most_units_lem}
use Rattle.format.proofs.PlanLines.{capacity_line, act_line, node_line, capacity_text, capacity_joined, act_joined}
use Rattle.format.proofs.PlanLines.{node_joined}

-- A greater number has no fewer digits.
pub written_longer : (k n m : ℕ) → n ≤ m → length (numeral k n) ≤ length (numeral k m)
unfolding numeral
written_longer zero n m h = omega arith
written_longer (suc k) n m h =
    by_size n
    (λ s. rw (written_one k n s) (written_some k m))
    (λ l.
    let l' : 10 ≤ m = omega arith in
    rw (written_more k n l, written_more k m l')
    (simp length-append (omega (arith, written_longer k (n / 10) (m / 10) (omega arith)))))

-- Each value at most the other's.
abbrev pub AtMost : List ℕ → List ℕ → Type 0
AtMost [] ws = Unit
AtMost (v ∷ vs) ws = (v ≤ get_or ws 0 0) × AtMost vs (drop 1 ws)

at_most_first : (vs ws : List ℕ) → AtMost vs ws → get_or vs 0 0 ≤ get_or ws 0 0
at_most_first [] ws h = omega arith
at_most_first (v ∷ vs) ws h = h.0

at_most_others : (vs ws : List ℕ) → AtMost vs ws → AtMost (drop 1 vs) (drop 1 ws)
at_most_others [] ws h = tt
at_most_others (v ∷ vs) ws h = h.1

abbrev Longer : List ℕ → Type 0
Longer form = (vs ws : List ℕ) → AtMost vs ws → length (filled form vs) ≤ length (filled form ws)

longer : {b : ℕ} → Kind b → (form : List ℕ) → Longer form → Longer (b ∷ form)
longer value form others vs ws h =
    rw (filled_value form vs, filled_value form ws)
    (simp length-append
    (omega (
      arith,
      written_longer most_digits (get_or vs 0 0) (get_or ws 0 0) (at_most_first vs ws h),
      others (drop 1 vs) (drop 1 ws) (at_most_others vs ws h),
    )))
longer letter form others vs ws h =
    rw (filled_letter form vs, filled_letter form ws)
    (suc-le-suc (others (drop 1 vs) (drop 1 ws) (at_most_others vs ws h)))
longer (literal {b} p q) form others vs ws h =
    rw (filled_literal form vs b p q, filled_literal form ws b p q) (suc-le-suc (others vs ws h))

pub filled_longer : (form vs ws : List ℕ) → AtMost vs ws → length (filled form vs) ≤ length (filled form ws)
unfolding filled
filled_longer [] vs ws h = omega arith
filled_longer (b ∷ form) vs ws h = longer (kind b) form (filled_longer form) vs ws h

-- The bytes of the longest line of a capacity, which the first edition has not, of an activity and of a node.
abbrev capacity_width : ℕ → ℕ
capacity_width edition = cond (says_units edition) 7 0

abbrev act_width : ℕ → ℕ
act_width edition = cond (says_units edition) 58 13

abbrev node_width : ℕ
node_width = 10

-- The longest line of each form that has a number of values of its own, and the longest count of units.
record Widths : Type 0 where
  edition : length (filled edition_form (last_edition ∷ [])) ≡ 7
  resources : length (filled resources_form (most_resources ∷ [])) ≡ 7
  capacity : length (filled capacity_form (most_units 2 ∷ [])) ≡ 7
  acts : length (filled acts_form (most_acts ∷ [])) ≡ 8
  act : length (filled (bytes "act=#,#\n") (most_resources ∷ longest_duration ∷ [])) ≡ 13
  duration : length (numeral most_digits longest_duration) ≡ 5
  count : length (numeral most_digits (most_units 2)) ≡ 2
  nodes : length (filled nodes_form (most_nodes ∷ [])) ≡ 9
  node : (b : ℕ) → length (filled node_form (b ∷ most_children ∷ [])) ≡ node_width

widths : Widths
unfolding filled numeral
widths =
    record {
      edition = refl;
      resources = refl;
      capacity = refl;
      acts = refl;
      act = refl;
      duration = refl;
      count = refl;
      nodes = refl;
      node = λ b. refl;
    }

number_short : (form : List ℕ) (high n : ℕ) → between 1 high n ≡ true
    → length (filled form (n ∷ [])) ≤ length (filled form (high ∷ []))
number_short form high n e = filled_longer form (n ∷ []) (high ∷ []) ((between_facts 1 high n e).1, tt)

capacity_short : (edition b : ℕ) → is_capacity edition b ≡ true → length (capacity_line b) ≤ 7
capacity_short edition b e =
    let fits : b ≤ most_units 2 = omega (arith, between_facts 1 (most_units edition) b e, most_units_lem edition) in
    omega (arith, widths.capacity, filled_longer capacity_form (b ∷ []) (most_units 2 ∷ []) (fits, tt))

-- An activity's line: a resource and a duration, or a duration and counts of units.
first_unit : (edition : ℕ) (us : List ℕ) → every (is_unit_count edition) us ≡ true
    → (get_or us 0 0 ≤ most_units 2) × (every (is_unit_count edition) (drop 1 us) ≡ true)
first_unit edition [] e = (omega arith, refl)
first_unit edition (u ∷ us) e =
    let rest : Bool = every (is_unit_count edition) us in (
      omega (arith, leb-true u (most_units edition) (and_left (is_unit_count edition u) rest e), most_units_lem edition),
      and_right (is_unit_count edition u) rest e,
    )

counts_short : (edition n : ℕ) (us : List ℕ) → every (is_unit_count edition) us ≡ true
    → length (filled (counts_end n) us) ≤ n * 3 + 1
unfolding filled counts_form
counts_short edition zero us e = omega arith
counts_short edition (suc n) us e =
    let (most, others) = first_unit edition us e in
    simp (length-append, suc-mul)
    (omega (
      arith,
      widths.count,
      written_longer most_digits (get_or us 0 0) (most_units 2) most,
      counts_short edition n (drop 1 us) others,
    ))

module _ (edition r : ℕ) (h : r ≤ most_resources) (a : Activity) (e : is_activity edition r a ≡ true) where
  act_short : length (act_line edition r a) ≤ act_width edition
  unfolding filled
  act_short =
      by_bool (says_units edition)
      (λ y.
      rw y
      (simp length-append
      (omega (
        arith,
        widths.duration,
        written_longer most_digits a.duration longest_duration (duration_between edition r a e).1,
        counts_short edition r a.units (units_ranged edition r a e y),
      ))))
      (λ n.
      rw n
      (omega (
        arith,
        widths.act,
        filled_longer (bytes "act=#,#\n") (own_resource a.units ∷ a.duration ∷ [])
            (most_resources ∷ longest_duration ∷ [])
            (omega (arith, own_below edition r a e n), ((duration_between edition r a e).1, tt)),
      )))

node_short : (n : ℕ) → n ≤ most_acts → (m : Node) → is_node n m ≡ true → length (node_line m) ≤ node_width
node_short n h m e =
    omega (
      arith,
      widths.node (letter_of m),
      filled_longer node_form (letter_of m ∷ value_of m ∷ []) (letter_of m ∷ most_children ∷ [])
          (omega arith, (number_most n m h e, tt)),
    )

-- So many lines, each at most so long.
module _ {A : Type 0} {write : A → List ℕ} {writes : List A → List ℕ} (joined : Joined write writes)
    (ok : A → Bool) (most : ℕ) (fits : (a : A) → ok a ≡ true → length (write a) ≤ most)
  where
    pub lines_short : (xs : List A) → every ok xs ≡ true → length (writes xs) ≤ length xs * most
    lines_short [] e = rw joined.nil (omega arith)
    lines_short (x ∷ xs) e =
        rw (joined.cons x xs, suc-mul)
        (simp length-append
        (omega (arith, fits x (and_left (ok x) (every ok xs) e), lines_short xs (and_right (ok x) (every ok xs) e))))

capacities_short : (edition : ℕ) (bs : List ℕ) → every (is_capacity edition) bs ≡ true
    → length (capacity_text edition bs) ≤ length bs * capacity_width edition
capacities_short edition bs e =
    by_bool (says_units edition)
    (λ y.
    subst (λ (k : ℕ). length (capacity_text edition bs) ≤ length bs * k) (sym (cond_true 7 0 y))
    (lines_short (capacity_joined edition y) (is_capacity edition) 7 (capacity_short edition) bs e))
    (λ n. rw n (omega arith))

-- With as many lines as there can be: 671 bytes are those of the edition, the counts and the nodes.
widths_add : (edition : ℕ)
    → 671 + most_resources * capacity_width edition + most_acts * act_width edition ≡ longest_of edition
widths_add edition = by_bool (says_units edition) (λ y. rw y) (λ n. rw n)

pub longest_any : (edition : ℕ) → longest_of edition ≤ longest
longest_any edition = by_bool (says_units edition) (λ y. rw y (omega arith)) (λ n. rw n (omega arith))

module _ (p : Plan) (ok : is_plan p ≡ true) where
  pub text_short : length (text p) ≤ longest_of p.edition
  unfolding text
  text_short =
      let sound : Sound p = plan_sound p ok in
      let resources : length p.capacities ≤ most_resources =
      (between_facts 1 most_resources (length p.capacities) sound.resources).1 in
      let acts : length p.activities ≤ most_acts =
      (between_facts 1 most_acts (length p.activities) sound.acts).1 in
      simp length-append
      (omega (
        arith,
        widths,
        number_short edition_form last_edition p.edition sound.edition,
        number_short resources_form most_resources (length p.capacities) sound.resources,
        capacities_short p.edition p.capacities sound.capacities,
        number_short acts_form most_acts (length p.activities) sound.acts,
        lines_short (act_joined p.edition (length p.capacities))
            (is_activity p.edition (length p.capacities)) (act_width p.edition)
            (act_short p.edition (length p.capacities) resources)
            p.activities sound.activities,
        number_short nodes_form most_nodes (length p.nodes) sound.node_count,
        between_facts 1 most_nodes (length p.nodes) sound.node_count,
        lines_short node_joined (is_node (length p.activities)) node_width (node_short (length p.activities) acts)
            p.nodes sound.nodes,
        mul-le-mul_right (capacity_width p.edition) resources,
        mul-le-mul_right (act_width p.edition) acts,
        widths_add p.edition,
      ))

  pub text_some : 1 ≤ length (text p)
  unfolding text filled
  text_some = simp length-append (omega arith)
