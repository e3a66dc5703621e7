-- The plan that a text holds. Lines are taken one by one: refusal 2 where a line has not its form, then 3 where one
-- of its values is out of range, then 10 where it is a group of one, then 11 where a count of units is above its
-- resource's capacity.
use Rattle.std.specs.Prelude.{ℕ, zero, suc, ◌+◌, Bool, true, false, not, ◌||◌, List, [], ◌∷◌, ltb, eqb, length, get_or, replicate}
use Rattle.std.proofs.Math.Option.{none, some}
use Rattle.plan.specs.Limits.{longest, says_units, is_edition, is_resource_count, is_capacity, is_act_count, is_node_count}
use Rattle.plan.specs.Limits.{edition_form, resources_form, capacity_form, acts_form, act_form, nodes_form, node_form}
use Rattle.plan.specs.Plan.{Activity, Plan, activity_of, node_of, is_activity, is_within, is_node, is_group_of_one}
use Rattle.plan.specs.declared.Node.{Node}
use Rattle.plan.specs.declared.Refusal.{Refusal}
use Rattle.plan.specs.declared.Refusal.TheVariants.{Length, Form, Range, GroupOfOne, OverCapacity}
use Rattle.format.specs.Lines.{matched}

-- What reading some lines gives: what they say, the number of the next line and the bytes from there on; or the
-- refusal.
pub data LinesRead (A : Type 0) : Type 0 where
  read : A → ℕ → List ℕ → LinesRead A
  stop : Refusal → LinesRead A

abbrev pub Reader : Type 0 → Type 0
Reader A = ℕ → List ℕ → LinesRead A

abbrev pub ◌>>=◌ : {A B : Type 0} → Reader A → (A → Reader B) → Reader B
◌>>=◌ reader then line s = elim (reader line s) [ read a line' s' ↦ then a line' s' | stop r ↦ stop r ]

abbrev pub return : {A : Type 0} → A → Reader A
return a line s = read a line s

-- One line: `make` is what its values say.
unfoldable pub a_line : {A : Type 0} → List ℕ → (List ℕ → A) → Reader A
a_line form make line s =
    elim (matched form s) [ none ↦ stop (Form line) | some f ↦ read (make f.values) (line + 1) f.rest ]

-- A test of what a line says, and the refusal of a line that does not pass it.
unfoldable pub tested : {A : Type 0} → (A → Bool) → (ℕ → Refusal) → Reader A → Reader A
tested passes refusal reader line s =
    elim (reader line s) [
      | read a line' s' ↦ elim (passes a) [ true ↦ read a line' s' | false ↦ stop (refusal line) ]
      | stop r ↦ stop r
    ]

-- So many lines of one form.
unfoldable pub the_lines : {A : Type 0} → ℕ → Reader A → Reader (List A)
the_lines zero reader = return []
the_lines (suc n) reader = do
  a ← reader
  rest ← the_lines n reader
  return (a ∷ rest)

-- Nothing follows.
unfoldable pub the_end : Reader (Unit {0})
the_end line [] = read tt line []
the_end line (b ∷ s) = stop (Form line)

abbrev pub number : List ℕ → ℕ
number vs = get_or vs 0 0

abbrev pub a_count : List ℕ → (ℕ → Bool) → Reader ℕ
a_count form fits = tested fits Range (a_line form number)

-- The capacities of so many resources.
unfoldable pub the_capacities : ℕ → ℕ → Reader (List ℕ)
the_capacities edition resources =
    elim (says_units edition) [
      | true ↦ the_lines resources (a_count capacity_form (is_capacity edition))
      | false ↦ return (replicate resources 1)
    ]

-- Its counts of units are within their ranges, and then within the capacities.
abbrev pub an_activity : ℕ → List ℕ → Reader Activity
an_activity edition capacities =
    let resources : ℕ = length capacities in
    tested (λ a. is_within capacities a.units) OverCapacity
    (tested (is_activity edition resources) Range
    (a_line (act_form edition resources) (activity_of edition resources)))

abbrev pub node_from : List ℕ → Node
node_from vs = node_of (get_or vs 0 0) (get_or vs 1 0)

-- A group of one passes the test of its range, and then has its own refusal.
abbrev pub is_ranged : ℕ → Node → Bool
is_ranged acts n = is_node acts n || is_group_of_one n

abbrev pub is_plural : Node → Bool
is_plural n = not (is_group_of_one n)

abbrev pub a_node : ℕ → Reader Node
a_node acts = tested is_plural GroupOfOne (tested (is_ranged acts) Range (a_line node_form node_from))

unfoldable pub plan_lines : Reader Plan
plan_lines = do
  e ← a_count edition_form is_edition
  r ← a_count resources_form is_resource_count
  bs ← the_capacities e r
  n ← a_count acts_form is_act_count
  acts ← the_lines n (an_activity e bs)
  m ← a_count nodes_form is_node_count
  nodes ← the_lines m (a_node n)
  u ← the_end
  return (record { edition = e; capacities = bs; activities = acts; nodes = nodes })

pub data Result : Type 0 where
  holds : Plan → Result
  refuses : Refusal → Result

unfoldable pub parse : List ℕ → Result
parse s =
    elim (eqb (length s) 0 || ltb longest (length s)) [
      | true ↦ refuses Length
      | false ↦ elim (plan_lines 1 s) [ read p line rest ↦ holds p | stop r ↦ refuses r ]
    ]
