-- The table of a plan with a variant in it: what it is laid out from is in range, and its project is the variant's.
use Prim.Native.Nat.{ℕ, ◌<◌}
use native.Mathlib.Omega.{arith}
use mathlib.Core.Bool.{true}
use mathlib.Core.List.{List}
use mathlib.Core.Path.{◌≡◌, refl, sym, ◌∙◌}
use lib.ListN.{length, get_or}
use Rattle.plan.specs.Plan.{Plan, plan_of}
use Rattle.sets.specs.Sets.{most, has}
use Rattle.term.specs.Term.{Term}
use Rattle.term.specs.Valid.{HasVariant}
use Rattle.term.specs.Variants.{activities, member}
use Rattle.schedule.proofs.Alike.{Alike}
use Rattle.variant.specs.Precedence.{precedes}
use Rattle.variant.specs.Project.{activity_at, units_at, variant_at, project_of}
use Rattle.variant.specs.Tables.{OrderOf}
use Rattle.variant.proofs.Instance.{capacity_between, duration_at_lem, units_at_lem, has_of}
use Rattle.variant.proofs.Order.{precedes_members}
use Rattle.variant.proofs.RoundTrip.{variant_below}
use Rattle.variant.proofs.Tables.{resources_are, capacity_in, duration_in, units_in}
use Rattle.plan_exact.proofs.Variant.{ranked}
use Rattle.branching.proofs.Rank.{before}
use Rattle.instance.specs.Instance.{no_row, row_of, Given, Chosen}
use Rattle.instance.specs.Table.{present_of, project_in}
use Rattle.orders.specs.Book.{under_order}
use Rattle.judge.specs.Campaign.{HoldsPlan}
use Rattle.judge.specs.declared.Campaign.{Campaign}
use Rattle.judge.proofs.Ranges.{acts_are}
use Rattle.sweep.specs.Swept.{LaidFor}

module _ (c : Campaign) (t : Term) (h : HoldsPlan c t) where
  abbrev p : Plan
  p = plan_of c.tables

  acts : length p.activities ≡ c.tables.acts
  acts = acts_are c.tables h.ranged

  resources : length p.capacities ≡ c.tables.resources
  resources = resources_are c.tables h.ranged.sized.capacity

  duration_is : (i : ℕ) → i < c.tables.acts → (activity_at p i).duration ≡ (row_of c.tables i).duration
  duration_is i l = duration_in c.tables h.ranged.sized.activity i l no_row

  units_are : (i r : ℕ) → i < c.tables.acts → r < c.tables.resources
      → units_at p i r ≡ get_or (row_of c.tables i).units r 0
  units_are i r l = units_in c.tables h.ranged.sized.activity i l no_row r

  pub given : Given c.tables
  given =
      let ranges = h.valid.ranges in
      record {
        long = λ i l. omega (arith, duration_is i l, (duration_at_lem p ranges i (omega (arith, acts))).0);
        short = λ i l. omega (arith, duration_is i l, (duration_at_lem p ranges i (omega (arith, acts))).1);
        alone =
            λ i r l m.
            omega (
              arith,
              units_are i r l m,
              capacity_in c.tables r m,
              units_at_lem p ranges i r (omega (arith, acts)) (omega (arith, resources)),
            );
        capacities = λ r m.
            grind (arith, capacity_in c.tables r m, (capacity_between p ranges r (omega (arith, resources))).1);
      }

  module _ (table : List ℕ) (laid : LaidFor c table) where
    -- Under the order of a variant with the activities in the table.
    pub alike : (w : Term) (order : ℕ → ℕ) → ((i : ℕ) → has (present_of table) i ≡ member i (activities w))
        → ((i j : ℕ) → j < most → has (order j) i ≡ precedes w i j)
        → Alike (under_order (project_in table) order) (project_of p w)
    unfolding project_in project_of
    alike w order members befores =
        record {
          size = laid.acts_are ∙ sym acts;
          resources = laid.resources_are ∙ sym resources;
          floor = refl;
          present = λ i l. members i;
          duration =
              λ i l.
              let b : i < c.tables.acts = omega (arith, laid.acts_are) in
              laid.durations i b ∙ sym (duration_is i b);
          free = λ i l. refl;
          begun = λ i l. refl;
          precedes = λ i j l m. befores i j (omega (arith, laid.acts_are));
          gap = λ i j l m. refl;
          units =
              λ i r l m.
              let b : i < c.tables.acts = omega (arith, laid.acts_are) in
              let d : r < c.tables.resources = omega (arith, laid.resources_are) in
              laid.held i r b d ∙ sym (units_are i r b d);
          capacity =
              λ r m.
              let d : r < c.tables.resources = omega (arith, laid.resources_are) in
              laid.capacity_is r d ∙ sym (capacity_in c.tables r d);
        }

    pub chosen_for : (v : ℕ) → HasVariant p t v → (present : ℕ) (preds : List ℕ)
        → OrderOf (variant_at t v) present preds → Chosen table present preds
    unfolding project_of
    chosen_for v c' present preds order =
        let w : Term = variant_at t v in
        let inside : (i : ℕ) → member i (activities w) ≡ true → i < length p.activities = variant_below p t v c' in
        record {
          laid = laid.laid;
          present_low = order.small;
          known = λ i y. omega (arith, laid.acts_are, acts, inside i (sym (order.members i) ∙ y));
          preds_low = order.low;
          ordered =
              λ i j l y.
              let (mi, mj) = precedes_members w i j (sym (order.before i j l) ∙ y) in
              (order.members i ∙ mi, order.members j ∙ mj);
          rank = before (project_of p w);
          ranked =
              λ i j l y.
              let o : precedes w i j ≡ true = sym (order.before i j l) ∙ y in
              let (mi, mj) = precedes_members w i j o in
              ranked p t v c' i j (has_of p w i (inside i mi) mi) (has_of p w j (inside j mj) mj) o;
        }
