-- A schedule of the table's variant is active under another order of the same activities if each that has others before
-- it there starts as soon as it fits.
use Prim.Native.Nat.{ℕ, ◌+◌, ◌≤◌, ◌<◌}
use native.Mathlib.Decide.{ℕ_discrete}
use native.Mathlib.Omega.{arith}
use mathlib.Core.Bool.{true, cond}
use mathlib.Core.List.{List}
use mathlib.Core.Logic.{◌≢◌, ◌⊎◌, ⊎_elim, by_cases}
use mathlib.Core.Path.{◌≡◌, refl, sym, ap, ◌∙◌}
use Rattle.base.proofs.Bools.{by_bool, cond_true, cond_false}
use Rattle.base.proofs.Below.{max_term, max_least}
use Rattle.sets.specs.Sets.{most, has}
use Rattle.schedule.specs.Project.{Project}
use Rattle.schedule.specs.Schedule.{Starts, end_of, load, moved}
use Rattle.schedule.proofs.Load.{Has, moved_same, moved_other}
use Rattle.schedule.proofs.Moves.{move_earlier, moved_le}
use Rattle.schedule.proofs.Reflect.{Feasible, Active}
use Rattle.instance.specs.Table.{duration_at, preds_at, present_of, project_in}
use Rattle.instance.specs.Instance.{Instance}
use Rattle.profile.specs.Work.{end_at, latest_of}
use Rattle.soonest.specs.Row.{Ended}
use Rattle.soonest.specs.Soonest.{Soonest}
use Rattle.soonest.proofs.Row.{present_below}
use Rattle.orders.specs.Book.{under_order}
use Rattle.orders.proofs.Held.{starts_in, has_of, end_of_lem, fits_room, moved_fits}

-- Another order of the activities of a project.
module _ (p : Project) (order : ℕ → ℕ) where
  abbrev p' : Project
  p' = under_order p order

  here : (i : ℕ) → Has p' i → Has p i
  here i h = record { below = h.below; there = h.there }

  under : (i : ℕ) → Has p i → Has p' i
  under i h = record { below = h.below; there = h.there }

  -- Their load is the same.
  load_under : (S : Starts) (u r : ℕ) → load p' S u r ≡ load p S u r
  unfolding load
  load_under S u r = refl

  -- The schedule keeps the order too.
  feasible_under : (S : Starts) → Feasible p S
      → ((i j : ℕ) → Has p i → Has p j → has (order j) i ≡ true → end_of p S i + p.gap i j ≤ S j)
      → Feasible p' S
  feasible_under S f ordered =
      record {
        from_floor = λ i h. f.from_floor i (here i h);
        as_begun = λ i h. f.as_begun i (here i h);
        ordered = λ i j hi hj. ordered i j (here i hi) (here j hj);
        fits = λ u r l. omega (arith, load_under S u r, f.fits u r l);
      }

  -- One with the same before it in both that can start sooner under the order can do so in the project too.
  feasible_back : (S : Starts) (j x : ℕ) → Feasible p S → x < S j → ((i : ℕ) → has (order j) i ≡ p.precedes i j)
      → Feasible p' (moved S j x) → Feasible p (moved S j x)
  feasible_back S j x f l same g =
      record {
        from_floor = λ i h. g.from_floor i (under i h);
        as_begun = λ i h. g.as_begun i (under i h);
        ordered =
            λ i k hi hk o.
            by_cases
            (ℕ_discrete k j)
            (λ e.
            g.ordered i k (under i hi) (under k hk)
            (ap (λ (n : ℕ). has (order n) i) e ∙ same i ∙ ap (p.precedes i) (sym e) ∙ o))
            (λ ne.
            omega (arith, moved_le S j x (omega arith) i, moved_other S j x k ne, f.ordered i k hi hk o));
        fits = λ u r b. omega (arith, load_under (moved S j x) u r, g.fits u r b);
      }

-- The schedule in the working array, and another order of the present activities.
module _ (t w : List ℕ) (whole : Instance t) (ended : Ended t w) (order : ℕ → ℕ)
    (within : (i j : ℕ) → j < most → has (order j) i ≡ true
    → (has (present_of t) i ≡ true) × (has (present_of t) j ≡ true)) where
  -- All before j have ended by tick x.
  over_by : (i j x : ℕ) → j < most → latest_of w (order j) ≤ x → has (order j) i ≡ true → end_at w i ≤ x
  over_by i j x l le o =
      omega (
        arith,
        max_term most (λ k. cond (has (order j) k) (end_at w k) 0) i (present_below t i whole (within i j l o).0),
        cond_true (end_at w i) 0 o,
      )

  by_over : (j x : ℕ) → ((i : ℕ) → has (order j) i ≡ true → end_at w i ≤ x) → latest_of w (order j) ≤ x
  by_over j x f =
      max_least most (λ k. cond (has (order j) k) (end_at w k) 0) x
      (λ i l.
      by_bool
      (has (order j) i)
      (λ o. omega (arith, cond_true (end_at w i) 0 o, f i o))
      (λ z. omega (arith, cond_false (end_at w i) 0 z)))

  abbrev q : Project
  q = under_order (project_in t) order

  q_has : (i : ℕ) → has (present_of t) i ≡ true → Has q i
  q_has i y = under (project_in t) order i (has_of t w whole ended i y)

  q_load : (S : Starts) (u r : ℕ) → load q S u r ≡ load (project_in t) S u r
  q_load = load_under (project_in t) order

  -- An active schedule of the order has each activity as soon as it fits.
  pub active_soonest : Active q (starts_in t w) → (j : ℕ) → has (present_of t) j ≡ true → Soonest t w (order j) j
  unfolding project_in
  active_soonest a j y =
      let S : Starts = starts_in t w in
      let f : Feasible q S = a.is_feasible in
      let low : j < most = present_below t j whole y in
      let end : S j + duration_at t j ≡ end_at w j = end_of_lem t w whole ended j y in
      let before : (i : ℕ) → has (order j) i ≡ true → end_at w i ≤ S j =
      λ i o.
      let z = (within i j low o).0 in
      omega (arith, end_of_lem t w whole ended i z, f.ordered i j (q_has i z) (q_has j y) o) in
      record {
        ready = omega (arith, by_over j (S j) before);
        none =
            λ x le early fits.
            a.least j (q_has j y) refl x (omega arith)
            (move_earlier q S j x (q_has j y)
            (record {
              lower = omega arith;
              from_floor = omega arith;
              ready = λ i h o. omega (arith, end_of_lem t w whole ended i h.there, over_by i j x low le o);
              room =
                  λ u r l from before to.
                  omega (
                    arith,
                    q_load S u r,
                    fits_room t w whole ended j y x fits (λ u r l. omega (arith, q_load S u r, f.fits u r l)) u r l
                        from before to,
                  );
            })
            f
            refl);
      }

  -- And if each has the same before it as in the table, or starts as soon as it fits, the schedule is active.
  pub soonest_active : Active (project_in t) (starts_in t w)
      → ((j : ℕ) → has (present_of t) j ≡ true → (order j ≡ preds_at t j) ⊎ Soonest t w (order j) j)
      → Active q (starts_in t w)
  unfolding project_in
  soonest_active a each =
      let S : Starts = starts_in t w in
      let f : Feasible (project_in t) S = a.is_feasible in
      record {
        is_feasible =
            feasible_under (project_in t) order S f
            (λ i j hi hj o.
            ⊎_elim
            (λ e. f.ordered i j hi hj (ap (λ (x : ℕ). has x i) (sym e) ∙ o))
            (λ s.
            let low : j < most = present_below t j whole hj.there in
            omega (
              arith,
              s.ready,
              end_of_lem t w whole ended i hi.there,
              end_of_lem t w whole ended j hj.there,
              over_by i j (latest_of w (order j)) low (omega arith) o,
            ))
            (each j hj.there));
        least =
            λ j h free x l g.
            let y = h.there in
            let low : j < most = present_below t j whole y in
            let at : moved S j x j ≡ x = moved_same S j x in
            ⊎_elim
            (λ e.
            a.least j (has_of t w whole ended j y) free x l
            (feasible_back (project_in t) order S j x f l (λ i. ap (λ (n : ℕ). has n i) e) g))
            (λ s.
            s.none x
            (by_over j x
            (λ i o.
            let z = (within i j low o).0 in
            let ne : i ≢ j =
            λ e.
            omega (
              arith,
              whole.laid.long j (whole.present j y),
              g.ordered j j h h (ap (has (order j)) (sym e) ∙ o),
            ) in
            omega (arith, end_of_lem t w whole ended i z, moved_other S j x i ne, g.ordered i j (q_has i z) h o)))
            (omega (arith, end_of_lem t w whole ended j y))
            (moved_fits t w whole ended j y x (λ u r b. omega (arith, q_load (moved S j x) u r, g.fits u r b))))
            (each j y);
      }
