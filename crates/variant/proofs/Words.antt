-- What the tests of a session mean, in the words of the paper.
use Prim.Native.Nat.{ℕ, ◌+◌, ◌≤◌, ◌<◌, zero-le}
use native.Mathlib.Decide.{ℕ_discrete}
use native.Mathlib.Omega.{arith}
use mathlib.Core.Bool.{Bool, true, false, not, ◌&&◌, beq, false≢true, and-eq-true_iff}
use mathlib.Core.List.Memᴰ
use mathlib.Core.List.{List, Memᴰ, Nodup}
use mathlib.Core.Logic.{◌↔◌, ◌≢◌, by_cases, inl, inr}
use mathlib.Core.Path.{◌≡◌, refl, sym, ap, subst, ◌∙◌}
use borrow.Author.Tests.{eqb-true, eq-eqb}
use lib.Dec.{eqb}
use lib.ListN.{length}
use Rattle.base.specs.Lists.{sum_over}
use Rattle.base.proofs.Bools.{by_bool, true_not_false, both, and_left, and_right}
use Rattle.base.proofs.Below.{every_at, every_of}
use Rattle.base.proofs.Sums.{sum_over_same, sum_over_below, chosen_below, chosen_is, chosen_nodup, chosen_sum}
use Rattle.plan.specs.Limits.{says_units}
use Rattle.plan.specs.Plan.{Plan, is_plan}
use Rattle.term.specs.Term.{Term, Forest, act, seq, pll, xor, nil, cons, size, full, full_all, plural}
use Rattle.term.specs.Valid.{HasVariant}
use Rattle.term.specs.Variants.{activities, activities_of_all, member}
use Rattle.term.proofs.Reading.{plan_full}
use Rattle.term.proofs.Twice.{member_found, member_is}
use Rattle.timetable.specs.Mark.{mark, places}
use Rattle.schedule.specs.Project.{Project}
use Rattle.schedule.specs.Schedule.{Starts, runs, load, feasible, makespan, moved}
use Rattle.schedule.specs.Sessions.{starts_of}
use Rattle.schedule.specs.Words.{InWords}
use Rattle.schedule.proofs.Agree.{Feasible-agree}
use Rattle.schedule.proofs.Load.{Has, Runs, holds, holds_all, runs_is, runs_there, end_le, ends_least, latest_reached}
use Rattle.schedule.proofs.Load.{moved_same, moved_other}
use Rattle.schedule.proofs.Makespan.{Opening, opens, empty, opening, earliest_le, makespan_is}
use Rattle.schedule.proofs.Reflect.{Feasible, Active, feasible_is, feasible_of}
use Rattle.schedule.proofs.OneUnit.{feasible_in_words}
use Rattle.variant.specs.Precedence.{precedes, within_one, earlier}
use Rattle.variant.specs.Project.{units_at, variant_at, project_of}
use Rattle.variant.specs.Timetable.{is_marked, is_session}
use Rattle.variant.specs.Words.{Present, Precedes, PrecedesInOne, Earlier, Running, Keeps, resource_of, KeepsApart}
use Rattle.variant.specs.Words.{Makespan, IsActive, MarksAbsent, Session}
use Rattle.variant.proofs.Instance.{bench, has_of, has_member}
use Rattle.variant.proofs.Members.{or_elim, or_left, or_right}
use Rattle.variant.proofs.RoundTrip.{variant_below, variant_full}

-- Precedence by the test and in words.
mutual
  unfolding precedes Precedes

  precedes_is : (t : Term) (i j : ℕ) → precedes t i j ≡ true → Precedes t i j
  precedes_is (act k) i j e = absurd (false≢true e)
  precedes_is (seq f) i j e =
      or_elim (earlier f i j) (within_one f i j) (λ a. inl (earlier_is f i j a)) (λ b. inr (within_is f i j b)) e
  precedes_is (pll f) i j e = within_is f i j e
  precedes_is (xor f) i j e = within_is f i j e

  within_is : (f : Forest) (i j : ℕ) → within_one f i j ≡ true → PrecedesInOne f i j
  within_is nil i j e = absurd (false≢true e)
  within_is (cons t f) i j e =
      or_elim (precedes t i j) (within_one f i j) (λ a. inl (precedes_is t i j a)) (λ b. inr (within_is f i j b)) e

  earlier_is : (f : Forest) (i j : ℕ) → earlier f i j ≡ true → Earlier f i j
  earlier_is nil i j e = absurd (false≢true e)
  earlier_is (cons t f) i j e =
      or_elim (member i (activities t) && member j (activities_of_all f)) (earlier f i j)
      (λ a.
      let (x, y) = (and-eq-true_iff (member i (activities t)) (member j (activities_of_all f))).0 a in
      inl (member_found i (activities t) x, member_found j (activities_of_all f) y))
      (λ b. inr (earlier_is f i j b))
      e

mutual
  unfolding precedes Precedes

  precedes_of : (t : Term) (i j : ℕ) → Precedes t i j → precedes t i j ≡ true
  precedes_of (act k) i j e = absurd e
  precedes_of (seq f) i j (inl a) = or_left (earlier f i j) (within_one f i j) (earlier_of f i j a)
  precedes_of (seq f) i j (inr b) = or_right (earlier f i j) (within_one f i j) (within_of f i j b)
  precedes_of (pll f) i j e = within_of f i j e
  precedes_of (xor f) i j e = within_of f i j e

  within_of : (f : Forest) (i j : ℕ) → PrecedesInOne f i j → within_one f i j ≡ true
  within_of nil i j e = absurd e
  within_of (cons t f) i j (inl a) = or_left (precedes t i j) (within_one f i j) (precedes_of t i j a)
  within_of (cons t f) i j (inr b) = or_right (precedes t i j) (within_one f i j) (within_of f i j b)

  earlier_of : (f : Forest) (i j : ℕ) → Earlier f i j → earlier f i j ≡ true
  earlier_of nil i j e = absurd e
  earlier_of (cons t f) i j (inl a) =
      or_left (member i (activities t) && member j (activities_of_all f)) (earlier f i j)
      (both (member_is a.0) (member_is a.1))
  earlier_of (cons t f) i j (inr b) =
      or_right (member i (activities t) && member j (activities_of_all f)) (earlier f i j) (earlier_of f i j b)

-- One is true exactly if the other is false.
opposite : (a b : Bool) → (beq a (not b) ≡ true) ↔ ((a ≡ true) ↔ (b ≡ false))
opposite true true = (λ e. absurd (false≢true e), λ f. sym (f.0 refl))
opposite true false = (λ e. (λ x. refl, λ x. refl), λ f. refl)
opposite false true = (λ e. (λ x. sym x, λ x. sym x), λ f. refl)
opposite false false = (λ e. absurd (false≢true e), λ f. f.1 refl)

-- Absent by the test and in words.
pub absent : (w : Term) (i : ℕ) → (member i (activities w) ≡ false) ↔ (Present w i → ⊥)
absent w i = (
  λ z m. true_not_false (member_is m) z,
  λ none. by_bool (member i (activities w)) (λ y. absurd (none (member_found i (activities w) y))) (λ z. z),
)

module _ (w : Term) (row : List ℕ) where
  abbrev test : ℕ → Bool
  test i = beq (eqb (starts_of row i) mark) (not (member i (activities w)))

  marked_is : is_marked w row ≡ true → MarksAbsent w places row
  unfolding is_marked
  marked_is e i h =
      let x = starts_of row i in
      let o = (opposite (eqb x mark) (member i (activities w))).0 (every_at places test e i h) in
      (λ q. (absent w i).0 (o.0 (eq-eqb x mark q)), λ q. eqb-true x mark (o.1 ((absent w i).1 q)))

  marked_of : MarksAbsent w places row → is_marked w row ≡ true
  unfolding is_marked
  marked_of f =
      every_of places test λ i h.
      let x = starts_of row i in
      (opposite (eqb x mark) (member i (activities w))).1 (
        λ q. (absent w i).1 ((f i h).0 (eqb-true x mark q)),
        λ q. eq-eqb x mark ((f i h).1 ((absent w i).0 q)),
      )

-- The activities of a variant are activities of the plan, and there is one.
pub variant_inside : (p : Plan) (t : Term) (v : ℕ) → HasVariant p t v → (i : ℕ) → Present (variant_at t v) i
    → i < length p.activities
variant_inside p t v c i m = variant_below p t v c i (member_is m)

mutual
  unfolding full activities size

  some_activity : (w : Term) → full w ≡ true → (i : ℕ) × Present w i
  some_activity (act i) e = (i, Memᴰ.head refl)
  some_activity (seq f) e = some_under f (and_left (plural f) (full_all f) e) (and_right (plural f) (full_all f) e)
  some_activity (pll f) e = some_under f (and_left (plural f) (full_all f) e) (and_right (plural f) (full_all f) e)
  some_activity (xor f) e = some_under f (and_left (plural f) (full_all f) e) (and_right (plural f) (full_all f) e)

  some_under : (f : Forest) → plural f ≡ true → full_all f ≡ true → (i : ℕ) × Memᴰ i (activities_of_all f)
  some_under nil e all = absurd (false≢true e)
  some_under (cons t f) e all =
      let (i, m) = some_activity t (and_left (full t) (full_all f) all) in (i, Memᴰ.append_left (activities_of_all f) m)

pub variant_some : (p : Plan) (t : Term) (v : ℕ) → HasVariant p t v → (i : ℕ) × Present (variant_at t v) i
variant_some p t v c =
    some_activity (variant_at t v)
    (variant_full t v c.below (plan_full p t c.valid.ranges c.valid.term))

module _ (p : Plan) (w : Term) (inside : (i : ℕ) → Present w i → i < length p.activities) where
  abbrev P : Project
  P = project_of p w

  abbrev N : ℕ
  N = length p.activities

  pub has : (i : ℕ) → Present w i → Has P i
  has i m = has_of p w i (inside i m) (member_is m)

  pub present : (i : ℕ) → Has P i → Present w i
  present i h = member_found i (activities w) (has_member p w i h)

  module _ (S : Starts) where
    -- Activities that run, each taken once, hold no more than the load; and all that run hold it.
    module _ (t r : ℕ) where
      run_within : (is : List ℕ) → Nodup is → ((i : ℕ) → Memᴰ i is → Running p w S t i)
          → sum_over (λ i. units_at p i r) is ≤ load P S t r
      unfolding project_of load
      run_within is once run =
          omega (
            arith,
            sum_over_same (λ i. units_at p i r) (holds P S t r) is
                (λ i m.
                sym (holds_all P S t r i (has i (run i m).present).there
                (record { begins = (run i m).begun; ends = (run i m).unfinished }))),
            sum_over_below N (holds P S t r) is once (λ i m. inside i (run i m).present),
          )

      abbrev running : List ℕ
      running = chosen_below N (runs P S t)

      is_running : (i : ℕ) → Memᴰ i running → Running p w S t i
      unfolding project_of
      is_running i m =
          let (l, y) = chosen_is (runs P S t) N m in
          let k : Runs P S t i = runs_is P S t i y in
          record {
            present = present i (record { below = l; there = runs_there P S t i y });
            begun = k.begins;
            unfinished = k.ends;
          }

      load_running : load P S t r ≡ sum_over (λ i. units_at p i r) running
      unfolding project_of load
      load_running = sym (chosen_sum (runs P S t) (λ i. units_at p i r) N)

    feasible_keeps : Feasible P S → Keeps p w S
    unfolding project_of
    feasible_keeps f =
        record {
          after = λ i j mi mj o. omega (arith, f.ordered i j (has i mi) (has j mj) (precedes_of w i j o));
          within = λ t r l is once run. omega (arith, f.fits t r l, run_within t r is once run);
        }

    keeps_feasible : Keeps p w S → Feasible P S
    unfolding project_of
    keeps_feasible k =
        record {
          from_floor = λ i h y. zero-le;
          as_begun = λ i h z. true_not_false refl z;
          ordered = λ i j hi hj o. omega (arith, k.after i j (present i hi) (present j hj) (precedes_is w i j o));
          fits =
              λ t r l.
              omega (
                arith,
                load_running t r,
                k.within t r l (running t r) (chosen_nodup (runs P S t) N) (is_running t r),
              );
        }

    pub keeps_means : Feasible P S ↔ Keeps p w S
    keeps_means = (feasible_keeps, keeps_feasible)

    -- In the first edition that the units stay within the capacities says that two on one resource do not overlap.
    words_apart : InWords P (resource_of p) S → KeepsApart p w S
    unfolding project_of
    words_apart words =
        record {
          after = λ i j mi mj o. words.after i j (has i mi) (has j mj) (precedes_of w i j o);
          apart = λ i j mi mj ne o. words.apart i j (has i mi) (has j mj) ne o;
        }

    apart_words : KeepsApart p w S → InWords P (resource_of p) S
    unfolding project_of
    apart_words k =
        record {
          after = λ i j hi hj o. k.after i j (present i hi) (present j hj) (precedes_is w i j o);
          apart = λ i j hi hj ne o. k.apart i j (present i hi) (present j hj) ne o;
        }

    pub keeps_apart : is_plan p ≡ true → p.edition ≡ 1 → Keeps p w S ↔ KeepsApart p w S
    keeps_apart valid first =
        let words = feasible_in_words P (resource_of p) S (bench p w valid (ap says_units first)) in (
          λ k. words_apart (words.0 (keeps_feasible k)),
          λ k. feasible_keeps (words.1 (apart_words k)),
        )

    -- The makespan, where there is an activity.
    span_words : (i : ℕ) → Present w i → Makespan p w S (makespan P S)
    unfolding project_of
    span_words i m = go (opening P S)
      where
        go : Opening P S → Makespan p w S (makespan P S)
        go (opens k h e) =
            let (l, g, q) = latest_reached P S k h in
            record {
              first = k;
              last = l;
              starts = present k h;
              ends = present l g;
              earliest = λ j n. omega (arith, e, earliest_le P S j (has j n));
              latest = λ j n. omega (arith, q, end_le P S j (has j n));
              between = omega (arith, makespan_is P S, e, q, earliest_le P S l g);
            }
        go (empty none q) = absurd (none i (has i m))

    words_span : (n : ℕ) → Makespan p w S n → n ≡ makespan P S
    unfolding project_of
    words_span n s = go (opening P S)
      where
        go : Opening P S → n ≡ makespan P S
        go (opens k h e) =
            omega (
              arith,
              makespan_is P S,
              s.between,
              e,
              s.earliest k (present k h),
              earliest_le P S s.first (has s.first s.starts),
              end_le P S s.last (has s.last s.ends),
              ends_least P S (S s.last + P.duration s.last) (λ j g. s.latest j (present j g)),
            )
        go (empty none q) = absurd (none s.first (has s.first s.starts))

    pub makespan_means : (i : ℕ) → Present w i → (n : ℕ) → (n ≡ makespan P S) ↔ Makespan p w S n
    makespan_means i m n = (λ e. subst (Makespan p w S) (sym e) (span_words i m), words_span n)

  -- Active.
  module _ (S : Starts) where
    pub active_words : Active P S → IsActive p w S
    unfolding project_of
    active_words a =
        record {
          keeps = feasible_keeps S a.is_feasible;
          least =
              λ j R m l same kept.
              a.least j (has j m) refl (R j) l
              (Feasible-agree P R (moved S j (R j)) (λ i h. only j R same i) (keeps_feasible R kept));
        }
      where
        only : (j : ℕ) (R : Starts) → ((i : ℕ) → i ≢ j → R i ≡ S i) → (i : ℕ) → R i ≡ moved S j (R j) i
        only j R same i =
            by_cases
            (ℕ_discrete i j)
            (λ e. ap R e ∙ sym (moved_same S j (R j)) ∙ ap (moved S j (R j)) (sym e))
            (λ ne. same i ne ∙ sym (moved_other S j (R j) i ne))

    pub words_active : IsActive p w S → Active P S
    words_active a =
        record {
          is_feasible = keeps_feasible S a.keeps;
          least =
              λ j h free t l f.
              a.least j (moved S j t) (present j h) (omega (arith, moved_same S j t)) (moved_other S j t)
              (feasible_keeps (moved S j t) f);
        }

  pub session_means : (row : List ℕ) → (is_session p w row ≡ true) ↔ Session p w row
  unfolding is_session
  session_means row =
      let is_feasible = feasible P (starts_of row) in (
        λ e.
            record {
              marks = marked_is w row (and_left (is_marked w row) is_feasible e);
              keeps =
                  (keeps_means (starts_of row)).0
                  (feasible_is P (starts_of row) (and_right (is_marked w row) is_feasible e));
            },
        λ s.
            both (marked_of w row s.marks)
            (feasible_of P (starts_of row) ((keeps_means (starts_of row)).1 s.keeps)),
      )
