-- What the test says where its arguments stand for a plan and a variant: the timetable is a session of the variant.
use Prim.Native.Nat.{ℕ, ◌+◌, ◌≤◌, ◌<◌, zero-le}
use mathlib.Core.Bool.{Bool, true, not, beq, cond, ◌&&◌, and_assoc}
use mathlib.Core.Path.{◌≡◌, refl, sym, ap, ap₂, ◌∙◌}
use native.Mathlib.Omega.{arith}
use borrow.Author.Tests.{leb-true, le-leb}
use lib.Dec.{leb, ltb, eqb}
use lib.ListN.{length, get_or}
use Rattle.plan.specs.Plan.{Plan, Ranged, plan_of}
use Rattle.plan.specs.declared.Tables.{Tables}
use Rattle.sets.specs.Sets.{has}
use Rattle.term.specs.Term.{Term}
use Rattle.term.specs.Variants.{activities, member}
use Rattle.base.specs.Below.{sum_below}
use Rattle.schedule.specs.Project.{Project}
use Rattle.schedule.specs.Schedule.{Starts, end_of, load, feasible}
use Rattle.schedule.specs.Sessions.{starts_of}
use Rattle.base.proofs.Bools.{true_not_false, same_bool, both, and_left, and_right}
use Rattle.base.proofs.Below.{implies_elim, implies_intro, every_at, every_of, every_same, sum_eq}
use Rattle.schedule.proofs.Load.{Has, holds}
use Rattle.schedule.proofs.Reflect.{Feasible, feasible_is, feasible_of}
use Rattle.schedule.proofs.Growth.{starts_enough}
use Rattle.variant.specs.Project.{project_of}
use Rattle.timetable.specs.Mark.{mark, places}
use Rattle.variant.specs.Precedence.{precedes}
use Rattle.variant.specs.Timetable.{is_marked, is_session}
use Rattle.variant.specs.Tables.{OrderOf}
use Rattle.variant.proofs.Order.{precedes_members}
use Rattle.variant.proofs.Instance.{has_of, has_below}
use Rattle.variant.proofs.Tables.{resources_are, capacity_in, duration_in, units_in}
use Rattle.format.proofs.Tables.{act_count}
use Rattle.feasibility.specs.Model.{no_row, row, start, is_present, mark_right, marks_right, ends_by, ends_before}
use Rattle.feasibility.specs.Model.{after_all, order_kept, runs_at, held_at, within_at, within_all, is_right}
use Rattle.feasibility.specs.declared.Candidate.{Candidate}

module _ (s : Candidate) (ranged : Ranged s.tables.now) (w : Term)
    (held : OrderOf w s.variant.now.present s.variant.now.preds)
  where
    abbrev t : Tables
    t = s.tables.now

    abbrev p : Plan
    p = plan_of t

    abbrev Q : Project
    Q = project_of p w

    abbrev S : Starts
    S = starts_of s.starts.now

    acts_are : length p.activities ≡ t.acts
    acts_are = act_count t ranged.sized.activity

    marks_same : marks_right s ≡ is_marked w s.starts.now
    unfolding marks_right is_marked
    marks_same =
        every_same places (λ i. mark_right (is_present s i) (start s i))
        (λ i. beq (eqb (S i) mark) (not (member i (activities w))))
        (λ i l. ap (λ b. mark_right b (start s i)) (held.members i))

    -- The activities of the project are below the number of activities.
    has_acts : (i : ℕ) → Has Q i → i < t.acts
    has_acts i h = omega (arith, acts_are, has_below p w i h)

    -- Order.

    ends_same : (i j : ℕ) → i < t.acts → ends_by s i j ≡ leb (end_of Q S i) (S j)
    unfolding project_of
    ends_same i j l =
        ap (λ (d : ℕ). leb (S i + d) (S j)) (sym (duration_in t ranged.sized.activity i l no_row))

    before_same : (i j : ℕ) → j < t.acts → has (get_or s.variant.now.preds j 0) i ≡ Q.precedes i j
    unfolding project_of
    before_same i j l = held.before i j (omega (arith, t.acts_held))

    abbrev order : Bool
    order = order_kept s

    order_is : order ≡ true → (i j : ℕ) → Has Q i → Has Q j → Q.precedes i j ≡ true → end_of Q S i ≤ S j
    unfolding order_kept after_all
    order_is e i j hi hj o =
        let acts = t.acts in
        let before = get_or s.variant.now.preds j 0 in
        let all = every_at acts (λ k. after_all s k) e j (has_acts j hj) in
        leb-true (end_of Q S i) (S j)
        (sym (ends_same i j (has_acts i hi))
        ∙ implies_elim (has before i) (ends_by s i j)
        (every_at acts (λ k. ends_before s k j) all i (has_acts i hi))
        (before_same i j (has_acts j hj) ∙ o))

    order_of : ((i j : ℕ) → Has Q i → Has Q j → Q.precedes i j ≡ true → end_of Q S i ≤ S j) → order ≡ true
    unfolding order_kept after_all
    order_of f =
        every_of t.acts (λ j. after_all s j)
        (λ j lj.
        every_of t.acts (λ i. ends_before s i j)
        (λ i li.
        implies_intro (has (get_or s.variant.now.preds j 0) i) (ends_by s i j)
        (λ y.
        let o : precedes w i j ≡ true = sym (held.before i j (omega (arith, t.acts_held))) ∙ y in
        let (mi, mj) = precedes_members w i j o in
        ends_same i j li
        ∙ le-leb (end_of Q S i) (S j)
        (f i j (has_of p w i (omega (arith, acts_are)) mi) (has_of p w j (omega (arith, acts_are)) mj)
        (sym (before_same i j lj) ∙ y)))))

    -- Units.

    held_same : (tick r : ℕ) → r < t.resources
        → held_at s tick r ≡ load Q S tick r
    unfolding held_at load project_of
    held_same tick r l =
        sum_eq t.acts
        (λ i. cond (runs_at s tick i) (get_or (row s i).units r 0) 0)
        (holds Q S tick r)
        (λ i b.
        let lasts = sym (duration_in t ranged.sized.activity i b no_row) in
        let takes = sym (units_in t ranged.sized.activity i b no_row r l) in
        λ k. cond (held.members i k && leb (S i) tick && ltb tick (S i + lasts k)) (takes k) 0)
        ∙ ap (λ (n : ℕ). sum_below n (holds Q S tick r)) (sym (acts_are))

    room_same : (tick r : ℕ) → r < t.resources
        → leb (held_at s tick r) (get_or t.capacity r 0)
        ≡ leb (load Q S tick r) (Q.capacity r)
    unfolding project_of
    room_same tick r l = ap₂ leb (held_same tick r l) (sym (capacity_in t r l))

    abbrev within : ℕ → Bool
    within = within_at s

    abbrev room : Bool
    room = within_all s

    on_plan : (r : ℕ) → r < Q.resources → r < t.resources
    unfolding project_of
    on_plan r l = omega (arith, resources_are t ranged.sized.capacity)

    in_plan : (r : ℕ) → r < t.resources → r < Q.resources
    unfolding project_of
    in_plan r l = omega (arith, resources_are t ranged.sized.capacity)

    room_is : room ≡ true → (tick r : ℕ) → r < Q.resources → load Q S tick r ≤ Q.capacity r
    unfolding within_all within_at
    room_is e tick r l =
        starts_enough Q S r (Q.capacity r)
        (λ j h.
        leb-true (load Q S (S j) r) (Q.capacity r)
        (sym (room_same (S j) r (on_plan r l))
        ∙ every_at t.resources _ (every_at t.acts (λ k. within (S k)) e j (has_acts j h)) r (on_plan r l)))
        tick

    room_of : ((tick r : ℕ) → r < Q.resources → load Q S tick r ≤ Q.capacity r) → room ≡ true
    unfolding within_all within_at
    room_of f =
        every_of t.acts (λ j. within (S j))
        (λ j lj.
        every_of t.resources _
        (λ r l. room_same (S j) r l ∙ le-leb (load Q S (S j) r) (Q.capacity r) (f (S j) r (in_plan r l))))

    -- Both.

    keeps_is : (order && room) ≡ true → Feasible Q S
    unfolding project_of
    keeps_is e =
        record {
          from_floor = λ i h y. zero-le;
          as_begun = λ i h z. true_not_false refl z;
          ordered = λ i j hi hj o. omega (arith, order_is (and_left order room e) i j hi hj o);
          fits = room_is (and_right order room e);
        }

    keeps_of : Feasible Q S → (order && room) ≡ true
    unfolding project_of
    keeps_of f = both (order_of (λ i j hi hj o. omega (arith, f.ordered i j hi hj o))) (room_of f.fits)

    pub session_same : is_right s ≡ is_session p w s.starts.now
    unfolding is_session
    session_same =
        and_assoc (marks_right s) order room
        ∙ ap₂ ◌&&◌ marks_same
        (same_bool (order && room) (feasible Q S) (λ e. feasible_of Q S (keeps_is e))
        (λ e. keeps_of (feasible_is Q S e)))
