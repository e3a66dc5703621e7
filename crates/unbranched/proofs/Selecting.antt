-- An activity is selected at a position: what is shown then is a position again.
use Prim.Native.Nat.{ℕ, ◌+◌, ◌-◌, ◌^◌, ◌≤◌, ◌<◌}
use native.Mathlib.Decide.{ℕ_discrete}
use native.Mathlib.Omega.{arith}
use mathlib.Core.Bool.{Bool, true, false, not, ◌&&◌}
use mathlib.Core.List.{List}
use mathlib.Core.Logic.{◌≢◌, by_cases}
use mathlib.Core.Path.{◌≡◌, sym, ap, ◌∙◌}
use lib.Dec.{eqb}
use borrow.Author.Tests.{eqb-true, eq-eqb, lt-ltb, not-true, ne_eqb}
use Rattle.base.proofs.Bools.{true_not_false, both, and_left, and_right, by_bool}
use Rattle.plan.specs.Limits.{longest_duration}
use Rattle.sets.specs.Sets.{most, has}
use Rattle.sets.proofs.Laws.{has_without, size_without, size_le}
use Rattle.branching.proofs.Room.{adding, adding_new, adding_other}
use Rattle.scan.specs.Scan.{Diagram}
use Rattle.scan.specs.Scan.{right_end, is_loose, is_direct, is_next, is_contested, freeze, shift, select}
use Rattle.scan_exact.specs.Comes.{selects}
use Rattle.scan_exact.proofs.Standing.{Standing, ends_late}
use Rattle.scan_exact.proofs.Selected.{select_off}
use Rattle.scan_exact.proofs.Attached.{some_is, some_of}
use Rattle.instance.specs.Instance.{own_of, Instance}
use Rattle.instance.specs.Table.{acts_of, present_of, own_at, project_in}
use Rattle.instance.proofs.Own.{own_is}
use Rattle.profile.specs.Work.{end_at, free_at, soon_at, Timed}
use Rattle.steps.specs.Steps.{frozen_in, loose_in, finish_at, selected_line}
use Rattle.steps.specs.Shown.{Shows}
use Rattle.steps.specs.declared.Line.{Line}
use Rattle.steps.proofs.Given.{scannable}
use Rattle.steps.proofs.Free.{tight_after}
use Rattle.steps.proofs.Sets.{loose_is, loose_shown, left_is}
use Rattle.steps.proofs.Selected.{after, Freezes, frozen_now, loose_now, shows_select}
use Rattle.unbranched.specs.Position.{bound_of, Timely, Position}
use Rattle.unbranched.proofs.Onward.{sets_of}

-- One fewer is left.
pub bound_more : (left i : ℕ) → i < most → has left i ≡ true → bound_of (left - 2 ^ i) ≡ bound_of left + longest_duration
bound_more left i b y = omega (arith, size_without most left i b y, size_le most left)

module _ (t : List ℕ) (given : Instance t) (l : Line) (w : List ℕ) (d : Diagram) (at : Position t l w d)
    (j : ℕ) (loose_j : has (loose_in l) j ≡ true) (early : d.starts j < d.tick)
    (next : is_next (project_in t) (own_of t) d j ≡ true)
    (c : ℕ) (on : own_of t j ≡ c) (contested_c : has l.due c ≡ true)
    (least : (b : ℕ) → b < c → has l.due b ≡ false) where
  abbrev then : Diagram
  then = select (project_in t) (own_of t) d j

  there : d.placed j ≡ true
  there = (loose_shown t given l w d at.shows d.tick at.stands j loose_j).0

  waits : d.frozen j ≡ false
  waits = (loose_shown t given l w d at.shows d.tick at.stands j loose_j).1

  below_j : j < most
  below_j = omega (arith, at.sets.left j (loose_is l j loose_j).1, given.laid.acts)

  left_j : has l.left j ≡ true
  left_j = (loose_is l j loose_j).1

  -- The other components are due and contested as they were.
  still_due : (k : ℕ) → has (l.due - 2 ^ c) k ≡ true → (has l.due k ≡ true) × (k ≢ c)
  still_due k y =
      let two : (has l.due k && not (eqb k c)) ≡ true = sym (has_without l.due c k contested_c) ∙ y in (
        and_left (has l.due k) (not (eqb k c)) two,
        λ e. true_not_false (eq-eqb k c e) (not-true (eqb k c) (and_right (has l.due k) (not (eqb k c)) two)),
      )

  not_due : (k : ℕ) → has (l.due - 2 ^ c) k ≡ false → k ≢ c → has l.due k ≡ false
  not_due k z ne =
      by_bool (has l.due k)
      (λ y. true_not_false (has_without l.due c k contested_c ∙ both y (ap not (ne_eqb k c ne))) z) (λ n. n)

  abbrev directs : Diagram → ℕ → ℕ → Bool
  directs e k i = is_direct (project_in t) (own_of t) e i && eqb (own_of t i) k

  still : (k : ℕ) → k ≢ c → is_contested (project_in t) (own_of t) d k ≡ true
      → is_contested (project_in t) (own_of t) then k ≡ true
  unfolding freeze shift
  still k ne y =
      let (i, b, two) = some_is (project_in t) (own_of t) (directs d k) y in
      let same : own_of t i ≡ k =
      eqb-true (own_of t i) k (and_right (is_direct (project_in t) (own_of t) d i) (eqb (own_of t i) k) two) in
      let off : own_of t i ≢ own_of t j = λ e. ne (sym same ∙ e ∙ on) in
      let starts : then.starts i ≡ d.starts i =
      select_off (project_in t) (own_of t) (scannable t given) d at.stands j there waits early i off in
      let frozen : adding d.frozen j i ≡ d.frozen i =
      adding_other d.frozen j i (λ e. off (ap (own_of t) e)) in
      let direct : is_direct (project_in t) (own_of t) d i ≡ true =
      and_left (is_direct (project_in t) (own_of t) d i) (eqb (own_of t i) k) two in
      let loose : is_loose (project_in t) (own_of t) d i ≡ true =
      and_left (is_loose (project_in t) (own_of t) d i) (eqb (right_end (project_in t) (own_of t) d i) d.tick) direct in
      let end : right_end (project_in t) (own_of t) d i ≡ d.tick =
      eqb-true (right_end (project_in t) (own_of t) d i) d.tick
      (and_right (is_loose (project_in t) (own_of t) d i) (eqb (right_end (project_in t) (own_of t) d i) d.tick) direct) in
      some_of (project_in t) (own_of t) (directs then k) i b
      (both
      (both
      (both (and_left (d.placed i) (not (d.frozen i)) loose)
      (ap not frozen ∙ and_right (d.placed i) (not (d.frozen i)) loose))
      (eq-eqb (right_end (project_in t) (own_of t) then i) then.tick (omega (arith, starts, end))))
      (eq-eqb (own_of t i) k same))

  module _ (passed live : ℕ) (passed_low : passed < 2 ^ most) (live_low : live < 2 ^ most) (w' : List ℕ)
      (timed : Timed w')
      (freezes : Freezes t given l w d at.shows at.stands at.sets j loose_j early next (l.due - 2 ^ c) passed
      live w')
      (soons : (i : ℕ) → has (loose_in l) i ≡ true → i ≢ j → soon_at t w' i ≤ bound_of l.left + longest_duration)
      (frees : (k : ℕ) → k < most → free_at w' k ≤ bound_of l.left + longest_duration) where
    abbrev now : Line
    now = selected_line l j (l.due - 2 ^ c) passed live

    wider : bound_of now.left ≡ bound_of l.left + longest_duration
    wider = bound_more l.left j below_j left_j

    finish_bound : finish_at t w j ≤ bound_of l.left + longest_duration
    finish_bound =
        omega (arith, at.bounded.starts j loose_j, given.laid.short j below_j)

    pub stands_now : Standing (project_in t) (select (project_in t) (own_of t) d j)
        (select (project_in t) (own_of t) d j).tick
    stands_now = after t given l w d at.shows at.stands at.sets j loose_j early next

    shows_now : Shows t now w' then
    shows_now =
        shows_select t given l w d at.shows at.stands at.sets j loose_j early next (l.due - 2 ^ c) passed live
        w' freezes

    ends_now : (i : ℕ) → has (frozen_in now) i ≡ true → end_at w' i ≤ bound_of now.left
    ends_now i y =
        let g : adding d.frozen j i ≡ true =
        sym
        (frozen_now t given l w d at.shows at.stands at.sets j loose_j early next (l.due - 2 ^ c) passed live
        i)
        ∙ y in
        by_cases (ℕ_discrete i j)
        (λ e. omega (arith, ap (end_at w') e, freezes.end, finish_bound, wider))
        (λ ne.
        let f : d.frozen i ≡ true = sym (adding_other d.frozen j i ne) ∙ g in
        let b : i < most = omega (arith, acts_of_lem i f, given.laid.acts) in
        omega (arith, freezes.ends i b ne, at.bounded.ends i (sym (at.shows.frozen i) ∙ f), wider))
      where
        acts_of_lem : (i : ℕ) → d.frozen i ≡ true → i < acts_of t
        acts_of_lem i f = at.sets.placed i (sym (at.shows.placed i) ∙ at.stands.within i f)

    -- Elsewhere all starts where it did; what is shifted comes after j, which ends on the scan-line or behind it.
    starts_off : (i : ℕ) → has (loose_in l) i ≡ true → i ≢ j → own_of t i ≢ own_of t j → soon_at t w' i ≡ soon_at t w i
    starts_off i y ne off =
        sym (freezes.loose i y ne)
        ∙ select_off (project_in t) (own_of t) (scannable t given) d at.stands j there waits early i off
        ∙ at.shows.loose i y

    finish_late : l.tick ≤ finish_at t w j
    unfolding project_in
    finish_late =
        omega (
          arith,
          ends_late (project_in t) d d.tick at.stands j there waits,
          at.shows.loose j loose_j,
          at.shows.tick,
        )

    timely_now : Timely t now w'
    timely_now =
        let old = loose_now t given l w d at.shows at.stands at.sets j loose_j early next (l.due - 2 ^ c)
        passed live in
        let acts : (i : ℕ) → has (loose_in l) i ≡ true → i < acts_of t = λ i y. at.sets.left i (loose_is l i y).1 in
        let own : (i : ℕ) → has (loose_in l) i ≡ true → own_at t i ≡ own_of t i =
        λ i y. own_is t given.laid i (acts i y) in
        record {
          early =
              λ i y tight due.
              let (loose, ne) = old i y in
              let (was, apart) = still_due (own_at t i) due in
              omega (
                arith,
                starts_off i loose ne (λ e. apart (own i loose ∙ e ∙ on)),
                at.timely.early i loose tight was,
              );
          late =
              λ i y tight due.
              let (loose, ne) = old i y in
              by_cases (ℕ_discrete (own_of t i) (own_of t j))
              (λ e.
              let (placed, loose_i) = loose_shown t given now w' then shows_now then.tick stands_now i y in
              let f : has (frozen_in now) j ≡ true =
              frozen_now t given l w d at.shows at.stands at.sets j loose_j early next (l.due - 2 ^ c) passed
              live j
              ∙ adding_new d.frozen j in
              omega (
                arith,
                tight_after t given then then.tick stands_now i placed loose_i tight j (shows_now.frozen j ∙ f)
                    (sym e),
                shows_now.ended j f,
                freezes.end,
                freezes.loose i loose ne,
                finish_late,
                given.laid.long i (acts i loose),
              ))
              (λ off.
              omega (
                arith,
                starts_off i loose ne off,
                at.timely.late i loose tight (not_due (own_at t i) due (λ e. off (sym (own i loose) ∙ e ∙ sym on))),
              ));
        }

    pub select_position : Position t (selected_line l j (l.due - 2 ^ c) passed live) w'
        (select (project_in t) (own_of t) d j)
    select_position =
        record {
          shows = shows_now;
          stands = stands_now;
          sets =
              sets_of t given now w' then shows_now then.tick stands_now timed
              (record {
                placed = at.sets.placed_low;
                left = omega (arith, at.sets.left_low);
                term = at.sets.term_low;
                due = omega (arith, at.sets.due_low);
                passed = passed_low;
                live = live_low;
              });
          bounded =
              record {
                ends = ends_now;
                starts =
                    λ i y.
                    let (old, ne) =
                    loose_now t given l w d at.shows at.stands at.sets j loose_j early next (l.due - 2 ^ c)
                    passed live i y in
                    omega (arith, soons i old ne, wider);
                frees = λ k b. omega (arith, frees k b, wider);
                tick = omega (arith, at.bounded.tick, wider);
                passed = λ e. omega (arith, at.bounded.tick, wider);
              };
          timely = timely_now;
          contested =
              λ k y.
              let (was, apart) = still_due k y in still k apart (at.contested k was);
          comes =
              selects c j at.comes contested_c least
              (both (both (both (both there (ap not waits)) (eq-eqb (own_of t j) c on))
              (lt-ltb (d.starts j) d.tick early)) next)
              (λ b. has_without l.due c b contested_c);
          idle =
              λ i b z.
              freezes.ends i b
              (λ e.
              true_not_false (left_is t given l w d at.shows d.tick at.stands j left_j).0
              (sym (ap (has (present_of t)) e) ∙ z))
              ∙ at.idle i b z;
        }
