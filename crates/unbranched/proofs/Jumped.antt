-- Where nothing waits, the scan-line jumps to the first end of what is placed and not frozen: a position again, from
-- which the same schedules are reached.
use Prim.Native.Nat.{ℕ, ◌+◌, ◌≤◌}
use native.Mathlib.Omega.{arith}
use mathlib.Core.Bool.{true, false, not, cond, ◌&&◌}
use mathlib.Core.List.{List}
use mathlib.Core.Logic.{◌≢◌, ⊎_elim}
use mathlib.Core.Path.{◌≡◌, refl, sym, ap, ◌∙◌}
use lib.Dec.{leb}
use borrow.Author.Tests.{leb-true, le-leb, not-true}
use Rattle.base.proofs.Bools.{by_bool, true_not_false, both, and_left, and_right}
use Rattle.base.proofs.Below.{sum_le, cond_mono}
use Rattle.plan.specs.Limits.{longest_duration}
use Rattle.sets.specs.Sets.{most, has}
use Rattle.sets.proofs.Laws.{has_none, has_some}
use Rattle.branching.proofs.Room.{Open}
use Rattle.scan.specs.Scan.{Diagram}
use Rattle.scan.specs.Scan.{right_end, is_contested}
use Rattle.scan_exact.specs.Comes.{at_tick, jumps}
use Rattle.scan_exact.proofs.Standing.{Standing, ends_late}
use Rattle.instance.specs.Instance.{own_of, Instance}
use Rattle.instance.specs.Table.{duration_at, own_at, project_in}
use Rattle.profile.specs.Work.{end_at}
use Rattle.steps.specs.Steps.{never, Moves, running_in, waiting_in, loose_in, finish_at}
use Rattle.steps.specs.Shown.{Shows}
use Rattle.steps.specs.declared.Line.{Line}
use Rattle.steps.proofs.Given.{has_is}
use Rattle.steps.proofs.Sets.{loose_of, loose_is, loose_there, waiting_of, left_of, loose_shown}
use Rattle.steps.proofs.Moved.{finish_fits, loose_end, moved_frozen, moved_running, moved_loose}
use Rattle.steps.proofs.Moved.{due_is, shows_later}
use Rattle.unbranched.specs.Position.{bound_of, Position, is_running_on, running_on, Leads, Onward}
use Rattle.unbranched.proofs.Onward.{sets_of, beside_itself, timely_stop}

module _ (t : List ℕ) (given : Instance t) (l : Line) (w : List ℕ) (d : Diagram) (at : Position t l w d) (r : Line)
    (moves : Moves t w l never r) (resolved : l.due ≡ 0) (none : waiting_in l ≡ 0) (some : l.left ≢ 0) where
  abbrev then : Diagram
  then = at_tick d r.tick

  -- All that is left is placed.
  all_loose : (i : ℕ) → has l.left i ≡ true → has (loose_in l) i ≡ true
  all_loose i y =
      by_bool (has l.placed i) (λ there. loose_of l i there y)
      (λ z. true_not_false (waiting_of l i y z) (ap (λ (x : ℕ). has x i) none ∙ has_none i))

  open_loose : (i : ℕ) → Open (project_in t) d.frozen i → has (loose_in l) i ≡ true
  open_loose i o =
      all_loose i (left_of t given l w d at.shows d.tick at.stands i (has_is t given i o.has) o.waits)

  placed_there : (i : ℕ) → has (loose_in l) i ≡ true → (d.placed i ≡ true) × (d.frozen i ≡ false)
  placed_there = loose_shown t given l w d at.shows d.tick at.stands

  finish : (i : ℕ) → has (loose_in l) i ≡ true → d.starts i + duration_at t i ≡ finish_at t w i
  unfolding project_in
  finish = loose_end t l w d at.shows

  end_of_lem : (i : ℕ) → has (loose_in l) i ≡ true → right_end (project_in t) (own_of t) d i ≡ finish_at t w i
  end_of_lem = loose_end t l w d at.shows

  due_now : (c : ℕ) → has r.due c ≡ is_contested (project_in t) (own_of t) then c
  due_now = due_is t given l w d at.shows d.tick at.stands at.sets never r moves r.tick refl

  short : (i : ℕ) → has (loose_in l) i ≡ true → duration_at t i ≤ longest_duration
  short i y = given.laid.short i (omega (arith, at.sets.left i (loose_is l i y).1, given.laid.acts))

  -- The stop is an end of it.
  stop : (i : ℕ) × (has (loose_in l) i ≡ true) × (r.tick ≡ finish_at t w i)
  stop =
      let (k, b, y) = has_some most l.left at.sets.left_low some in
      let loose : has (loose_in l) k ≡ true = all_loose k y in
      ⊎_elim
      (λ e.
      absurd (omega (arith, e, moves.stop.least k loose, finish_fits t w k at.sets.timed (short k loose))))
      (λ x. x) moves.stop.attained

  due_some : r.due ≡ 0 → ⊥
  due_some e =
      let (i, y, end) = stop in
      true_not_false (moves.stop.due i y end) (ap (λ (x : ℕ). has x (own_at t i)) e ∙ has_none (own_at t i))

  later : d.tick ≤ r.tick
  unfolding project_in
  later =
      let (i, y, end) = stop in
      let (there, z) = placed_there i y in
      omega (arith, end, ends_late (project_in t) d d.tick at.stands i there z, finish i y)

  stands : Standing (project_in t) (at_tick d r.tick) r.tick
  unfolding project_in
  stands =
      let old = at.stands in
      record {
        node = old.node;
        inside = old.inside;
        known = old.known;
        within = old.within;
        waiting = old.waiting;
        running = λ i y l. old.running i y (omega (arith, l, later));
        before = λ i y. omega (arith, old.before i y, later);
        behind = old.behind;
        at = old.at;
        unplaced = λ i o z x room. true_not_false (placed_there i (open_loose i o)).0 z;
        late =
            λ i o x room.
            let y : has (loose_in l) i ≡ true = open_loose i o in
            omega (
              arith,
              moves.stop.least i y,
              finish i y,
              (old.at i (placed_there i y).0 o.waits).least x room,
            );
      }

  shows : Shows t r w (at_tick d r.tick)
  shows =
      shows_later t given l w d at.shows d.tick at.stands at.sets never r moves r.tick refl later

  left_same : bound_of r.left ≡ bound_of l.left
  left_same = ap bound_of moves.left

  position : Position t r w (at_tick d r.tick)
  position =
      record {
        shows = shows;
        stands = stands;
        sets =
            sets_of t given r w then shows r.tick stands at.sets.timed
            (record {
              placed = rw moves.placed at.sets.placed_low;
              left = rw moves.left at.sets.left_low;
              term = rw moves.term at.sets.term_low;
              due = moves.stop.low;
              passed = rw moves.passed at.sets.passed_low;
              live = rw moves.live at.sets.live_low;
            });
        bounded =
            record {
              ends = λ i y. omega (arith, at.bounded.ends i (sym (moved_frozen moves i) ∙ y), left_same);
              starts = λ i y. omega (arith, at.bounded.starts i (sym (moved_loose moves i) ∙ y), left_same);
              frees = λ c b. omega (arith, at.bounded.frees c b, left_same);
              tick =
                  let (i, y, end) = stop in
                  omega (arith, end, at.bounded.starts i y, short i y, left_same);
              passed = λ e. absurd (due_some e);
            };
        timely =
            timely_stop t given l r w never at.sets
            (λ i y tight. (
              at.shows.readied i y tight,
              at.timely.late i y tight (ap (λ (x : ℕ). has x (own_at t i)) resolved ∙ has_none (own_at t i)),
            ))
            moves.stop (moved_loose moves);
        contested = λ c y. sym (due_now c) ∙ y;
        comes =
            let (i, y, end) = stop in
            let (there, waits) = placed_there i y in
            jumps r.tick at.comes (λ c. ap (λ (x : ℕ). has x c) resolved ∙ has_none c)
            (λ k h.
            by_bool (d.frozen k) (at.stands.within k)
            (λ z.
            (placed_there k
            (all_loose k (left_of t given l w d at.shows d.tick at.stands k (has_is t given k h) z))).0))
            (λ k loose.
            let y : has (loose_in l) k ≡ true =
            loose_there t given l w d at.shows d.tick at.stands k
            (and_left (d.placed k) (not (d.frozen k)) loose)
            (not-true (d.frozen k) (and_right (d.placed k) (not (d.frozen k)) loose)) in
            omega (arith, moves.stop.least k y, end_of_lem k y))
            (i, at.stands.inside i there, both there (ap not waits), omega (arith, end, end_of_lem i y)) due_now;
        idle = at.idle;
      }

  pub jumped_leads : Leads t d r w
  jumped_leads = record { to = then; position = position; same = λ rows all. all }

  -- T is the same, and the tick later.
  on_less : (i : ℕ) → is_running_on w r i ≡ true → is_running_on w l i ≡ true
  on_less i y =
      let term : has r.term i ≡ has l.term i = ap (λ (x : ℕ). has x i) moves.term in
      both (sym term ∙ and_left (has r.term i) (not (has (running_in r) i && leb (end_at w i) r.tick)) y)
      (by_bool (has (running_in l) i && leb (end_at w i) l.tick)
      (λ two.
      true_not_false
      (both (moved_running moves i ∙ and_left (has (running_in l) i) (leb (end_at w i) l.tick) two)
      (le-leb (end_at w i) r.tick
      (omega (
        arith,
        leb-true (end_at w i) l.tick (and_right (has (running_in l) i) (leb (end_at w i) l.tick) two),
        later,
        at.shows.tick,
      ))))
      (not-true (has (running_in r) i && leb (end_at w i) r.tick)
      (and_right (has r.term i) (not (has (running_in r) i && leb (end_at w i) r.tick)) y)))
      (λ z. ap not z))

  pub jumped_fewer : running_on w r ≤ running_on w l
  unfolding running_on
  jumped_fewer =
      sum_le most (λ i. cond (is_running_on w r i) 1 0) (λ i. cond (is_running_on w l i) 1 0)
      (λ i b. cond_mono (is_running_on w r i) (is_running_on w l i) 1 (on_less i))

-- Whatever diagram is shown.
pub jumped : (t : List ℕ) (given : Instance t) (l : Line) (w : List ℕ) (r : Line)
    → Moves t w l never r
    → l.due ≡ 0
    → waiting_in l ≡ 0
    → l.left ≢ 0
    → (d : Diagram) → Position t l w d
    → Onward t l w w r
jumped t given l w r moves resolved none some d at =
    record {
      beside = beside_itself t l w at.sets.timed;
      left = moves.left;
      more = λ i y. ap (λ (x : ℕ). has x i) moves.placed ∙ y;
      new = λ i y z. true_not_false (sym (ap (λ (x : ℕ). has x i) moves.placed) ∙ y) z;
      leads = λ e here. jumped_leads t given l w e here r moves resolved none some;
      fewer = jumped_fewer t given l w d at r moves resolved none some;
      less = λ e. absurd (due_some t given l w d at r moves resolved none some e);
    }
