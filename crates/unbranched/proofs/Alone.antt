-- The contested component with a number: those of it that are placed and not frozen, and what becomes of one that is
-- alone.
use Prim.Native.Nat.{ℕ, ◌+◌, ◌-◌, ◌^◌, ◌≤◌, ◌<◌}
use native.Mathlib.Decide.{ℕ_discrete}
use native.Mathlib.Omega.{arith}
use mathlib.Core.Bool.{Bool, true, false, not, cond, ◌&&◌}
use mathlib.Core.List.Memᴰ
use mathlib.Core.List.{List, [], Memᴰ}
use mathlib.Core.Logic.{◌≢◌, by_cases}
use mathlib.Core.Path.{◌≡◌, refl, sym, ap, ◌∙◌, subst}
use lib.Bits.{bit_and, bit_or, or_lt}
use lib.Dec.{eqb}
use lib.ListN.{length, get_or, set, length-set}
use lib.Pow.{pow-lt}
use lib.Seq.{get_or-set_same, get_or-set_other}
use borrow.Author.Tests.{eqb-true, eq-eqb, ne_eqb, not-true, not-false}
use Rattle.base.specs.Lists.{gather}
use Rattle.base.proofs.Bools.{both, and_left, and_right, cond_true, cond_false}
use Rattle.base.proofs.Lists.{gather_one}
use Rattle.plan.specs.Limits.{latest_possible}
use Rattle.sets.specs.Sets.{most, has}
use Rattle.sets.proofs.Laws.{has_and, size_without, size_le}
use Rattle.timetable.specs.Mark.{mark}
use Rattle.schedule.proofs.Load.{Has}
use Rattle.branching.proofs.Under.{Under}
use Rattle.branching.proofs.Rows.{Rows}
use Rattle.scan.specs.Scan.{Diagram, right_end, is_loose, is_direct, is_next, select}
use Rattle.scan_exact.proofs.Attached.{some_is}
use Rattle.scan_exact.proofs.Choices.{Conflict, branched}
use Rattle.instance.specs.Instance.{own_of, Instance}
use Rattle.instance.specs.Table.{acts_of, component_at, own_at, project_in}
use Rattle.instance.proofs.Components.{component_own}
use Rattle.instance.proofs.Own.{own_below}
use Rattle.profile.specs.Work.{soon_at, Timed}
use Rattle.steps.specs.Steps.{loose_in, finish_at}
use Rattle.steps.specs.declared.Line.{Line}
use Rattle.steps.proofs.Own.{component_has, component_is}
use Rattle.steps.proofs.Given.{scannable}
use Rattle.steps.proofs.Sets.{loose_of, loose_is, loose_there, loose_shown}
use Rattle.steps.proofs.Resolved.{freezes_alone}
use Rattle.unbranched.specs.Position.{Position, Leads}
use Rattle.unbranched.specs.Advance.{frozen_line}
use Rattle.unbranched.proofs.Selecting.{select_position}

-- The schedules that one choice alone leads to.
pub one_branch : (t : List ℕ) (given : Instance t) (l : Line) (w : List ℕ) (d : Diagram) (at : Position t l w d)
    (c j : ℕ)
    → has l.due c ≡ true
    → Conflict (project_in t) (own_of t) (scannable t given) d at.stands c j
    → ((k : ℕ) → Conflict (project_in t) (own_of t) (scannable t given) d at.stands c k → k ≡ j)
    → (rows : List (List ℕ))
    → Rows (project_in t) mark
    (Under (project_in t) (own_of t) (select (project_in t) (own_of t) d j).frozen
    (select (project_in t) (own_of t) d j).starts)
    rows
    → Rows (project_in t) mark (Under (project_in t) (own_of t) d.frozen d.starts) rows
one_branch t given l w d at c j due this only rows all =
    let below : ℕ → List (List ℕ) = λ k. cond (eqb k j) rows [] in
    let h : Has (project_in t) j = at.stands.inside j this.there in
    let same : gather (project_in t).size below ≡ rows =
    gather_one (project_in t).size below j h.below (λ i b ne. cond_false rows [] (ne_eqb i j ne))
    ∙ cond_true rows [] (eq-eqb j j refl) in
    subst (Rows (project_in t) mark (Under (project_in t) (own_of t) d.frozen d.starts)) same
    (branched (project_in t) (own_of t) (scannable t given) d at.stands c mark below (at.contested c due)
    (λ k x.
    let e : k ≡ j = only k x in
    rw e (rw (cond_true rows [] (eq-eqb j j refl)) all))
    (λ k row m.
    by_cases (ℕ_discrete k j) (λ e. rw e this)
    (λ ne. absurd (Memᴰ.not-nil (subst (Memᴰ row) (cond_false rows [] (ne_eqb k j ne)) m)))))

module _ (t : List ℕ) (given : Instance t) (l : Line) (w : List ℕ) (d : Diagram) (at : Position t l w d)
    (c : ℕ) (due : has l.due c ≡ true) where
  -- One of the component ends on the scan-line.
  abbrev directs : ℕ → Bool
  directs i = is_direct (project_in t) (own_of t) d i && eqb (own_of t i) c

  pub direct_one : (i : ℕ) × (has (loose_in l) i ≡ true) × (own_of t i ≡ c) × (finish_at t w i ≡ l.tick)
  unfolding project_in
  direct_one =
      let (i, b, two) = some_is (project_in t) (own_of t) directs (at.contested c due) in
      let direct : is_direct (project_in t) (own_of t) d i ≡ true =
      and_left (is_direct (project_in t) (own_of t) d i) (eqb (own_of t i) c) two in
      let loose : is_loose (project_in t) (own_of t) d i ≡ true =
      and_left (is_loose (project_in t) (own_of t) d i) (eqb (right_end (project_in t) (own_of t) d i) d.tick) direct in
      let end : right_end (project_in t) (own_of t) d i ≡ d.tick =
      eqb-true (right_end (project_in t) (own_of t) d i) d.tick
      (and_right (is_loose (project_in t) (own_of t) d i) (eqb (right_end (project_in t) (own_of t) d i) d.tick) direct) in
      let shown : has (loose_in l) i ≡ true =
      loose_there t given l w d at.shows d.tick at.stands i (and_left (d.placed i) (not (d.frozen i)) loose)
      (not-true (d.frozen i) (and_right (d.placed i) (not (d.frozen i)) loose)) in (
        i,
        shown,
        eqb-true (own_of t i) c (and_right (is_direct (project_in t) (own_of t) d i) (eqb (own_of t i) c) two),
        omega (arith, end, at.shows.loose i shown, at.shows.tick),
      )

  loose_acts : (i : ℕ) → has (loose_in l) i ≡ true → i < acts_of t
  loose_acts i y = at.sets.left i (loose_is l i y).1

  -- The number of the component is one of its activities.
  pub own_c : own_of t c ≡ c
  own_c =
      let (i, _, on, _) = direct_one in
      ap (own_of t) (sym on) ∙ component_own (project_in t) (project_in t).resources i ∙ on

  pub acts_c : c < acts_of t
  acts_c = let (i, y, on, _) = direct_one in omega (arith, own_below t given.laid i (loose_acts i y), on)

  -- Those of it that are placed and not frozen.
  pub here_of : (i : ℕ) → has (loose_in l) i ≡ true → own_of t i ≡ c
      → has (bit_and (bit_and (component_at t c) l.left) l.placed) i ≡ true
  here_of i y on =
      has_and (bit_and (component_at t c) l.left) l.placed i
      ∙ both
      (has_and (component_at t c) l.left i
      ∙ both (component_has t given.laid c i acts_c (loose_acts i y) (on ∙ sym own_c)) (loose_is l i y).1)
      (loose_is l i y).0

  pub here_is : (i : ℕ) → has (bit_and (bit_and (component_at t c) l.left) l.placed) i ≡ true
      → (has (loose_in l) i ≡ true) × (own_of t i ≡ c)
  here_is i y =
      let two : (has (bit_and (component_at t c) l.left) i && has l.placed i) ≡ true =
      sym (has_and (bit_and (component_at t c) l.left) l.placed i) ∙ y in
      let first : (has (component_at t c) i && has l.left i) ≡ true =
      sym (has_and (component_at t c) l.left i)
      ∙ and_left (has (bit_and (component_at t c) l.left) i) (has l.placed i) two in (
        loose_of l i (and_right (has (bit_and (component_at t c) l.left) i) (has l.placed i) two)
            (and_right (has (component_at t c) i) (has l.left i) first),
        component_is t given.laid c i acts_c (and_left (has (component_at t c) i) (has l.left i) first) ∙ own_c,
      )

  -- A conflict activity by what line and working array have of it.
  pub conflict_of : (j : ℕ) → has (loose_in l) j ≡ true → own_of t j ≡ c → soon_at t w j < l.tick
      → has l.passed j ≡ false
      → Conflict (project_in t) (own_of t) (scannable t given) d at.stands c j
  conflict_of j y on early z =
      let (there, waits) = loose_shown t given l w d at.shows d.tick at.stands j y in
      record {
        there = there;
        waits = waits;
        on = on;
        early = omega (arith, at.shows.loose j y, at.shows.tick, early);
        next = not-false (is_next (project_in t) (own_of t) d j) (sym (at.shows.passed j y) ∙ z);
      }

  pub conflict_is : (j : ℕ) → Conflict (project_in t) (own_of t) (scannable t given) d at.stands c j
      → (has (loose_in l) j ≡ true) × (own_of t j ≡ c) × (soon_at t w j < l.tick) × (has l.passed j ≡ false)
  conflict_is j x =
      let y : has (loose_in l) j ≡ true =
      loose_there t given l w d at.shows d.tick at.stands j x.there x.waits in (
        y,
        x.on,
        omega (arith, x.early, at.shows.loose j y, at.shows.tick),
        at.shows.passed j y ∙ ap not x.next,
      )

  -- One alone.
  module _ (least : (b : ℕ) → b < c → has l.due b ≡ false) (j : ℕ)
      (only : (i : ℕ) → has (loose_in l) i ≡ true → own_of t i ≡ c → i ≡ j) (free : has l.passed j ≡ false)
      (w' : List ℕ) (stored : w' ≡ set w j l.tick) where
    this : (has (loose_in l) j ≡ true) × (own_of t j ≡ c) × (finish_at t w j ≡ l.tick)
    this =
        let (i, y, on, end) = direct_one in
        let e : i ≡ j = only i y on in
        (rw (← e) y, rw (← e) on, rw (← e) end)

    below_j : j < most
    below_j = omega (arith, loose_acts j this.0, given.laid.acts)

    early : soon_at t w j < l.tick
    early = omega (arith, this.2, given.laid.long j (loose_acts j this.0))

    conflict : Conflict (project_in t) (own_of t) (scannable t given) d at.stands c j
    conflict = conflict_of j this.0 this.1 early free

    cell : (k : ℕ) → k ≢ j → get_or w' k 0 ≡ get_or w k 0
    cell k ne = ap (λ (x : List ℕ). get_or x k 0) stored ∙ get_or-set_other w j k l.tick 0 ne

    tick_fits : l.tick ≤ latest_possible
    tick_fits =
        omega (
          arith,
          at.bounded.tick,
          size_without most l.left j below_j (loose_is l j this.0).1,
          size_le most l.left,
        )

    timed : Timed w'
    timed =
        record {
          times =
              λ k.
              by_cases (ℕ_discrete k j)
              (λ e.
              rw e
              (omega (
                arith,
                ap (λ (x : List ℕ). get_or x j 0) stored,
                get_or-set_same w j l.tick 0 (omega (arith, below_j, at.sets.timed.size)),
                tick_fits,
              )))
              (λ ne. omega (arith, cell k ne, at.sets.timed.times k));
          size = ap length stored ∙ length-set w j l.tick ∙ at.sets.timed.size;
        }

    position : Position t (frozen_line l j c) w' (select (project_in t) (own_of t) d j)
    position =
        select_position t given l w d at j this.0 conflict.early conflict.next c this.1 due least
        l.passed (bit_or l.live (2 ^ j)) at.sets.passed_low
        (or_lt most l.live (2 ^ j) at.sets.live_low (pow-lt below_j)) w' timed
        (freezes_alone t given l w d at.shows at.stands at.sets j this.0 conflict.early conflict.next
        (l.due - 2 ^ c) (λ i y ne on. ne (only i y (on ∙ this.1))) this.2 w' stored)
        (λ i y ne.
        omega (
          arith,
          at.bounded.starts i y,
          cell (32 + i) (λ e. omega (arith, e, below_j)),
          cell (64 + own_at t i) (λ e. omega (arith, e, below_j)),
        ))
        (λ k b. omega (arith, at.bounded.frees k b, cell (64 + k) (λ e. omega (arith, e, below_j))))

    pub alone_leads : Leads t d (frozen_line l j c) w'
    alone_leads =
        record {
          to = select (project_in t) (own_of t) d j;
          position = position;
          same =
              one_branch t given l w d at c j due conflict
              (λ k x. let (y, on, _, _) = conflict_is k x in only k y on);
        }
