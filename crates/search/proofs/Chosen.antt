-- Line and working array with a choice taken are a position again.
use Prim.Native.Nat.{ℕ, ◌+◌, ◌-◌, ◌^◌, ◌≤◌, ◌<◌, max}
use native.Mathlib.Decide.{ℕ_discrete, dec_lt}
use native.Mathlib.Omega.{arith}
use mathlib.Core.Bool.{true, false}
use mathlib.Core.List.{List}
use mathlib.Core.Logic.{◌≢◌, ⊎_elim, inl, inr, by_cases}
use mathlib.Core.Path.{◌≡◌, refl, sym, ap, ap₂, ◌∙◌}
use lib.Dec.{ltb}
use lib.ListN.{length, get_or, set, length-set}
use lib.Seq.{get_or-set_same, get_or-set_other, set_out}
use borrow.Author.Tests.{ltb-true}
use Rattle.base.proofs.Bools.{by_bool, true_not_false, and_left}
use Rattle.plan.specs.Limits.{longest_duration, latest_possible}
use Rattle.sets.specs.Sets.{most, has}
use Rattle.sets.proofs.Laws.{has_and, size_without, size_le}
use Rattle.scan.specs.Scan.{Diagram, select}
use Rattle.scan_exact.proofs.Choices.{Conflict}
use Rattle.branching.proofs.Room.{adding, adding_other}
use Rattle.instance.specs.Instance.{own_of, is_tight, Instance}
use Rattle.instance.specs.Table.{acts_of, own_at, component_at, tight_of, project_in}
use Rattle.instance.proofs.Own.{own_is, own_below}
use Rattle.profile.specs.Work.{end_at, ready_at, free_at, soon_at, free_from, Timed}
use Rattle.steps.specs.Steps.{frozen_in, loose_in, is_shifted, finish_at, selected_line}
use Rattle.steps.specs.declared.Line.{Line}
use Rattle.steps.proofs.Given.{scannable}
use Rattle.steps.proofs.Sets.{frozen_is, loose_is, left_is}
use Rattle.steps.proofs.Selected.{frozen_now}
use Rattle.steps.proofs.Resolved.{freezes_tight, freezes_shift}
use Rattle.unbranched.specs.Position.{bound_of, Position, Beside}
use Rattle.unbranched.proofs.Selecting.{select_position}
use Rattle.unbranched.proofs.Alone.{conflict_is}
use Rattle.search.specs.Choice.{Takes, Spreads}

-- A stored cell.
set_le : (w : List ℕ) (k x c : ℕ) → get_or (set w k x) c 0 ≤ max (get_or w c 0) x
set_le w k x c =
    by_cases (ℕ_discrete c k)
    (λ e. rw e (set_at w k x))
    (λ ne. omega (arith, get_or-set_other w k c x 0 ne))
  where
    set_at : (w : List ℕ) (k x : ℕ) → get_or (set w k x) k 0 ≤ max (get_or w k 0) x
    set_at w k x =
        by_cases (dec_lt k (length w)) (λ l. omega (arith, get_or-set_same w k x 0 l))
        (λ g. rw (set_out w k x (omega (arith, g))) (omega arith))

module _ (t : List ℕ) (given : Instance t) (l : Line) (w : List ℕ) (d : Diagram) (at : Position t l w d) (c j : ℕ)
    (due : has l.due c ≡ true)
    (chosen : Conflict (project_in t) (own_of t) (scannable t given) d at.stands c j) where
  loose_j : has (loose_in l) j ≡ true
  loose_j = (conflict_is t given l w d at c due j chosen).0

  pub acts_j : j < acts_of t
  acts_j = at.sets.left j (loose_is l j loose_j).1

  below_j : j < most
  below_j = omega (arith, acts_j, given.laid.acts)

  abbrev wide : ℕ
  wide = bound_of l.left + longest_duration

  finish_wide : finish_at t w j ≤ bound_of l.left + longest_duration
  finish_wide = omega (arith, at.bounded.starts j loose_j, given.laid.short j below_j)

  pub finish_fits : finish_at t w j ≤ latest_possible
  finish_fits =
      omega (
        arith,
        finish_wide,
        size_without most l.left j below_j (loose_is l j loose_j).1,
        size_le most l.left,
      )

  -- No two of the component can run together.
  module _ (least : (b : ℕ) → b < c → has l.due b ≡ false) (tight : has (tight_of t) j ≡ true)
      (w' : List ℕ) (r : Line)
      (takes : Takes t l c j w w' r) where
    cell : (k : ℕ) → get_or w' k 0 ≤ max (get_or w k 0) (finish_at t w j)
    cell k =
        omega (
          arith,
          ap (λ (x : List ℕ). get_or x k 0) takes.stored,
          set_le (set w j (finish_at t w j)) (free_from + own_at t j) (finish_at t w j) k,
          set_le w j (finish_at t w j) k,
        )

    timed : Timed w'
    timed =
        record {
          times = λ k. omega (arith, cell k, at.sets.timed.times k, finish_fits);
          size =
              ap length takes.stored
              ∙ length-set (set w j (finish_at t w j)) (free_from + own_at t j) (finish_at t w j)
              ∙ length-set w j (finish_at t w j)
              ∙ at.sets.timed.size;
        }

    pub takes_position : Position t r w' (select (project_in t) (own_of t) d j)
    takes_position =
        rw takes.line
        (select_position t given l w d at j loose_j chosen.early chosen.next c chosen.on due least l.passed
        l.live at.sets.passed_low at.sets.live_low w' timed
        (freezes_tight t given l w d at.shows at.stands at.sets j loose_j chosen.early chosen.next
        (l.due - 2 ^ c) tight w' takes.stored)
        (λ i y ne.
        omega (arith, cell (32 + i), cell (64 + own_at t i), at.bounded.starts i y, finish_wide))
        (λ k b. omega (arith, cell (64 + k), at.bounded.frees k b, finish_wide)))

  -- The others are shifted.
  module _ (least : (b : ℕ) → b < c → has l.due b ≡ false) (roomy : has (tight_of t) j ≡ false)
      (w' : List ℕ) (r : Line)
      (spreads : Spreads t l c j w w' r) where
    abbrev w₁ : List ℕ
    w₁ = set w j (finish_at t w j)

    abbrev now : Line
    now = selected_line l j (l.due - 2 ^ c) l.passed spreads.live

    frozen_end : (k : ℕ) → has (frozen_in now) k ≡ true → end_at w₁ k ≤ wide
    frozen_end k y =
        let g : adding d.frozen j k ≡ true =
        sym
        (frozen_now t given l w d at.shows at.stands at.sets j loose_j chosen.early chosen.next
        (l.due - 2 ^ c) l.passed spreads.live k)
        ∙ y in
        by_cases (ℕ_discrete k j)
        (λ e.
        rw e
        (omega (
          arith,
          get_or-set_same w j (finish_at t w j) 0 (omega (arith, below_j, at.sets.timed.size)),
          finish_wide,
        )))
        (λ ne.
        let f : d.frozen k ≡ true = sym (adding_other d.frozen j k ne) ∙ g in
        omega (
          arith,
          get_or-set_other w j k (finish_at t w j) 0 ne,
          at.bounded.ends k (sym (at.shows.frozen k) ∙ f),
        ))

    other_cell : (k : ℕ) → k ≢ j → get_or w₁ k 0 ≡ get_or w k 0
    other_cell k ne = get_or-set_other w j k (finish_at t w j) 0 ne

    ready_wide : (i : ℕ) → has (loose_in l) i ≡ true → ready_at w' i ≤ wide
    ready_wide i y =
        let b : i < most = omega (arith, at.sets.left i (loose_is l i y).1, given.laid.acts) in
        let first : ready_at w₁ i ≡ ready_at w i = other_cell (32 + i) (λ e. omega (arith, e, below_j)) in
        by_bool (is_shifted t now j i)
        (λ s.
        let fit = spreads.shifts.fit i b s in
        by_cases (ℕ_discrete (ready_at w' i) (ready_at w₁ i))
        (λ e. omega (arith, e, first, at.bounded.starts i y))
        (λ ne.
        let (k, member, e) = fit.end ne in
        omega (
          arith,
          e,
          frozen_end k
              (and_left (has (frozen_in now) k) (has (component_at t j) k)
              (sym (has_and (frozen_in now) (component_at t j) k) ∙ member)),
        )))
        (λ z.
        omega (
          arith,
          spreads.shifts.same (32 + i)
              (λ k lk s e.
              let same : k ≡ i = omega (arith, e) in true_not_false s (ap (is_shifted t now j) same ∙ z)),
          first,
          at.bounded.starts i y,
        ))

    free_same : (k : ℕ) → free_at w' k ≡ free_at w k
    free_same k =
        spreads.shifts.same (64 + k) (λ i b s e. omega (arith, e, b))
        ∙ other_cell (64 + k) (λ e. omega (arith, e, below_j))

    pub spreads_position : Position t r w' (select (project_in t) (own_of t) d j)
    spreads_position =
        rw spreads.line
        (select_position t given l w d at j loose_j chosen.early chosen.next c chosen.on due least
        spreads.passed spreads.live spreads.shifts.low spreads.lives.low w' spreads.shifts.timed
        (freezes_shift t given l w d at.shows at.stands at.sets j loose_j chosen.early chosen.next
        (l.due - 2 ^ c) roomy w₁ w' refl spreads.passed spreads.live spreads.lives spreads.shifts)
        (λ i y ne.
        omega (arith, ready_wide i y, free_same (own_at t i), at.bounded.starts i y, finish_wide))
        (λ k b. omega (arith, free_same k, at.bounded.frees k b)))

-- What is left as it was shows the same.
unfoldable pub position_beside : (t : List ℕ) (given : Instance t) (l : Line) (w w' : List ℕ) (d : Diagram)
    → Position t l w d
    → Beside t l w w'
    → Position t l w' d
position_beside t given l w w' d at beside =
    let end : (i : ℕ) → has (frozen_in l) i ≡ true → end_at w' i ≡ end_at w i =
    λ i y.
    let (there, off) = frozen_is l i y in
    beside.ends i (omega (arith, at.sets.placed i there, given.laid.acts)) off in
    let own_low : (i : ℕ) → i < acts_of t → own_at t i < most =
    λ i b. omega (arith, own_is t given.laid i b, own_below t given.laid i b, given.laid.acts) in
    let soon : (i : ℕ) → has (loose_in l) i ≡ true → soon_at t w' i ≡ soon_at t w i =
    λ i y.
    let (there, left) = loose_is l i y in
    let b : i < acts_of t = at.sets.left i left in
    ap₂ (λ (x z : ℕ). max x z) (beside.ready i (omega (arith, b, given.laid.acts)) there)
    (beside.free (own_at t i) (own_low i b)) in
    record {
      shows =
          record {
            tick = at.shows.tick;
            placed = at.shows.placed;
            frozen = at.shows.frozen;
            term = at.shows.term;
            left = at.shows.left;
            loose = λ i y. at.shows.loose i y ∙ sym (soon i y);
            ended = λ i y. at.shows.ended i y ∙ sym (end i y);
            passed = at.shows.passed;
            passed_placed = at.shows.passed_placed;
            tight =
                λ i y tight.
                let b : i < acts_of t = at.sets.placed i (frozen_is l i y).0 in
                ⊎_elim (λ le. inl (omega (arith, le, end i y, beside.free (own_at t i) (own_low i b))))
                (λ le. inr (omega (arith, le, end i y))) (at.shows.tight i y tight);
            freed =
                λ i tight.
                let b : i < acts_of t =
                ltb-true i (acts_of t)
                (and_left (ltb i (acts_of t)) (is_tight t (own_of t i)) (sym (given.laid.tight i) ∙ tight)) in
                ⊎_elim (λ none. inl (beside.free (own_at t i) (own_low i b) ∙ none))
                (λ (k, f, own, e). inr (k, f, own, end k f ∙ e ∙ sym (beside.free (own_at t i) (own_low i b))))
                (at.shows.freed i tight);
            readied =
                λ i y tight.
                let (there, left) = loose_is l i y in
                omega (
                  arith,
                  beside.ready i (omega (arith, at.sets.left i left, given.laid.acts)) there,
                  at.shows.readied i y tight,
                );
            roomy = λ i b z. beside.free (own_at t i) (own_low i b) ∙ at.shows.roomy i b z;
            live =
                λ k y z.
                ⊎_elim (λ on. inl on)
                (λ (j, f, own, e). inr (j, f, own, omega (arith, e, end k y, end j f))) (at.shows.live k y z);
            live_frozen = at.shows.live_frozen;
          };
      stands = at.stands;
      sets =
          record {
            laid = at.sets.laid;
            timed = beside.timed;
            placed_low = at.sets.placed_low;
            left_low = at.sets.left_low;
            term_low = at.sets.term_low;
            due_low = at.sets.due_low;
            passed_low = at.sets.passed_low;
            live_low = at.sets.live_low;
            placed = at.sets.placed;
            left = at.sets.left;
            term = at.sets.term;
            ran = λ i y. omega (arith, at.sets.ran i y, end i y);
          };
      bounded =
          record {
            ends = λ i y. omega (arith, at.bounded.ends i y, end i y);
            starts = λ i y. omega (arith, at.bounded.starts i y, soon i y);
            frees = λ k b. omega (arith, at.bounded.frees k b, beside.free k b);
            tick = at.bounded.tick;
            passed = at.bounded.passed;
          };
      timely =
          record {
            early = λ i y tight due. omega (arith, soon i y, at.timely.early i y tight due);
            late = λ i y tight off. omega (arith, soon i y, at.timely.late i y tight off);
          };
      contested = at.contested;
      comes = at.comes;
      idle =
          λ i b z.
          beside.ends i b
          (by_bool (has l.left i)
          (λ y. true_not_false (left_is t given l w d at.shows d.tick at.stands i y).0 z) (λ n. n))
          ∙ at.idle i b z;
    }
