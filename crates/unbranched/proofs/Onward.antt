-- Steps 4, 5 and 2, one after the other, lead from a position to another from which the same schedules are reached.
use Prim.Native.Nat.{ℕ, suc, ◌+◌, ◌^◌, ◌≤◌, ◌<◌}
use native.Mathlib.Decide.{ℕ_discrete}
use native.Mathlib.Omega.{arith}
use mathlib.Core.Bool.{Bool, true, false, not, cond, ◌&&◌, and-false}
use mathlib.Core.List.{List}
use mathlib.Core.Logic.{◌≢◌, inl, inr, ⊎_elim, by_cases}
use mathlib.Core.Path.{◌≡◌, refl, sym, ap, ◌∙◌, subst}
use lib.Dec.{leb}
use borrow.Author.Tests.{le-leb}
use Rattle.base.specs.Below.{◌implies◌}
use Rattle.base.proofs.Bools.{by_bool, true_not_false, both, and_left, cond_true, cond_false}
use Rattle.base.proofs.Below.{every_at, implies_elim, sum_le, sum_le_but, cond_mono}
use Rattle.plan.specs.Limits.{longest_duration}
use Rattle.sets.specs.Sets.{most, has}
use Rattle.sets.proofs.Laws.{has_none, has_some}
use Rattle.timetable.specs.Mark.{mark}
use Rattle.schedule.proofs.Load.{Has}
use Rattle.branching.proofs.Under.{Under}
use Rattle.branching.proofs.Rows.{Rows}
use Rattle.scan.specs.Scan.{Diagram, is_contested, is_complete, move, delete, attach}
use Rattle.scan_exact.specs.Comes.{moves as moves-on}
use Rattle.scan_exact.proofs.Standing.{Standing}
use Rattle.scan_exact.proofs.Attached.{Gone, delete_standing, delete_gone, attach_standing, attach_gone, attach_rows}
use Rattle.scan_exact.proofs.Moved.{move_standing}
use Rattle.instance.specs.Instance.{own_of, Instance}
use Rattle.instance.specs.Table.{own_at, project_in, acts_of, tight_of}
use Rattle.profile.specs.Work.{end_at, soon_at, Timed, ready_at, free_at}
use Rattle.steps.specs.Steps.{Sets, Runs, FirstEnd, Deletes, Attaches, Moves, frozen_in, running_in, loose_in, can_start}
use Rattle.steps.specs.Steps.{finish_at, deleted_line, attached_line, FirstStop}
use Rattle.instance.proofs.Own.{own_is}
use Rattle.steps.specs.Shown.{Shows}
use Rattle.steps.specs.declared.Line.{Line}
use Rattle.steps.proofs.Given.{has_of, scannable, ranked}
use Rattle.steps.proofs.Own.{tight_with}
use Rattle.steps.proofs.Sets.{frozen_is, loose_is, running_is, running_frozen, left_is, waiting_is}
use Rattle.steps.proofs.Deleted.{shows_delete}
use Rattle.steps.proofs.Attached.{shows_attach, starts_waiting, starts_below, frozen_same, by_loose, loose_not}
use Rattle.steps.proofs.Attached.{by_placed, placed_more, ends_same, free_same, ready_same, free_below}
use Rattle.steps.proofs.Moved.{moved_frozen, moved_running, moved_loose, shows_move, due_move, tick_fits}
use Rattle.unbranched.specs.Position.{bound_of, Bounded, Position, Beside, is_running_on, running_on, Leads, Onward}
use Rattle.unbranched.specs.Position.{Timely}

-- The sets of a line that shows a diagram.
pub record Low (l : Line) : Type 0 where
  pub placed : l.placed < 2 ^ most
  pub left : l.left < 2 ^ most
  pub term : l.term < 2 ^ most
  pub due : l.due < 2 ^ most
  pub passed : l.passed < 2 ^ most
  pub live : l.live < 2 ^ most

pub sets_of : (t : List ℕ) (given : Instance t) (l : Line) (w : List ℕ) (d : Diagram) (shows : Shows t l w d) (line : ℕ)
    → Standing (project_in t) d line
    → Timed w
    → Low l
    → Sets t w l
unfolding project_in
sets_of t given l w d shows line standing timed low =
    record {
      laid = given.laid;
      timed = timed;
      placed_low = low.placed;
      left_low = low.left;
      term_low = low.term;
      due_low = low.due;
      passed_low = low.passed;
      live_low = low.live;
      placed = λ i y. (standing.inside i (shows.placed i ∙ y)).below;
      left = λ i y. given.present i (left_is t given l w d shows line standing i y).0;
      term =
          λ i y.
          sym (shows.placed i) ∙ standing.within i (running_frozen t given l w d shows line standing i y);
      ran = λ i y. omega (arith, shows.ended i y);
    }

-- The working array as it was.
pub beside_itself : (t : List ℕ) (l : Line) (w : List ℕ) → Timed w → Beside t l w w
beside_itself t l w timed =
    record { timed = timed; ends = λ i b z. refl; ready = λ i b y. refl; free = λ c b. refl }

-- What is left is not complete.
rest_of : (t : List ℕ) (given : Instance t) (l : Line) (w : List ℕ) (d : Diagram) (shows : Shows t l w d) (line : ℕ)
    → Standing (project_in t) d line
    → (i : ℕ)
    → has l.left i ≡ true
    → is_complete (project_in t) (own_of t) d ≡ false
rest_of t given l w d shows line standing i y =
    let (there, z) = left_is t given l w d shows line standing i y in
    let h : Has (project_in t) i = has_of t given i there in
    by_bool (is_complete (project_in t) (own_of t) d)
    (λ all.
    true_not_false
    (implies_elim (d.term i) (d.frozen i)
    (every_at (project_in t).size (λ k. d.term k implies d.frozen k) all i h.below) (standing.waiting i h z))
    z)
    (λ n. n)

-- At the first stop of what is placed and not frozen, where nothing of a component in which no two can run together has
-- ended before.
pub timely_stop : (t : List ℕ) (given : Instance t) (l r : Line) (w : List ℕ) (first : ℕ)
    → Sets t w l
    → ((i : ℕ) → has (loose_in l) i ≡ true → has (tight_of t) i ≡ true
    → (ready_at w i ≤ l.tick) × (l.tick < finish_at t w i))
    → FirstStop t w (loose_in l) first (record { tick = r.tick; due = r.due })
    → ((i : ℕ) → has (loose_in r) i ≡ has (loose_in l) i)
    → Timely t r w
timely_stop t given l r w first sets before stop same =
    let acts : (i : ℕ) → has (loose_in l) i ≡ true → i < acts_of t = λ i y. sets.left i (loose_is l i y).1 in
    record {
      early =
          λ i y tight due.
          let here : has (loose_in l) i ≡ true = sym (same i) ∙ y in
          let (k, there, end, own) = stop.only (own_at t i) due in
          let on : own_of t k ≡ own_of t i =
          sym (own_is t given.laid k (acts k there)) ∙ own ∙ own_is t given.laid i (acts i here) in
          omega (
            arith,
            end,
            ap (free_at w) own,
            (before i here tight).0,
            (before k there (tight_with t given.laid i k (acts i here) (acts k there) on tight)).1,
            given.laid.long k (acts k there),
          );
      late =
          λ i y tight off.
          let here : has (loose_in l) i ≡ true = sym (same i) ∙ y in
          by_cases (ℕ_discrete r.tick (finish_at t w i)) (λ e. true_not_false (stop.due i here e) off)
          (λ ne. omega (arith, ne, stop.least i here));
    }

module _ (t : List ℕ) (given : Instance t) (l : Line) (w : List ℕ) (d : Diagram) (at : Position t l w d) (term : ℕ)
    (deletes : Deletes w l term) where
  abbrev first : Line
  first = deleted_line l term

  abbrev p₁ : Diagram
  p₁ = delete (project_in t) (own_of t) d

  stands₁ : Standing (project_in t) p₁ p₁.tick
  stands₁ = delete_standing (project_in t) (own_of t) (scannable t given) d at.stands

  gone₁ : Gone (project_in t) p₁
  gone₁ = delete_gone (project_in t) (own_of t) (scannable t given) d at.stands

  shows₁ : Shows t first w p₁
  shows₁ = shows_delete t given l w d at.shows d.tick at.stands at.sets term deletes

  pub sets₁ : Sets t w (deleted_line l term)
  sets₁ =
      sets_of t given first w p₁ shows₁ p₁.tick stands₁ at.sets.timed
      (record {
        placed = at.sets.placed_low;
        left = at.sets.left_low;
        term = deletes.low;
        due = at.sets.due_low;
        passed = at.sets.passed_low;
        live = at.sets.live_low;
      })

  pub runs₁ : Runs t w (deleted_line l term)
  unfolding project_in
  runs₁ =
      record {
        runs =
            λ i y.
            let f : p₁.frozen i ≡ true = running_frozen t given first w p₁ shows₁ p₁.tick stands₁ i y in
            let end = shows₁.ended i (sym (shows₁.frozen i) ∙ f) in (
              omega (arith, stands₁.before i f, shows₁.tick, end),
              omega (arith, gone₁ i f (shows₁.term i ∙ (running_is first i y).0), shows₁.tick, end),
            );
      }

  module _ (w' : List ℕ) (placed : ℕ) (attaches : Attaches t (deleted_line l term) w w' placed) where
    abbrev second : Line
    second = attached_line (deleted_line l term) placed

    abbrev p₂ : Diagram
    p₂ = attach (project_in t) (own_of t) p₁

    same_tick : p₁.tick ≡ p₂.tick
    unfolding attach
    same_tick = refl

    stands₂ : Standing (project_in t) p₂ (suc p₂.tick)
    stands₂ =
        subst (λ (x : ℕ). Standing (project_in t) p₂ (suc x)) same_tick
        (attach_standing (project_in t) (own_of t) (scannable t given) p₁ stands₁ gone₁)

    gone₂ : Gone (project_in t) p₂
    gone₂ = attach_gone (project_in t) (own_of t) (scannable t given) p₁ stands₁ gone₁

    shows₂ : Shows t second w' p₂
    shows₂ = shows_attach t given first w p₁ shows₁ stands₁ gone₁ sets₁ w' placed attaches

    pub sets₂ : Sets t w' (attached_line (deleted_line l term) placed)
    sets₂ =
        sets_of t given second w' p₂ shows₂ (suc p₂.tick) stands₂ attaches.timed
        (record {
          placed = attaches.low;
          left = at.sets.left_low;
          term = deletes.low;
          due = at.sets.due_low;
          passed = at.sets.passed_low;
          live = at.sets.live_low;
        })

    module _ (end : ℕ) (ends : FirstEnd w (running_in (deleted_line l term)) end) (r : Line)
        (moves : Moves t w' (attached_line (deleted_line l term) placed) end r) (resolved : l.due ≡ 0)
        (some : l.left ≢ 0) where
      abbrev p₃ : Diagram
      p₃ = move (project_in t) (own_of t) p₂

      one_left : (i : ℕ) × (i < most) × (has l.left i ≡ true)
      one_left = has_some most l.left at.sets.left_low some

      rest : is_complete (project_in t) (own_of t) p₂ ≡ false
      rest = rest_of t given second w' p₂ shows₂ (suc p₂.tick) stands₂ one_left.0 one_left.2

      stands₃ : Standing (project_in t) p₃ p₃.tick
      stands₃ =
          move_standing (project_in t) (own_of t) (scannable t given) given.rank (ranked t given) p₂ stands₂ gone₂ rest

      -- What is in T has the ends that it had.
      running_same : (i : ℕ) → has (running_in second) i ≡ true → end_at w' i ≡ end_at w i
      running_same i y =
          ends_same t given first w p₁ shows₁ stands₁ gone₁ sets₁ w' placed attaches i
          (omega (arith, sets₁.placed i (sets₁.term i y), given.laid.acts))

      ends₂ : FirstEnd w' (running_in second) end
      ends₂ =
          record {
            least = λ i y. omega (arith, ends.least i y, running_same i y);
            attained = ⊎_elim (λ none. inl none) (λ (i, y, e). inr (i, y, e ∙ sym (running_same i y))) ends.attained;
          }

      shows₃ : Shows t r w' p₃
      shows₃ = shows_move t given second w' p₂ shows₂ stands₂ gone₂ sets₂ rest end ends₂ r moves

      fits₃ : r.tick < 4294967295
      fits₃ = tick_fits t given second w' p₂ shows₂ stands₂ gone₂ sets₂ rest end ends₂ r moves

      sets₃ : Sets t w' r
      sets₃ =
          sets_of t given r w' p₃ shows₃ p₃.tick stands₃ attaches.timed
          (record {
            placed = rw moves.placed attaches.low;
            left = rw moves.left at.sets.left_low;
            term = rw moves.term deletes.low;
            due = moves.stop.low;
            passed = rw moves.passed at.sets.passed_low;
            live = rw moves.live at.sets.live_low;
          })

      -- Bounds.
      abbrev bound : ℕ
      bound = bound_of l.left

      tick_bound : l.tick ≤ bound
      tick_bound = at.bounded.passed resolved

      loose_bound : (i : ℕ) → has (loose_in second) i ≡ true → soon_at t w' i ≤ bound
      loose_bound i y =
          by_loose t given first w p₁ shows₁ stands₁ gone₁ sets₁ w' placed attaches i y
          (λ old.
          omega (
            arith,
            at.bounded.starts i old,
            ready_same t given first w p₁ shows₁ stands₁ gone₁ sets₁ w' placed attaches i
                (loose_not t given first w p₁ shows₁ stands₁ gone₁ sets₁ w' placed attaches i old),
            free_same t given first w p₁ shows₁ stands₁ gone₁ sets₁ w' placed attaches (own_at t i),
          ))
          (λ new.
          omega (
            arith,
            attaches.start i (starts_below t given first w p₁ shows₁ stands₁ gone₁ sets₁ i new) new,
            free_same t given first w p₁ shows₁ stands₁ gone₁ sets₁ w' placed attaches (own_at t i),
            free_below t given first w p₁ shows₁ stands₁ gone₁ sets₁ w' placed attaches i new,
            tick_bound,
          ))

      end_bound : (i : ℕ) → has (frozen_in second) i ≡ true → end_at w' i ≤ bound
      end_bound i y =
          let old : has (frozen_in l) i ≡ true =
          sym (frozen_same t given first w p₁ shows₁ stands₁ gone₁ sets₁ w' placed attaches i) ∙ y in
          let b : i < most = omega (arith, at.sets.placed i (frozen_is l i old).0, given.laid.acts) in
          omega (
            arith,
            at.bounded.ends i old,
            ends_same t given first w p₁ shows₁ stands₁ gone₁ sets₁ w' placed attaches i b,
          )

      running_bound : (i : ℕ) → has (running_in second) i ≡ true → end_at w' i ≤ bound
      running_bound i y =
          end_bound i
          (sym (shows₂.frozen i) ∙ running_frozen t given second w' p₂ shows₂ (suc p₂.tick) stands₂ i y)

      loose_end : (i : ℕ) → has (loose_in second) i ≡ true → finish_at t w' i ≤ bound + longest_duration
      loose_end i y =
          omega (
            arith,
            loose_bound i y,
            given.laid.short i (omega (arith, sets₂.left i (loose_is second i y).1, given.laid.acts)),
          )

      -- The stop is the end of something.
      by_stop : {C : Type 0}
          → ((i : ℕ) → has (running_in second) i ≡ true → r.tick ≡ end_at w' i → C)
          → ((i : ℕ) → has (loose_in second) i ≡ true → r.tick ≡ finish_at t w' i → C)
          → C
      by_stop run loose =
          ⊎_elim
          (λ e.
          ⊎_elim (λ none. absurd (omega (arith, fits₃, e, none))) (λ (i, y, at-end). run i y (e ∙ at-end))
          ends₂.attained)
          (λ (i, y, at-end). loose i y at-end) moves.stop.attained

      due_none : r.due ≡ 0 → (i : ℕ) → has (loose_in second) i ≡ true → r.tick ≡ finish_at t w' i → ⊥
      due_none e i y end =
          true_not_false (moves.stop.due i y end) (ap (λ (x : ℕ). has x (own_at t i)) e ∙ has_none (own_at t i))

      left_same : bound_of r.left ≡ bound
      left_same = ap bound_of moves.left

      bounded₃ : Bounded t r w'
      bounded₃ =
          record {
            ends = λ i y. omega (arith, end_bound i (sym (moved_frozen moves i) ∙ y), left_same);
            starts = λ i y. omega (arith, loose_bound i (sym (moved_loose moves i) ∙ y), left_same);
            frees =
                λ c b.
                omega (
                  arith,
                  at.bounded.frees c b,
                  free_same t given first w p₁ shows₁ stands₁ gone₁ sets₁ w' placed attaches c,
                  left_same,
                );
            tick =
                by_stop (λ i y e. omega (arith, e, running_bound i y, left_same))
                (λ i y e. omega (arith, e, loose_end i y, left_same));
            passed =
                λ none.
                by_stop (λ i y e. omega (arith, e, running_bound i y, left_same))
                (λ i y e. absurd (due_none none i y e));
          }

      due_now : (c : ℕ) → has r.due c ≡ is_contested (project_in t) (own_of t) p₃ c
      due_now = due_move t given second w' p₂ shows₂ stands₂ gone₂ sets₂ rest end ends₂ r moves

      -- What was placed ends behind the tick, since no component was due, and what is new starts there.
      late₂ : (i : ℕ) → has (loose_in second) i ≡ true → has (tight_of t) i ≡ true → l.tick < finish_at t w' i
      late₂ i y tight =
          by_loose t given first w p₁ shows₁ stands₁ gone₁ sets₁ w' placed attaches i y
          (λ old.
          omega (
            arith,
            at.timely.late i old tight (ap (λ (x : ℕ). has x (own_at t i)) resolved ∙ has_none (own_at t i)),
            ready_same t given first w p₁ shows₁ stands₁ gone₁ sets₁ w' placed attaches i
                (loose_not t given first w p₁ shows₁ stands₁ gone₁ sets₁ w' placed attaches i old),
            free_same t given first w p₁ shows₁ stands₁ gone₁ sets₁ w' placed attaches (own_at t i),
          ))
          (λ new.
          omega (
            arith,
            attaches.start i (starts_below t given first w p₁ shows₁ stands₁ gone₁ sets₁ i new) new,
            given.laid.long i (sets₂.left i (loose_is second i y).1),
          ))

      position₃ : Position t r w' p₃
      position₃ =
          record {
            shows = shows₃;
            stands = stands₃;
            sets = sets₃;
            bounded = bounded₃;
            timely =
                timely_stop t given second r w' end sets₂
                (λ i y tight. (shows₂.readied i y tight, late₂ i y tight)) moves.stop (moved_loose moves);
            contested = λ c y. sym (due_now c) ∙ y;
            comes = moves-on at.comes (λ c. ap (λ (x : ℕ). has x c) resolved ∙ has_none c) due_now;
            idle =
                λ i b z.
                ends_same t given first w p₁ shows₁ stands₁ gone₁ sets₁ w' placed attaches i b ∙ at.idle i b z;
          }

      rows₃ : (rows : List (List ℕ))
          → Rows (project_in t) mark (Under (project_in t) (own_of t) p₃.frozen p₃.starts) rows
          → Rows (project_in t) mark (Under (project_in t) (own_of t) d.frozen d.starts) rows
      unfolding move delete
      rows₃ rows all =
          attach_rows (project_in t) (own_of t) (scannable t given) p₁ stands₁ gone₁ mark rows all

      leads₃ : Leads t d r w'
      leads₃ = record { to = p₃; position = position₃; same = rows₃ }

      -- What is in T and has not ended.
      term_now : (i : ℕ) → has r.term i ≡ has term i
      term_now i = ap (λ (x : ℕ). has x i) moves.term

      on_less : (i : ℕ) → i < most → is_running_on w' r i ≡ true → is_running_on w l i ≡ true
      on_less i b y =
          sym (deletes.kept i b) ∙ sym (term_now i)
          ∙ and_left (has r.term i) (not (has (running_in r) i && leb (end_at w' i) r.tick)) y

      fewer₃ : running_on w' r ≤ running_on w l
      unfolding running_on
      fewer₃ =
          sum_le most (λ i. cond (is_running_on w' r i) 1 0) (λ i. cond (is_running_on w l i) 1 0)
          (λ i b. cond_mono (is_running_on w' r i) (is_running_on w l i) 1 (on_less i b))

      less₃ : r.due ≡ 0 → running_on w' r < running_on w l
      unfolding running_on
      less₃ none =
          by_stop
          (λ i y e.
          let one : ℕ = 1 in
          let f : p₂.frozen i ≡ true = running_frozen t given second w' p₂ shows₂ (suc p₂.tick) stands₂ i y in
          let b : i < most =
          omega (arith, sets₂.placed i (frozen_is second i (sym (shows₂.frozen i) ∙ f)).0, given.laid.acts) in
          let run : has (running_in r) i ≡ true = moved_running moves i ∙ y in
          let gone : is_running_on w' r i ≡ false =
          ap (λ (x : Bool). has r.term i && not x) (both run (le-leb (end_at w' i) r.tick (omega (arith, e))))
          ∙ and-false (has r.term i) in
          let was : is_running_on w l i ≡ true = sym (deletes.kept i b) ∙ (running_is second i y).0 in
          omega (
            arith,
            sum_le_but most (λ k. cond (is_running_on w' r k) 1 0) (λ k. cond (is_running_on w l k) 1 0) i 1 0 b
                (λ k bk ne. cond_mono (is_running_on w' r k) (is_running_on w l k) 1 (on_less k bk))
                (omega (arith, cond_false one 0 gone, cond_true one 0 was)),
          ))
          (λ i y e. absurd (due_none none i y e))

      beside₃ : Beside t l w w'
      beside₃ =
          record {
            timed = attaches.timed;
            ends = λ i b z. ends_same t given first w p₁ shows₁ stands₁ gone₁ sets₁ w' placed attaches i b;
            ready =
                λ i b y.
                ready_same t given first w p₁ shows₁ stands₁ gone₁ sets₁ w' placed attaches i
                (by_bool (can_start t w first i)
                (λ s.
                true_not_false y
                (waiting_is first i (starts_waiting t given first w p₁ shows₁ stands₁ gone₁ sets₁ i s)).1)
                (λ z. z));
            free = λ c b. free_same t given first w p₁ shows₁ stands₁ gone₁ sets₁ w' placed attaches c;
          }

      more₃ : (i : ℕ) → has l.placed i ≡ true → has r.placed i ≡ true
      more₃ i y =
          ap (λ (x : ℕ). has x i) moves.placed
          ∙ placed_more t given first w p₁ shows₁ stands₁ gone₁ sets₁ w' placed attaches i y

      new₃ : (i : ℕ) → has r.placed i ≡ true → has l.placed i ≡ false → has l.left i ≡ true
      new₃ i y z =
          by_placed t given first w p₁ shows₁ stands₁ gone₁ sets₁ w' placed attaches i
          (ap (λ (x : ℕ). has x i) (sym moves.placed) ∙ y) (λ old. true_not_false old z)
          (λ new. (waiting_is first i (starts_waiting t given first w p₁ shows₁ stands₁ gone₁ sets₁ i new)).0)

-- Whatever diagram is shown.
pub onward : (t : List ℕ) (given : Instance t) (l : Line) (w w' : List ℕ) (term placed end : ℕ) (r : Line)
    → l.due ≡ 0
    → l.left ≢ 0
    → Deletes w l term
    → FirstEnd w (running_in (deleted_line l term)) end
    → Attaches t (deleted_line l term) w w' placed
    → Moves t w' (attached_line (deleted_line l term) placed) end r
    → (d : Diagram) → Position t l w d
    → Onward t l w w' r
onward t given l w w' term placed end r resolved some deletes ends attaches moves d at =
    record {
      beside = beside₃ t given l w d at term deletes w' placed attaches end ends r moves resolved some;
      left = moves.left;
      more = more₃ t given l w d at term deletes w' placed attaches end ends r moves resolved some;
      new = new₃ t given l w d at term deletes w' placed attaches end ends r moves resolved some;
      leads = λ e here. leads₃ t given l w e here term deletes w' placed attaches end ends r moves resolved some;
      fewer = fewer₃ t given l w d at term deletes w' placed attaches end ends r moves resolved some;
      less = less₃ t given l w d at term deletes w' placed attaches end ends r moves resolved some;
    }
