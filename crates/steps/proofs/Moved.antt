-- Step 2 of the code is that of the scan.
use Prim.Native.Nat.{ℕ, suc, ◌+◌, ◌≤◌, ◌<◌}
use native.Mathlib.Decide.{dec_le}
use native.Mathlib.Nat.{le_antisymm}
use native.Mathlib.Omega.{arith}
use mathlib.Core.Bool.{Bool, true, false, not, ◌&&◌}
use mathlib.Core.List.{List}
use mathlib.Core.Logic.{⊎_elim, inl, inr, by_cases}
use mathlib.Core.Path.{◌≡◌, sym, ap, ap₂, ◌∙◌}
use lib.Bits.{bit_and, bit_xor}
use lib.Dec.{eqb}
use borrow.Author.Tests.{eqb-true, eq-eqb, not-true}
use Rattle.base.proofs.Bools.{by_bool, true_not_false, both, and_left, and_right}
use Rattle.plan.specs.Limits.{longest_duration}
use Rattle.sets.specs.Sets.{has}
use Rattle.schedule.specs.Schedule.{end_of}
use Rattle.scan.specs.Scan.{Diagram}
use Rattle.scan.specs.Scan.{some, right_end, ready_tick, is_direct, is_contested, is_waiting, is_complete, move}
use Rattle.scan_exact.specs.Comes.{at_tick}
use Rattle.scan_exact.proofs.Rooms.{ready_least}
use Rattle.scan_exact.proofs.Standing.{Standing}
use Rattle.scan_exact.proofs.Attached.{Gone, some_is, some_of, some_not}
use Rattle.scan_exact.proofs.Moved.{Stops, ends, readies, move_upto, move_stops, move_later}
use Rattle.instance.specs.Instance.{own_of, Instance}
use Rattle.instance.proofs.Own.{own_is}
use Rattle.instance.specs.Table.{acts_of, duration_at, own_at, project_in}
use Rattle.profile.specs.Work.{end_at, Timed}
use Rattle.steps.specs.Steps.{never, Sets, FirstEnd, Moves, frozen_in, running_in, loose_in, finish_at}
use Rattle.steps.specs.Shown.{Shows}
use Rattle.steps.specs.declared.Line.{Line}
use Rattle.steps.proofs.Given.{scannable, ranked}
use Rattle.steps.proofs.Sets.{loose_is, running_is, running_frozen, running_there, loose_there, loose_shown}

-- No time that stands in the working array is later than never.
pub finish_fits : (t w : List ℕ) (i : ℕ) → Timed w → duration_at t i ≤ longest_duration → finish_at t w i < never
finish_fits t w i timed short =
    omega (arith, timed.times (32 + i), timed.times (64 + own_at t i), short)

-- Where what is placed and not frozen ends.
pub loose_end : (t : List ℕ) (l : Line) (w : List ℕ) (d : Diagram) → Shows t l w d → (i : ℕ) → has (loose_in l) i ≡ true
    → end_of (project_in t) d.starts i ≡ finish_at t w i
unfolding project_in
loose_end t l w d shows i y = omega (arith, shows.loose i y)

-- The sets are the same.
module _ {t w : List ℕ} {l : Line} {first : ℕ} {r : Line} (moves : Moves t w l first r) (i : ℕ) where
  pub moved_frozen : has (frozen_in r) i ≡ has (frozen_in l) i
  moved_frozen = ap₂ (λ (a b : ℕ). has (bit_xor a (bit_and a b)) i) moves.placed moves.left

  pub moved_running : has (running_in r) i ≡ has (running_in l) i
  moved_running = ap₂ (λ (a b : ℕ). has (bit_xor a (bit_and a b)) i) moves.term moves.left

  pub moved_loose : has (loose_in r) i ≡ has (loose_in l) i
  moved_loose = ap₂ (λ (a b : ℕ). has (bit_and a b) i) moves.placed moves.left

-- At a later tick.
module _ (t : List ℕ) (given : Instance t) (l : Line) (w : List ℕ) (d : Diagram) (shows : Shows t l w d) (line : ℕ)
    (standing : Standing (project_in t) d line) (sets : Sets t w l) (first : ℕ) (r : Line) (moves : Moves t w l first r)
    (x : ℕ) (on : x ≡ r.tick) where
  -- The contested components.
  abbrev directs : ℕ → ℕ → Bool
  directs c i = is_direct (project_in t) (own_of t) (at_tick d x) i && eqb (own_of t i) c

  due_contested : (c : ℕ) → has r.due c ≡ true → is_contested (project_in t) (own_of t) (at_tick d x) c ≡ true
  due_contested c y =
      let (i, loose, end, own) = moves.stop.only c y in
      let (placed, z) = loose_shown t given l w d shows line standing i loose in
      let b : i < acts_of t = sets.left i (loose_is l i loose).1 in
      some_of (project_in t) (own_of t) (directs c) i (standing.inside i placed).below
      (both
      (both (both placed (ap not z))
      (eq-eqb (right_end (project_in t) (own_of t) (at_tick d x) i) x
      (omega (arith, loose_end t l w d shows i loose, end, on))))
      (eq-eqb (own_of t i) c (sym (own_is t given.laid i b) ∙ own)))

  contested_due : (c : ℕ) → is_contested (project_in t) (own_of t) (at_tick d x) c ≡ true → has r.due c ≡ true
  contested_due c y =
      let (i, _, two) = some_is (project_in t) (own_of t) (directs c) y in
      let direct : is_direct (project_in t) (own_of t) (at_tick d x) i ≡ true =
      and_left (is_direct (project_in t) (own_of t) (at_tick d x) i) (eqb (own_of t i) c) two in
      let own : own_of t i ≡ c =
      eqb-true (own_of t i) c (and_right (is_direct (project_in t) (own_of t) (at_tick d x) i) (eqb (own_of t i) c) two) in
      let ends : right_end (project_in t) (own_of t) (at_tick d x) i ≡ x =
      eqb-true (right_end (project_in t) (own_of t) (at_tick d x) i) x
      (and_right (d.placed i && not (d.frozen i)) (eqb (right_end (project_in t) (own_of t) (at_tick d x) i) x) direct) in
      let loose : (d.placed i && not (d.frozen i)) ≡ true =
      and_left (d.placed i && not (d.frozen i)) (eqb (right_end (project_in t) (own_of t) (at_tick d x) i) x) direct in
      let shown : has (loose_in l) i ≡ true =
      loose_there t given l w d shows line standing i (and_left (d.placed i) (not (d.frozen i)) loose)
      (not-true (d.frozen i) (and_right (d.placed i) (not (d.frozen i)) loose)) in
      let b : i < acts_of t = sets.left i (loose_is l i shown).1 in
      ap (has r.due) (sym (own_is t given.laid i b ∙ own))
      ∙ moves.stop.due i shown (omega (arith, loose_end t l w d shows i shown, ends, on))

  pub due_is : (c : ℕ) → has r.due c ≡ is_contested (project_in t) (own_of t) (at_tick d x) c
  due_is c =
      by_bool (has r.due c) (λ y. y ∙ sym (due_contested c y))
      (λ z.
      z
      ∙ sym
      (by_bool (is_contested (project_in t) (own_of t) (at_tick d x) c) (λ y. true_not_false (contested_due c y) z)
      (λ n. n)))

  pub shows_later : d.tick ≤ x → Shows t r w (at_tick d x)
  shows_later later =
      record {
        tick = on;
        placed = λ i. shows.placed i ∙ ap (λ (x : ℕ). has x i) (sym moves.placed);
        frozen = λ i. shows.frozen i ∙ sym (moved_frozen moves i);
        term = λ i. shows.term i ∙ ap (λ (x : ℕ). has x i) (sym moves.term);
        left = λ i. ap (λ (x : ℕ). has x i) moves.left ∙ shows.left i;
        loose = λ i y. shows.loose i (sym (moved_loose moves i) ∙ y);
        ended = λ i y. shows.ended i (sym (moved_frozen moves i) ∙ y);
        passed =
            λ i y. ap (λ (x : ℕ). has x i) moves.passed ∙ shows.passed i (sym (moved_loose moves i) ∙ y);
        passed_placed =
            λ i y.
            ap (λ (x : ℕ). has x i) moves.placed
            ∙ shows.passed_placed i (ap (λ (x : ℕ). has x i) (sym moves.passed) ∙ y);
        tight =
            λ i y tight.
            ⊎_elim (λ le. inl le) (λ le. inr (omega (arith, le, on, later, shows.tick)))
            (shows.tight i (sym (moved_frozen moves i) ∙ y) tight);
        freed =
            λ i tight.
            ⊎_elim (λ none. inl none) (λ (k, f, own, end). inr (k, moved_frozen moves k ∙ f, own, end))
            (shows.freed i tight);
        readied =
            λ i y tight.
            omega (arith, shows.readied i (sym (moved_loose moves i) ∙ y) tight, on, later, shows.tick);
        roomy = shows.roomy;
        live =
            λ k y z.
            ⊎_elim (λ on. inl (ap (λ (x : ℕ). has x k) moves.live ∙ on))
            (λ (j, f, own, end). inr (j, moved_frozen moves j ∙ f, own, end))
            (shows.live k (sym (moved_frozen moves k) ∙ y) z);
        live_frozen =
            λ k y. moved_frozen moves k ∙ shows.live_frozen k (ap (λ (x : ℕ). has x k) (sym moves.live) ∙ y);
      }

module _ (t : List ℕ) (given : Instance t) (l : Line) (w : List ℕ) (d : Diagram) (shows : Shows t l w d)
    (standing : Standing (project_in t) d (suc d.tick)) (gone : Gone (project_in t) d) (sets : Sets t w l)
    (rest : is_complete (project_in t) (own_of t) d ≡ false) (first : ℕ) (running : FirstEnd w (running_in l) first)
    (r : Line) (moves : Moves t w l first r) where
  abbrev comp : ℕ → ℕ
  comp = own_of t

  abbrev there : Diagram
  there = move (project_in t) comp d

  running_end : (i : ℕ) → has (running_in l) i ≡ true → end_of (project_in t) d.starts i ≡ end_at w i
  unfolding project_in
  running_end i y =
      shows.ended i
      (sym (shows.frozen i) ∙ running_frozen t given l w d shows (suc d.tick) standing i y)

  -- What waits is ready.
  abbrev waits_for : ℕ → ℕ → Bool
  waits_for i k = d.term k && (project_in t).precedes k i

  ready_by : (i : ℕ) → is_waiting (project_in t) comp d i ≡ true → ready_tick (project_in t) comp d i ≤ d.tick
  unfolding project_in
  ready_by i y =
      let none : some (project_in t) comp (waits_for i) ≡ false =
      not-true (some (project_in t) comp (waits_for i))
      (and_right (d.term i && not (d.placed i)) (not (some (project_in t) comp (waits_for i))) y) in
      ready_least (project_in t) comp d i d.tick (omega arith)
      (λ k h before.
      let out : d.term k ≡ false =
      by_bool (d.term k)
      (λ e. true_not_false (both e before) (some_not (project_in t) comp (waits_for i) none k h.below)) (λ z. z) in
      let f : d.frozen k ≡ true =
      by_bool (d.frozen k) (λ e. e) (λ z. true_not_false (standing.waiting k h z) out) in
      by_cases (dec_le (end_of (project_in t) d.starts k) d.tick) (λ le. omega (arith, le))
      (λ gt. true_not_false (standing.running k f (omega (arith, gt))) out))

  -- The tick.
  tick_least : (i : ℕ) → d.placed i ≡ true → d.term i ≡ true → r.tick ≤ end_of (project_in t) d.starts i
  tick_least i y term =
      by_bool (d.frozen i)
      (λ f.
      let run : has (running_in l) i ≡ true =
      running_there t given l w d shows (suc d.tick) standing i f term in
      omega (arith, moves.stop.upto, running.least i run, running_end i run))
      (λ z.
      let loose : has (loose_in l) i ≡ true =
      loose_there t given l w d shows (suc d.tick) standing i y z in
      omega (arith, moves.stop.least i loose, loose_end t l w d shows i loose))

  by_placed : {C : Type 0} (i : ℕ) → d.placed i ≡ true → d.term i ≡ true → (has (loose_in l) i ≡ true → C)
      → (has (running_in l) i ≡ true → C) → C
  by_placed i y term loose run =
      by_bool (d.frozen i)
      (λ f. run (running_there t given l w d shows (suc d.tick) standing i f term))
      (λ z. loose (loose_there t given l w d shows (suc d.tick) standing i y z))

  loose_upto : (i : ℕ) → has (loose_in l) i ≡ true → there.tick ≤ finish_at t w i
  loose_upto i y =
      let (placed, z) = loose_shown t given l w d shows (suc d.tick) standing i y in
      omega (
        arith,
        move_upto (project_in t) comp (scannable t given) given.rank (ranked t given) d standing gone i placed
            (standing.waiting i (standing.inside i placed) z),
        loose_end t l w d shows i y,
      )

  running_upto : (i : ℕ) → has (running_in l) i ≡ true → there.tick ≤ end_at w i
  running_upto i y =
      let f : d.frozen i ≡ true = running_frozen t given l w d shows (suc d.tick) standing i y in
      omega (
        arith,
        move_upto (project_in t) comp (scannable t given) given.rank (ranked t given) d standing gone i
            (standing.within i f) (shows.term i ∙ (running_is l i y).0),
        running_end i y,
      )

  stops : Stops (project_in t) comp d there.tick
  stops = move_stops (project_in t) comp (scannable t given) given.rank (ranked t given) d standing gone rest

  tick_low : r.tick ≤ there.tick
  tick_low =
      by_stop stops
    where
      by_stop : Stops (project_in t) comp d there.tick → r.tick ≤ there.tick
      by_stop (ends i y term e) = omega (arith, tick_least i y term, e)
      by_stop (readies i y before e) = absurd (omega (arith, ready_by i y, before))

  pub tick_fits : r.tick < never
  tick_fits =
      by_stop stops
    where
      by_stop : Stops (project_in t) comp d there.tick → r.tick < never
      by_stop (ends i y term e) =
          by_placed i y term
          (λ loose.
          omega (
            arith,
            moves.stop.least i loose,
            finish_fits t w i sets.timed
                (given.laid.short i (omega (arith, sets.left i (loose_is l i loose).1, given.laid.acts))),
          ))
          (λ run.
          omega (arith, moves.stop.upto, running.least i run, sets.timed.times i))
      by_stop (readies i y before e) = absurd (omega (arith, ready_by i y, before))

  tick_high : there.tick ≤ r.tick
  tick_high =
      ⊎_elim
      (λ e.
      ⊎_elim (λ no_end. absurd (omega (arith, e, no_end, tick_fits)))
      (λ (i, run, end). omega (arith, e, end, running_upto i run)) running.attained)
      (λ (i, loose, end). omega (arith, end, loose_upto i loose)) moves.stop.attained

  tick_is : there.tick ≡ r.tick
  tick_is = le_antisymm tick_high tick_low

  -- The line goes on.
  later : d.tick ≤ there.tick
  later = move_later (project_in t) comp (scannable t given) given.rank (ranked t given) d standing gone rest

  pub due_move : (c : ℕ) → has r.due c ≡ is_contested (project_in t) (own_of t) (move (project_in t) (own_of t) d) c
  unfolding move
  due_move =
      due_is t given l w d shows (suc d.tick) standing sets first r moves there.tick tick_is

  pub shows_move : Shows t r w (move (project_in t) (own_of t) d)
  unfolding move
  shows_move =
      shows_later t given l w d shows (suc d.tick) standing sets first r moves there.tick tick_is later
