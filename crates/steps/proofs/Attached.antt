-- Step 5 of the code is that of the scan.
use Prim.Native.Nat.{ℕ, ◌+◌, ◌≤◌, ◌<◌, max}
use native.Mathlib.Decide.{dec_le, dec_lt}
use native.Mathlib.Omega.{arith}
use mathlib.Core.Bool.{Bool, true, false, not, ◌&&◌, ◌||◌}
use mathlib.Core.List.{List}
use mathlib.Core.Logic.{⊎_elim, inl, inr, by_cases}
use mathlib.Core.Path.{◌≡◌, sym, ap, ap₂, ◌∙◌}
use lib.Bits.{bit_and}
use lib.Dec.{leb, ltb, eqb}
use borrow.Author.Tests.{leb-true, le-leb, lt-ltb, not-true}
use Rattle.base.specs.Below.{◌implies◌}
use Rattle.base.proofs.Bools.{by_bool, same_bool, true_not_false, both, and_left, and_right, cond_true, cond_false}
use Rattle.base.proofs.Below.{every_of, every_same, implies_intro}
use Rattle.sets.specs.Sets.{most, has, meet}
use Rattle.sets.proofs.Laws.{has_above, has_and, meet_at, meet_of}
use Rattle.schedule.specs.Schedule.{end_of}
use Rattle.schedule.proofs.Load.{Has}
use Rattle.branching.proofs.Fit.{FitsOn}
use Rattle.scan.specs.Scan.{Diagram}
use Rattle.scan.specs.Scan.{some, ready_tick, has_room, is_waiting, can_attach, attach, is_next, is_ahead}
use Rattle.scan_exact.proofs.Rooms.{has_room_lem, room_has, ready_least}
use Rattle.scan_exact.proofs.Standing.{Standing}
use Rattle.scan_exact.proofs.Attached.{Gone, some_of, some_not, some_none, attach_kept}
use Rattle.instance.specs.Instance.{own_of, Instance}
use Rattle.instance.proofs.Own.{own_is}
use Rattle.instance.specs.Table.{acts_of, duration_at, preds_at, component_at, own_at, tight_of, project_in}
use Rattle.steps.proofs.Own.{component_has, tight_with}
use Rattle.profile.specs.Work.{end_at, ready_at, free_at, ready_from, free_from}
use Rattle.profile.specs.Room.{has_room_at}
use Rattle.steps.specs.Steps.{Sets, Attaches, frozen_in, running_in, waiting_in, loose_in, is_free, can_start}
use Rattle.steps.specs.Steps.{attached_line}
use Rattle.steps.specs.Shown.{Shows}
use Rattle.steps.specs.declared.Line.{Line}
use Rattle.steps.proofs.Given.{has_is, has_of, scannable}
use Rattle.steps.proofs.Free.{Covers, room_fits, fits_room, alone_fits, tight_alone}
use Rattle.steps.proofs.Sets.{frozen_of, frozen_is, loose_of, loose_is, waiting_of, waiting_is, left_is, left_of}
use Rattle.steps.proofs.Sets.{running_frozen, running_there, loose_shown}

module _ (t : List ℕ) (given : Instance t) (l : Line) (w : List ℕ) (d : Diagram) (shows : Shows t l w d)
    (standing : Standing (project_in t) d d.tick) (gone : Gone (project_in t) d) (sets : Sets t w l) where
  abbrev comp : ℕ → ℕ
  comp = own_of t

  shown_end : (k : ℕ) → d.frozen k ≡ true → d.starts k + duration_at t k ≡ end_at w k
  shown_end k y = shows.ended k (sym (shows.frozen k) ∙ y)

  abbrev waits_for : ℕ → ℕ → Bool
  waits_for i k = d.term k && (project_in t).precedes k i

  -- What waits.
  waiting_there : (i : ℕ) → has (waiting_in l) i ≡ true
      → (Has (project_in t) i) × (d.placed i ≡ false) × (d.frozen i ≡ false)
  waiting_there i y =
      let (left, off) = waiting_is l i y in
      let (there, z) = left_is t given l w d shows d.tick standing i left in
      (has_of t given i there, shows.placed i ∙ off, z)

  -- A predecessor in T.
  meets_some : (i : ℕ) → i < acts_of t → meet (preds_at t i) l.term ≡ some (project_in t) comp (waits_for i)
  unfolding project_in
  meets_some i b =
      let low : i < most = omega (arith, b, given.laid.acts) in
      same_bool (meet (preds_at t i) l.term) (some (project_in t) comp (waits_for i))
      (λ y.
      let (k, lk, before, term) = meet_at most (preds_at t i) l.term (given.linked.preds_low i low) y in
      some_of (project_in t) comp (waits_for i) k (given.present k (given.ordered k i low before).0)
      (both (shows.term k ∙ term) before))
      (λ y.
      by_bool (meet (preds_at t i) l.term) (λ m. m)
      (λ z.
      let none : some (project_in t) comp (waits_for i) ≡ false =
      some_none (project_in t) comp (waits_for i)
      (λ k lk both_k.
      true_not_false
      (meet_of (preds_at t i) l.term k (and_right (d.term k) (has (preds_at t i) k) both_k)
      (sym (shows.term k) ∙ and_left (d.term k) (has (preds_at t i) k) both_k))
      z) in
      true_not_false y none))

  -- Where none is, what precedes it has ended.
  ready_by : (i : ℕ) → i < acts_of t → some (project_in t) comp (waits_for i) ≡ false
      → ready_tick (project_in t) comp d i ≤ d.tick
  unfolding project_in
  ready_by i b none =
      ready_least (project_in t) comp d i d.tick (omega arith)
      (λ k h before.
      let out : d.term k ≡ false =
      by_bool (d.term k)
      (λ y. true_not_false (both y before) (some_not (project_in t) comp (waits_for i) none k h.below)) (λ z. z) in
      let f : d.frozen k ≡ true =
      by_bool (d.frozen k) (λ y. y) (λ z. true_not_false (standing.waiting k h z) out) in
      by_cases (dec_le (end_of (project_in t) d.starts k) d.tick) (λ le. omega (arith, le))
      (λ gt. true_not_false (standing.running k f (omega (arith, gt))) out))

  -- The frozen ones of its component that are in T.
  covers : (i : ℕ) → i < acts_of t
      → Covers t given d d.tick standing w shown_end (bit_and (running_in l) (component_at t i)) i d.tick
  unfolding project_in
  covers i b =
      record {
        inside =
            λ k y.
            running_frozen t given l w d shows d.tick standing k
            (and_left (has (running_in l) k) (has (component_at t i) k)
            (sym (has_and (running_in l) (component_at t i) k) ∙ y));
        all =
            λ k f on from to.
            has_and (running_in l) (component_at t i) k
            ∙ both
            (running_there t given l w d shows d.tick standing k f
            (standing.running k f (omega (arith, shows.ended k (sym (shows.frozen k) ∙ f), to))))
            (component_has t given.laid i k b (standing.inside k (standing.within k f)).below on);
      }

  free_is : (i : ℕ) → has (waiting_in l) i ≡ true → is_free t w l i ≡ has_room (project_in t) comp d i d.tick
  unfolding project_in
  free_is i y =
      let (h, off, z) = waiting_there i y in
      let b : i < acts_of t = h.below in
      let own : own_at t i ≡ own_of t i = own_is t given.laid i b in
      let to_scan : FitsOn (project_in t) d.frozen d.starts i d.tick
      → has_room (project_in t) comp d i d.tick ≡ true =
      λ f. room_has (project_in t) comp d i d.tick f in
      let of_scan : has_room (project_in t) comp d i d.tick ≡ true
      → FitsOn (project_in t) d.frozen d.starts i d.tick =
      λ f. has_room_lem (project_in t) comp d i d.tick f in
      by_bool (has (tight_of t) i)
      (λ tight.
      cond_true (leb (free_at w (own_at t i)) l.tick)
      (has_room_at t w (bit_and (running_in l) (component_at t i)) i l.tick) tight
      ∙ same_bool (leb (free_at w (own_at t i)) l.tick) (has_room (project_in t) comp d i d.tick)
      (λ free.
      to_scan
      (alone_fits t given d d.tick standing i h d.tick
      (λ k f on runs.
      let fk : has (frozen_in l) k ≡ true = sym (shows.frozen k) ∙ f in
      let hk : Has (project_in t) k = standing.inside k (standing.within k f) in
      let same : own_at t k ≡ own_at t i = own_is t given.laid k hk.below ∙ on ∙ sym own in
      ⊎_elim
      (λ le.
      omega (
        arith,
        le,
        ap (free_at w) same,
        leb-true (free_at w (own_at t i)) l.tick free,
        shows.ended k fk,
        shows.tick,
        runs.ends,
      ))
      (λ le. omega (arith, le, shows.ended k fk, shows.tick, runs.ends))
      (shows.tight k fk (tight_with t given.laid i k b hk.below on tight)))))
      (λ room.
      ⊎_elim
      (λ none. le-leb (free_at w (own_at t i)) l.tick (omega (arith, none)))
      (λ (k, fk, same, end).
      let f : d.frozen k ≡ true = shows.frozen k ∙ fk in
      let hk : Has (project_in t) k = standing.inside k (standing.within k f) in
      by_cases (dec_le (free_at w (own_at t i)) l.tick) (λ le. le-leb (free_at w (own_at t i)) l.tick le)
      (λ gt.
      absurd
      (tight_alone t given d d.tick standing i h d.tick tight k f
      (sym (own_is t given.laid k hk.below) ∙ same ∙ own)
      (λ e. true_not_false f (ap d.frozen e ∙ z))
      (record {
        begins = omega (arith, standing.before k f);
        ends = omega (arith, shows.ended k fk, end, shows.tick, gt);
      })
      (of_scan room))))
      (shows.freed i tight)))
      (λ roomy.
      cond_false (leb (free_at w (own_at t i)) l.tick)
      (has_room_at t w (bit_and (running_in l) (component_at t i)) i l.tick) roomy
      ∙ ap (has_room_at t w (bit_and (running_in l) (component_at t i)) i) (sym shows.tick)
      ∙ same_bool (has_room_at t w (bit_and (running_in l) (component_at t i)) i d.tick)
      (has_room (project_in t) comp d i d.tick)
      (λ y.
      to_scan
      (room_fits t given d d.tick standing w shown_end (bit_and (running_in l) (component_at t i)) i d.tick h
      (covers i b) y))
      (λ y.
      fits_room t given d d.tick standing w shown_end (bit_and (running_in l) (component_at t i)) i d.tick h
      (covers i b) (of_scan y)))

  below_of : (i : ℕ) → Has (project_in t) i → i < acts_of t
  unfolding project_in
  below_of i h = h.below

  pub start_is_attach : (i : ℕ) → can_start t w l i ≡ can_attach (project_in t) comp d i
  start_is_attach i =
      by_bool (has (waiting_in l) i)
      (λ y.
      let (h, off, z) = waiting_there i y in
      let b : i < acts_of t = below_of i h in
      let pred : meet (preds_at t i) l.term ≡ some (project_in t) comp (waits_for i) = meets_some i b in
      let wait : (d.term i && not (d.placed i)) ≡ true = both (standing.waiting i h z) (ap not off) in
      by_bool (some (project_in t) comp (waits_for i))
      (λ one. rw (y, pred, one, wait))
      (λ none.
      rw (
        y,
        pred,
        none,
        wait,
        free_is i y,
        le-leb (ready_tick (project_in t) comp d i) d.tick (ready_by i b none),
      )))
      (λ z.
      by_bool (can_attach (project_in t) comp d i)
      (λ y.
      let first : (d.term i && not (d.placed i)) ≡ true =
      and_left (d.term i && not (d.placed i)) (not (some (project_in t) comp (waits_for i)))
      (and_left (is_waiting (project_in t) comp d i) (leb (ready_tick (project_in t) comp d i) d.tick)
      (and_left (is_waiting (project_in t) comp d i && leb (ready_tick (project_in t) comp d i) d.tick)
      (has_room (project_in t) comp d i d.tick) y)) in
      let off : d.placed i ≡ false = not-true (d.placed i) (and_right (d.term i) (not (d.placed i)) first) in
      let h : Has (project_in t) i = standing.known i (and_left (d.term i) (not (d.placed i)) first) in
      let waits : d.frozen i ≡ false =
      by_bool (d.frozen i) (λ f. true_not_false (standing.within i f) off) (λ n. n) in
      true_not_false
      (waiting_of l i (left_of t given l w d shows d.tick standing i (has_is t given i h) waits)
      (sym (shows.placed i) ∙ off))
      z)
      (λ n. rw z (sym n)))

  -- What can start is left and not placed.
  pub starts_waiting : (i : ℕ) → can_start t w l i ≡ true → has (waiting_in l) i ≡ true
  starts_waiting i y =
      and_left (has (waiting_in l) i) (not (meet (preds_at t i) l.term))
      (and_left (has (waiting_in l) i && not (meet (preds_at t i) l.term)) (is_free t w l i) y)

  pub starts_below : (i : ℕ) → can_start t w l i ≡ true → i < most
  starts_below i y = omega (arith, sets.left i (waiting_is l i (starts_waiting i y)).0, given.laid.acts)

  module _ (w' : List ℕ) (r : ℕ) (attaches : Attaches t l w w' r) where
    abbrev next : Line
    next = attached_line l r

    -- The working array.
    pub ends_same : (i : ℕ) → i < most → end_at w' i ≡ end_at w i
    ends_same i b = attaches.same i (λ k lk y e. omega (arith, b, e))

    pub free_same : (c : ℕ) → free_at w' c ≡ free_at w c
    free_same c = attaches.same (free_from + c) (λ k lk y e. omega (arith, lk, e))

    pub ready_same : (i : ℕ) → can_start t w l i ≡ false → ready_at w' i ≡ ready_at w i
    ready_same i z =
        attaches.same (ready_from + i)
        (λ k lk y e. let same : k ≡ i = omega (arith, e) in true_not_false y (ap (can_start t w l) same ∙ z))

    -- The sets.
    placed_now : (i : ℕ) → has r i ≡ (has l.placed i || can_start t w l i)
    placed_now i =
        by_cases (dec_lt i most) (λ b. attaches.placed i b)
        (λ b.
        has_above most r i attaches.low (omega (arith, b))
        ∙ sym
        (ap₂ (λ (x y : Bool). x || y) (has_above most l.placed i sets.placed_low (omega (arith, b)))
        (by_bool (can_start t w l i) (λ y. absurd (b (starts_below i y))) (λ z. z))))

    pub by_placed : {C : Type 0} (i : ℕ) → has r i ≡ true → (has l.placed i ≡ true → C)
        → (can_start t w l i ≡ true → C)
        → C
    by_placed i y old new =
        by_bool (has l.placed i) old
        (λ z. new (sym (ap (λ (x : Bool). x || can_start t w l i) z) ∙ sym (placed_now i) ∙ y))

    pub placed_more : (i : ℕ) → has l.placed i ≡ true → has r i ≡ true
    placed_more i y = placed_now i ∙ ap (λ (x : Bool). x || can_start t w l i) y

    pub frozen_same : (i : ℕ) → has (frozen_in (attached_line l r)) i ≡ has (frozen_in l) i
    frozen_same i =
        same_bool (has (frozen_in next) i) (has (frozen_in l) i)
        (λ y.
        let (there, off) = frozen_is next i y in
        by_placed i there (λ old. frozen_of l i old off)
        (λ new. true_not_false (waiting_is l i (starts_waiting i new)).0 off))
        (λ y. let (there, off) = frozen_is l i y in frozen_of next i (placed_more i there) off)

    ended_same : (i : ℕ) → has (frozen_in l) i ≡ true → end_at w' i ≡ end_at w i
    ended_same i y = ends_same i (omega (arith, sets.placed i (frozen_is l i y).0, given.laid.acts))

    pub by_loose : {C : Type 0} (i : ℕ) → has (loose_in (attached_line l r)) i ≡ true → (has (loose_in l) i ≡ true → C)
        → (can_start t w l i ≡ true → C) → C
    by_loose i y old new =
        let (there, left) = loose_is next i y in by_placed i there (λ o. old (loose_of l i o left)) new

    pub loose_not : (i : ℕ) → has (loose_in l) i ≡ true → can_start t w l i ≡ false
    loose_not i y =
        by_bool (can_start t w l i)
        (λ s. true_not_false (loose_is l i y).0 (waiting_is l i (starts_waiting i s)).1) (λ z. z)

    -- The starts.
    kept : (i : ℕ) → d.placed i ≡ true → (attach (project_in t) comp d).starts i ≡ d.starts i
    kept i y = attach_kept (project_in t) comp (scannable t given) d standing gone i y

    kept_frozen : (i : ℕ) → d.frozen i ≡ true → (attach (project_in t) comp d).starts i ≡ d.starts i
    kept_frozen i y = kept i (standing.within i y)

    starts_at : (i : ℕ) → can_start t w l i ≡ true → (attach (project_in t) comp d).starts i ≡ d.tick
    unfolding attach
    starts_at i y = cond_true d.tick (d.starts i) (sym (start_is_attach i) ∙ y)

    pub free_below : (i : ℕ) → can_start t w l i ≡ true → free_at w (own_at t i) ≤ l.tick
    free_below i y =
        let free : is_free t w l i ≡ true =
        and_right (has (waiting_in l) i && not (meet (preds_at t i) l.term)) (is_free t w l i) y in
        by_bool (has (tight_of t) i)
        (λ tight.
        leb-true (free_at w (own_at t i)) l.tick
        (sym
        (cond_true (leb (free_at w (own_at t i)) l.tick)
        (has_room_at t w (bit_and (running_in l) (component_at t i)) i l.tick) tight)
        ∙ free))
        (λ roomy.
        omega (arith, shows.roomy i (sets.left i (waiting_is l i (starts_waiting i y)).0) roomy))

    -- By start and number what is new comes after all that is frozen, and the others stand as they stood.
    abbrev after_all_lem : Diagram → ℕ → ℕ → Bool
    after_all_lem e i k =
        (e.frozen k && (project_in t).free k && eqb (comp k) (comp i))
        implies is_ahead (project_in t) comp (e.starts k) k (e.starts i) i

    next_old : (i : ℕ) → d.placed i ≡ true
        → is_next (project_in t) comp (attach (project_in t) comp d) i ≡ is_next (project_in t) comp d i
    unfolding attach
    next_old i y =
        every_same (project_in t).size (after_all_lem (attach (project_in t) comp d) i) (after_all_lem d i)
        (λ k lk.
        by_bool (d.frozen k)
        (λ f.
        ap₂
        (λ (a b : ℕ).
        (d.frozen k && (project_in t).free k && eqb (comp k) (comp i)) implies is_ahead (project_in t) comp a k b i)
        (kept_frozen k f) (kept i y))
        (λ z. rw z))

    next_new : (i : ℕ) → can_start t w l i ≡ true → is_next (project_in t) comp (attach (project_in t) comp d) i ≡ true
    unfolding attach
    next_new i y =
        every_of (project_in t).size (after_all_lem (attach (project_in t) comp d) i)
        (λ k lk.
        implies_intro (d.frozen k && (project_in t).free k && eqb (comp k) (comp i))
        (is_ahead (project_in t) comp ((attach (project_in t) comp d).starts k) k ((attach (project_in t) comp d).starts i) i)
        (λ three.
        let f : d.frozen k ≡ true =
        and_left (d.frozen k) ((project_in t).free k)
        (and_left (d.frozen k && (project_in t).free k) (eqb (comp k) (comp i)) three) in
        let less : (attach (project_in t) comp d).starts k < (attach (project_in t) comp d).starts i =
        omega (arith, kept_frozen k f, starts_at i y, standing.before k f) in
        ap
        (λ (x : Bool).
        x || (eqb ((attach (project_in t) comp d).starts k) ((attach (project_in t) comp d).starts i) && ltb k i))
        (lt-ltb ((attach (project_in t) comp d).starts k) ((attach (project_in t) comp d).starts i) less)))

    pub shows_attach : Shows t (attached_line l r) w' (attach (project_in t) comp d)
    unfolding attach
    shows_attach =
        record {
          tick = shows.tick;
          placed = λ i. ap₂ (λ (x y : Bool). x || y) (shows.placed i) (sym (start_is_attach i)) ∙ sym (placed_now i);
          frozen = λ i. shows.frozen i ∙ sym (frozen_same i);
          term = shows.term;
          left = shows.left;
          loose =
              λ i y.
              by_loose i y
              (λ old.
              let (there, _) = loose_shown t given l w d shows d.tick standing i old in
              kept i there ∙ shows.loose i old
              ∙ ap₂ (λ (a b : ℕ). max a b) (sym (ready_same i (loose_not i old))) (sym (free_same (own_at t i))))
              (λ new.
              omega (
                arith,
                starts_at i new,
                shows.tick,
                attaches.start i (starts_below i new) new,
                free_same (own_at t i),
                free_below i new,
              ));
          ended =
              λ i y.
              let old : has (frozen_in l) i ≡ true = sym (frozen_same i) ∙ y in
              omega (arith, kept_frozen i (shows.frozen i ∙ old), shows.ended i old, ended_same i old);
          passed =
              λ i y.
              by_loose i y
              (λ old.
              let (there, _) = loose_shown t given l w d shows d.tick standing i old in
              shows.passed i old ∙ ap not (sym (next_old i there)))
              (λ new.
              by_bool (has l.passed i)
              (λ p.
              true_not_false (shows.passed_placed i p) (waiting_is l i (starts_waiting i new)).1)
              (λ z. z)
              ∙ ap not (sym (next_new i new)));
          passed_placed = λ i y. placed_more i (shows.passed_placed i y);
          tight =
              λ i y tight.
              let old : has (frozen_in l) i ≡ true = sym (frozen_same i) ∙ y in
              ⊎_elim (λ le. inl (omega (arith, le, ended_same i old, free_same (own_at t i))))
              (λ le. inr (omega (arith, le, ended_same i old))) (shows.tight i old tight);
          freed =
              λ i tight.
              ⊎_elim (λ none. inl (free_same (own_at t i) ∙ none))
              (λ (k, f, same, end).
              inr (k, frozen_same k ∙ f, same, ended_same k f ∙ end ∙ sym (free_same (own_at t i))))
              (shows.freed i tight);
          readied =
              λ i y tight.
              by_loose i y (λ old. omega (arith, ready_same i (loose_not i old), shows.readied i old tight))
              (λ new. omega (arith, attaches.start i (starts_below i new) new));
          roomy = λ i b z. free_same (own_at t i) ∙ shows.roomy i b z;
          live =
              λ k y z.
              let old : has (frozen_in l) k ≡ true = sym (frozen_same k) ∙ y in
              ⊎_elim (λ on. inl on)
              (λ (j, f, own, end).
              inr (j, frozen_same j ∙ f, own, omega (arith, end, ended_same k old, ended_same j f)))
              (shows.live k old z);
          live_frozen = λ k y. frozen_same k ∙ shows.live_frozen k y;
        }
