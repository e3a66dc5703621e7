-- Steps 4 and 5: what is frozen and has ended leaves T, and what can start at the scan-line is placed there.
use Prim.Native.Nat.{ℕ, suc, ◌≤◌, ◌<◌}
use native.Mathlib.Decide.{ℕ_discrete, dec_le}
use native.Mathlib.Omega.{arith}
use mathlib.Core.Bool.{Bool, true, false, not, ◌&&◌, ◌||◌}
use mathlib.Core.List.{List}
use mathlib.Core.Logic.{by_cases}
use mathlib.Core.Path.{◌≡◌, sym, ap, ◌∙◌}
use lib.Dec.{leb}
use borrow.Author.Tests.{leb-true, le-leb, not-true, not-false}
use Rattle.base.specs.Below.{every_below}
use Rattle.base.proofs.Bools.{by_bool, true_not_false, both, and_left, and_right, cond_true, cond_false}
use Rattle.base.proofs.Below.{every_at, every_of, every_fails}
use Rattle.schedule.specs.Project.{Project}
use Rattle.schedule.specs.Schedule.{Starts, end_of}
use Rattle.schedule.proofs.Load.{Has, among}
use Rattle.schedule.proofs.Agree.{Agree, agree_sym}
use Rattle.branching.proofs.Room.{Open, Room, Soonest}
use Rattle.branching.proofs.Fit.{fits_from}
use Rattle.branching.proofs.Under.{Under}
use Rattle.branching.proofs.Rows.{Rows, rows_same}
use Rattle.scan.specs.Scan.{Diagram}
use Rattle.scan.specs.Scan.{some, right_end, ready_tick, has_room, is_waiting, delete, can_attach, attach}
use Rattle.scan_exact.proofs.Rooms.{room_agree, has_room_lem, room_has, ready_after, ready_floor, ready_least}
use Rattle.scan_exact.proofs.Standing.{Scannable, Standing, is_frozen, node_agree, under_agree}
use Rattle.scan_exact.proofs.Selected.{soonest_agree}

-- What is frozen and in T ends behind the scan-line.
abbrev pub Gone : Project → Diagram → Type 0
Gone p d = (i : ℕ) → d.frozen i ≡ true → d.term i ≡ true → d.tick < end_of p d.starts i

-- Some activity passes a test, or none does.
module _ (p : Project) (comp : ℕ → ℕ) (test : ℕ → Bool) where
  pub some_is : some p comp test ≡ true → (i : ℕ) × (i < p.size) × (test i ≡ true)
  some_is y =
      let (i, l, z) = every_fails p.size (λ i. not (test i)) (not-true (every_below p.size λ i. not (test i)) y) in
      (i, l, not-false (test i) z)

  pub some_of : (i : ℕ) → i < p.size → test i ≡ true → some p comp test ≡ true
  some_of i l y =
      by_bool (every_below p.size λ i. not (test i))
      (λ all. true_not_false y (not-true (test i) (every_at p.size (λ i. not (test i)) all i l)))
      (λ z. ap not z)

  pub some_not : some p comp test ≡ false → (i : ℕ) → i < p.size → test i ≡ false
  some_not z i l =
      not-true (test i)
      (every_at p.size (λ i. not (test i)) (not-false (every_below p.size λ i. not (test i)) z) i l)

  pub some_none : ((i : ℕ) → i < p.size → test i ≡ true → ⊥) → some p comp test ≡ false
  some_none none =
      ap not
      (every_of p.size (λ i. not (test i))
      (λ i l. by_bool (test i) (λ y. absurd (none i l y)) (λ z. ap not z)))

module _ (p : Project) (comp : ℕ → ℕ) (given : Scannable p comp) where
  -- Step 4.
  module _ (d : Diagram) (standing : Standing p d d.tick) where
    pub delete_standing : Standing p (delete p comp d) (delete p comp d).tick
    unfolding delete
    delete_standing =
        record {
          node = standing.node;
          inside = standing.inside;
          known =
              λ i y.
              standing.known i (and_left (d.term i) (not (d.frozen i && leb (right_end p comp d i) d.tick)) y);
          within = standing.within;
          waiting =
              λ i h z.
              both (standing.waiting i h z)
              (ap (λ (x : Bool). not (x && leb (right_end p comp d i) d.tick)) z);
          running =
              λ i y l.
              both (standing.running i y l)
              (ap not
              (by_bool (d.frozen i && leb (right_end p comp d i) d.tick)
              (λ h.
              absurd
              (omega (
                arith,
                l,
                leb-true (right_end p comp d i) d.tick
                    (and_right (d.frozen i) (leb (right_end p comp d i) d.tick) h),
              )))
              (λ z. z)));
          before = standing.before;
          behind = standing.behind;
          at = standing.at;
          unplaced = standing.unplaced;
          late = standing.late;
        }

    pub delete_gone : Gone p (delete p comp d)
    unfolding delete
    delete_gone i y t =
        by_cases (dec_le (right_end p comp d i) d.tick)
        (λ l.
        true_not_false (both y (le-leb (right_end p comp d i) d.tick l))
        (not-true (d.frozen i && leb (right_end p comp d i) d.tick)
        (and_right (d.term i) (not (d.frozen i && leb (right_end p comp d i) d.tick)) t)))
        (λ g. omega (arith, g))

  -- Step 5.
  module _ (d : Diagram) (standing : Standing p d d.tick) (gone : Gone p d) where
    abbrev F : ℕ → Bool
    F = d.frozen

    abbrev S : Starts
    S = d.starts

    abbrev R : Starts
    R = (attach p comp d).starts

    abbrev precedes_in : ℕ → ℕ → Bool
    precedes_in i k = d.term k && p.precedes k i

    -- It is open and has room at the scan-line.
    record Attaches (i : ℕ) : Type 0 where
      is_open : Open p F i
      outside : d.placed i ≡ false
      room : Room p F S i d.tick

    attach_is : (i : ℕ) → can_attach p comp d i ≡ true → Attaches i
    attach_is i y =
        let two : (is_waiting p comp d i && leb (ready_tick p comp d i) d.tick) ≡ true =
        and_left (is_waiting p comp d i && leb (ready_tick p comp d i) d.tick) (has_room p comp d i d.tick) y in
        let w : is_waiting p comp d i ≡ true =
        and_left (is_waiting p comp d i) (leb (ready_tick p comp d i) d.tick) two in
        let ready : ready_tick p comp d i ≤ d.tick =
        leb-true (ready_tick p comp d i) d.tick
        (and_right (is_waiting p comp d i) (leb (ready_tick p comp d i) d.tick) two) in
        let first : (d.term i && not (d.placed i)) ≡ true =
        and_left (d.term i && not (d.placed i)) (not (some p comp (precedes_in i))) w in
        let none : some p comp (precedes_in i) ≡ false =
        not-true (some p comp (precedes_in i))
        (and_right (d.term i && not (d.placed i)) (not (some p comp (precedes_in i))) w) in
        let outside : d.placed i ≡ false =
        not-true (d.placed i) (and_right (d.term i) (not (d.placed i)) first) in
        let h : Has p i = standing.known i (and_left (d.term i) (not (d.placed i)) first) in
        record {
          is_open =
              record {
                has = h;
                waits =
                    by_bool (d.frozen i) (λ f. true_not_false (standing.within i f) outside) (λ z. z);
                freed =
                    λ k hk o.
                    by_bool (d.frozen k) (λ f. f)
                    (λ z.
                    true_not_false (both (standing.waiting k hk z) o)
                    (some_not p comp (precedes_in i) none k hk.below));
              };
          outside = outside;
          room =
              record {
                from_floor = omega (arith, ready_floor p comp d i, ready);
                ready = λ k f o. omega (arith, ready_after p comp d standing.node i k f o, ready);
                fits =
                    λ u r l from to.
                    fits_from p F S i d.tick
                    (has_room_lem p comp d i d.tick
                    (and_right (is_waiting p comp d i && leb (ready_tick p comp d i) d.tick)
                    (has_room p comp d i d.tick) y))
                    (λ k f later to'. absurd (omega (arith, standing.before k f.there, later)))
                    u from to r l;
              };
        }

    attach_of : (i : ℕ) → Attaches i → can_attach p comp d i ≡ true
    attach_of i a =
        let o : Open p F i = a.is_open in
        both
        (both
        (both (both (standing.waiting i o.has o.waits) (ap not a.outside))
        (ap not
        (some_none p comp (precedes_in i)
        (λ k l y.
        let t : d.term k ≡ true = and_left (d.term k) (p.precedes k i) y in
        let c : p.precedes k i ≡ true = and_right (d.term k) (p.precedes k i) y in
        let f : d.frozen k ≡ true = o.freed k (standing.known k t) c in
        omega (arith, gone k f t, a.room.ready k (is_frozen p d d.tick standing k f) c)))))
        (le-leb (ready_tick p comp d i) d.tick
        (ready_least p comp d i d.tick a.room.from_floor
        (λ k h c. a.room.ready k (record { below = h.below; there = o.freed k h c }) c))))
        (room_has p comp d i d.tick
        (λ r l. a.room.fits d.tick r l (omega arith) (omega (arith, given.sound.lasts i o.has))))

    -- Where everything starts.
    placed_not : (i : ℕ) → d.placed i ≡ true → can_attach p comp d i ≡ false
    placed_not i y =
        by_bool (can_attach p comp d i) (λ c. true_not_false y (attach_is i c).outside) (λ z. z)

    pub attach_kept : (i : ℕ) → d.placed i ≡ true → (attach p comp d).starts i ≡ d.starts i
    unfolding attach
    attach_kept i y = cond_false d.tick (d.starts i) (placed_not i y)

    attach_new : (i : ℕ) → can_attach p comp d i ≡ true → R i ≡ d.tick
    unfolding attach
    attach_new i y = cond_true d.tick (d.starts i) y

    agrees : Agree (among p F) S R
    agrees i f = sym (attach_kept i (standing.within i f.there))

    back : (i x : ℕ) → Room p F R i x → Room p F S i x
    back i x = room_agree p F R S i x (agree_sym (among p F) S R agrees)

    split : {C : Type 0} (i : ℕ) → (attach p comp d).placed i ≡ true → (d.placed i ≡ true → C)
        → (can_attach p comp d i ≡ true → C) → C
    unfolding attach
    split i y old new =
        by_bool (d.placed i) old (λ z. new (sym (ap (λ (x : Bool). x || can_attach p comp d i) z) ∙ y))

    unplaced_before : (i : ℕ) → (attach p comp d).placed i ≡ false
        → (d.placed i ≡ false) × (can_attach p comp d i ≡ false)
    unfolding attach
    unplaced_before i z =
        let old : d.placed i ≡ false =
        by_bool (d.placed i) (λ y. true_not_false (ap (λ (x : Bool). x || can_attach p comp d i) y) z) (λ n. n) in
        (old, sym (ap (λ (x : Bool). x || can_attach p comp d i) old) ∙ z)

    soon : (i : ℕ) → (attach p comp d).placed i ≡ true → d.frozen i ≡ false → Soonest p F R i (R i)
    soon i y z =
        split i y
        (λ old. rw (attach_kept i old) (soonest_agree p F S R i (S i) agrees (standing.at i old z)))
        (λ new.
        let a : Attaches i = attach_is i new in
        rw (attach_new i new)
        (soonest_agree p F S R i d.tick agrees
        (record {
          room = a.room;
          least = λ x room. standing.unplaced i a.is_open a.outside x room;
        })))

    pub attach_standing : Standing p (attach p comp d) (suc d.tick)
    unfolding attach
    attach_standing =
        record {
          node = node_agree p F S R agrees standing.node;
          inside = λ i y. split i y (standing.inside i) (λ c. (attach_is i c).is_open.has);
          known = standing.known;
          within = λ i y. ap (λ (x : Bool). x || can_attach p comp d i) (standing.within i y);
          waiting = standing.waiting;
          running =
              λ i y l. standing.running i y (omega (arith, l, attach_kept i (standing.within i y)));
          before = λ i y. omega (arith, standing.before i y, attach_kept i (standing.within i y));
          behind =
              λ i k y h o. split i y (λ old. standing.behind i k old h o) (λ c. (attach_is i c).is_open.freed k h o);
          at = soon;
          unplaced =
              λ i o z x room.
              let (old, off) = unplaced_before i z in
              let low : d.tick ≤ x = standing.unplaced i o old x (back i x room) in
              by_cases (ℕ_discrete x d.tick)
              (λ e.
              true_not_false
              (attach_of i (record { is_open = o; outside = old; room = rw e at (back i x room) })) off)
              (λ ne. omega (arith, low, ne));
          late = λ i o x room. standing.late i o x (back i x room);
        }

    pub attach_gone : Gone p (attach p comp d)
    unfolding attach
    attach_gone i y t = omega (arith, gone i y t, attach_kept i (standing.within i y))

    pub attach_rows : (mark : ℕ) (rows : List (List ℕ))
        → Rows p mark (Under p comp (attach p comp d).frozen (attach p comp d).starts) rows
        → Rows p mark (Under p comp d.frozen d.starts) rows
    unfolding attach
    attach_rows mark rows =
        rows_same p mark (Under p comp F R) (Under p comp F S) rows
        (λ T _ u. under_agree p comp F R S T (agree_sym (among p F) S R agrees) u)
        (λ T _ u. under_agree p comp F S R T agrees u)
