-- To select an activity that is placed and not frozen and starts before the scan-line is to take a branch: it is frozen
-- where it stands, and what else is placed in its component starts at its next fit.
use Prim.Native.Nat.{ℕ, ◌+◌, ◌≤◌, ◌<◌}
use native.Mathlib.Decide.{ℕ_discrete}
use native.Mathlib.Omega.{arith}
use mathlib.Core.Bool.{Bool, true, false, not, ◌&&◌, ◌||◌, and-false}
use mathlib.Core.List.{List}
use mathlib.Core.Logic.{◌≢◌, by_cases}
use mathlib.Core.Path.{◌≡◌, refl, sym, ap, ◌∙◌}
use lib.Dec.{eqb}
use borrow.Author.Tests.{eq-eqb, ne_eqb}
use Rattle.base.proofs.Bools.{by_bool, true_not_false, both, cond_true, cond_false}
use Rattle.schedule.specs.Project.{Project}
use Rattle.schedule.specs.Schedule.{Starts, end_of, moved}
use Rattle.schedule.proofs.Load.{Has, among, load_mono, moved_same, moved_other}
use Rattle.schedule.proofs.Agree.{Agree, agree_sym}
use Rattle.branching.proofs.Room.{Frozen, Open, Room, Soonest, adding, adding_new, adding_old, not_added, by_added}
use Rattle.branching.proofs.Node.{Node, child}
use Rattle.branching.proofs.Under.{Under}
use Rattle.branching.proofs.Rows.{Rows, rows_same}
use Rattle.scan.specs.Scan.{Diagram}
use Rattle.scan.specs.Scan.{is_loose, next_fit, freeze, shift, select}
use Rattle.scan_exact.proofs.Rooms.{room_agree, next_soonest}
use Rattle.scan_exact.proofs.Standing.{Scannable, Standing, is_frozen, placed_open, ends_late, node_agree}
use Rattle.scan_exact.proofs.Standing.{under_agree}

pub soonest_agree : (p : Project) (F : ℕ → Bool) (S R : Starts) (i e : ℕ) → Agree (among p F) S R
    → Soonest p F S i e
    → Soonest p F R i e
soonest_agree p F S R i e a soon =
    record {
      room = room_agree p F S R i e a soon.room;
      least = λ x room. soon.least x (room_agree p F R S i x (agree_sym (among p F) S R a) room);
    }

module _ (p : Project) (comp : ℕ → ℕ) (given : Scannable p comp) (d : Diagram)
    (standing : Standing p d d.tick) (j : ℕ) (there : d.placed j ≡ true) (waits : d.frozen j ≡ false)
    (early : d.starts j < d.tick) where
  abbrev F : ℕ → Bool
  F = d.frozen

  abbrev S : Starts
  S = d.starts

  abbrev G : ℕ → Bool
  G = adding d.frozen j

  abbrev R : Starts
  R = (select p comp d j).starts

  open_j : Open p F j
  open_j = placed_open p d d.tick standing j there waits

  -- What is frozen.
  pub select_frozen : (i : ℕ) → (select p comp d j).frozen i ≡ adding d.frozen j i
  unfolding freeze shift
  select_frozen i = refl

  loose_not : (k : ℕ) → G k ≡ true → is_loose p comp (freeze p comp d j) k ≡ false
  unfolding freeze
  loose_not k y = ap (λ (x : Bool). d.placed k && not x) y ∙ and-false (d.placed k)

  pub select_kept : (k : ℕ) → adding d.frozen j k ≡ true → (select p comp d j).starts k ≡ d.starts k
  unfolding freeze shift
  select_kept k y =
      cond_false (next_fit p comp (freeze p comp d j) k (S k)) (S k)
      (ap (λ (x : Bool). x && eqb (comp k) (comp j)) (loose_not k y))

  pub select_off : (k : ℕ) → comp k ≢ comp j → (select p comp d j).starts k ≡ d.starts k
  unfolding freeze shift
  select_off k off =
      cond_false (next_fit p comp (freeze p comp d j) k (S k)) (S k)
      (ap (λ (x : Bool). is_loose p comp (freeze p comp d j) k && x) (ne_eqb (comp k) (comp j) off)
      ∙ and-false (is_loose p comp (freeze p comp d j) k))

  shifted : (k : ℕ) → d.placed k ≡ true → G k ≡ false → comp k ≡ comp j
      → R k ≡ next_fit p comp (freeze p comp d j) k (S k)
  unfolding freeze shift
  shifted k y z on =
      cond_true (next_fit p comp (freeze p comp d j) k (S k)) (S k)
      (both (both y (ap not z)) (eq-eqb (comp k) (comp j) on))

  agrees : Agree (among p G) S R
  agrees i f = sym (select_kept i f.there)

  new_frozen : Frozen p G j
  new_frozen = record { below = open_j.has.below; there = adding_new F j }

  more : (i : ℕ) → Frozen p F i → Frozen p G i
  more i f = record { below = f.below; there = adding_old F j i f.there }

  -- The node.
  mid_agrees : Agree (among p G) (moved S j (S j)) S
  mid_agrees i f =
      by_cases (ℕ_discrete i j) (λ e. ap (moved S j (S j)) e ∙ moved_same S j (S j) ∙ sym (ap S e))
      (λ ne. moved_other S j (S j) i ne)

  mid : Node p G S
  mid =
      node_agree p G (moved S j (S j)) S mid_agrees
      (child p F S standing.node j open_j (S j) (standing.at j there waits))

  -- Less room than before.
  room_less : (i x : ℕ) → Room p G S i x → Room p F S i x
  room_less i x room =
      record {
        from_floor = room.from_floor;
        ready = λ k f o. room.ready k (more k f) o;
        fits =
            λ u r l from to.
            omega (
              arith,
              room.fits u r l from to,
              load_mono p F G S S u u r (λ k b w y runs. (adding_old F j k y, runs)),
            );
      }

  pub room_back : (i x : ℕ) → Room p (adding d.frozen j) (select p comp d j).starts i x
      → Room p d.frozen d.starts i x
  room_back i x room = room_less i x (room_agree p G R S i x (agree_sym (among p G) S R agrees) room)

  -- What precedes a placed one was frozen before.
  still_ready : (k x : ℕ) → d.placed k ≡ true → d.frozen k ≡ false → S k ≤ x → (m : ℕ) → Frozen p G m
      → p.precedes m k ≡ true
      → end_of p S m + p.gap m k ≤ x
  still_ready k x y z from m f o =
      let h : Has p m =
      by_added p F j m f (λ e. rw e open_j.has)
      (λ ne g. record { below = g.below; there = standing.node.inside m g.below g.there }) in
      let g : Frozen p F m = is_frozen p d d.tick standing m (standing.behind k m y h o) in
      omega (arith, (standing.at k y z).room.ready m g o, from)

  -- The earliest starts.
  soon_shifted : (k : ℕ) → d.placed k ≡ true → d.frozen k ≡ false
      → Soonest p G S k (next_fit p comp (freeze p comp d j) k (S k))
  unfolding freeze
  soon_shifted k y z =
      next_soonest p comp (freeze p comp d j) k (S k) (given.alone k (standing.inside k y))
      (standing.at k y z).room.from_floor
      (λ m f o. still_ready k (S k) y z (omega arith) m f o)
      (λ x room. (standing.at k y z).least x (room_less k x room))

  soon_kept : (k : ℕ) → d.placed k ≡ true → d.frozen k ≡ false → comp k ≢ comp j → Soonest p G S k (S k)
  soon_kept k y z off =
      let h : Has p k = standing.inside k y in
      record {
        room =
            record {
              from_floor = (standing.at k y z).room.from_floor;
              ready = λ m f o. still_ready k (S k) y z (omega arith) m f o;
              fits =
                  λ u r l from to.
                  by_cases (ℕ_discrete (p.units k r) 0)
                  (λ none. omega (arith, none, mid.is_active.is_feasible.fits u r l))
                  (λ some.
                  omega (
                    arith,
                    (standing.at k y z).room.fits u r l from to,
                    load_mono p G F S S u u r
                        (λ i b w f runs.
                        by_added p F j i (record { below = b; there = f })
                        (λ e.
                        absurd
                        (off
                        (given.joint k j r h open_j.has l (omega (arith, some))
                        (omega (arith, w, ap (λ (m : ℕ). p.units m r) e)))))
                        (λ ne g. (g.there, runs))),
                  ));
            };
        least = λ x room. (standing.at k y z).least x (room_less k x room);
      }

  soon_next : (k : ℕ) → d.placed k ≡ true → G k ≡ false → Soonest p G R k (R k)
  soon_next k y z =
      let (_, old) = not_added F j k z in
      by_cases (ℕ_discrete (comp k) (comp j))
      (λ on.
      rw (shifted k y z on)
      (soonest_agree p G S R k (next_fit p comp (freeze p comp d j) k (S k)) agrees (soon_shifted k y old)))
      (λ off. rw (select_off k off) (soonest_agree p G S R k (S k) agrees (soon_kept k y old off)))

  -- What opens only now waits for j.
  by_open : {C : Type 0} (i x : ℕ) → Open p G i → Room p G R i x → (Open p F i → C) → (d.tick ≤ x → C) → C
  by_open i x o room old new =
      by_bool (p.precedes j i)
      (λ y.
      new
      (omega (
        arith,
        room.ready j new_frozen y,
        select_kept j (adding_new F j),
        ends_late p d d.tick standing j there waits,
      )))
      (λ z.
      old
      (record {
        has = o.has;
        waits = (not_added F j i o.waits).1;
        freed =
            λ k h c.
            by_added p F j k (record { below = h.below; there = o.freed k h c })
            (λ e. true_not_false c (ap (λ (m : ℕ). p.precedes m i) e ∙ z))
            (λ ne g. g.there);
      }))

  abbrev split : {C : Type 0} (i : ℕ) → G i ≡ true → (i ≡ j → C) → (d.frozen i ≡ true → C) → C
  split i y new old =
      by_cases (ℕ_discrete i j) new
      (λ ne. old (ap (λ (x : Bool). x || d.frozen i) (sym (ne_eqb i j ne)) ∙ y))

  pub select_standing : Standing p (select p comp d j) (select p comp d j).tick
  unfolding freeze shift
  select_standing =
      record {
        node = node_agree p G S R agrees mid;
        inside = standing.inside;
        known = standing.known;
        within = λ i y. split i y (λ e. ap d.placed e ∙ there) (λ f. standing.within i f);
        waiting = λ i h z. standing.waiting i h (not_added F j i z).1;
        running =
            λ i y l.
            split i y (λ e. ap d.term e ∙ standing.waiting j open_j.has waits)
            (λ f. standing.running i f (omega (arith, l, select_kept i y)));
        before =
            λ i y.
            split i y (λ e. omega (arith, select_kept i y, ap S e, early))
            (λ f. omega (arith, select_kept i y, standing.before i f));
        behind = λ i k y h o. adding_old F j k (standing.behind i k y h o);
        at = soon_next;
        unplaced =
            λ i o z x room.
            by_open i x o room (λ old. standing.unplaced i old z x (room_back i x room)) (λ l. l);
        late =
            λ i o x room.
            by_open i x o room (λ old. standing.late i old x (room_back i x room)) (λ l. omega (arith, l));
      }

  -- It is the branch.
  pub select_rows : (mark e : ℕ) (rows : List (List ℕ)) → d.starts j ≡ e
      → Rows p mark (Under p comp (select p comp d j).frozen (select p comp d j).starts) rows
      → Rows p mark (Under p comp (adding d.frozen j) (moved d.starts j e)) rows
  unfolding freeze shift
  select_rows mark e rows at =
      let same : Agree (among p G) R (moved S j e) =
      λ i f.
      sym (agrees i f) ∙ sym (mid_agrees i f) ∙ ap (λ (x : ℕ). moved S j x i) at in
      rows_same p mark (Under p comp G R) (Under p comp G (moved S j e)) rows
      (λ T _ u. under_agree p comp G R (moved S j e) T same u)
      (λ T _ u. under_agree p comp G (moved S j e) R T (agree_sym (among p G) R (moved S j e) same) u)
