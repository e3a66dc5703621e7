-- A node of the search: what is frozen is closed under precedence, has all that has begun, and is active by itself.
-- The root is such, freezing an open activity at its earliest start leads to another, and a full one is active.
use Prim.Native.Nat.{ℕ, suc, ◌+◌, ◌≤◌, ◌<◌}
use native.Mathlib.Decide.{dec_le, dec_lt}
use native.Mathlib.Omega.{arith}
use mathlib.Core.Bool.{Bool, true, false, not, cond, ◌&&◌}
use mathlib.Core.Path.{◌≡◌, sym, ap, ◌∙◌}
use mathlib.Core.Logic.{◌≢◌, by_cases}
use borrow.Author.Tests.{not-true}
use Rattle.schedule.specs.Project.{Project}
use Rattle.schedule.specs.Schedule.{Starts, end_of, load, latest_end, moved, feasible}
use Rattle.schedule.specs.Sessions.{wait}
use Rattle.base.proofs.Bools.{by_bool, true_not_false, both, and_left, and_right, cond_true}
use Rattle.base.proofs.Below.{max_term}
use Rattle.schedule.proofs.Load.{Has, among, load_mono, load_mono_but, load_after, end_le, moved_same, moved_other}
use Rattle.schedule.proofs.Reflect.{Feasible, Active, feasible_is, feasible_of}
use Rattle.schedule.proofs.Agree.{Agree, Feasible-agree, agree_moved, part_has, part_feasible, part_active}
use Rattle.branching.proofs.First.{First, first_of}
use Rattle.branching.proofs.Room.{Frozen, Open, Room, Soonest, room_of, frozen_other, adding, adding_new}
use Rattle.branching.proofs.Room.{adding_other, adding_old, by_added}
pub use Rattle.branching.specs.Node.{Node}

-- The root: what has begun is frozen.

abbrev pub begun_of : Project → ℕ → Bool
begun_of p i = p.present i && not (p.free i)

pub begun_fixed : (p : Project) (i : ℕ) → Frozen p (begun_of p) i → p.free i ≡ false
begun_fixed p i f = not-true (p.free i) (and_right (p.present i) (not (p.free i)) f.there)

pub begun_has : (p : Project) (i : ℕ) → Frozen p (begun_of p) i → Has p i
begun_has p i f = record { below = f.below; there = and_left (p.present i) (not (p.free i)) f.there }

pub root : (p : Project) (S : Starts)
    → ((i j : ℕ) → Has p i → Has p j → p.precedes i j ≡ true → p.free j ≡ false → p.free i ≡ false)
    → Feasible (among p (begun_of p)) S → Node p (begun_of p) S
root p S earlier f =
    record {
      inside = λ i l y. and_left (p.present i) (not (p.free i)) y;
      closed =
          λ i j h g o. both h.there (ap not (earlier i j h (begun_has p j g) o (begun_fixed p j g)));
      begun = λ i h z. both h.there (ap not z);
      is_active = record { is_feasible = f; least = λ j g y t l m. true_not_false y (begun_fixed p j g) };
    }

-- A leaf: every activity is frozen.
pub leaf_active : (p : Project) (F : ℕ → Bool) (S : Starts) → Node p F S → ((i : ℕ) → Has p i → F i ≡ true)
    → Active p S
leaf_active p F S node all =
    part_active p F p.present S (λ i f. node.inside i f.below f.there) all node.is_active

module _ (p : Project) (F : ℕ → Bool) (S : Starts) (node : Node p F S) where
  pub frozen_has : (i : ℕ) → Frozen p F i → Has p i
  frozen_has i f = part_has p F node.inside i f

  pub open_free : (j : ℕ) → Open p F j → p.free j ≡ true
  open_free j o =
      by_bool (p.free j) (λ y. y) (λ z. true_not_false (node.begun j o.has z) o.waits)

  module _ (j : ℕ) (o : Open p F j) where
    apart : (i : ℕ) → Frozen p F i → i ≢ j
    apart i f = frozen_other p F i j f o.waits

    pub child_inside : (i : ℕ) → i < p.size → adding F j i ≡ true → p.present i ≡ true
    child_inside i l y =
        by_added p F j i (record { below = l; there = y }) (λ q. ap p.present q ∙ o.has.there)
        (λ ne f. node.inside i l f.there)

    -- What precedes a frozen one was frozen before.
    child_before : (i k : ℕ) → Has p i → Frozen p (adding F j) k → p.precedes i k ≡ true → Frozen p F i
    child_before i k h f c =
        record {
          below = h.below;
          there = by_added p F j k f (λ q. o.freed i h (rw q at c)) (λ ne g. node.closed i k h g c);
        }

    pub child_closed : (i k : ℕ) → Has p i → Frozen p (adding F j) k → p.precedes i k ≡ true → adding F j i ≡ true
    child_closed i k h f c = adding_old F j i (child_before i k h f c).there

    -- Where j has room, it may be added.
    module _ (t : ℕ) (room : Room p F S j t) where
      at_new : (i : ℕ) → i ≡ j → moved S j t i ≡ t
      at_new i q = rw q (moved_same S j t)

      off_new : (i : ℕ) → i ≢ j → moved S j t i ≡ S i
      off_new i ne = moved_other S j t i ne

      placed_ordered : (i k : ℕ) → Frozen p (adding F j) i → Frozen p (adding F j) k → p.precedes i k ≡ true
          → end_of p (moved S j t) i + p.gap i k ≤ moved S j t k
      placed_ordered i k fi fk c =
          let h : Has p i = record { below = fi.below; there = child_inside i fi.below fi.there } in
          let g : Frozen p F i = child_before i k h fk c in
          let same : moved S j t i ≡ S i = off_new i (apart i g) in
          by_added
          p
          F
          j
          k
          fk
          (λ q. omega (arith, at_new k q, ap (p.gap i) q, room.ready i g (rw q at c)))
          (λ ne gk. omega (arith, off_new k ne, node.is_active.is_feasible.ordered i k g gk c))

      placed_fits : (u r : ℕ) → r < p.resources → load (among p (adding F j)) (moved S j t) u r ≤ p.capacity r
      placed_fits u r l =
          by_cases
          (dec_le t u)
          (λ a.
          by_cases
          (dec_lt u (t + p.duration j))
          (λ b.
          omega (
            arith,
            room.fits u r l a b,
            load_mono_but p (adding F j) F (moved S j t) S u u r j o.has.below
                (λ i m ne y k.
                let same : moved S j t i ≡ S i = off_new i ne in (sym (adding_other F j i ne) ∙ y, omega arith)),
          ))
          (λ b. omega (arith, idle u r (λ x y. b y), node.is_active.is_feasible.fits u r l)))
          (λ a. omega (arith, idle u r (λ x y. a x), node.is_active.is_feasible.fits u r l))
        where
          idle : (u r : ℕ) → (t ≤ u → u < t + p.duration j → ⊥)
              → load (among p (adding F j)) (moved S j t) u r ≤ load (among p F) S u r
          idle u r off =
              load_mono p (adding F j) F (moved S j t) S u u r
              (λ i m w y k.
              by_added
              p
              F
              j
              i
              (record { below = m; there = y })
              (λ q.
              let at : moved S j t i ≡ t = at_new i q in
              let long : p.duration i ≡ p.duration j = ap p.duration q in
              absurd (off (omega arith) (omega arith)))
              (λ ne f. let same : moved S j t i ≡ S i = off_new i ne in (f.there, omega arith)))

      pub placed_feasible : Feasible (among p (adding F j)) (moved S j t)
      placed_feasible =
          record {
            from_floor =
                λ i f y.
                by_added p F j i f (λ q. omega (arith, at_new i q, room.from_floor))
                (λ ne g. omega (arith, off_new i ne, node.is_active.is_feasible.from_floor i g y));
            as_begun =
                λ i f z.
                by_added p F j i f (λ q. true_not_false (open_free j o) (sym (ap p.free q) ∙ z))
                (λ ne g. off_new i ne ∙ node.is_active.is_feasible.as_begun i g z);
            ordered = placed_ordered;
            fits = placed_fits;
          }

    room_in : (R : Starts) → Feasible (among p (adding F j)) R → Agree (among p F) S R → Room p F S j (R j)
    room_in R f a =
        room_of p F (adding F j) S R f a (λ i g. adding_old F j i g.there) j
        (record { below = o.has.below; there = adding_new F j }) o.waits (open_free j o)

    -- If j fits alone, it has room after all ends, and so an earliest start.
    module _ (alone : (r : ℕ) → r < p.resources → p.units j r ≤ p.capacity r) where
      late : ℕ
      late = p.floor + latest_end (among p F) S + wait p j

      late_room : Room p F S j late
      unfolding late wait
      late_room =
          record {
            from_floor = omega arith;
            ready =
                λ k f c.
                omega (
                  arith,
                  end_le (among p F) S k f,
                  max_term p.size (λ x. cond (p.present x && p.precedes x j) (p.gap x j) 0) k f.below,
                  cond_true (p.gap k j) 0 (both (node.inside k f.below f.there) c),
                );
            fits = λ u r l from to. omega (arith, alone r l, load_after (among p F) S u r (omega arith));
          }

      pub soonest_some : (e : ℕ) × Soonest p F S j e
      soonest_some =
          let test : ℕ → Bool = λ t. feasible (among p (adding F j)) (moved S j t) in
          let passes : (t : ℕ) → Room p F S j t → test t ≡ true =
          λ t m. feasible_of (among p (adding F j)) (moved S j t) (placed_feasible t m)
          in
          let f : First (suc late) test (λ t. t) =
          first_of test (λ t. t) (suc late) late (omega arith) (passes late late_room) in (
            f.who,
            record {
              room =
                  rw (moved_same S j f.who) at
                  (room_in (moved S j f.who)
                  (feasible_is (among p (adding F j)) (moved S j f.who) f.passes)
                  (λ i g. sym (moved_other S j f.who i (apart i g))));
              least =
                  λ t m.
                  by_cases (dec_lt t (suc late)) (λ l. f.least t l (passes t m)) (λ g. omega (arith, f.below));
            },
          )

    -- A branch is a node: neither j nor one frozen before can start sooner.
    module _ (e : ℕ) (soon : Soonest p F S j e) where
      child_least : (k : ℕ) → Frozen p (adding F j) k → p.free k ≡ true → (t : ℕ) → t < moved S j e k
          → Feasible (among p (adding F j)) (moved (moved S j e) k t) → ⊥
      child_least k f y t l m =
          let R : Starts = moved (moved S j e) k t in
          by_added
          p
          F
          j
          k
          f
          (λ q.
          let room : Room p F S j (R j) =
          room_in R m
          (λ i g.
          sym (moved_other S j e i (apart i g))
          ∙ sym (moved_other (moved S j e) k t i (λ w. apart i g (w ∙ q))))
          in
          omega (
            arith,
            soon.least (R j) room,
            ap R q,
            moved_same (moved S j e) k t,
            at_new e soon.room k q,
          ))
          (λ ne g.
          node.is_active.least k g y t (omega (arith, off_new e soon.room k ne))
          (Feasible-agree (among p F) R (moved S k t)
          (agree_moved (among p F) (moved S j e) S k t (λ i x. moved_other S j e i (apart i x)))
          (part_feasible p F (adding F j) R (λ i x. adding_old F j i x.there) m)))

      pub child : Node p (adding F j) (moved S j e)
      child =
          record {
            inside = child_inside;
            closed = child_closed;
            begun = λ i h z. adding_old F j i (node.begun i h z);
            is_active = record { is_feasible = placed_feasible e soon.room; least = child_least };
          }
