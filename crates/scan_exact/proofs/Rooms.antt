-- The tests of the scan are those of the theory: when an activity is ready, where it has room, and its next fit.
use Prim.Native.Nat.{ℕ, zero, suc, ◌+◌, ◌-◌, ◌≤◌, ◌<◌}
use native.Mathlib.Decide.{ℕ_discrete, dec_le}
use native.Mathlib.Omega.{arith}
use mathlib.Core.Bool.{Bool, true, false, cond, ◌&&◌}
use mathlib.Core.Path.{◌≡◌, refl, ap, ◌∙◌}
use mathlib.Core.Logic.{by_cases}
use lib.Dec.{leb}
use borrow.Author.Tests.{leb-true, le-leb}
use Rattle.base.specs.Below.{max_below}
use Rattle.base.proofs.Bools.{by_bool, true_not_false, both, and_left, and_right, cond_true, cond_false}
use Rattle.base.proofs.Bools.{elim_true, elim_false}
use Rattle.base.proofs.Below.{every_at, every_of, max_term, max_least}
use Rattle.schedule.specs.Project.{Project}
use Rattle.schedule.specs.Schedule.{Starts, end_of, load, latest_end}
use Rattle.schedule.proofs.Load.{Has, among, load_after}
use Rattle.schedule.proofs.Agree.{Agree, load_agree}
use Rattle.branching.proofs.Room.{Frozen, Room, Soonest}
use Rattle.branching.proofs.Fit.{FitsOn}
use Rattle.branching.proofs.Node.{Node, frozen_has}
use Rattle.scan.specs.Scan.{Diagram}
use Rattle.scan.specs.Scan.{first_from, right_end, ready_tick, held, has_room, fits, next_fit}

-- The first tick that passes, where one up to x + n does.
pub record FirstOne (test : ℕ → Bool) (x r : ℕ) : Type 0 where
  pub passes : test r ≡ true
  pub from : x ≤ r
  pub none : (z : ℕ) → x ≤ z → z < r → test z ≡ false

pub first_one : (test : ℕ → Bool) (n x y : ℕ) → x ≤ y → y ≤ x + n → test y ≡ true
    → FirstOne test x (first_from test n x)
unfolding first_from
first_one test zero x y low high h =
    record {
      passes = ap test (omega (arith, low, high)) ∙ h;
      from = omega arith;
      none = λ z a b. absurd (omega (arith, a, b));
    }
first_one test (suc n) x y low high h =
    by_bool (test x)
    (λ t.
    rw (elim_true (test x) x (first_from test n (suc x)) t)
    (record { passes = t; from = omega arith; none = λ z a b. absurd (omega (arith, a, b)) }))
    (λ f.
    let later : x < y =
    by_cases (ℕ_discrete x y) (λ e. true_not_false (ap test e ∙ h) f) (λ ne. omega (arith, low, ne)) in
    let rest = first_one test n (suc x) y later (omega (arith, high)) h in
    rw (elim_false (test x) x (first_from test n (suc x)) f)
    (record {
      passes = rest.passes;
      from = omega (arith, rest.from);
      none =
          λ z a b.
          by_cases (ℕ_discrete z x) (λ e. ap test e ∙ f) (λ ne. rest.none z (omega (arith, a, ne)) b);
    }))

-- Where the frozen ones start at the same ticks, there is the same room.
pub room_agree : (p : Project) (F : ℕ → Bool) (S R : Starts) (i x : ℕ) → Agree (among p F) S R → Room p F S i x
    → Room p F R i x
room_agree p F S R i x a room =
    record {
      from_floor = room.from_floor;
      ready = λ k f o. omega (arith, room.ready k f o, a k f);
      fits = λ u r l from to. omega (arith, room.fits u r l from to, load_agree (among p F) S R u r a);
    }

module _ (p : Project) (comp : ℕ → ℕ) (d : Diagram) where
  held_is : (x r : ℕ) → held p comp d x r ≡ load (among p d.frozen) d.starts x r
  unfolding held load
  held_is x r = refl

  pub has_room_lem : (i x : ℕ) → has_room p comp d i x ≡ true → FitsOn p d.frozen d.starts i x
  unfolding has_room
  has_room_lem i x h r l =
      omega (
        arith,
        leb-true (held p comp d x r + p.units i r) (p.capacity r)
            (every_at p.resources (λ r. leb (held p comp d x r + p.units i r) (p.capacity r)) h r l),
        held_is x r,
      )

  pub room_has : (i x : ℕ) → FitsOn p d.frozen d.starts i x → has_room p comp d i x ≡ true
  unfolding has_room
  room_has i x f =
      every_of p.resources (λ r. leb (held p comp d x r + p.units i r) (p.capacity r))
      (λ r l. le-leb (held p comp d x r + p.units i r) (p.capacity r) (omega (arith, f r l, held_is x r)))

  fits_is : (i x : ℕ) → fits p comp d i x ≡ true → (u : ℕ) → x ≤ u → u < x + p.duration i
      → FitsOn p d.frozen d.starts i u
  unfolding fits
  fits_is i x h u from to =
      has_room_lem i u
      (ap (has_room p comp d i) {x = u} {y = x + (u - x)} (omega (arith, from))
      ∙ every_at (p.duration i) (λ y. has_room p comp d i (x + y)) h (u - x) (omega (arith, from, to)))

  fits_of : (i x : ℕ) → ((u : ℕ) → x ≤ u → u < x + p.duration i → FitsOn p d.frozen d.starts i u)
      → fits p comp d i x ≡ true
  unfolding fits
  fits_of i x f =
      every_of (p.duration i) (λ y. has_room p comp d i (x + y))
      (λ y l. room_has i (x + y) (f (x + y) (omega arith) (omega (arith, l))))

  -- The latest frozen end.
  ends : ℕ
  ends = latest_end (among p d.frozen) d.starts

  next_from_lem : (i x : ℕ) → next_fit p comp d i x ≡ first_from (fits p comp d i) ends x
  unfolding next_fit ends latest_end
  next_from_lem i x = refl

  -- From b on, when i is ready, its next fit is its earliest start.
  pub next_soonest : (i b : ℕ) → ((r : ℕ) → r < p.resources → p.units i r ≤ p.capacity r) → p.floor ≤ b
      → ((k : ℕ) → Frozen p d.frozen k → p.precedes k i ≡ true → end_of p d.starts k + p.gap k i ≤ b)
      → ((x : ℕ) → Room p d.frozen d.starts i x → b ≤ x)
      → Soonest p d.frozen d.starts i (next_fit p comp d i b)
  unfolding ends
  next_soonest i b alone floor ready least =
      let late : fits p comp d i (b + ends) ≡ true =
      fits_of i (b + ends)
      (λ u from to r l.
      omega (arith, alone r l, load_after (among p d.frozen) d.starts u r (omega (arith, from)))) in
      let one : FirstOne (fits p comp d i) b (first_from (fits p comp d i) ends b) =
      first_one (fits p comp d i) ends b (b + ends) (omega arith) (omega arith) late in
      let same : next_fit p comp d i b ≡ first_from (fits p comp d i) ends b = next_from_lem i b in
      rw same
      (record {
        room =
            record {
              from_floor = omega (arith, floor, one.from);
              ready = λ k f o. omega (arith, ready k f o, one.from);
              fits = λ u r l from to. fits_is i (first_from (fits p comp d i) ends b) one.passes u from to r l;
            };
        least =
            λ x room.
            by_cases (dec_le (first_from (fits p comp d i) ends b) x) (λ y. y)
            (λ n.
            true_not_false (fits_of i x (λ u from to r l. room.fits u r l from to))
            (one.none x (least x room) (omega (arith, n))));
      })

  -- When what is frozen before i has ended, with its gaps.
  pub ready_after : Node p d.frozen d.starts → (i k : ℕ) → Frozen p d.frozen k → p.precedes k i ≡ true
      → end_of p d.starts k + p.gap k i ≤ ready_tick p comp d i
  unfolding ready_tick
  ready_after node i k f o =
      let h : Has p k = frozen_has p d.frozen d.starts node k f in
      omega (
        arith,
        max_term p.size (λ m. cond (p.present m && p.precedes m i) (right_end p comp d m + p.gap m i) 0) k
            h.below,
        cond_true (right_end p comp d k + p.gap k i) 0 (both h.there o),
      )

  pub ready_floor : (i : ℕ) → p.floor ≤ ready_tick p comp d i
  unfolding ready_tick
  ready_floor i = omega arith

  pub ready_least : (i b : ℕ) → p.floor ≤ b
      → ((k : ℕ) → Has p k → p.precedes k i ≡ true → end_of p d.starts k + p.gap k i ≤ b)
      → ready_tick p comp d i ≤ b
  unfolding ready_tick
  ready_least i b floor each =
      let after : ℕ → ℕ = λ k. cond (p.present k && p.precedes k i) (right_end p comp d k + p.gap k i) 0 in
      let most : max_below p.size after ≤ b =
      max_least p.size after b
      (λ k l.
      by_bool (p.present k && p.precedes k i)
      (λ y.
      omega (
        arith,
        cond_true (right_end p comp d k + p.gap k i) 0 y,
        each k (record { below = l; there = and_left (p.present k) (p.precedes k i) y })
            (and_right (p.present k) (p.precedes k i) y),
      ))
      (λ z. omega (arith, cond_false (right_end p comp d k + p.gap k i) 0 z))) in
      omega (arith, most, floor)
