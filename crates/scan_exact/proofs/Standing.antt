-- A diagram of the scan stands for a node of the theory: what is frozen is a node, what else is placed starts at its
-- earliest, and what is not placed can start at `line` or later only. T keeps what has yet to end.
use Prim.Native.Nat.{ℕ, ◌≤◌, ◌<◌}
use native.Mathlib.Omega.{arith}
use mathlib.Core.Bool.{Bool, true, false, not}
use mathlib.Core.Path.{◌≡◌, sym, ap, ◌∙◌}
use borrow.Author.Tests.{not-true}
use Rattle.base.proofs.Bools.{true_not_false, both, and_left, and_right}
use Rattle.schedule.specs.Project.{Project}
use Rattle.schedule.specs.Schedule.{Starts, end_of}
use Rattle.schedule.proofs.Load.{Has, Sound, among}
use Rattle.schedule.proofs.Reflect.{Feasible}
use Rattle.schedule.proofs.Agree.{Agree, Active-agree}
use Rattle.branching.proofs.Room.{Frozen, Open, Soonest}
use Rattle.branching.proofs.Node.{Node, begun_of, root}
use Rattle.branching.proofs.Under.{Components, Under}
use Rattle.scan.specs.Scan.{Diagram}
use Rattle.scan.specs.Scan.{ready_tick, next_fit, begun}
use Rattle.scan_exact.proofs.Rooms.{next_soonest, ready_after, ready_floor, ready_least}
pub use Rattle.scan_exact.specs.Standing.{Standing}

-- What the scan is given: a component for each activity, below the number of activities, and each activity fits alone.
-- What has begun fits, and began before the floor and after what precedes it.
pub record Scannable (p : Project) (comp : ℕ → ℕ) : Type 0 where
  pub sound : Sound p
  pub joint : Components p comp
  pub few : (i : ℕ) → Has p i → comp i < p.size
  pub beyond : (i : ℕ) → p.present i ≡ true → i < p.size
  pub alone : (i : ℕ) → Has p i → (r : ℕ) → r < p.resources → p.units i r ≤ p.capacity r

pub record Begun (p : Project) : Type 0 where
  pub closed : (i j : ℕ) → Has p i → Has p j → p.precedes i j ≡ true → p.free j ≡ false → p.free i ≡ false
  pub fits : Feasible (among p (begun_of p)) p.begun
  pub early : (i : ℕ) → Has p i → p.free i ≡ false → p.begun i < p.floor

module _ (p : Project) (d : Diagram) (line : ℕ) (standing : Standing p d line) where
  pub has_frozen : (i : ℕ) → d.frozen i ≡ true → Has p i
  has_frozen i y = standing.inside i (standing.within i y)

  pub is_frozen : (i : ℕ) → d.frozen i ≡ true → Frozen p d.frozen i
  is_frozen i y = record { below = (has_frozen i y).below; there = y }

  pub placed_open : (i : ℕ) → d.placed i ≡ true → d.frozen i ≡ false → Open p d.frozen i
  placed_open i y z =
      record { has = standing.inside i y; waits = z; freed = λ k h o. standing.behind i k y h o }

  -- What is placed and not frozen ends on the scan-line or behind it.
  pub ends_late : (i : ℕ) → d.placed i ≡ true → d.frozen i ≡ false → d.tick ≤ end_of p d.starts i
  ends_late i y z = standing.late i (placed_open i y z) (d.starts i) (standing.at i y z).room

  -- The earliest start of an open activity, by its next fit.
  module _ (comp : ℕ → ℕ) (given : Scannable p comp) where
    pub soonest_open : (i : ℕ) → Open p d.frozen i
        → Soonest p d.frozen d.starts i (next_fit p comp d i (ready_tick p comp d i))
    soonest_open i o =
        next_soonest p comp d i (ready_tick p comp d i) (given.alone i o.has) (ready_floor p comp d i)
        (λ k f c. ready_after p comp d standing.node i k f c)
        (λ x room.
        ready_least p comp d i x room.from_floor
        (λ k h c. room.ready k (record { below = h.below; there = o.freed k h c }) c))

-- Two earliest starts are one.
pub soonest_same : (p : Project) (F : ℕ → Bool) (S : Starts) (i a b : ℕ) → Soonest p F S i a → Soonest p F S i b
    → a ≡ b
soonest_same p F S i a b x y = omega (arith, x.least b y.room, y.least a x.room)

-- A node and what is under it, where the frozen ones start at the same ticks.
pub node_agree : (p : Project) (F : ℕ → Bool) (S R : Starts) → Agree (among p F) S R → Node p F S → Node p F R
node_agree p F S R a node =
    record {
      inside = node.inside;
      closed = node.closed;
      begun = node.begun;
      is_active = Active-agree (among p F) S R a node.is_active;
    }

pub under_agree : (p : Project) (comp : ℕ → ℕ) (F : ℕ → Bool) (S R T : Starts) → Agree (among p F) S R
    → Under p comp F S T
    → Under p comp F R T
under_agree p comp F S R T a u = record { agrees = λ i f. sym (a i f) ∙ u.agrees i f; after = u.after }

-- What has begun, at the floor.
module _ (p : Project) (comp : ℕ → ℕ) (given : Scannable p comp) (b : Begun p) where
  begun_in : (i : ℕ) → begun_of p i ≡ true → Has p i × (p.free i ≡ false)
  begun_in i y =
      let there : p.present i ≡ true = and_left (p.present i) (not (p.free i)) y in (
        record { below = given.beyond i there; there = there },
        not-true (p.free i) (and_right (p.present i) (not (p.free i)) y),
      )

  pub begun_standing : Standing p (begun p comp) (begun p comp).tick
  unfolding begun
  begun_standing =
      record {
        node = root p p.begun b.closed b.fits;
        inside = λ i y. (begun_in i y).0;
        known = λ i y. record { below = given.beyond i y; there = y };
        within = λ i y. y;
        waiting = λ i h z. h.there;
        running = λ i y l. (begun_in i y).0.there;
        before = λ i y. let (h, z) = begun_in i y in b.early i h z;
        behind =
            λ i k y h o. let (hi, z) = begun_in i y in both h.there (ap not (b.closed k i h hi o z));
        at = λ i y z. true_not_false y z;
        unplaced = λ i o z x room. room.from_floor;
        late = λ i o x room. omega (arith, room.from_floor);
      }
