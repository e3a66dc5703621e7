-- Where an active schedule can stand. A free activity that does not start at the floor starts where another ends, or
-- a gap after one that precedes it; so every activity ends by the horizon.
use Prim.Native.Nat.{ℕ, zero, suc, ◌+◌, ◌-◌, ◌≤◌, ◌<◌, zero-le}
use native.Mathlib.Decide.{dec_le}
use native.Mathlib.Nat.{not-suc-le-zero}
use native.Mathlib.Omega.{arith}
use mathlib.Core.Bool.{Bool, true, false, cond, ◌&&◌}
use mathlib.Core.Path.{◌≡◌, sym, ◌∙◌, ap}
use mathlib.Core.Logic.{by_cases}
use lib.Dec.{leb, ltb}
use borrow.Author.Tests.{ltb-true, lt-ltb, leb-true, leb-false}
use Rattle.base.specs.Below.{every_below, sum_below, ◌implies◌}
use Rattle.schedule.specs.Project.{Project}
pub use Rattle.schedule.specs.Bounds.{work}
use Rattle.schedule.specs.Schedule.{Starts, end_of, load, latest_end}
use Rattle.schedule.specs.Sessions.{wait, horizon}
use Rattle.base.proofs.Bools.{by_bool, both, and_left, and_right, cond_true, cond_false}
use Rattle.base.proofs.Below.{implies_elim, implies_fails, cond_mono, every_at, every_fails, sum_le, sum_le_but}
use Rattle.base.proofs.Below.{max_term, max_least, sum_eq}
use Rattle.schedule.proofs.Load.{Has, Sound, Unfixed, load_some, ends_least}
use Rattle.schedule.proofs.Reflect.{Active}
use Rattle.schedule.proofs.Moves.{Earlier, move_earlier, own_fits}

-- What holds i at its start: the floor, the end of k that runs until then, or k that precedes i with the gap between.
pub data WithinTicks (p : Project) (S : Starts) (i : ℕ) : Type 0 where
  by_floor : S i ≤ p.floor → WithinTicks p S i
  by_resource : (k : ℕ) → Has p k → S k < S i → S i ≤ end_of p S k → WithinTicks p S i
  by_order : (k : ℕ) → Has p k → p.precedes k i ≡ true → S k < S i → S i ≤ end_of p S k + p.gap k i
      → WithinTicks p S i

before_test : Project → Starts → ℕ → ℕ → ℕ → Bool
before_test p S i t k = (p.present k && p.precedes k i) implies leb (end_of p S k + p.gap k i) t

room_test : Project → Starts → ℕ → ℕ → ℕ → Bool
room_test p S i t r = leb (load p S t r + p.units i r) (p.capacity r)

module _ (p : Project) (S : Starts) (sound : Sound p) (a : Active p S) (i : ℕ) (h : Has p i) (y : p.free i ≡ true)
    (t : ℕ) (e : suc t ≡ S i) where
  early : every_below p.size (before_test p S i t) ≡ false → WithinTicks p S i
  unfolding before_test
  early z =
      let (k, l, x) = every_fails p.size (before_test p S i t) z in
      let (two, late) = implies_fails (p.present k && p.precedes k i) (leb (end_of p S k + p.gap k i) t) x in
      let hk : Has p k = record { below = l; there = and_left (p.present k) (p.precedes k i) two } in
      let o : p.precedes k i ≡ true = and_right (p.present k) (p.precedes k i) two in
      let past : t < end_of p S k + p.gap k i = leb-false (end_of p S k + p.gap k i) t late in
      by_order k hk o (omega (arith, a.is_feasible.ordered k i hk h o, sound.lasts k hk)) (omega arith)

  short : every_below p.resources (room_test p S i t) ≡ false → WithinTicks p S i
  unfolding room_test
  short z =
      let (r, l, x) = every_fails p.resources (room_test p S i t) z in
      let over : p.capacity r < load p S t r + p.units i r =
      leb-false (load p S t r + p.units i r) (p.capacity r) x in
      let (k, hk, run) = load_some p S t r (omega (arith, own_fits p S sound a.is_feasible i r h l)) in
      by_resource k hk (omega arith) (omega arith)

  -- One tick sooner it would be early for one that precedes it, or lack units.
  held_at_lem : p.floor ≤ t → WithinTicks p S i
  unfolding before_test room_test
  held_at_lem low =
      by_bool
      (every_below p.size (before_test p S i t))
      (λ all_before.
      by_bool
      (every_below p.resources (room_test p S i t))
      (λ all_room.
      let sooner : Earlier p S i t =
      record {
        lower = omega arith;
        from_floor = low;
        ready =
            λ k hk o.
            leb-true
            (end_of p S k + p.gap k i)
            t
            (implies_elim
            (p.present k && p.precedes k i)
            (leb (end_of p S k + p.gap k i) t)
            (every_at p.size (before_test p S i t) all_before k hk.below)
            (both hk.there o));
        room =
            λ u r l b c d.
            let q : u ≡ t = omega arith in
            rw q
            (leb-true (load p S t r + p.units i r) (p.capacity r)
            (every_at p.resources (room_test p S i t) all_room r l));
      }
      in
      absurd (a.least i h y t (omega arith) (move_earlier p S i t h sooner a.is_feasible y)))
      short)
      early

pub held : (p : Project) (S : Starts) → Sound p → Active p S → (i : ℕ) → Has p i → p.free i ≡ true
    → WithinTicks p S i
held p S sound a i h y =
    by_cases
    (dec_le (S i) p.floor)
    (λ b. by_floor b)
    (λ b. held_at_lem p S sound a i h y (S i - 1) (omega arith) (omega arith))

-- The horizon.

-- What an activity adds to it.
abbrev adds : Project → ℕ → ℕ
adds p i = p.duration i + wait p i + cond (p.free i) 0 (p.begun i)

-- What those add that start before tick t.
before_term : Project → Starts → ℕ → ℕ → ℕ
before_term p S t i = cond (p.present i && ltb (S i) t) (adds p i) 0

before : Project → Starts → ℕ → ℕ
before p S t = sum_below p.size (before_term p S t)

-- One that starts at t or later comes on top of those before t.
before_next : (p : Project) (S : Starts) (t k : ℕ) → Has p k → t ≤ S k
    → before p S t + adds p k ≤ before p S (suc (S k))
unfolding before before_term
before_next p S t k h l =
    let absent : before_term p S t k ≡ 0 =
    by_bool
    (p.present k && ltb (S k) t)
    (λ y. absurd (omega (arith, ltb-true (S k) t (and_right (p.present k) (ltb (S k) t) y))))
    (λ z. cond_false (adds p k) 0 z)
    in
    let added : before_term p S (suc (S k)) k ≡ adds p k =
    cond_true (adds p k) 0 (both h.there (lt-ltb (S k) (suc (S k)) (omega arith)))
    in
    omega (
      arith,
      sum_le_but
          p.size
          (before_term p S t)
          (before_term p S (suc (S k)))
          k
          (adds p k)
          0
          h.below
          (λ i b ne.
          cond_mono
          (p.present i && ltb (S i) t)
          (p.present i && ltb (S i) (suc (S k)))
          (adds p i)
          (λ y.
          both
          (and_left (p.present i) (ltb (S i) t) y)
          (lt-ltb (S i) (suc (S k)) (omega (arith, ltb-true (S i) t (and_right (p.present i) (ltb (S i) t) y))))))
          (omega arith),
    )

before_all : (p : Project) (S : Starts) (t : ℕ) → p.floor + before p S t ≤ horizon p
unfolding before before_term horizon
before_all p S t =
    omega (
      arith,
      sum_le
          p.size
          (before_term p S t)
          (λ i. cond (p.present i) (adds p i) 0)
          (λ i l.
          cond_mono (p.present i && ltb (S i) t) (p.present i) (adds p i) (and_left (p.present i) (ltb (S i) t))),
    )

wait_of : (p : Project) (k i : ℕ) → Has p k → p.precedes k i ≡ true → p.gap k i ≤ wait p i
unfolding wait
wait_of p k i h o =
    let gaps : ℕ → ℕ = λ j. cond (p.present j && p.precedes j i) (p.gap j i) 0 in
    omega (arith, max_term p.size gaps k h.below, cond_true (p.gap k i) 0 (both h.there o))

module _ (p : Project) (S : Starts) (sound : Sound p) (a : Active p S) where
  -- By the tick on which i starts: what holds it there started sooner.
  end_bound : (n i : ℕ) → Has p i → S i < n → end_of p S i ≤ p.floor + before p S (suc (S i))
  end_bound zero i h l = absurd (not-suc-le-zero l)
  end_bound (suc n) i h l =
      by_bool
      (p.free i)
      (λ y. go (λ k hk b. end_bound n k hk (omega arith)) (held p S sound a i h y))
      (λ z.
      omega
      (arith, before_next p S 0 i h zero-le, a.is_feasible.as_begun i h z, cond_false {A = ℕ} 0 (p.begun i) z))
    where
      go : ((k : ℕ) → Has p k → S k < S i → end_of p S k ≤ p.floor + before p S (suc (S k))) → WithinTicks p S i
          → end_of p S i ≤ p.floor + before p S (suc (S i))
      go ih (by_floor b) = omega (arith, before_next p S 0 i h zero-le)
      go ih (by_resource k hk b c) = omega (arith, ih k hk b, before_next p S (suc (S k)) i h b)
      go ih (by_order k hk o b c) = omega (arith, ih k hk b, before_next p S (suc (S k)) i h b, wait_of p k i hk o)

  pub ends_by_horizon : (i : ℕ) → Has p i → end_of p S i ≤ horizon p
  ends_by_horizon i h = omega (arith, end_bound (suc (S i)) i h (omega arith), before_all p S (suc (S i)))

  pub starts_below_horizon : (i : ℕ) → Has p i → S i < horizon p
  starts_below_horizon i h = omega (arith, ends_by_horizon i h, sound.lasts i h)

  pub latest_by_horizon : latest_end p S ≤ horizon p
  latest_by_horizon = ends_least p S (horizon p) ends_by_horizon

abbrev pub NoGaps : Project → Type 0
NoGaps p = (i j : ℕ) → Has p i → Has p j → p.precedes i j ≡ true → p.gap i j ≡ 0

no_wait : (p : Project) → NoGaps p → (j : ℕ) → Has p j → wait p j ≡ 0
unfolding wait
no_wait p none j h =
    omega (
      arith,
      max_least
          p.size
          (λ i. cond (p.present i && p.precedes i j) (p.gap i j) 0)
          0
          (λ i l.
          by_bool
          (p.present i && p.precedes i j)
          (λ y.
          omega (
            arith,
            cond_true (p.gap i j) 0 y,
            none i j (record { below = l; there = and_left (p.present i) (p.precedes i j) y }) h
                (and_right (p.present i) (p.precedes i j) y),
          ))
          (λ z. omega (arith, cond_false (p.gap i j) 0 z))),
    )

-- With no gaps and every activity free the horizon is the sum of the durations, from the floor on.
pub plain_horizon : (p : Project) → Unfixed p → NoGaps p → horizon p ≡ p.floor + work p
unfolding horizon work
plain_horizon p unfixed none =
    ap
    (p.floor +◌)
    (sum_eq
    p.size
    (λ i. cond (p.present i) (adds p i) 0)
    (λ i. cond (p.present i) (p.duration i) 0)
    (λ i l.
    by_bool
    (p.present i)
    (λ y.
    let h : Has p i = record { below = l; there = y } in
    omega (
      arith,
      cond_true (adds p i) 0 y,
      cond_true (p.duration i) 0 y,
      no_wait p none i h,
      cond_true {A = ℕ} 0 (p.begun i) (unfixed.all_free i h),
    ))
    (λ z. cond_false (adds p i) 0 z ∙ sym (cond_false (p.duration i) 0 z))))

pub latest_by_work : (p : Project) (S : Starts) → Sound p → Unfixed p → NoGaps p → Active p S
    → latest_end p S ≤ p.floor + work p
latest_by_work p S sound unfixed none a = omega (arith, plain_horizon p unfixed none, latest_by_horizon p S sound a)
