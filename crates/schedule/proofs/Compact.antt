-- From any feasible schedule an active one that starts no activity later; and where every activity is free, one whose
-- makespan is no greater, starts being any whole numbers.
use Prim.Native.Nat.{ℕ, zero, suc, ◌+◌, ◌-◌, ◌≤◌, ◌<◌}
use native.Mathlib.Decide.{ℕ_discrete, dec_lt}
use native.Mathlib.Nat.{not-suc-le-zero}
use native.Mathlib.Omega.{arith}
use mathlib.Core.Path.{◌≡◌}
use mathlib.Core.Logic.{by_cases}
use Rattle.base.specs.Below.{sum_below}
use Rattle.schedule.specs.Project.{Project}
use Rattle.schedule.specs.Schedule.{Starts, load, latest_end, moved, active, makespan}
use Rattle.base.proofs.Bools.{by_bool, true_not_false}
use Rattle.base.proofs.Below.{sum_le_but}
use Rattle.schedule.proofs.Load.{Has, Sound, Unfixed, load_mono, load_some, end_le, ends_least, latest_mono}
use Rattle.schedule.proofs.Load.{moved_same}
use Rattle.schedule.proofs.Reflect.{Feasible, Active, Sooner, active_is, not_active}
use Rattle.schedule.proofs.Moves.{moved_le, Earlier, move_earlier, own_fits}
use Rattle.schedule.proofs.Makespan.{earliest, earliest_le, makespan_is, Opening, opens, empty, opening}

-- An active schedule below S.
pub record Compacted (p : Project) (S : Starts) : Type 0 where
  pub into : Starts
  pub is_active : Active p into
  pub lower : (i : ℕ) → into i ≤ S i

starts_fall : (p : Project) (S : Starts) (j t : ℕ) → Has p j → t < S j
    → sum_below p.size (moved S j t) < sum_below p.size S
starts_fall p S j t h l =
    let at : moved S j t j ≡ t = moved_same S j t in
    omega (
      arith,
      sum_le_but p.size (moved S j t) S j 1 0 h.below (λ i b ne. moved_le S j t (omega arith) i) (omega arith),
    )

-- As long as it is not active some start can fall, and the sum of the starts with it.
compact_within : (n : ℕ) (p : Project) (S : Starts) → sum_below p.size S < n → Feasible p S → Compacted p S
compact_within zero p S l f = absurd (not-suc-le-zero l)
compact_within (suc n) p S l f =
    by_bool
    (active p S)
    (λ y. record { into = S; is_active = active_is p S y; lower = λ i. omega arith })
    (λ z.
    let s : Sooner p S = not_active p S f z in
    let S₁ : Starts = moved S s.who s.to in
    let c : Compacted p S₁ =
    compact_within n p S₁ (omega (arith, starts_fall p S s.who s.to s.has s.before)) s.stays in
    record {
      into = c.into;
      is_active = c.is_active;
      lower = λ i. omega (arith, c.lower i, moved_le S s.who s.to (omega (arith, s.before)) i);
    })

pub compact : (p : Project) (S : Starts) → Feasible p S → Compacted p S
compact p S f = compact_within (suc (sum_below p.size S)) p S (omega arith) f

pub compact_latest : (p : Project) (S : Starts) (c : Compacted p S) → latest_end p c.into ≤ latest_end p S
compact_latest p S c = latest_mono p c.into S (λ i h. c.lower i)

-- All starts less the same number of ticks.
abbrev pub shifted : Starts → ℕ → Starts
shifted S e i = S i - e

module _ (p : Project) (S : Starts) (e : ℕ) (above : (i : ℕ) → Has p i → p.floor + e ≤ S i) where
  shifted_load : (t r : ℕ) → load p (shifted S e) t r ≤ load p S (t + e) r
  shifted_load t r =
      load_mono
      p
      p.present
      p.present
      (shifted S e)
      S
      t
      (t + e)
      r
      (λ i l u y k. (y, omega (arith, above i (record { below = l; there = y }))))

  pub shifted_feasible : Unfixed p → Feasible p S → Feasible p (shifted S e)
  shifted_feasible unfixed f =
      record {
        from_floor = λ i h y. omega (arith, above i h);
        as_begun = λ i h z. true_not_false (unfixed.all_free i h) z;
        ordered = λ i j hi hj o. omega (arith, above i hi, above j hj, f.ordered i j hi hj o);
        fits = λ t r l. omega (arith, shifted_load t r, f.fits (t + e) r l);
      }

  pub shifted_latest : latest_end p (shifted S e) ≤ latest_end p S - e
  shifted_latest = ends_least p (shifted S e) (latest_end p S - e) (λ i h. omega (arith, above i h, end_le p S i h))

-- The makespan reaches no further than from the floor on.
makespan_le : (p : Project) (S : Starts) → Unfixed p → Feasible p S → makespan p S ≤ latest_end p S - p.floor
makespan_le p S unfixed f = go (opening p S)
  where
    go : Opening p S → makespan p S ≤ latest_end p S - p.floor
    go (opens k h e) = omega (arith, makespan_is p S, f.from_floor k h (unfixed.all_free k h))
    go (empty no_one z) = omega (arith, makespan_is p S)

pub record Shorter (p : Project) (S : Starts) : Type 0 where
  pub into : Starts
  pub is_active : Active p into
  pub no_longer : makespan p into ≤ makespan p S

-- Down to the floor by one shift of all, and then one by one.
pub compact_makespan : (p : Project) (S : Starts) → Unfixed p → Feasible p S → Shorter p S
compact_makespan p S unfixed f = go (opening p S)
  where
    go : Opening p S → Shorter p S
    go (opens k h e) =
        let low : p.floor ≤ S k = f.from_floor k h (unfixed.all_free k h) in
        let d : ℕ = S k - p.floor in
        let above : (i : ℕ) → Has p i → p.floor + d ≤ S i = λ i hi. omega (arith, earliest_le p S i hi) in
        let c : Compacted p (shifted S d) = compact p (shifted S d) (shifted_feasible p S d above unfixed f) in
        record {
          into = c.into;
          is_active = c.is_active;
          no_longer =
              omega (
                arith,
                makespan_le p c.into unfixed c.is_active.is_feasible,
                compact_latest p (shifted S d) c,
                shifted_latest p S d above,
                makespan_is p S,
              );
        }
    go (empty no_one z) =
        let c : Compacted p S = compact p S f in
        record {
          into = c.into;
          is_active = c.is_active;
          no_longer = omega (arith, compact_latest p S c, makespan_is p c.into);
        }

-- Before the first start nothing runs, so the first activity to start is at the floor.
first_at_floor : (p : Project) (S : Starts) → Sound p → Unfixed p → Active p S → (k : ℕ) → Has p k
    → earliest p S ≡ S k → S k ≡ p.floor
first_at_floor p S sound unfixed a k h e =
    let f : Feasible p S = a.is_feasible in
    let low : p.floor ≤ S k = f.from_floor k h (unfixed.all_free k h) in
    let quiet : (u r : ℕ) → u < S k → load p S u r ≡ 0 =
    λ u r l.
    by_cases
    (ℕ_discrete (load p S u r) 0)
    (λ z. z)
    (λ ne. let (i, hi, runs) = load_some p S u r (omega arith) in absurd (omega (arith, earliest_le p S i hi)))
    in
    let sooner : Earlier p S k p.floor =
    record {
      lower = low;
      from_floor = omega arith;
      ready = λ i hi o. absurd (omega (arith, f.ordered i k hi h o, sound.lasts i hi, earliest_le p S i hi));
      room = λ u r l x y z. omega (arith, quiet u r y, own_fits p S sound f k r h l);
    }
    in
    by_cases
    (dec_lt p.floor (S k))
    (λ b.
    absurd
    (a.least k h (unfixed.all_free k h) p.floor b
    (move_earlier p S k p.floor h sooner f (unfixed.all_free k h))))
    (λ b. omega arith)

pub active_makespan : (p : Project) (S : Starts) → Sound p → Unfixed p → Active p S
    → makespan p S ≡ latest_end p S - p.floor
active_makespan p S sound unfixed a = go (opening p S)
  where
    go : Opening p S → makespan p S ≡ latest_end p S - p.floor
    go (opens k h e) = omega (arith, makespan_is p S, first_at_floor p S sound unfixed a k h e)
    go (empty no_one z) = omega (arith, makespan_is p S)

-- From tick 0 on: the makespan is the latest end.
pub makespan_latest : (p : Project) (S : Starts) → Sound p → Unfixed p → p.floor ≡ 0 → Active p S
    → makespan p S ≡ latest_end p S
makespan_latest p S sound unfixed zero-floor a = omega (arith, active_makespan p S sound unfixed a)
