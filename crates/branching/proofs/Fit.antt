-- Where room has to be looked for, in any project: an activity has the units it needs while it would run if it has them
-- on its first tick and on each on which a frozen one starts; and it fits soonest when it is ready, or when a frozen
-- one ends.
use Prim.Native.Nat.{ℕ, zero, suc, ◌+◌, ◌≤◌, ◌<◌}
use native.Mathlib.Decide.{ℕ_discrete, dec_le}
use native.Mathlib.Omega.{arith}
use mathlib.Core.Bool.{Bool, true}
use mathlib.Core.Path.{◌≡◌, subst}
use mathlib.Core.Logic.{◌≢◌, ◌⊎◌, inl, inr, ⊎_elim, by_cases}
use Rattle.schedule.specs.Project.{Project}
use Rattle.schedule.specs.Schedule.{Starts, end_of, load}
use Rattle.schedule.proofs.Load.{among, load_mono}
use Rattle.schedule.proofs.Growth.{found, later_on}
use Rattle.branching.proofs.Room.{Frozen, Room, Soonest}

module _ (p : Project) (F : ℕ → Bool) (S : Starts) where
  -- i has the units that it needs on tick u.
  abbrev pub FitsOn : ℕ → ℕ → Type 0
  FitsOn i u = (r : ℕ) → r < p.resources → load (among p F) S u r + p.units i r ≤ p.capacity r

  pub fits_from : (i t : ℕ) → FitsOn i t
      → ((k : ℕ) → Frozen p F k → t < S k → S k < t + p.duration i → FitsOn i (S k))
      → (u : ℕ) → t ≤ u → u < t + p.duration i → FitsOn i u
  fits_from i t first starts zero from to = subst (FitsOn i) (omega (arith, from)) first
  fits_from i t first starts (suc v) from to =
      by_cases (dec_le (suc v) t) (λ l. subst (FitsOn i) (omega (arith, from, l)) first)
      (λ g.
      ⊎_elim
      (λ (k, h, e). subst (FitsOn i) e (starts k h (omega (arith, e, g)) (omega (arith, e, to))))
      (λ none r l.
      omega
      (arith, later_on (among p F) S v r none, fits_from i t first starts v (omega (arith, g)) (omega (arith, to)) r l))
      (found (among p F) S (suc v)))

  -- b is when i is ready: its earliest fit is then, or when a frozen one ends.
  pub soonest_at : (i b e : ℕ) → 1 ≤ p.duration i → p.floor ≤ b
      → ((k : ℕ) → Frozen p F k → p.precedes k i ≡ true → end_of p S k + p.gap k i ≤ b)
      → b ≤ e
      → Soonest p F S i e
      → (e ≡ b) ⊎ ((k : ℕ) × Frozen p F k × (end_of p S k ≡ e))
  soonest_at i b zero long floor ready from soon = inl (omega (arith, from))
  soonest_at i b (suc v) long floor ready from soon =
      by_cases (ℕ_discrete (suc v) b) (λ e. inl e)
      (λ ne.
      inr
      (⊎_elim (λ y. y)
      (λ none.
      absurd
      (let before : Room p F S i v =
      record {
        from_floor = omega (arith, floor, from, ne);
        ready = λ k h o. omega (arith, ready k h o, from, ne);
        fits = λ u r l x y. earlier none u r l x y;
      } in
      omega (arith, soon.least v before)))
      (found (among p F) (end_of p S) (suc v))))
    where
      earlier : ((k : ℕ) → Frozen p F k → end_of p S k ≢ suc v) → (u r : ℕ) → r < p.resources → v ≤ u
          → u < v + p.duration i
          → load (among p F) S u r + p.units i r ≤ p.capacity r
      earlier none u r l x y =
          by_cases (ℕ_discrete u v)
          (λ e.
          let least : load (among p F) S u r ≤ load (among p F) S (suc v) r =
          load_mono p F F S S u (suc v) r
          (λ k b' w y' runs.
          let ne : end_of p S k ≢ suc v = none k (record { below = b'; there = y' }) in
          (y', record { begins = omega (arith, runs.begins, e); ends = omega (arith, runs.ends, e, ne) })) in
          omega (arith, least, soon.room.fits (suc v) r l (omega arith) (omega (arith, long))))
          (λ ne. soon.room.fits u r l (omega (arith, x, ne)) (omega (arith, y)))
