-- One activity started sooner. It remains feasible if what precedes it is over by then and its units are free on the
-- ticks that it takes anew.
use Prim.Native.Nat.{ℕ, ◌+◌, ◌≤◌, ◌<◌}
use native.Mathlib.Decide.{ℕ_discrete, dec_lt, dec_le}
use native.Mathlib.Omega.{arith}
use mathlib.Core.Bool.{true}
use mathlib.Core.Path.{◌≡◌, ◌∙◌, ap}
use mathlib.Core.Logic.{by_cases}
use Rattle.schedule.specs.Project.{Project}
use Rattle.schedule.specs.Schedule.{Starts, end_of, load, moved}
use Rattle.base.proofs.Bools.{true_not_false}
use Rattle.schedule.proofs.Load.{Has, Sound, load_mono, load_mono_but, units_in_load, moved_same}
use Rattle.schedule.proofs.Load.{moved_other}
use Rattle.schedule.proofs.Reflect.{Feasible}

pub moved_le : (S : Starts) (j t : ℕ) → t ≤ S j → (i : ℕ) → moved S j t i ≤ S i
moved_le S j t l i =
    by_cases
    (ℕ_discrete i j)
    (λ q. rw q (omega (arith, moved_same S j t)))
    (λ ne. omega (arith, moved_other S j t i ne))

-- j may start at t: not below the floor, after what precedes it, and with room on each tick before its old start.
pub record Earlier (p : Project) (S : Starts) (j t : ℕ) : Type 0 where
  pub lower : t ≤ S j
  pub from_floor : p.floor ≤ t
  pub ready : (i : ℕ) → Has p i → p.precedes i j ≡ true → end_of p S i + p.gap i j ≤ t
  pub room : (u r : ℕ) → r < p.resources → t ≤ u → u < S j → u < t + p.duration j
      → load p S u r + p.units j r ≤ p.capacity r

module _ (p : Project) (S : Starts) (j t : ℕ) (has : Has p j) (e : Earlier p S j t) where
  -- Off the ticks that j takes anew nothing more runs.
  moved_load : (u r : ℕ) → (t ≤ u → u < S j → u < t + p.duration j → ⊥) → load p (moved S j t) u r ≤ load p S u r
  moved_load u r off =
      load_mono
      p
      p.present
      p.present
      (moved S j t)
      S
      u
      u
      r
      (λ i l w y k.
      by_cases
      (ℕ_discrete i j)
      (λ q.
      let at : moved S j t i ≡ t = rw q (moved_same S j t) in
      let old : S i ≡ S j = ap S q in
      let long : p.duration i ≡ p.duration j = ap p.duration q in
      let late : S j ≤ u =
      by_cases (dec_le (S j) u) (λ b. b) (λ b. absurd (off (omega arith) (omega arith) (omega arith))) in
      (y, omega (arith, e.lower)))
      (λ ne. let same : moved S j t i ≡ S i = moved_other S j t i ne in (y, omega arith)))

  moved_load_more : (u r : ℕ) → load p (moved S j t) u r ≤ load p S u r + p.units j r
  moved_load_more u r =
      load_mono_but
      p
      p.present
      p.present
      (moved S j t)
      S
      u
      u
      r
      j
      has.below
      (λ i l ne y k. let same : moved S j t i ≡ S i = moved_other S j t i ne in (y, omega arith))

  moved_fits : Feasible p S → (u r : ℕ) → r < p.resources → load p (moved S j t) u r ≤ p.capacity r
  moved_fits f u r l =
      by_cases
      (dec_le t u)
      (λ a.
      by_cases
      (dec_lt u (S j))
      (λ b.
      by_cases
      (dec_lt u (t + p.duration j))
      (λ c. omega (arith, moved_load_more u r, e.room u r l a b c))
      (λ c. omega (arith, moved_load u r (λ x y z. c z), f.fits u r l)))
      (λ b. omega (arith, moved_load u r (λ x y z. b y), f.fits u r l)))
      (λ a. omega (arith, moved_load u r (λ x y z. a x), f.fits u r l))

  moved_ordered : Feasible p S → (i k : ℕ) → Has p i → Has p k → p.precedes i k ≡ true
      → end_of p (moved S j t) i + p.gap i k ≤ moved S j t k
  moved_ordered f i k hi hk o =
      let less : moved S j t i ≤ S i = moved_le S j t e.lower i in
      by_cases
      (ℕ_discrete k j)
      (λ q.
      let at : moved S j t k ≡ t = rw q (moved_same S j t) in
      let o' : p.precedes i j ≡ true = rw q at o in
      let wide : p.gap i k ≡ p.gap i j = ap (p.gap i) q in
      omega (arith, e.ready i hi o'))
      (λ ne. omega (arith, moved_other S j t k ne, f.ordered i k hi hk o))

  pub move_earlier : Feasible p S → p.free j ≡ true → Feasible p (moved S j t)
  move_earlier f free_j =
      record {
        from_floor =
            λ i h y.
            by_cases
            (ℕ_discrete i j)
            (λ q. let at : moved S j t i ≡ t = rw q (moved_same S j t) in omega (arith, e.from_floor))
            (λ ne. omega (arith, moved_other S j t i ne, f.from_floor i h y));
        as_begun =
            λ i h z.
            by_cases
            (ℕ_discrete i j)
            (λ q. true_not_false free_j (rw q at z))
            (λ ne. moved_other S j t i ne ∙ f.as_begun i h z);
        ordered = moved_ordered f;
        fits = moved_fits f;
      }

-- Each activity fits by itself.
pub own_fits : (p : Project) (S : Starts) → Sound p → Feasible p S → (i r : ℕ) → Has p i → r < p.resources
    → p.units i r ≤ p.capacity r
own_fits p S sound f i r h l =
    let long : 1 ≤ p.duration i = sound.lasts i h in
    omega (arith, units_in_load p S (S i) r i h (omega arith), f.fits (S i) r l)
