-- Where an activity may start among the frozen ones. The frozen set and the starts are plain functions, of which only
-- what they say of the project's activities counts.
use Prim.Native.Nat.{ℕ, ◌+◌, ◌≤◌, ◌<◌}
use native.Mathlib.Decide.{ℕ_discrete}
use native.Mathlib.Omega.{arith}
use mathlib.Core.Bool.{Bool, true, false, not, ◌&&◌}
use mathlib.Core.Path.{◌≡◌, refl, sym, ap, ◌∙◌}
use mathlib.Core.Logic.{◌≢◌, ◌⊎◌, inl, inr, ⊎_elim, by_cases}
use borrow.Author.Tests.{eq-eqb, ne_eqb, not-true}
use Rattle.base.specs.Below.{every_below, ◌implies◌}
use Rattle.schedule.specs.Project.{Project}
use Rattle.schedule.specs.Schedule.{Starts, load}
use Rattle.base.proofs.Bools.{by_bool, true_not_false, both, and_left, and_right}
use Rattle.base.proofs.Below.{implies_elim, implies_fails, every_at, every_fails}
use Rattle.schedule.proofs.Load.{Has, among, load_with}
use Rattle.schedule.proofs.Reflect.{Feasible}
use Rattle.schedule.proofs.Agree.{Agree}
use Rattle.branching.proofs.First.{First, first_of}
pub use Rattle.branching.specs.Node.{Frozen, Open, Room, Soonest, adding}

-- A feasible schedule of more activities starts each where it has room.
pub room_of : (p : Project) (F G : ℕ → Bool) (S T : Starts) → Feasible (among p G) T → Agree (among p F) S T
    → ((k : ℕ) → Frozen p F k → G k ≡ true)
    → (i : ℕ) → Frozen p G i → F i ≡ false → p.free i ≡ true → Room p F S i (T i)
room_of p F G S T f a w i g z y =
    record {
      from_floor = f.from_floor i g y;
      ready =
          λ k h o. omega (arith, a k h, f.ordered k i (record { below = h.below; there = w k h }) g o);
      fits =
          λ u r l from to.
          let more : load (among p F) S u r + p.units i r ≤ load (among p G) T u r =
          load_with p F G S T u u r i g.below z g.there (omega arith)
          (λ k b ne y' runs.
          let h : Frozen p F k = record { below = b; there = y' } in
          let e : S k ≡ T k = a k h in (w k h, omega arith))
          in
          omega (arith, f.fits u r l);
    }

pub frozen_other : (p : Project) (F : ℕ → Bool) (i j : ℕ) → Frozen p F i → F j ≡ false → i ≢ j
frozen_other p F i j f z q = true_not_false f.there (ap F q ∙ z)

pub adding_new : (F : ℕ → Bool) (j : ℕ) → adding F j j ≡ true
adding_new F j = rw (eq-eqb j j refl)

pub adding_other : (F : ℕ → Bool) (j i : ℕ) → i ≢ j → adding F j i ≡ F i
adding_other F j i ne = rw (ne_eqb i j ne)

pub adding_old : (F : ℕ → Bool) (j i : ℕ) → F i ≡ true → adding F j i ≡ true
adding_old F j i y =
    by_cases (ℕ_discrete i j) (λ q. rw q (adding_new F j)) (λ ne. adding_other F j i ne ∙ y)

pub not_added : (F : ℕ → Bool) (j i : ℕ) → adding F j i ≡ false → (i ≢ j) × (F i ≡ false)
not_added F j i z =
    by_cases (ℕ_discrete i j) (λ q. true_not_false (adding_new F j) (sym (ap (adding F j) q) ∙ z))
    (λ ne. (ne, sym (adding_other F j i ne) ∙ z))

pub by_added {ℓ} : {C : Type ℓ} (p : Project) (F : ℕ → Bool) (j i : ℕ) → Frozen p (adding F j) i → (i ≡ j → C)
    → (i ≢ j → Frozen p F i → C) → C
by_added p F j i f new old =
    by_cases (ℕ_discrete i j) new
    (λ ne. old ne (record { below = f.below; there = sym (adding_other F j i ne) ∙ f.there }))

-- What is not frozen is open, or waits for another that is not frozen.

pub record Waits (p : Project) (F : ℕ → Bool) (j : ℕ) : Type 0 where
  pub for : ℕ
  pub has : Has p for
  pub waits : F for ≡ false
  pub before : p.precedes for j ≡ true

pub open_or_waits : (p : Project) (F : ℕ → Bool) (j : ℕ) → Has p j → F j ≡ false → Open p F j ⊎ Waits p F j
open_or_waits p F j h z =
    let needs : ℕ → Bool = λ k. p.present k && p.precedes k j in
    let test : ℕ → Bool = λ k. needs k implies F k in
    by_bool
    (every_below p.size test)
    (λ y.
    inl (record {
      has = h;
      waits = z;
      freed = λ k hk o. implies_elim (needs k) (F k) (every_at p.size test y k hk.below) (both hk.there o);
    }))
    (λ w.
    let (k, l, fails) = every_fails p.size test w in
    let (yes-needs, not-frozen) = implies_fails (needs k) (F k) fails in
    inr (record {
      for = k;
      has = record { below = l; there = and_left (p.present k) (p.precedes k j) yes-needs };
      waits = not-frozen;
      before = and_right (p.present k) (p.precedes k j) yes-needs;
    }))

-- Precedence goes up in a rank. Any feasible schedule is one.
abbrev pub Ranked : Project → (ℕ → ℕ) → Type 0
Ranked p rank = (i j : ℕ) → Has p i → Has p j → p.precedes i j ≡ true → rank i < rank j

-- As long as an activity is not frozen, one is open: that of lowest rank.
pub some_open : (p : Project) (F : ℕ → Bool) (rank : ℕ → ℕ) → Ranked p rank → (k : ℕ) → Has p k → F k ≡ false
    → (i : ℕ) × Open p F i
some_open p F rank ranked k h z =
    let test : ℕ → Bool = λ i. p.present i && not (F i) in
    let least : First p.size test rank = first_of test rank p.size k h.below (both h.there (ap not z)) in
    let j : ℕ = least.who in
    let has : Has p j =
    record { below = least.below; there = and_left (p.present j) (not (F j)) least.passes } in
    let waits : F j ≡ false = not-true (F j) (and_right (p.present j) (not (F j)) least.passes) in
    ⊎_elim
    {C = (i : ℕ) × Open p F i}
    (λ o. (j, o))
    (λ w.
    absurd (
    omega (
      arith,
      ranked w.for j w.has has w.before,
      least.least w.for w.has.below (both w.has.there (ap not w.waits)),
    )
    ))
    (open_or_waits p F j has waits)
