-- The bench of the first edition: each resource has one unit, an activity takes that of its own resource, there are
-- no gaps, every activity is free and the clock starts at 0. There the rule by ticks says that two on one resource do
-- not overlap, and the load of a resource is what the durations of its activities add up to.
use Prim.Native.Nat.{ℕ, ◌*◌, ◌≤◌, ◌<◌}
use native.Mathlib.Decide.{ℕ_discrete, dec_le}
use native.Mathlib.Omega.{arith}
use mathlib.Core.Bool.{Bool, true, false, cond, ◌&&◌}
use mathlib.Core.Path.{◌≡◌, refl, sym, ap, ◌∙◌, subst}
use mathlib.Core.Logic.{◌≢◌, ◌↔◌, inl, inr, ⊎_elim, by_cases}
use lib.Dec.{eqb}
use borrow.Author.Tests.{eqb-true, eq-eqb}
use Rattle.base.specs.Below.{sum_below}
use Rattle.schedule.specs.Project.{Project}
use Rattle.schedule.specs.Bounds.{demand, load_of}
use Rattle.schedule.specs.Words.{NoOverlap, InWords}
use Rattle.schedule.specs.Schedule.{Starts, end_of, runs, load}
use Rattle.base.proofs.Bools.{by_bool, true_not_false, cond_true, cond_false}
use Rattle.base.proofs.Below.{cond_le, sum_eq, sum_two, sum_one}
use Rattle.schedule.proofs.Load.{Has, Sound, Unfixed, Runs, runs_is, runs_there, holds, holds_all, holds_some}
use Rattle.schedule.proofs.Load.{holds_le}
use Rattle.schedule.proofs.Reflect.{Feasible}
use Rattle.schedule.proofs.Bounds.{NoGaps}
use Rattle.schedule.proofs.Lower.{load_covers, load_least}

-- One unit to a resource, taken by the activities whose resource it is.
pub record OneUnit (p : Project) (resource : ℕ → ℕ) : Type 0 where
  pub on : (i : ℕ) → Has p i → resource i < p.resources
  pub single : (r : ℕ) → r < p.resources → p.capacity r ≡ 1
  pub takes : (i r : ℕ) → Has p i → r < p.resources → p.units i r ≡ cond (eqb (resource i) r) 1 0

abbrev pub Fits : Project → Starts → Type 0
Fits p S = (t r : ℕ) → r < p.resources → load p S t r ≤ p.capacity r

module _ (p : Project) (resource : ℕ → ℕ) (one : OneUnit p resource) (S : Starts) where
  takes_own : (i r : ℕ) → Has p i → resource i ≡ r → r < p.resources → p.units i r ≡ 1
  takes_own i r h e l = one.takes i r h l ∙ cond_true 1 0 (eq-eqb (resource i) r e)

  pub takes_at_most : (i r : ℕ) → Has p i → r < p.resources → p.units i r ≤ 1
  takes_at_most i r h l = omega (arith, one.takes i r h l, cond_le (eqb (resource i) r) 1)

  pub takes_only_own : (i r : ℕ) → Has p i → r < p.resources → 0 < p.units i r → resource i ≡ r
  takes_only_own i r h l u =
      by_bool
      (eqb (resource i) r)
      (λ y. eqb-true (resource i) r y)
      (λ z. absurd (omega (arith, one.takes i r h l, cond_false {A = ℕ} 1 0 z)))

  -- Both run on a tick: too much.
  two_run : Fits p S → (t i j : ℕ) → Has p i → Has p j → i ≢ j → resource i ≡ resource j → Runs p S t i → Runs p S t j
      → ⊥
  unfolding load
  two_run fits t i j hi hj ne e ri rj =
      let r : ℕ = resource j in
      let l : r < p.resources = one.on j hj in
      omega (
        arith,
        fits t r l,
        one.single r l,
        sum_two p.size (holds p S t r) i j hi.below hj.below ne,
        holds_all p S t r i hi.there ri,
        holds_all p S t r j hj.there rj,
        takes_own i r hi e l,
        takes_own j r hj refl l,
      )

  pub fits_apart : Sound p → Fits p S → NoOverlap p resource S
  fits_apart sound fits i j hi hj ne e =
      by_cases
      (dec_le (end_of p S i) (S j))
      (λ a. inl a)
      (λ a.
      by_cases
      (dec_le (end_of p S j) (S i))
      (λ b. inr b)
      (λ b.
      let di : 1 ≤ p.duration i = sound.lasts i hi in
      let dj : 1 ≤ p.duration j = sound.lasts j hj in
      absurd
      (by_cases
      (dec_le (S i) (S j))
      (λ c. two_run fits (S j) i j hi hj ne e (omega arith) (omega arith))
      (λ c. two_run fits (S i) i j hi hj ne e (omega arith) (omega arith)))))

  holds_has : (t r i : ℕ) → i < p.size → r < p.resources → 0 < holds p S t r i
      → Has p i × Runs p S t i × (resource i ≡ r)
  holds_has t r i l m h =
      let e : runs p S t i ≡ true = holds_some p S t r i h in
      let has : Has p i = record { below = l; there = runs_there p S t i e } in
      (has, runs_is p S t i e, takes_only_own i r has m (omega (arith, holds_le p S t r i)))

  pub apart_fits : NoOverlap p resource S → Fits p S
  unfolding load
  apart_fits apart t r l =
      omega (
        arith,
        one.single r l,
        sum_one
            p.size
            (holds p S t r)
            (λ i b.
            by_cases
            (ℕ_discrete (holds p S t r i) 0)
            (λ z. omega arith)
            (λ ne. omega (arith, holds_le p S t r i, takes_at_most i r (holds_has t r i b l (omega arith)).0 l)))
            (λ i j bi bj x y.
            let (hi, ri, ei) = holds_has t r i bi l x in
            let (hj, rj, ej) = holds_has t r j bj l y in
            by_cases
            (ℕ_discrete i j)
            (λ q. q)
            (λ ne. absurd (⊎_elim (λ a. omega arith) (λ a. omega arith) (apart i j hi hj ne (ei ∙ sym ej))))),
      )

-- The load: the durations of the activities that are there and have this resource.
asked : (d u : ℕ) (there own : Bool) → (there ≡ true → u ≡ cond own 1 0)
    → cond there (d * u) 0 ≡ cond (there && own) d 0
asked d u true true e = ap (λ (k : ℕ). d * k) (e refl) ∙ omega arith
asked d u true false e = ap (λ (k : ℕ). d * k) (e refl) ∙ omega arith
asked d u false own e = refl

module _ (p : Project) (resource : ℕ → ℕ) (one : OneUnit p resource) (r : ℕ) (l : r < p.resources) where
  load_demand : load_of p r ≡ demand p r
  load_demand =
      let single : p.capacity r ≡ 1 = one.single r l in
      let some : 0 < p.capacity r = omega arith in
      let covers : demand p r ≤ load_of p r * 1 =
      subst (λ (c : ℕ). demand p r ≤ load_of p r * c) single (load_covers p r some) in
      let least : load_of p r ≤ demand p r =
      load_least p r (demand p r) some (subst (λ (c : ℕ). demand p r ≤ demand p r * c) (sym single) (omega arith)) in
      omega arith

  pub load_durations : load_of p r
      ≡ sum_below p.size (λ i. cond (p.present i && eqb (resource i) r) (p.duration i) 0)
  unfolding demand
  load_durations =
      load_demand
      ∙ sum_eq
      p.size
      (λ i. cond (p.present i) (p.duration i * p.units i r) 0)
      (λ i. cond (p.present i && eqb (resource i) r) (p.duration i) 0)
      (λ i b.
      asked (p.duration i) (p.units i r) (p.present i) (eqb (resource i) r)
      (λ y. one.takes i r (record { below = b; there = y }) l))

-- The bench, and feasible in the words of the papers.
pub record Bench (p : Project) (resource : ℕ → ℕ) : Type 0 where
  pub sound : Sound p
  pub unfixed : Unfixed p
  pub from_zero : p.floor ≡ 0
  pub gapless : NoGaps p
  pub one_unit_lem : OneUnit p resource

pub feasible_in_words : (p : Project) (resource : ℕ → ℕ) (S : Starts) → Bench p resource
    → Feasible p S ↔ InWords p resource S
feasible_in_words p resource S b = (
  λ f.
      record {
        after = λ i j hi hj o. omega (arith, f.ordered i j hi hj o);
        apart = fits_apart p resource b.one_unit_lem S b.sound f.fits;
      },
  λ w.
      record {
        from_floor = λ i h y. omega (arith, b.from_zero);
        as_begun = λ i h z. true_not_false (b.unfixed.all_free i h) z;
        ordered = λ i j hi hj o. omega (arith, b.gapless i j hi hj o, w.after i j hi hj o);
        fits = apart_fits p resource b.one_unit_lem S w.apart;
      },
)
