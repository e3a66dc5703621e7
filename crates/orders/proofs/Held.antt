-- What the activities of a set hold: in the working array, and as the load of a schedule with the same starts. When
-- activity j fits among the others of its component it has the units that it needs.
use Prim.Native.Nat.{ℕ, ◌+◌, ◌≤◌, ◌<◌}
use native.Mathlib.Decide.{ℕ_discrete}
use native.Mathlib.Omega.{arith}
use mathlib.Core.Bool.{true, cond, ◌&&◌}
use mathlib.Core.List.{List}
use mathlib.Core.Logic.{by_cases}
use mathlib.Core.Path.{◌≡◌, refl, sym, ap, ap₂, ◌∙◌}
use lib.Dec.{leb, ltb}
use Rattle.base.proofs.Bools.{by_bool}
use Rattle.base.proofs.Below.{sum_eq, sum_front}
use Rattle.sets.specs.Sets.{most, has}
use Rattle.schedule.specs.Project.{Project}
use Rattle.schedule.specs.Schedule.{Starts, end_of, runs, load, moved}
use Rattle.schedule.specs.Sessions.{starts_of}
use Rattle.schedule.proofs.Load.{Has, among, load_mono, load_with, moved_same, moved_other}
use Rattle.scan_exact.proofs.Components.{components_joint}
use Rattle.instance.specs.Table.{duration_at, units_at, capacity_at, resources_of, present_of, acts_of, project_in}
use Rattle.instance.specs.Instance.{Laid, Instance}
use Rattle.profile.specs.Work.{end_at, start_at}
use Rattle.profile.specs.Room.{runs_at, held_at, FitsAt}
use Rattle.profile.proofs.Room.{room_at, room_of}
use Rattle.soonest.specs.Row.{Ended, row_in}
use Rattle.soonest.specs.Soonest.{others_of}
use Rattle.soonest.proofs.Row.{start_is, end_is, other_there, not_itself, other_of}

pub held_load : (t w : List ℕ) (S : Starts) (set u r : ℕ) → Laid t
    → ((k : ℕ) → has set k ≡ true → (k < acts_of t) × (S k ≡ start_at t w k) × (S k + duration_at t k ≡ end_at w k))
    → held_at t w set u r ≡ load (among (project_in t) (has set)) S u r
unfolding held_at load project_in
held_load t w S set u r laid same =
    let held : ℕ → ℕ = λ k. cond (runs_at t w set u k) (units_at t k r) 0 in
    sum_front (acts_of t) most held laid.acts
    (λ i a.
    by_bool
    (has set i)
    (λ y. absurd (omega (arith, (same i y).0)))
    (λ z. rw z refl))
    ∙ sum_eq (acts_of t) held (λ i. cond (runs (among (project_in t) (has set)) S u i) (units_at t i r) 0)
    (λ i l.
    by_bool
    (has set i)
    (λ y.
    ap₂
    (λ (a b : ℕ). cond (has set i && leb a u && ltb u b) (units_at t i r) 0)
    (sym (same i y).1)
    (sym (same i y).2))
    (λ z. rw z refl))

abbrev pub starts_in : List ℕ → List ℕ → Starts
starts_in t w = starts_of (row_in t w)

-- The schedule in the working array.
module _ (t w : List ℕ) (whole : Instance t) (ended : Ended t w) where
  pub has_of : (i : ℕ) → has (present_of t) i ≡ true → Has (project_in t) i
  unfolding project_in
  has_of i y = record { below = whole.present i y; there = y }

  pub end_of_lem : (i : ℕ) → has (present_of t) i ≡ true → end_of (project_in t) (starts_in t w) i ≡ end_at w i
  unfolding project_in
  end_of_lem i y = end_is t w whole ended i y

  -- The others of the component of j.
  module _ (j : ℕ) (y : has (present_of t) j ≡ true) where
    others_load : (u r : ℕ)
        → held_at t w (others_of t j) u r ≡ load (among (project_in t) (has (others_of t j))) (starts_in t w) u r
    others_load u r =
        held_load t w (starts_in t w) (others_of t j) u r whole.laid
        (λ k z.
        let there : has (present_of t) k ≡ true = other_there t whole j y k z in
        (whole.present k there, start_is t w whole ended k there, end_is t w whole ended k there))

    -- Before the start of j, all that holds units of what j needs is among them.
    load_held : (u r : ℕ) → u < starts_in t w j → r < resources_of t → 0 < units_at t j r
        → load (project_in t) (starts_in t w) u r ≤ held_at t w (others_of t j) u r
    unfolding project_in
    load_held u r early l some =
        let p : Project = project_in t in
        let S : Starts = starts_in t w in
        omega (
          arith,
          others_load u r,
          load_mono p (has (present_of t)) (has (others_of t j)) S S u u r
              (λ i b units z run. (
                other_of t whole j y i z (components_joint p i j r (has_of i z) (has_of j y) l units some)
                    (λ e. omega (arith, run.begins, ap S e)),
                run,
              )),
        )

    -- Where j fits it has the units that it takes anew.
    pub fits_room : (x : ℕ) → FitsAt t w (others_of t j) j x
        → ((u r : ℕ) → r < resources_of t → load (project_in t) (starts_in t w) u r ≤ capacity_at t r) → (u r : ℕ)
        → r < resources_of t → x ≤ u → u < starts_in t w j → u < x + duration_at t j
        → load (project_in t) (starts_in t w) u r + units_at t j r ≤ capacity_at t r
    unfolding project_in
    fits_room x fits f u r l from early to =
        by_cases
        (ℕ_discrete (units_at t j r) 0)
        (λ z. omega (arith, f u r l))
        (λ ne.
        let some : 0 < units_at t j r = omega arith in
        omega (arith, load_held u r early l some, room_at t w (others_of t j) j u (fits u from to) r l some))

    -- Where it could start sooner it fits.
    pub moved_fits : (x : ℕ) → ((u r : ℕ) → r < resources_of t
        → load (project_in t) (moved (starts_in t w) j x) u r ≤ capacity_at t r)
        → FitsAt t w (others_of t j) j x
    unfolding project_in
    moved_fits x f u from to =
        let p : Project = project_in t in
        let S : Starts = starts_in t w in
        let at : moved S j x j ≡ x = moved_same S j x in
        room_of t w (others_of t j) j u
        (λ r l some.
        omega (
          arith,
          others_load u r,
          f u r l,
          load_with p (has (others_of t j)) (has (present_of t)) S (moved S j x) u u r j (whole.present j y)
              (not_itself t whole j y)
              y
              (record { begins = omega arith; ends = omega arith })
              (λ i b ne z run.
              let same : moved S j x i ≡ S i = moved_other S j x i ne in
              (other_there t whole j y i z, omega (arith, run.begins, run.ends))),
        ))
