-- The room on one tick: it follows from who runs on it. The room beside a set.
use Prim.Native.Nat.{ℕ, ◌+◌, ◌≤◌, ◌<◌}
use native.Mathlib.Decide.{ℕ_discrete}
use native.Mathlib.Omega.{arith}
use mathlib.Core.Bool.{Bool, true, false, not, cond, ◌&&◌}
use mathlib.Core.List.{List}
use mathlib.Core.Logic.{by_cases}
use mathlib.Core.Path.{◌≡◌, sym, ap, ◌∙◌}
use lib.Dec.{leb, ltb}
use borrow.Author.Tests.{ltb-true, leb-true, lt-ltb, le-leb, leb-false, ne_eqb, not-true, not-false}
use Rattle.base.specs.Below.{every_below, sum_below, ◌implies◌}
use Rattle.base.proofs.Bools.{by_bool, true_not_false, both, and_left, and_right, cond_true, cond_false}
use Rattle.base.proofs.Below.{cond_mono, implies_elim, implies_intro, every_at, every_of, every_same, every_fails}
use Rattle.base.proofs.Below.{sum_le, sum_eq, sum_term, sum_single}
use Rattle.sets.specs.Sets.{most, has, meet}
use Rattle.sets.proofs.Laws.{has_none, meet_at, meet_not}
use Rattle.instance.specs.Instance.{Laid, fit_together}
use Rattle.instance.specs.Table.{units_at, capacity_at, resources_of, acts_of, clash_at}
use Rattle.profile.specs.Work.{end_at, start_at}
use Rattle.profile.specs.Room.{Among, Others, runs_in, runs_at, Running, Few, units_of, is_left, held_at, has_room_at}

-- ---- who runs

-- k is of the set and runs on a tick from u to v.
pub record Runs (t w : List ℕ) (set u v k : ℕ) : Type 0 where
  pub there : has set k ≡ true
  pub begins : start_at t w k ≤ v
  pub ends : u < end_at w k

module _ (t w : List ℕ) (set u v k : ℕ) where
  pub runs_is : runs_in t w set u v k ≡ true → Runs t w set u v k
  runs_is e =
      let first = and_left (has set k && leb (start_at t w k) v) (ltb u (end_at w k)) e in
      record {
        there = and_left (has set k) (leb (start_at t w k) v) first;
        begins = leb-true (start_at t w k) v (and_right (has set k) (leb (start_at t w k) v) first);
        ends = ltb-true u (end_at w k) (and_right (has set k && leb (start_at t w k) v) (ltb u (end_at w k)) e);
      }

  pub runs_of : Runs t w set u v k → runs_in t w set u v k ≡ true
  runs_of y =
      both (both y.there (le-leb (start_at t w k) v y.begins)) (lt-ltb u (end_at w k) y.ends)

-- ---- the units that i needs are left beside those that hold units

module _ (t : List ℕ) (i : ℕ) (on : ℕ → Bool) where
  abbrev held : ℕ → ℕ
  held r = sum_below most λ k. cond (on k) (units_at t k r) 0

  abbrev enough : ℕ → Bool
  enough r = ltb 0 (units_at t i r) implies leb (held r + units_at t i r) (capacity_at t r)

  abbrev pub is_spare : Bool
  is_spare = every_below (resources_of t) enough

  spare_at : is_spare ≡ true → (r : ℕ) → r < resources_of t → 0 < units_at t i r
      → held r + units_at t i r ≤ capacity_at t r
  spare_at e r l some =
      leb-true (held r + units_at t i r) (capacity_at t r)
      (implies_elim (ltb 0 (units_at t i r)) (leb (held r + units_at t i r) (capacity_at t r))
      (every_at (resources_of t) enough e r l)
      (lt-ltb 0 (units_at t i r) some))

  spare_of : ((r : ℕ) → r < resources_of t → 0 < units_at t i r → held r + units_at t i r ≤ capacity_at t r)
      → is_spare ≡ true
  spare_of f =
      every_of (resources_of t) enough
      (λ r l.
      implies_intro (ltb 0 (units_at t i r)) (leb (held r + units_at t i r) (capacity_at t r))
      (λ y.
      le-leb (held r + units_at t i r) (capacity_at t r) (f r l (ltb-true 0 (units_at t i r) y))))

  module _ (laid : Laid t) (own : i < acts_of t) (acts : (k : ℕ) → on k ≡ true → k < acts_of t) (other : on i ≡ false)
    where
      together : (k : ℕ) → on k ≡ true → has (clash_at t i) k ≡ not (fit_together t i k)
      together k y =
          laid.clash i k own
          ∙ ap (λ (b : Bool). b && not (fit_together t i k))
          (both (lt-ltb k (acts_of t) (acts k y)) (ap not (ne_eqb i k (λ e. true_not_false y (ap on (sym e) ∙ other)))))

      -- One that can never run together with i, and one alone that can.
      pub spare_none : (k : ℕ) → on k ≡ true → has (clash_at t i) k ≡ true → is_spare ≡ false
      unfolding fit_together
      spare_none k y clash =
          let no' : fit_together t i k ≡ false = not-true (fit_together t i k) (sym (together k y) ∙ clash) in
          let (r, l, over) =
          every_fails (resources_of t) (λ r. leb (units_at t i r + units_at t k r) (capacity_at t r)) no' in
          let more : capacity_at t r < units_at t i r + units_at t k r =
          leb-false (units_at t i r + units_at t k r) (capacity_at t r) over in
          by_bool
          is_spare
          (λ yes'.
          absurd
          (omega (
            arith,
            spare_at yes' r l (omega (arith, laid.alone k r (acts k y) l)),
            sum_term most (λ j. cond (on j) (units_at t j r) 0) k (omega (arith, acts k y, laid.acts)),
            cond_true (units_at t k r) 0 y,
          )))
          (λ n. n)

      pub spare_few : ((j k : ℕ) → on j ≡ true → on k ≡ true → j ≡ k)
          → ((k : ℕ) → on k ≡ true → has (clash_at t i) k ≡ false)
          → is_spare ≡ true
      unfolding fit_together
      spare_few single apart =
          spare_of
          (λ r l some.
          let units : ℕ → ℕ = λ k. cond (on k) (units_at t k r) 0 in
          let holds : (k : ℕ) → 0 < units k → on k ≡ true =
          λ k h. by_bool (on k) (λ y. y) (λ n. absurd (omega (arith, h, cond_false (units_at t k r) 0 n))) in
          let alone : units_at t i r ≤ capacity_at t r = laid.alone i r own l in
          sum_single most units (units_at t i r) (capacity_at t r) alone
          (λ k b.
          by_bool
          (on k)
          (λ y.
          let fit : fit_together t i k ≡ true = not-false (fit_together t i k) (sym (together k y) ∙ apart k y) in
          omega (
            arith,
            cond_true (units_at t k r) 0 y,
            leb-true (units_at t i r + units_at t k r) (capacity_at t r)
                (every_at (resources_of t) (λ r. leb (units_at t i r + units_at t k r) (capacity_at t r)) fit r l),
          ))
          (λ n. omega (arith, cond_false (units_at t k r) 0 n)))
          (λ j k b b' h h'. single j k (holds j h) (holds k h')))

spare_fewer : (t : List ℕ) (i : ℕ) (on on' : ℕ → Bool) → ((k : ℕ) → on k ≡ true → on' k ≡ true)
    → is_spare t i on' ≡ true
    → is_spare t i on ≡ true
spare_fewer t i on on' f e =
    spare_of t i on
    (λ r l some.
    let least =
    sum_le most (λ k. cond (on k) (units_at t k r) 0) (λ k. cond (on' k) (units_at t k r) 0)
    (λ k b. cond_mono (on k) (on' k) (units_at t k r) (f k)) in
    omega (arith, spare_at t i on' e r l some, least))

-- ---- room on a tick

module _ (t w : List ℕ) (set i u : ℕ) where
  pub room_at : has_room_at t w set i u ≡ true → (r : ℕ) → r < resources_of t → 0 < units_at t i r
      → held_at t w set u r + units_at t i r ≤ capacity_at t r
  unfolding has_room_at held_at
  room_at = spare_at t i (runs_at t w set u)

  pub room_of : ((r : ℕ) → r < resources_of t → 0 < units_at t i r → held_at t w set u r + units_at t i r ≤ capacity_at t r)
      → has_room_at t w set i u ≡ true
  unfolding has_room_at held_at
  room_of = spare_of t i (runs_at t w set u)

-- Whoever runs there runs here too.
pub room_fewer : (t w : List ℕ) (set set' i u u' : ℕ)
    → ((k : ℕ) → Runs t w set u u k → Runs t w set' u' u' k)
    → has_room_at t w set' i u' ≡ true
    → has_room_at t w set i u ≡ true
unfolding has_room_at held_at
room_fewer t w set set' i u u' f e =
    spare_fewer t i (runs_at t w set u) (runs_at t w set' u')
    (λ k y. runs_of t w set' u' u' k (f k (runs_is t w set u u k y)))
    e

-- By the set of those that run.
pub room_left : (t w : List ℕ) (set i u : ℕ) {on : ℕ} → Running t w set u u on → is_left t on i ≡ has_room_at t w set i u
unfolding has_room_at is_left held_at units_of
room_left t w set i u {on} running =
    every_same (resources_of t)
    (λ r. ltb 0 (units_at t i r) implies leb (units_of t on r + units_at t i r) (capacity_at t r))
    (enough t i (runs_at t w set u))
    (λ r l.
    ap (λ (x : ℕ). ltb 0 (units_at t i r) implies leb (x + units_at t i r) (capacity_at t r))
    (sum_eq most (λ k. cond (has on k) (units_at t k r) 0) (λ k. cond (runs_at t w set u k) (units_at t k r) 0)
    (λ k b. ap (λ (x : Bool). cond x (units_at t k r) 0) (running.runs k))))

module _ (t w : List ℕ) (set i : ℕ) (among : Among t w set i) where
  pub member_low : (k : ℕ) → has set k ≡ true → k < most
  member_low k y = omega (arith, among.acts k y, among.laid.acts)

  pub others : Others t set i
  others =
      record {
        laid = among.laid;
        low = among.low;
        acts = among.acts;
        own = among.own;
        other = among.other;
      }

  pub among_running : {u v on : ℕ} → Running t w set u v on → Among t w on i
  among_running {u} {v} {on} running =
      let there : (k : ℕ) → has on k ≡ true → has set k ≡ true =
      λ k y. (runs_is t w set u v k (sym (running.runs k) ∙ y)).there in
      record {
        laid = among.laid;
        timed = among.timed;
        low = running.low;
        acts = λ k y. among.acts k (there k y);
        started = λ k y. among.started k (there k y);
        own = among.own;
        other = by_bool (has on i) (λ y. true_not_false (there i y) among.other) (λ n. n);
      }

  module _ (u : ℕ) where
    runs_there : (k : ℕ) → runs_at t w set u k ≡ true → has set k ≡ true
    runs_there k y = (runs_is t w set u u k y).there

    runs_other : runs_at t w set u i ≡ false
    runs_other =
        by_bool (runs_at t w set u i) (λ y. true_not_false (runs_there i y) among.other) (λ n. n)

    pub room_none : (k : ℕ) → Runs t w set u u k → has (clash_at t i) k ≡ true → has_room_at t w set i u ≡ false
    unfolding has_room_at held_at
    room_none k runs clash =
        spare_none t i (runs_at t w set u) among.laid among.own (λ j y. among.acts j (runs_there j y)) runs_other
        k
        (runs_of t w set u u k runs)
        clash

    pub room_few : ((j k : ℕ) → Runs t w set u u j → Runs t w set u u k → j ≡ k)
        → ((k : ℕ) → Runs t w set u u k → has (clash_at t i) k ≡ false)
        → has_room_at t w set i u ≡ true
    unfolding has_room_at held_at
    room_few single apart =
        spare_few t i (runs_at t w set u) among.laid among.own (λ j y. among.acts j (runs_there j y)) runs_other
        (λ j k a b. single j k (runs_is t w set u u j a) (runs_is t w set u u k b))
        (λ k y. apart k (runs_is t w set u u k y))

-- ---- room beside a set

module _ (t : List ℕ) (set i : ℕ) (others : Others t set i) where
  -- One that can never run together with i; and at most one, and it can.
  pub left_clash : meet set (clash_at t i) ≡ true → is_left t set i ≡ false
  unfolding is_left units_of
  left_clash e =
      let (k, b, y, clash) = meet_at most set (clash_at t i) others.low e in
      spare_none t i (has set) others.laid others.own others.acts others.other k y clash

  pub left_apart : meet set (clash_at t i) ≡ false → {r : Bool} → Few set r → r ≡ true → is_left t set i ≡ true
  unfolding is_left units_of
  left_apart e few yes' =
      spare_few t i (has set) others.laid others.own others.acts others.other (few.one yes')
      (λ k y. meet_not set (clash_at t i) k e y)

  -- Where they are not left, some hold units.
  pub left_some : is_left t set i ≡ false → 0 < set
  unfolding is_left units_of
  left_some full =
      by_cases (ℕ_discrete set 0)
      (λ e.
      let none : (k : ℕ) → has set k ≡ true → ⊥ =
      λ k y. true_not_false y (ap (λ (x : ℕ). has x k) e ∙ has_none k) in
      true_not_false
      (spare_few t i (has set) others.laid others.own others.acts others.other
      (λ j k a b. absurd (none j a)) (λ k y. absurd (none k y)))
      full)
      (λ ne. omega arith)
