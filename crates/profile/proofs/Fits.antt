-- Where room has to be looked for: an activity fits if it has room on its first tick and on each on which one of the
-- set starts. From an overfull tick on it does not fit before one of those that run there has ended.
use Prim.Native.Nat.{ℕ, zero, suc, ◌+◌, ◌-◌, ◌≤◌, ◌<◌}
use native.Mathlib.Decide.{dec_le}
use native.Mathlib.Omega.{arith}
use mathlib.Core.Bool.{Bool, true, false, not, ◌&&◌}
use mathlib.Core.List.{List}
use mathlib.Core.Logic.{◌≢◌, ◌⊎◌, inl, inr, ⊎_elim, by_cases}
use mathlib.Core.Path.{◌≡◌, refl, sym, ap, ◌∙◌, subst}
use lib.Dec.{ltb, eqb}
use borrow.Author.Tests.{lt-ltb, le-ltb, eqb-true, eq-eqb, not-true, not-false}
use Rattle.base.specs.Below.{every_below, ◌implies◌}
use Rattle.base.proofs.Bools.{by_bool, true_not_false, both, and_left, and_right}
use Rattle.base.proofs.Below.{implies_elim, implies_intro, every_at, every_fails}
use Rattle.sets.specs.Sets.{most, has}
use Rattle.instance.specs.Table.{duration_at, clash_at}
use Rattle.profile.specs.Work.{end_at, start_at, LeastEnd}
use Rattle.profile.specs.Room.{Among, Running, is_left, has_room_at, FitsAt, Full, Blocked}
use Rattle.profile.proofs.Room.{Runs, runs_is, runs_of, room_fewer, room_left, room_none, member_low}

-- ---- a tick on which the units are not left

module _ (t w : List ℕ) (set i u : ℕ) {on : ℕ} (running : Running t w set u u on) where
  runs_on : (k : ℕ) → has on k ≡ true → Runs t w set u u k
  runs_on k y = runs_is t w set u u k (sym (running.runs k) ∙ y)

  pub full_none : is_left t on i ≡ true → Full t w set i u 0
  full_none y =
      record {
        left = λ e. sym (room_left t w set i u running) ∙ y;
        full = λ ne. absurd (ne refl);
        end = λ ne. absurd (ne refl);
        least = λ k y. omega arith;
      }

  pub full_least : (r : ℕ) → is_left t on i ≡ false → LeastEnd w on r → Full t w set i u r
  full_least r n least =
      let (k, y, e) = least.end in
      let runs = runs_on k y in
      record {
        left = λ z. absurd (omega (arith, runs.ends));
        full = λ ne. sym (room_left t w set i u running) ∙ n;
        end = λ ne. (k, runs_of t w set u u k runs, e);
        least = λ j runs'. least.least j (running.runs j ∙ runs');
      }

module _ (t w : List ℕ) (set i x : ℕ) where
  -- i does not fit from x on where a tick is full on which it would run.
  pub blocked_full : (u r : ℕ) → x ≤ u → u < x + duration_at t i → r ≢ 0 → Full t w set i u r → Blocked t w set i x r
  blocked_full u r from to some full =
      let (k, y, e) = full.end some in
      let runs = runs_is t w set u u k y in
      record {
        fits = λ z. absurd (some z);
        later = λ ne. omega (arith, runs.ends);
        end = λ ne. (k, runs.there, e);
        none =
            λ z a b fits.
            by_cases
            (dec_le z u)
            (λ l. true_not_false (fits u l (omega arith)) (full.full some))
            (λ g.
            true_not_false
            (room_fewer t w set set i u z
            (λ j at.
            record {
              there = at.there;
              begins = omega (arith, at.begins);
              ends = omega (arith, full.least j (runs_of t w set u u j at));
            })
            (fits z (omega arith) (omega arith)))
            (full.full some));
      }

  -- One that can never run together with i, and that runs while i would.
  pub blocked_clash : Among t w set i → (k : ℕ) → Runs t w set x (x + (duration_at t i - 1)) k
      → has (clash_at t i) k ≡ true → Blocked t w set i x (end_at w k)
  blocked_clash among k runs clash =
      let long : 1 ≤ duration_at t i = among.laid.long i among.own in
      let lasts : 1 ≤ duration_at t k = among.laid.long k (among.acts k runs.there) in
      let starts : duration_at t k ≤ end_at w k = among.started k runs.there in
      record {
        fits = λ z. absurd (omega (arith, runs.ends));
        later = λ ne. runs.ends;
        end = λ ne. (k, runs.there, refl);
        none =
            λ z a b fits.
            by_cases
            (dec_le (start_at t w k) z)
            (λ l.
            true_not_false (fits z (omega arith) (omega arith))
            (room_none t w set i among z k (record { there = runs.there; begins = l; ends = b }) clash))
            (λ g.
            true_not_false (fits (start_at t w k) (omega arith) (omega (arith, runs.begins)))
            (room_none t w set i among (start_at t w k) k
            (record { there = runs.there; begins = omega arith; ends = omega arith })
            clash));
      }

  -- It fits.
  pub blocked_none : FitsAt t w set i x → Blocked t w set i x 0
  blocked_none fits =
      record {
        fits = λ e. fits;
        later = λ ne. absurd (ne refl);
        end = λ ne. absurd (ne refl);
        none = λ z a b f. absurd (omega arith);
      }

  -- One of the set that starts on tick y, or none.
  found : (low : (k : ℕ) → has set k ≡ true → k < most) (y : ℕ)
      → ((k : ℕ) × (has set k ≡ true) × (start_at t w k ≡ y)) ⊎ ((k : ℕ) → has set k ≡ true → start_at t w k ≢ y)
  found low y =
      let test : ℕ → Bool = λ k. not (has set k && eqb (start_at t w k) y) in
      by_bool (every_below most test)
      (λ all.
      inr (λ k h e.
      true_not_false (both h (eq-eqb (start_at t w k) y e))
      (not-true (has set k && eqb (start_at t w k) y) (every_at most test all k (low k h)))))
      (λ some.
      let (k, b, fails) = every_fails most test some in
      let is : (has set k && eqb (start_at t w k) y) ≡ true = not-false (has set k && eqb (start_at t w k) y) fails in
      inl (
        k,
        and_left (has set k) (eqb (start_at t w k) y) is,
        eqb-true (start_at t w k) y (and_right (has set k) (eqb (start_at t w k) y) is),
      ))

  pub fits_from : ((k : ℕ) → has set k ≡ true → k < most)
      → has_room_at t w set i x ≡ true
      → ((k : ℕ) → has set k ≡ true → x < start_at t w k → has_room_at t w set i (start_at t w k) ≡ true)
      → (u : ℕ) → x ≤ u → has_room_at t w set i u ≡ true
  fits_from low first starts zero from =
      subst (λ (y : ℕ). has_room_at t w set i y ≡ true) {x = x} {y = 0} (omega arith) first
  fits_from low first starts (suc v) from =
      by_cases (dec_le (suc v) x)
      (λ l. subst (λ (y : ℕ). has_room_at t w set i y ≡ true) {x = x} {y = suc v} (omega arith) first)
      (λ g.
      ⊎_elim
      (λ (k, y, e). subst (λ (z : ℕ). has_room_at t w set i z ≡ true) e (starts k y (omega arith)))
      (λ none.
      room_fewer t w set set i (suc v) v
      (λ k at.
      let ne : start_at t w k ≢ suc v = none k at.there in
      record { there = at.there; begins = omega (arith, at.begins, ne); ends = omega (arith, at.ends) })
      (fits_from low first starts v (omega arith)))
      (found low (suc v)))

-- ---- the starts, one after the other

module _ (t w : List ℕ) (set i x : ℕ) where
  -- k starts before x, or there is room where it starts.
  abbrev pub Passable : ℕ → Type 0
  Passable k = (ltb x (start_at t w k) implies has_room_at t w set i (start_at t w k)) ≡ true

  pub passable_before : (k u : ℕ) → u ≡ start_at t w k → u ≤ x → Passable k
  passable_before k u is l =
      ap (λ (b : Bool). b implies has_room_at t w set i (start_at t w k)) (le-ltb x (start_at t w k) (omega arith))

  pub passable_room : (k u : ℕ) → u ≡ start_at t w k → has_room_at t w set i u ≡ true → Passable k
  passable_room k u is y =
      implies_intro (ltb x (start_at t w k)) (has_room_at t w set i (start_at t w k))
      (λ later. subst (λ (z : ℕ). has_room_at t w set i z ≡ true) is y)

  pub passable_all : Among t w set i → has_room_at t w set i x ≡ true → ((k : ℕ) → has set k ≡ true → Passable k)
      → Blocked t w set i x 0
  passable_all among first all =
      blocked_none t w set i x
      (λ u from to.
      fits_from t w set i x (member_low t w set i among) first
      (λ k y later.
      implies_elim (ltb x (start_at t w k)) (has_room_at t w set i (start_at t w k)) (all k y)
      (lt-ltb x (start_at t w k) later))
      u
      from)
