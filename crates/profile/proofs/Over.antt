-- Those of a set that run while an activity would from tick x on are all that can be in its way there.
use Prim.Native.Nat.{ℕ, ◌+◌, ◌-◌, ◌≤◌, ◌<◌}
use native.Mathlib.Omega.{arith}
use mathlib.Core.Bool.{Bool, true}
use mathlib.Core.List.{List}
use mathlib.Core.Logic.{◌≢◌}
use mathlib.Core.Path.{◌≡◌, sym, ap, ◌∙◌, subst}
use lib.Bits.{bit_and, and_le_l}
use Rattle.base.proofs.Bools.{by_bool, true_not_false, both, and_left, and_right}
use Rattle.sets.specs.Sets.{has}
use Rattle.sets.proofs.Laws.{has_and, has_none}
use Rattle.instance.specs.Table.{duration_at, clash_at}
use Rattle.profile.specs.Work.{end_at, start_at, latest_of}
use Rattle.profile.specs.Room.{Among, Running, Few, Blocked}
use Rattle.profile.proofs.Room.{Runs, runs_is, runs_of, room_fewer, room_few}
use Rattle.profile.proofs.Ends.{latest_reached}
use Rattle.profile.proofs.Fits.{blocked_none, blocked_clash}

module _ (t w : List ℕ) (set i x : ℕ) (among : Among t w set i) {over : ℕ}
    (running : Running t w set x (x + (duration_at t i - 1)) over) where
  long : 1 ≤ duration_at t i
  long = among.laid.long i among.own

  over_runs : (k : ℕ) → has over k ≡ true → Runs t w set x (x + (duration_at t i - 1)) k
  over_runs k y = runs_is t w set x (x + (duration_at t i - 1)) k (sym (running.runs k) ∙ y)

  over_has : (u k : ℕ) → x ≤ u → u < x + duration_at t i → Runs t w set u u k → has over k ≡ true
  over_has u k from to at =
      running.runs k
      ∙ runs_of t w set x (x + (duration_at t i - 1)) k
      (record { there = at.there; begins = omega (arith, at.begins); ends = omega (arith, at.ends) })

  pub over_soon : (k : ℕ) → has over k ≡ true → start_at t w k < x + duration_at t i
  over_soon k y = omega (arith, long, (over_runs k y).begins)

  -- Some of them can never run together with i, and k ends last of these; and none of them.
  clash_ends : (k : ℕ) → has (bit_and over (clash_at t i)) k ≡ true → x < end_at w k
  clash_ends k y =
      (over_runs k (and_left (has over k) (has (clash_at t i) k) (sym (has_and over (clash_at t i) k) ∙ y))).ends

  pub over_clash : (r clash : ℕ) → clash ≡ bit_and over (clash_at t i) → clash ≢ 0 → r ≡ latest_of w clash
      → Blocked t w set i x r
  over_clash r clash is some last =
      let (k, there, e) =
      latest_reached w clash r (omega (arith, is, and_le_l over (clash_at t i), running.low)) some
      (λ k y. omega (arith, clash_ends k (ap (λ (z : ℕ). has z k) (sym is) ∙ y)))
      last in
      let two = sym (has_and over (clash_at t i) k) ∙ ap (λ (z : ℕ). has z k) (sym is) ∙ there in
      subst (Blocked t w set i x) (sym e)
      (blocked_clash t w set i x among k (over_runs k (and_left (has over k) (has (clash_at t i) k) two))
      (and_right (has over k) (has (clash_at t i) k) two))

  pub over_few : bit_and over (clash_at t i) ≡ 0 → {r : Bool} → Few over r → r ≡ true → Blocked t w set i x 0
  over_few none few yes' =
      blocked_none t w set i x
      (λ u from to.
      let in_over : (k : ℕ) → Runs t w set u u k → has over k ≡ true = λ k at. over_has u k from to at in
      room_few t w set i among u (λ j k a b. few.one yes' j k (in_over j a) (in_over k b))
      (λ k at.
      by_bool
      (has (clash_at t i) k)
      (λ y.
      true_not_false (has_and over (clash_at t i) k ∙ both (in_over k at) y) (ap (λ (z : ℕ). has z k) none ∙ has_none k))
      (λ n. n)))

  -- What is in the way among them is in the way among all.
  pub over_blocked : {r : ℕ} → Blocked t w over i x r → Blocked t w set i x r
  over_blocked blocked =
      record {
        fits =
            λ e u from to.
            room_fewer t w set over i u u
            (λ k at. record { there = over_has u k from to at; begins = at.begins; ends = at.ends })
            (blocked.fits e u from to);
        later = blocked.later;
        end = λ ne. let (k, y, e) = blocked.end ne in (k, (over_runs k y).there, e);
        none =
            λ z a b fits.
            blocked.none z a b
            (λ u from to.
            room_fewer t w over set i u u
            (λ k at. record { there = (over_runs k at.there).there; begins = at.begins; ends = at.ends })
            (fits u from to));
      }
