-- The search for a sooner tick: it goes from the end of one that is in the way to that of another, and nothing fits
-- between.
use Prim.Native.Nat.{ℕ, ◌+◌, ◌≤◌, ◌<◌}
use native.Mathlib.Decide.{dec_lt}
use native.Mathlib.Omega.{arith}
use mathlib.Core.Bool.{false}
use mathlib.Core.List.{List}
use mathlib.Core.Logic.{by_cases}
use mathlib.Core.Path.{◌≡◌, refl}
use Rattle.base.proofs.Bools.{true_not_false}
use Rattle.base.proofs.Below.{max_chosen}
use Rattle.plan.specs.Limits.{latest_possible}
use Rattle.sets.specs.Sets.{most, has}
use Rattle.instance.specs.Table.{duration_at}
use Rattle.profile.specs.Work.{end_at, latest_of, Timed}
use Rattle.profile.specs.Room.{FitsAt, Blocked}
use Rattle.soonest.specs.Soonest.{others_of, IsSoonest}

pub latest_early : (w : List ℕ) (set : ℕ) → Timed w → latest_of w set ≤ latest_possible
latest_early w set timed = max_chosen most (has set) (end_at w) latest_possible (λ k l. timed.times k)

-- j starts late enough, and fits on no tick before x.
pub record Waits (t w : List ℕ) (before j x : ℕ) : Type 0 where
  pub from : latest_of w before ≤ x
  pub fair : latest_of w before + duration_at t j ≤ end_at w j
  pub none : (u : ℕ) → latest_of w before ≤ u → u < x → FitsAt t w (others_of t j) j u → ⊥
  pub low : x ≤ latest_possible

module _ (t w : List ℕ) (before j x : ℕ) where
  module _ (so_far : Waits t w before j x) where
    module _ (r : ℕ) (blocked : Blocked t w (others_of t j) j x r) where
      pub waits_more : Timed w → (r ≡ 0 → ⊥) → Waits t w before j r
      waits_more timed some =
          let (k, y, e) = blocked.end some in
          record {
            from = omega (arith, so_far.from, blocked.later some);
            fair = so_far.fair;
            none = λ u a b.
                by_cases (dec_lt u x) (so_far.none u a) (λ n. blocked.none u (omega arith) b);
            low = omega (arith, timed.times k);
          }

      -- j fits sooner.
      pub soonest_not : r ≡ 0 → x + duration_at t j < end_at w j → IsSoonest t w before j false
      soonest_not z h =
          record {
            holds = λ y. true_not_false y refl;
            fails = λ n s. s.none x so_far.from h (blocked.fits z);
          }
