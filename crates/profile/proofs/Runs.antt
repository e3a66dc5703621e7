-- Those of a set that run on a tick, as the code tests it.
use Prim.Native.Nat.{ℕ, ◌+◌, ◌≤◌, ◌<◌}
use native.Mathlib.Omega.{arith}
use mathlib.Core.Bool.{Bool, true, false, ◌&&◌, and-false, and_assoc}
use mathlib.Core.List.{List}
use mathlib.Core.Path.{◌≡◌, sym, ap, ◌∙◌}
use lib.Dec.{leb, ltb}
use borrow.Author.Tests.{lt-ltb, le-ltb, le-leb, lt-leb}
use Rattle.base.proofs.Bools.{both}
use Rattle.sets.specs.Sets.{has}
use Rattle.sets.proofs.Turns.{Gathering, gathered}
use Rattle.instance.specs.Table.{duration_at}
use Rattle.profile.specs.Work.{end_at, start_at}
use Rattle.profile.specs.Room.{Running}

-- k runs on a tick from u to v.
abbrev pub runs : List ℕ → List ℕ → ℕ → ℕ → ℕ → Bool
runs t w u v k = leb (start_at t w k) v && ltb u (end_at w k)

module _ (t w : List ℕ) (u v : ℕ) (k : ℕ) {end : ℕ} (is : end ≡ end_at w k) where
  pub runs_yes : u < end → end ≤ v + duration_at t k → runs t w u v k ≡ true
  runs_yes l y =
      both
      (le-leb (start_at t w k) v (omega arith))
      (lt-ltb u (end_at w k) (omega arith))

  -- It starts later, or has ended.
  pub runs_later : v + duration_at t k < end → runs t w u v k ≡ false
  runs_later n =
      ap (λ (b : Bool). b && ltb u (end_at w k))
      (lt-leb (start_at t w k) v (omega arith))

  pub runs_ended : end ≤ u → runs t w u v k ≡ false
  runs_ended l =
      ap (λ (b : Bool). leb (start_at t w k) v && b) (le-ltb u (end_at w k) (omega arith))
      ∙ and-false (leb (start_at t w k) v)

pub running_are : (t w : List ℕ) (set u v : ℕ) {on rest : ℕ} → rest ≡ 0 → Gathering (runs t w u v) set on rest
    → Running t w set u v on
running_are t w set u v none so_far =
    record {
      low = so_far.low;
      runs =
          λ k.
          gathered (runs t w u v) set none so_far k
          ∙ sym (and_assoc (has set k) (leb (start_at t w k) v) (ltb u (end_at w k)));
    }
