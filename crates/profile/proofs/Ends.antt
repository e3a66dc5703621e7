-- The search for the least end of a set, and whose end the latest is.
use Prim.Native.Nat.{ℕ, ◌^◌, ◌≤◌, ◌<◌, min}
use native.Mathlib.Decide.{ℕ_discrete, dec_le}
use native.Mathlib.Omega.{arith}
use mathlib.Core.Bool.{true, false, cond}
use mathlib.Core.List.{List}
use mathlib.Core.Logic.{◌≢◌, by_cases}
use mathlib.Core.Path.{◌≡◌, sym, ap, ◌∙◌}
use Rattle.base.specs.Below.{max_below}
use Rattle.base.proofs.Below.{max_term, max_reached}
use Rattle.base.proofs.Bools.{by_bool, true_not_false, cond_true, cond_false}
use Rattle.sets.specs.Sets.{most, has}
use Rattle.sets.proofs.Laws.{has_none, has_some}
use Rattle.sets.proofs.Turns.{Turn, turn_has}
use Rattle.profile.specs.Work.{end_at, latest_of, LeastEnd}

-- a is the least end of those of the set that are no longer in `rest`.
pub record Lowering (w : List ℕ) (set a rest : ℕ) : Type 0 where
  pub low : rest < 2 ^ most
  pub inside : (k : ℕ) → has rest k ≡ true → has set k ≡ true
  pub end : (k : ℕ) × (has set k ≡ true) × (a ≡ end_at w k)
  pub least : (k : ℕ) → has set k ≡ true → has rest k ≡ false → a ≤ end_at w k

module _ (w : List ℕ) (set : ℕ) where
  pub lowering : {rest i : ℕ} (a : ℕ) → Turn set rest i → a ≡ end_at w i → Lowering w set a rest
  lowering {rest} {i} a turn e =
      record {
        low = turn.low;
        inside = turn_has turn;
        end = (i, turn.there, e);
        least =
            λ k y n.
            by_cases
            (ℕ_discrete k i)
            (λ q. omega (arith, ap (end_at w) q))
            (λ ne. true_not_false (turn.others k ne ∙ y) n);
      }

  pub lower : {a rest rest' i : ℕ} (a' : ℕ) → Turn rest rest' i → a' ≡ min a (end_at w i) → Lowering w set a rest
      → Lowering w set a' rest'
  lower {a} {rest} {rest'} {i} a' turn e so_far =
      record {
        low = turn.low;
        inside = λ k y. so_far.inside k (turn_has turn k y);
        end =
            by_cases
            (dec_le a (end_at w i))
            (λ l. let (k, y, q) = so_far.end in (k, y, omega arith))
            (λ g. (i, so_far.inside i turn.there, omega arith));
        least =
            λ k y n.
            by_cases
            (ℕ_discrete k i)
            (λ q. omega (arith, ap (end_at w) q))
            (λ ne. omega (arith, so_far.least k y (sym (turn.others k ne) ∙ n)));
      }

  pub lowered : {a rest : ℕ} → rest ≡ 0 → Lowering w set a rest → LeastEnd w set a
  lowered none so_far =
      record { end = so_far.end; least = λ k y. so_far.least k y (ap (λ (x : ℕ). has x k) none ∙ has_none k) }

-- The latest end is that of a member, if they have ended later than on tick 0.
pub latest_reached : (w : List ℕ) (set r : ℕ) → set < 2 ^ most → set ≢ 0
    → ((k : ℕ) → has set k ≡ true → 0 < end_at w k)
    → r ≡ latest_of w set
    → (k : ℕ) × (has set k ≡ true) × (r ≡ end_at w k)
latest_reached w set r low some ends last =
    let chosen : ℕ → ℕ = λ j. cond (has set j) (end_at w j) 0 in
    let (j, b, y) = has_some most set low some in
    let high : 0 < max_below most chosen =
    omega (arith, ends j y, max_term most chosen j b, cond_true (end_at w j) 0 y) in
    let (k, l, e) = max_reached most chosen high in
    by_bool
    (has set k)
    (λ there. (k, there, last ∙ e ∙ cond_true (end_at w k) 0 there))
    (λ gone. absurd (omega (arith, high, e, cond_false (end_at w k) 0 gone)))
