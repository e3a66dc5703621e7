-- A store at each member of a set, in one column of the table.
use Prim.Native.Nat.{ℕ, ◌+◌, ◌^◌, ◌≤◌, ◌<◌}
use native.Mathlib.Decide.{ℕ_discrete}
use native.Mathlib.Omega.{arith}
use mathlib.Core.Bool.{Bool, cond}
use mathlib.Core.List.{List}
use mathlib.Core.Logic.{◌≢◌, by_cases}
use mathlib.Core.Path.{◌≡◌, ap₂, ◌∙◌}
use lib.ListN.{length, get_or, set, length-set}
use lib.Seq.{get_or-set_same, get_or-set_other}
use Rattle.sets.proofs.Laws.{has_none}
use Rattle.sets.proofs.Turns.{Turn}
use Rattle.sets.specs.Sets.{most, has}
use Rattle.instance.specs.Steps.{Filled}

-- The cell of a member goes from x to `new x`.
abbrev new_if : (ℕ → ℕ) → Bool → ℕ → ℕ
new_if new b x = cond b (new x) x

module _ (from : ℕ) (new : ℕ → ℕ) (t : List ℕ) (m : ℕ) where
  -- With the members of `rest`, which are still to come, the column is what it is to be.
  pub record Storing (l : List ℕ) (rest : ℕ) : Type 0 where
    pub long : length l ≡ length t
    pub low : rest < 2 ^ most
    pub cells : (i : ℕ) → i < most
        → new_if new (has rest i) (get_or l (from + i) 0) ≡ new_if new (has m i) (get_or t (from + i) 0)
    pub before : (at : ℕ) → at < from → get_or l at 0 ≡ get_or t at 0
    pub behind : (at : ℕ) → from + most ≤ at → get_or l at 0 ≡ get_or t at 0

module _ {from : ℕ} {new : ℕ → ℕ} {t : List ℕ} {m : ℕ} {l : List ℕ} {rest : ℕ} (h : Storing from new t m l rest) where
  pub storing_more : {rest' i : ℕ} (x : ℕ) → Turn rest rest' i → from + most ≤ length t
      → x ≡ new (get_or l (from + i) 0)
      → Storing from new t m (set l (from + i) x) rest'
  storing_more {rest'} {i} x turn inside is-new =
      record {
        long = length-set l (from + i) x ∙ h.long;
        low = turn.low;
        cells = λ k b. by_cases (ℕ_discrete k i) (here k) (there k) ∙ h.cells k b;
        before = λ p b. get_or-set_other l (from + i) p x 0 (λ q. omega arith) ∙ h.before p b;
        behind = λ p b. get_or-set_other l (from + i) p x 0 (λ q. omega (arith, turn.below)) ∙ h.behind p b;
      }
    where
      then : List ℕ
      then = set l (from + i) x

      here : (k : ℕ) → k ≡ i
          → new_if new (has rest' k) (get_or then (from + k) 0) ≡ new_if new (has rest k) (get_or l (from + k) 0)
      here k e =
          rw (e, turn.gone, turn.there)
          (get_or-set_same l (from + i) x 0 (omega (arith, turn.below, h.long)) ∙ is-new)

      there : (k : ℕ) → k ≢ i
          → new_if new (has rest' k) (get_or then (from + k) 0) ≡ new_if new (has rest k) (get_or l (from + k) 0)
      there k ne =
          ap₂ (new_if new) (turn.others k ne)
          (get_or-set_other l (from + i) (from + k) x 0 (λ q. ne (omega arith)))

  pub storing_all : rest ≡ 0 → Filled t from most (λ i x. x ≡ new_if new (has m i) (get_or t (from + i) 0)) l
  storing_all none =
      record {
        long = h.long;
        new = λ i b. rw (none, has_none i) at (h.cells i b);
        before = h.before;
        behind = h.behind;
      }
