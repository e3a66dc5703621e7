-- What is left once nothing is contested any more.
use Rattle.std.specs.Prelude.{ℕ, ◌+◌, ◌^◌, ◌<◌, max, true, not, ◌&&◌, List, ◌≡◌, get_or}
use Rattle.sets.specs.Sets.{most, has, meet}
use Rattle.instance.specs.Instance.{own_of}
use Rattle.instance.specs.Table.{preds_at, near_at, tight_of}
use Rattle.profile.specs.Work.{ready_at, ready_from, latest_of, Timed}

-- Each of a set is in a component of which no two can run together, and is the only one of the set there.
pub record Uncontested (t : List ℕ) (left : ℕ) : Type 0 where
  pub tight : (i : ℕ) → has left i ≡ true → has (tight_of t) i ≡ true
  pub sole : (i k : ℕ) → has left i ≡ true → has left k ≡ true → own_of t i ≡ own_of t k → i ≡ k

-- r has those of `new` that have no predecessor left: each is ready from the latest end of its nearest predecessors on,
-- and not before the tick.
pub record Readies (t : List ℕ) (tick left new : ℕ) (w w' : List ℕ) (r : ℕ) : Type 0 where
  pub timed : Timed w'
  pub low : r < 2 ^ most
  pub found : (j : ℕ) → has r j ≡ (has new j && not (meet (preds_at t j) left))
  pub ready : (j : ℕ) → has r j ≡ true → ready_at w' j ≡ max (latest_of w (near_at t j)) tick
  pub same : (c : ℕ) → ((j : ℕ) → has r j ≡ true → c ≡ ready_from + j → ⊥) → get_or w' c 0 ≡ get_or w c 0
