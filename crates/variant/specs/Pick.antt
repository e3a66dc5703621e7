-- The term of a variant picked by its number, without the list of them all. It need not be believed: it is proved to
-- be `variant_at`.
use Rattle.std.specs.Prelude.{ℕ, ◌-◌, ◌/◌, ◌%◌, true, false, ltb}
use Rattle.term.specs.Term.{Term, Forest, act, seq, pll, xor, nil, cons}
use Rattle.term.specs.Model.{count, product}

unfoldable mutual
  pub pick : Term → ℕ → Term
  pick (act i) v = act i
  pick (seq f) v = seq (pick_each f v)
  pick (pll f) v = pll (pick_each f v)
  pick (xor f) v = pick_one f v

  -- of each child, the first varying slowest
  pub pick_each : Forest → ℕ → Forest
  pick_each nil v = nil
  pick_each (cons t f) v = cons (pick t (v / product f)) (pick_each f (v % product f))

  -- of one child, the first one's before the second's
  pub pick_one : Forest → ℕ → Term
  pick_one nil v = act 0
  pick_one (cons t f) v = elim (ltb v (count t)) [ true ↦ pick t v | false ↦ pick_one f (v - count t) ]
