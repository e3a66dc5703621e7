-- Which schedules are passed over: all once there are more than the cap, and none for an order where none was searched
-- before.
use Prim.Native.Nat.{ℕ, ◌<◌}
use mathlib.Core.List.{List, [], ◌∷◌, foldl}
use mathlib.Core.Path.{◌≡◌, refl, sym, ap, ◌∙◌}
use borrow.Author.Tests.{lt-leb}
use Rattle.base.specs.Below.{every_below}
use Rattle.base.proofs.Bools.{by_bool, cond_true, cond_false}
use Rattle.instance.specs.Table.{cap_of, link_of, project_in}
use Rattle.orders.specs.Book.{is_new_by}
use Rattle.tally.specs.Seen.{Kept, setting_in, seen, is_new_in, seen_in}

module _ (t b : List ℕ) where
  passed_over : (k : Kept) (row : List ℕ) → cap_of t < k.tally.count → seen_in t b k row ≡ k
  unfolding seen
  passed_over k row h =
      by_bool (is_new_in t b row)
      (λ y. cond_true _ _ y ∙ cond_false _ _ (lt-leb k.tally.count (cap_of t) h))
      (λ n. cond_false _ _ n)

  pub stopped : (k : Kept) (rows : List (List ℕ)) → cap_of t < k.tally.count → foldl (seen_in t b) k rows ≡ k
  stopped k [] h = refl
  stopped k (row ∷ rows) h = ap (λ (m : Kept). foldl (seen_in t b) m rows) (passed_over k row h) ∙ stopped k rows h

  pub seen_first : (k : Kept) (row : List ℕ) → link_of t ≡ 0
      → seen (project_in t) (setting_in t) k row ≡ seen_in t b k row
  unfolding is_new_by every_below
  seen_first k row none =
      sym (cond_true _ _ (ap (λ (x : ℕ). is_new_by (project_in t) x b row) none))
