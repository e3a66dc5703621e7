-- Components by their masks and by their numbers.
use Prim.Native.Nat.{ℕ, ◌<◌}
use mathlib.Core.Bool.{true}
use mathlib.Core.List.{List}
use mathlib.Core.Path.{◌≡◌, sym, ap, ◌∙◌}
use borrow.Author.Tests.{lt-ltb, eq-eqb, eqb-true}
use Rattle.base.proofs.Bools.{both, and_right}
use Rattle.sets.specs.Sets.{has}
use Rattle.instance.specs.Instance.{own_of, is_tight, Laid}
use Rattle.instance.specs.Table.{acts_of, component_at, tight_of}
use lib.Dec.{ltb, eqb}

module _ (t : List ℕ) (laid : Laid t) where
  pub component_has : (i k : ℕ) → i < acts_of t → k < acts_of t → own_of t k ≡ own_of t i → has (component_at t i) k ≡ true
  component_has i k li lk on =
      laid.component i k li ∙ both (lt-ltb k (acts_of t) lk) (eq-eqb (own_of t k) (own_of t i) on)

  pub component_is : (i k : ℕ) → i < acts_of t → has (component_at t i) k ≡ true → own_of t k ≡ own_of t i
  component_is i k li y =
      eqb-true (own_of t k) (own_of t i)
      (and_right (ltb k (acts_of t)) (eqb (own_of t k) (own_of t i)) (sym (laid.component i k li) ∙ y))

  -- One of a component in which no two can run together is like another.
  pub tight_with : (i k : ℕ) → i < acts_of t → k < acts_of t → own_of t k ≡ own_of t i → has (tight_of t) i ≡ true
      → has (tight_of t) k ≡ true
  tight_with i k li lk on tight =
      laid.tight k
      ∙ both (lt-ltb k (acts_of t) lk)
      (ap (is_tight t) on ∙ and_right (ltb i (acts_of t)) (is_tight t (own_of t i)) (sym (laid.tight i) ∙ tight))
