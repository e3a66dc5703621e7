-- The number of a component is its least activity, and tells it from the others.
use Prim.Native.Nat.{ℕ, ◌≤◌, ◌<◌}
use native.Mathlib.Decide.{dec_lt}
use native.Mathlib.Omega.{arith}
use mathlib.Core.Bool.{true, ◌&&◌}
use mathlib.Core.List.{List}
use mathlib.Core.Logic.{by_cases}
use mathlib.Core.Path.{◌≡◌, sym, ap, ◌∙◌}
use lib.Dec.{ltb, eqb}
use borrow.Author.Tests.{lt-ltb, eq-eqb, eqb-true}
use Rattle.base.proofs.Bools.{true_not_false, both, and_right}
use Rattle.sets.proofs.Laws.{has_none, same}
use Rattle.sets.proofs.Members.{Lowest, lowest_is}
use Rattle.sets.specs.Lowest.{after_lowest}
use Rattle.sets.specs.Sets.{most, has}
use Rattle.instance.specs.Table.{component_at, own_at, acts_of, project_in}
use Rattle.instance.specs.Instance.{own_of, Laid}
use Rattle.scan.proofs.Components.{component_low}
use Rattle.instance.proofs.Components.{component_own}

module _ (t : List ℕ) (h : Laid t) where
  own_low : (i : ℕ) → own_of t i ≤ i
  own_low = component_low (project_in t) (project_in t).resources

  pub own_below : (i : ℕ) → i < acts_of t → own_of t i < acts_of t
  own_below i b = omega (arith, own_low i)

  module _ (i : ℕ) (below : i < acts_of t) where
    own_member : has (component_at t i) (own_of t i) ≡ true
    own_member =
        h.component i (own_of t i) below
        ∙ both (lt-ltb (own_of t i) (acts_of t) (own_below i below))
        (eq-eqb (own_of t (own_of t i)) (own_of t i) (component_own (project_in t) (project_in t).resources i))

    lowest : Lowest most (component_at t i) (own_at t i) (after_lowest (component_at t i))
    lowest =
        lowest_is (component_at t i) (h.component_low i (omega (arith, h.acts)))
        (λ e. true_not_false own_member (ap (λ (x : ℕ). has x (own_of t i)) e ∙ has_none (own_of t i)))

    pub own_is : own_at t i ≡ own_of t i
    own_is =
        let low = own_at t i in
        let alike =
        eqb-true (own_of t low) (own_of t i)
        (and_right (ltb low (acts_of t)) (eqb (own_of t low) (own_of t i))
        (sym (h.component i low below) ∙ lowest.member)) in
        by_cases (dec_lt (own_of t i) low)
        (λ l. true_not_false own_member (lowest.none (own_of t i) l))
        (λ l. omega (arith, own_low low, alike))

  -- Two with the same number have the same set.
  pub component_alike : (i k : ℕ) → i < acts_of t → k < acts_of t → own_of t i ≡ own_of t k
      → component_at t i ≡ component_at t k
  component_alike i k b d e =
      same most (component_at t i) (component_at t k) (h.component_low i (omega (arith, h.acts)))
      (h.component_low k (omega (arith, h.acts)))
      (λ j l.
      h.component i j b
      ∙ ap (λ (c : ℕ). ltb j (acts_of t) && eqb (own_of t j) c) e
      ∙ sym (h.component k j d))
