-- What is contested together: resources are joined by the activities that hold units of both, whether a variant has
-- them or not. A component has the number of its least activity; one that holds nothing is alone.
use Rattle.std.specs.Prelude.{ℕ, zero, suc, Bool, cond, ◌&&◌, not, List, [], ◌∷◌, ltb, eqb}
use Rattle.base.specs.Below.{every_below}
use Rattle.base.specs.Lists.{gather, least_of}
use Rattle.schedule.specs.Project.{Project}

module _ (p : Project) where
  abbrev pub uses : ℕ → ℕ → Bool
  uses r i = ltb 0 (p.units i r)

  -- The components that have an activity on resource r become one, with the least of their numbers.
  abbrev pub numbers_on : (ℕ → ℕ) → ℕ → List ℕ
  numbers_on comp r = gather p.size λ k. cond (uses r k) (comp k ∷ []) []

  unfoldable pub merged : (ℕ → ℕ) → ℕ → ℕ → ℕ
  merged comp r i =
      cond (every_below p.size λ k. not (uses r k && eqb (comp k) (comp i))) (comp i) (least_of (numbers_on comp r))

  -- By the resources below n.
  unfoldable pub component_below : ℕ → ℕ → ℕ
  component_below zero i = i
  component_below (suc n) i = merged (component_below n) n i

  abbrev pub component_of : ℕ → ℕ
  component_of = component_below p.resources
