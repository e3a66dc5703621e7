-- A component's number is its own, and components depend on the units alone.
use Prim.Native.Nat.{ℕ, zero, suc, ◌<◌}
use native.Mathlib.Omega.{arith}
use mathlib.Core.Bool.{Bool, cond, not, ◌&&◌}
use mathlib.Core.List.{List, [], ◌∷◌}
use mathlib.Core.Path.{◌≡◌, refl, sym, ap, ap₂, ◌∙◌}
use lib.Dec.{ltb, eqb}
use Rattle.base.specs.Below.{every_below}
use Rattle.base.specs.Lists.{gather, least_of}
use Rattle.base.proofs.Below.{every_same}
use Rattle.base.proofs.Lists.{gather_same}
use Rattle.schedule.specs.Project.{Project}
use Rattle.scan.specs.Components.{uses, numbers_on, merged, component_below}
use Rattle.scan.proofs.Components.{apart, by_touched, least_of_lem, merged_touched, merged_other, merged_same}

merged_own : (p : Project) (comp : ℕ → ℕ) (r : ℕ) → ((i : ℕ) → comp (comp i) ≡ comp i) → (i : ℕ)
    → merged p comp r (merged p comp r i) ≡ merged p comp r i
merged_own p comp r own i =
    by_touched p comp r i
    (λ h.
    let l = least_of_lem p comp r i h in
    ap (merged p comp r) (merged_touched p comp r i h ∙ l.is)
    ∙ merged_same p comp r l.user (comp l.user) (own l.user)
    ∙ merged_touched p comp r l.user
    (record { user = l.user; below = l.below; holds = l.holds; same = refl })
    ∙ sym (merged_touched p comp r i h))
    (λ none. ap (merged p comp r) (merged_other p comp r i none) ∙ merged_same p comp r i (comp i) (own i))

pub component_own : (p : Project) (n i : ℕ) → component_below p n (component_below p n i) ≡ component_below p n i
unfolding component_below
component_own p zero i = refl
component_own p (suc n) i = merged_own p (component_below p n) n (component_own p n) i

-- ---- components depend on the units alone

module _ (p q : Project) (sizes : q.size ≡ p.size) where
  merged_alike : (comp comp' : ℕ → ℕ) (r : ℕ) → ((k : ℕ) → k < p.size → q.units k r ≡ p.units k r)
      → ((k : ℕ) → comp' k ≡ comp k) → (i : ℕ) → merged q comp' r i ≡ merged p comp r i
  unfolding merged
  merged_alike comp comp' r units same i =
      ap₂ (λ (b : Bool) (l : List ℕ). cond b (comp' i) (least_of l))
      (ap (λ (s : ℕ). every_below s (apart q comp' r (comp' i))) sizes
      ∙ every_same p.size (apart q comp' r (comp' i)) (apart p comp r (comp i))
      (λ k b. ap not (ap₂ ◌&&◌ (held k b) (ap₂ eqb (same k) (same i)))))
      (ap (λ (s : ℕ). gather s (λ k. cond (uses q r k) (comp' k ∷ []) [])) sizes
      ∙ gather_same p.size (λ k. cond (uses q r k) (comp' k ∷ []) []) (λ k. cond (uses p r k) (comp k ∷ []) [])
      (λ k b. ap₂ (λ (u : Bool) (c : ℕ). cond u (c ∷ []) []) (held k b) (same k)))
      ∙ ap (λ (c : ℕ). cond (every_below p.size (apart p comp r (comp i))) c (least_of (numbers_on p comp r))) (same i)
    where
      held : (k : ℕ) → k < p.size → uses q r k ≡ uses p r k
      held k b = ap (λ (x : ℕ). ltb 0 x) (units k b)

  pub component_same : (n : ℕ) → ((k r : ℕ) → k < p.size → r < n → q.units k r ≡ p.units k r)
      → (i : ℕ) → component_below q n i ≡ component_below p n i
  unfolding component_below
  component_same zero units i = refl
  component_same (suc n) units i =
      merged_alike (component_below p n) (component_below q n) n (λ k b. units k n b (omega arith))
      (component_same n (λ k r b l. units k r b (omega arith)))
      i
