-- Components as numbers: which activities a step joins, that a component's number is none above its activities, that
-- two that hold units of one resource are of one component, and that two of one component do so where no activity holds
-- units of several.
use Prim.Native.Nat.{ℕ, zero, suc, ◌≤◌, ◌<◌}
use native.Mathlib.Decide.{ℕ_discrete}
use native.Mathlib.Nat.{not-suc-le-zero}
use native.Mathlib.Omega.{arith}
use mathlib.Core.Bool.{Bool, true, false, cond, not, ◌&&◌}
use mathlib.Core.List.Memᴰ
use mathlib.Core.List.{List, [], ◌∷◌, Memᴰ}
use mathlib.Core.Logic.{by_cases}
use mathlib.Core.Path.{◌≡◌, refl, sym, ap, ◌∙◌, subst}
use lib.Dec.{eqb}
use borrow.Author.Tests.{eq-eqb, eqb-true, not-true, not-false}
use Rattle.base.specs.Below.{every_below}
use Rattle.base.specs.Lists.{least_of}
use Rattle.base.proofs.Bools.{by_bool, true_not_false, both, and_left, and_right, cond_true, cond_false}
use Rattle.base.proofs.Below.{every_at, every_fails}
use Rattle.base.proofs.Lists.{gather_is, gather_mem, least_below, least_mem}
use Rattle.schedule.specs.Project.{Project}
use Rattle.scan.specs.Components.{uses, numbers_on, merged, component_below}

pub least_in : (l : List ℕ) (a : ℕ) → Memᴰ a l → Memᴰ (least_of l) l
least_in [] a m = absurd (Memᴰ.not-nil m)
least_in (x ∷ xs) a m = least_mem x xs

module _ (p : Project) (comp : ℕ → ℕ) (r : ℕ) where
  -- k does not both hold units of r and have the number c.
  abbrev pub apart : ℕ → ℕ → Bool
  apart c k = not (uses p r k && eqb (comp k) c)

  -- One of the component of i holds units of r.
  pub record Touched (i : ℕ) : Type 0 where
    pub user : ℕ
    pub below : user < p.size
    pub holds : uses p r user ≡ true
    pub same : comp user ≡ comp i

  touched_of : (i : ℕ) → every_below p.size (apart (comp i)) ≡ false → Touched i
  touched_of i some =
      let (k, b, fails) = every_fails p.size (apart (comp i)) some in
      let two = not-false (uses p r k && eqb (comp k) (comp i)) fails in
      record {
        user = k;
        below = b;
        holds = and_left (uses p r k) (eqb (comp k) (comp i)) two;
        same = eqb-true (comp k) (comp i) (and_right (uses p r k) (eqb (comp k) (comp i)) two);
      }

  none_of : (i : ℕ) → every_below p.size (apart (comp i)) ≡ true → Touched i → ⊥
  none_of i all h =
      true_not_false (both h.holds (eq-eqb (comp h.user) (comp i) h.same))
      (not-true (uses p r h.user && eqb (comp h.user) (comp i))
      (every_at p.size (apart (comp i)) all h.user h.below))

  pub by_touched : {C : Type 0} (i : ℕ) → (Touched i → C) → ((Touched i → ⊥) → C) → C
  by_touched i y n =
      by_bool (every_below p.size (apart (comp i))) (λ all. n (none_of i all)) (λ some. y (touched_of i some))

  abbrev pub least : ℕ
  least = least_of (numbers_on p comp r)

  -- The least number is that of one that holds units.
  pub record Least : Type 0 where
    pub user : ℕ
    pub below : user < p.size
    pub holds : uses p r user ≡ true
    pub is : least ≡ comp user

  number_mem : (k : ℕ) → k < p.size → uses p r k ≡ true → Memᴰ (comp k) (numbers_on p comp r)
  number_mem k l y =
      gather_mem p.size (λ k. cond (uses p r k) (comp k ∷ []) []) k l
      (subst (Memᴰ (comp k)) (sym (cond_true (comp k ∷ []) [] y)) (Memᴰ.head refl))

  number_is : Memᴰ least (numbers_on p comp r) → Least
  number_is m =
      let (k, l, n) = gather_is p.size (λ k. cond (uses p r k) (comp k ∷ []) []) m in
      by_bool (uses p r k)
      (λ y.
      record {
        user = k;
        below = l;
        holds = y;
        is = Memᴰ.eq_of_singleton (subst (Memᴰ least) (cond_true (comp k ∷ []) [] y) n);
      })
      (λ z. absurd (Memᴰ.not-nil (subst (Memᴰ least) (cond_false (comp k ∷ []) [] z) n)))

  pub least_of_lem : (i : ℕ) → Touched i → Least
  least_of_lem i h =
      number_is (least_in (numbers_on p comp r) (comp h.user) (number_mem h.user h.below h.holds))

  -- What a step does to a number.
  pub merged_touched : (i : ℕ) → Touched i → merged p comp r i ≡ least
  unfolding merged
  merged_touched i h =
      cond_false (comp i) least
      (by_bool (every_below p.size (apart (comp i))) (λ all. absurd (none_of i all h)) (λ some. some))

  pub merged_other : (i : ℕ) → (Touched i → ⊥) → merged p comp r i ≡ comp i
  unfolding merged
  merged_other i none =
      cond_true (comp i) least
      (by_bool (every_below p.size (apart (comp i))) (λ all. all) (λ some. absurd (none (touched_of i some))))

  -- Two are of one component after the step: both are touched, or they were before and neither is.
  pub merged_same : (i k : ℕ) → comp k ≡ comp i → merged p comp r k ≡ merged p comp r i
  unfolding merged
  merged_same i k e = ap (λ (c : ℕ). cond (every_below p.size (apart c)) c least) e

  pub merged_both : (i k : ℕ) → Touched i → merged p comp r k ≡ merged p comp r i → Touched k
  merged_both i k h e =
      by_touched k
      (λ y. y)
      (λ none.
      let l = least_of_lem i h in
      record {
        user = l.user;
        below = l.below;
        holds = l.holds;
        same = sym l.is ∙ sym (merged_touched i h) ∙ sym e ∙ merged_other k none;
      })

  pub merged_none : (i k : ℕ) → (Touched i → ⊥) → merged p comp r k ≡ merged p comp r i → comp k ≡ comp i
  merged_none i k none e =
      sym (merged_other k (λ h. none (merged_both k i h (sym e)))) ∙ e ∙ merged_other i none

  merged_low : (i : ℕ) → comp i ≤ i → merged p comp r i ≤ i
  merged_low i low =
      by_touched i
      (λ h.
      omega (
        arith,
        merged_touched i h,
        h.same,
        least_below (numbers_on p comp r) (comp h.user) (number_mem h.user h.below h.holds),
      ))
      (λ none. omega (arith, merged_other i none))

module _ (p : Project) where
  pub component_low : (n i : ℕ) → component_below p n i ≤ i
  unfolding component_below
  component_low zero i = omega arith
  component_low (suc n) i = merged_low p (component_below p n) n i (component_low n i)

  -- Two that hold units of one resource are of one component.
  pub component_joint : (n i k r : ℕ) → i < p.size → k < p.size → r < n → uses p r i ≡ true → uses p r k ≡ true
      → component_below p n i ≡ component_below p n k
  unfolding component_below
  component_joint zero i k r bi bk l ui uk = absurd (not-suc-le-zero l)
  component_joint (suc n) i k r bi bk l ui uk =
      by_cases (ℕ_discrete r n)
      (λ e.
      let at : (m : ℕ) → m < p.size → uses p r m ≡ true → Touched p (component_below p n) n m =
      λ m b u. record { user = m; below = b; holds = ap (λ (s : ℕ). uses p s m) (sym e) ∙ u; same = refl } in
      merged_touched p (component_below p n) n i (at i bi ui)
      ∙ sym (merged_touched p (component_below p n) n k (at k bk uk)))
      (λ ne. merged_same p (component_below p n) n k i (component_joint n i k r bi bk (omega arith) ui uk))

  -- Where each holds units of no resource but its own, two of one component have the same.
  module _ (resource : ℕ → ℕ)
      (alone : (i r : ℕ) → i < p.size → r < p.resources → uses p r i ≡ true → resource i ≡ r)
    where
      pub component_alone : (n i k : ℕ) → n ≤ p.resources → i < p.size → k < p.size
          → component_below p n i ≡ component_below p n k → resource i ≡ resource k
      unfolding component_below
      component_alone zero i k l bi bk e = ap resource e
      component_alone (suc n) i k l bi bk e =
          let comp : ℕ → ℕ = component_below p n in
          let on : (j : ℕ) → j < p.size → Touched p comp n j → resource j ≡ n =
          λ j b h.
          component_alone n j h.user (omega arith) b h.below (sym h.same)
          ∙ alone h.user n h.below (omega arith) h.holds in
          by_touched p comp n i
          (λ h. on i bi h ∙ sym (on k bk (merged_both p comp n i k h (sym e))))
          (λ none. component_alone n i k (omega arith) bi bk (sym (merged_none p comp n i k none (sym e))))
