-- The frozen activities that are live, by their members.
use Prim.Native.Nat.{ℕ, ◌<◌}
use mathlib.Core.Bool.{Bool, true, false, not, ◌&&◌, ◌||◌, or-true}
use mathlib.Core.List.{List}
use mathlib.Core.Logic.{◌⊎◌, inl, inr}
use mathlib.Core.Path.{◌≡◌, refl, sym, ap, ◌∙◌}
use lib.Dec.{ltb, eqb}
use borrow.Author.Tests.{eqb-true, eq-eqb, lt-ltb}
use Rattle.base.proofs.Bools.{by_bool, both, and_left}
use Rattle.sets.specs.Sets.{has}
use Rattle.instance.specs.Table.{component_at}
use Rattle.profile.specs.Work.{end_at, start_at}
use Rattle.steps.specs.Steps.{Lives}

module _ {t w : List ℕ} {live j r : ℕ} (lives : Lives t w live j r) where
  abbrev stays : ℕ → Bool
  stays k = not (has (component_at t j) k) || ltb (start_at t w j) (end_at w k)

  pub lives_own : has r j ≡ true
  lives_own =
      lives.members j ∙ ap (λ (x : Bool). (has live j && stays j) || x) (eq-eqb j j refl)
      ∙ or-true (has live j && stays j)

  old : (k : ℕ) → has live k ≡ true → stays k ≡ true → has r k ≡ true
  old k y s = lives.members k ∙ ap (λ (x : Bool). x || eqb k j) (both y s)

  pub lives_off : (k : ℕ) → has live k ≡ true → has (component_at t j) k ≡ false → has r k ≡ true
  lives_off k y z = old k y (ap (λ (x : Bool). not x || ltb (start_at t w j) (end_at w k)) z)

  pub lives_behind : (k : ℕ) → has live k ≡ true → start_at t w j < end_at w k → has r k ≡ true
  lives_behind k y lt =
      old k y
      (ap (λ (x : Bool). not (has (component_at t j) k) || x) (lt-ltb (start_at t w j) (end_at w k) lt)
      ∙ or-true (not (has (component_at t j) k)))

  pub lives_is : (k : ℕ) → has r k ≡ true → (k ≡ j) ⊎ (has live k ≡ true)
  lives_is k y =
      by_bool (has live k && stays k) (λ two. inr (and_left (has live k) (stays k) two))
      (λ z. inl (eqb-true k j (sym (ap (λ (x : Bool). x || eqb k j) z) ∙ sym (lives.members k) ∙ y)))
