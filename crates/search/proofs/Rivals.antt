-- What is placed of a component that is due, where no two of it can run together and elsewhere.
use Prim.Native.Nat.{ℕ, ◌<◌}
use native.Mathlib.Omega.{arith}
use mathlib.Core.Bool.{true, false, not}
use mathlib.Core.List.{List}
use mathlib.Core.Path.{◌≡◌, sym, ap, ◌∙◌}
use Rattle.base.proofs.Bools.{by_bool, true_not_false}
use Rattle.sets.specs.Sets.{has}
use Rattle.scan.specs.Scan.{Diagram}
use Rattle.instance.specs.Instance.{own_of, Instance}
use Rattle.instance.specs.Table.{acts_of, tight_of}
use Rattle.instance.proofs.Own.{own_is}
use Rattle.profile.specs.Work.{ready_at, soon_at}
use Rattle.steps.specs.Steps.{loose_in}
use Rattle.steps.specs.declared.Line.{Line}
use Rattle.steps.proofs.Own.{tight_with}
use Rattle.steps.proofs.Free.{tight_next}
use Rattle.steps.proofs.Sets.{loose_is, loose_shown}
use Rattle.unbranched.specs.Position.{Position}
use Rattle.unbranched.proofs.Alone.{own_c, acts_c}

module _ {t : List ℕ} (given : Instance t) {l : Line} {w : List ℕ} {d : Diagram} (at : Position t l w d) {c : ℕ}
    (due : has l.due c ≡ true) (i : ℕ) (loose : has (loose_in l) i ≡ true) (on : own_of t i ≡ c) where
  pub placed_acts : i < acts_of t
  placed_acts = at.sets.left i (loose_is l i loose).1

  alike : own_of t c ≡ own_of t i
  alike = own_c t given l w d at c due ∙ sym on

  pub placed_tight : has (tight_of t) c ≡ true → has (tight_of t) i ≡ true
  placed_tight = tight_with t given.laid c i (acts_c t given l w d at c due) placed_acts (sym alike)

  pub placed_roomy : has (tight_of t) c ≡ false → has (tight_of t) i ≡ false
  placed_roomy z =
      by_bool (has (tight_of t) i)
      (λ y. true_not_false (tight_with t given.laid i c placed_acts (acts_c t given l w d at c due) alike y) z)
      (λ n. n)

  -- No two of it can run together: it starts before the scan-line, and has not been passed.
  pub tight_early : has (tight_of t) c ≡ true → soon_at t w i < l.tick
  tight_early y =
      at.timely.early i loose (placed_tight y)
      (ap (has l.due) (own_is t given.laid i placed_acts ∙ on) ∙ due)

  pub tight_free : has (tight_of t) c ≡ true → has l.passed i ≡ false
  tight_free y =
      let (there, waits) = loose_shown t given l w d at.shows d.tick at.stands i loose in
      at.shows.passed i loose
      ∙ ap not (tight_next t given d d.tick at.stands i there waits (placed_tight y))

  -- Two of it can: it starts when it is ready.
  pub roomy_soon : has (tight_of t) c ≡ false → soon_at t w i ≡ ready_at w i
  roomy_soon z = omega (arith, at.shows.roomy i placed_acts (placed_roomy z))
