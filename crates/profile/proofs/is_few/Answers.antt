use Prim.Native.Nat.{ℕ}
use borrow.Author.Tests.{eqb-true}
use mathlib.Core.Path.{refl, sym, ap, ◌∙◌}
use Rattle.base.proofs.Bools.{true_not_false}
use Rattle.sets.specs.Sets.{has}
use Rattle.sets.proofs.Laws.{has_none}
use Rattle.sets.proofs.Turns.{turned, one_member}
use Rattle.profile.proofs.is_few.Goals as goal

pub returns-then-set-eq0 : goal.returns-then-set-eq0
returns-then-set-eq0 c =
    record { one = λ e j k y z. true_not_false y (ap (λ (x : ℕ). has x j) c.if-set-eq0.true ∙ has_none j) }

pub returns-else-set-eq0 : goal.returns-else-set-eq0
returns-else-set-eq0 c =
    let turn = turned _ _ _ c.requires c.if-set-eq0.false refl c.after_lowest.ensures in
    record {
      one = λ e j k y z. one_member turn (eqb-true _ 0 e) j y ∙ sym (one_member turn (eqb-true _ 0 e) k z);
    }
