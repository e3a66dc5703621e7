-- A byte that is none of the first three letters counts as the fourth, and a node keeps its number.
use Prim.Native.Nat.{ℕ}
use mathlib.Core.Bool.{false}
use mathlib.Core.Path.{◌≡◌, ap, ◌∙◌}
use borrow.Author.Tests.{eqb-true}
use lib.Dec.{eqb}
use Rattle.base.proofs.Bools.{by_bool, elim_false}
use Rattle.plan.specs.Plan.{value_of, node_of}
use Rattle.plan.specs.declared.Node.TheVariants.{Xor}

pub other_node : (b n : ℕ) → eqb b 97 ≡ false → eqb b 115 ≡ false → eqb b 112 ≡ false → node_of b n ≡ Xor n
other_node b n a s p = elim_false _ _ _ a ∙ elim_false _ _ _ s ∙ elim_false _ _ _ p

pub node_number : (b n : ℕ) → value_of (node_of b n) ≡ n
node_number b n =
    by_bool (eqb b 97) (λ e. rw (eqb-true b 97 e)) λ a.
    by_bool (eqb b 115) (λ e. rw (eqb-true b 115 e)) λ s.
    by_bool (eqb b 112) (λ e. rw (eqb-true b 112 e)) λ p.
    ap value_of (other_node b n a s p)
