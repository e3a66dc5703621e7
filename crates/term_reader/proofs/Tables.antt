-- Nodes in range among m activities are in range among more: what a caller needs whose plan has fewer than `most`.
use Prim.Native.Nat.{ℕ, ◌≤◌}
use mathlib.Core.Path.{◌≡◌}
use mathlib.Core.Bool.{true}
use mathlib.Core.List.{List}
use native.Mathlib.Omega.{arith}
use borrow.Author.Tests.{ltb-true, lt-ltb}
use Rattle.base.specs.Lists.{every}
use Rattle.base.proofs.Every.{every_then}
use Rattle.plan.specs.Plan.{is_node}
use Rattle.plan.specs.declared.Node.{Node}
use Rattle.plan.specs.declared.Node.TheVariants.{Act, Seq, Pll, Xor}

more_activities : (m n : ℕ) → m ≤ n → (x : Node) → is_node m x ≡ true → is_node n x ≡ true
more_activities m n l (Act i) e = lt-ltb i n (omega (arith, ltb-true i m e))
more_activities m n l (Seq k) e = e
more_activities m n l (Pll k) e = e
more_activities m n l (Xor k) e = e

pub every_more : (m n : ℕ) → m ≤ n → (xs : List Node) → every (is_node m) xs ≡ true → every (is_node n) xs ≡ true
every_more m n l xs = every_then (is_node m) (is_node n) (more_activities m n l) xs
