-- What the refusals 4, 5 and 6 say of a file, in the words of the paper's table.
use Rattle.std.specs.Prelude.{ℕ, ◌<◌, true, ◌≡◌}
use mathlib.Core.List.{List, Memᴰ}
use Rattle.plan.specs.Limits.{most_variants}
use Rattle.plan.specs.Plan.{Plan, is_plan}
use Rattle.format.specs.Text.{text}
use Rattle.term.specs.Term.{Term, nodes}
use Rattle.term.specs.Variants.{variants, variant_count, activities}
use Rattle.term.specs.Clash.{Repeats}

-- The file is the text of a plan whose values are in their ranges.
pub record TextOf (s : List ℕ) (p : Plan) : Type 0 where
  pub ranges : is_plan p ≡ true
  pub same : s ≡ text p

-- 4: the nodes are not one whole term.
pub record NotWhole (s : List ℕ) : Type 0 where
  pub plan : Plan
  pub file : TextOf s plan
  pub none : (t : Term) → nodes t ≡ plan.nodes → ⊥

-- The nodes are this term.
pub record Whole (s : List ℕ) (p : Plan) (t : Term) : Type 0 where
  pub file : TextOf s p
  pub term : nodes t ≡ p.nodes

-- 5: some variant has an activity twice.
pub record HasTwice (s : List ℕ) : Type 0 where
  pub plan : Plan
  pub term : Term
  pub whole : Whole s plan term
  pub variant : Term
  pub one_of : Memᴰ variant (variants term)
  pub repeats : Repeats (activities variant)

-- 6: none has, and V is over 4096.
pub record HasTooMany (s : List ℕ) : Type 0 where
  pub plan : Plan
  pub term : Term
  pub whole : Whole s plan term
  pub once : (w : Term) → Memᴰ w (variants term) → Repeats (activities w) → ⊥
  pub many : most_variants < variant_count term
