-- The rule for an activity that stands twice: two of its nodes meet first at an s or p.
use Rattle.std.specs.Prelude.{ℕ, Bool, false, ◌||◌, List, ◌∷◌, ◌++◌, ◌≡◌}
use Rattle.term.specs.Term.{Term, Forest, act, seq, pll, xor, nil, cons}
use Rattle.term.specs.Variants.{activities, activities_of_all, member, some_of}

-- Two lists have an activity in common.
unfoldable pub share : List ℕ → List ℕ → Bool
share xs ys = some_of (λ i. member i ys) xs

unfoldable mutual
  pub clash : Term → Bool
  clash (act i) = false
  clash (seq f) = clash_together f
  clash (pll f) = clash_together f
  clash (xor f) = clash_apart f

  -- the children all done
  pub clash_together : Forest → Bool
  clash_together nil = false
  clash_together (cons t f) = clash t || share (activities t) (activities_of_all f) || clash_together f

  -- one of the children done
  pub clash_apart : Forest → Bool
  clash_apart nil = false
  clash_apart (cons t f) = clash t || clash_apart f

-- An activity stands at two places of a list.
abbrev pub Repeats : List ℕ → Type 0
Repeats xs = (i : ℕ) × (a b c : List ℕ) × (xs ≡ a ++ i ∷ b ++ i ∷ c)
