-- The variants of a term in the order of their numbers. An x has its first child's variants, then its second's; an s
-- or p has every combination, its first child varying slowest. Each is a reduced activity term of document 000,
-- section 2.2.
use Rattle.std.specs.Prelude.{ℕ, Bool, false, ◌||◌, List, [], ◌∷◌, ◌++◌, map, eqb, length}
use Rattle.term.specs.Term.{Term, Forest, act, seq, pll, xor, nil, cons}

-- Every pairing of a first child with the others.
unfoldable pub paired : List Term → List Forest → List Forest
paired [] fs = []
paired (t ∷ ts) fs = map (cons t) fs ++ paired ts fs

unfoldable mutual
  pub variants : Term → List Term
  variants (act i) = act i ∷ []
  variants (seq f) = map seq (combinations f)
  variants (pll f) = map pll (combinations f)
  variants (xor f) = alternatives f

  pub combinations : Forest → List Forest
  combinations nil = nil ∷ []
  combinations (cons t f) = paired (variants t) (combinations f)

  pub alternatives : Forest → List Term
  alternatives nil = []
  alternatives (cons t f) = variants t ++ alternatives f

-- V
unfoldable pub variant_count : Term → ℕ
variant_count t = length (variants t)

-- The activities of a term, node by node.
unfoldable mutual
  pub activities : Term → List ℕ
  activities (act i) = i ∷ []
  activities (seq f) = activities_of_all f
  activities (pll f) = activities_of_all f
  activities (xor f) = activities_of_all f

  pub activities_of_all : Forest → List ℕ
  activities_of_all nil = []
  activities_of_all (cons t f) = activities t ++ activities_of_all f

unfoldable pub member : ℕ → List ℕ → Bool
member i [] = false
member i (j ∷ js) = eqb i j || member i js

unfoldable pub repeats : List ℕ → Bool
repeats [] = false
repeats (i ∷ js) = member i js || repeats js

unfoldable pub some_of {ℓ} : {A : Type ℓ} → (A → Bool) → List A → Bool
some_of f [] = false
some_of f (x ∷ xs) = f x || some_of f xs

-- Some variant has an activity twice.
unfoldable pub twice : Term → Bool
twice t = some_of (λ v. repeats (activities v)) (variants t)
