-- Lists made from tests and from numbers, and the cells of rows.
use Rattle.std.specs.Prelude.{ℕ, zero, suc, ◌+◌, min, Bool, true, false, cond, ◌&&◌, ◌||◌, List, [], ◌∷◌, ◌++◌, eqb}

-- Every element passes.
abbrev pub every {ℓ} : {A : Type ℓ} → (A → Bool) → List A → Bool
every f [] = true
every f (x ∷ xs) = f x && every f xs

-- The elements that pass, in their order.
unfoldable pub keep {ℓ} : {A : Type ℓ} → (A → Bool) → List A → List A
keep f [] = []
keep f (x ∷ xs) = cond (f x) (x ∷ keep f xs) (keep f xs)

-- f 0 ++ f 1 ++ .. ++ f (n - 1)
unfoldable pub gather {ℓ} : {A : Type ℓ} → ℕ → (ℕ → List A) → List A
gather zero f = []
gather (suc n) f = gather n f ++ f n

-- The least number of a list; 0 if there is none.
abbrev pub least_of : List ℕ → ℕ
least_of [] = 0
least_of (x ∷ []) = x
least_of (x ∷ y ∷ ys) = min x (least_of (y ∷ ys))

-- The sum of f over a list.
abbrev pub sum_over : (ℕ → ℕ) → List ℕ → ℕ
sum_over f [] = 0
sum_over f (i ∷ is) = f i + sum_over f is

-- The same numbers in the same order.
abbrev pub same_row : List ℕ → List ℕ → Bool
same_row [] [] = true
same_row [] (y ∷ ys) = false
same_row (x ∷ xs) [] = false
same_row (x ∷ xs) (y ∷ ys) = eqb x y && same_row xs ys

-- The row is one of the rows.
abbrev pub is_one_of : List ℕ → List (List ℕ) → Bool
is_one_of row [] = false
is_one_of row (other ∷ rows) = same_row row other || is_one_of row rows

-- Rows laid one after another.
unfoldable pub cells_of : List (List ℕ) → List ℕ
cells_of [] = []
cells_of (row ∷ rows) = row ++ cells_of rows
