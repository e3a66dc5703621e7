-- Laws of `some_of`: some element of a list passes a test.
use Prim.Native.Nat.{◌≤◌}
use mathlib.Core.Bool.{Bool, true, false, ◌||◌, or_assoc, or-true, false≢true}
use mathlib.Core.List.{List, [], ◌∷◌, ◌++◌, map, Memᴰ}
use mathlib.Core.Path.{◌≡◌, refl, sym, ap, ap₂, ◌∙◌}
use native.Mathlib.Omega.{arith}
use lib.ListN.{length}
use Rattle.term.specs.Variants.{some_of}

-- (a || b) || (c || d) with the middle two exchanged
or_swap : (a b c d : Bool) → a || b || (c || d) ≡ a || c || (b || d)
or_swap true b c d = refl
or_swap false true true d = refl
or_swap false true false d = refl
or_swap false false c d = refl

module _ {ℓ} {A : Type ℓ} where
  pub some_cong : {p q : A → Bool} → ((x : A) → p x ≡ q x) → (xs : List A) → some_of p xs ≡ some_of q xs
  unfolding some_of
  some_cong h [] = refl
  some_cong h (x ∷ xs) = ap₂ ◌||◌ (h x) (some_cong h xs)

  pub some_append : (p : A → Bool) (xs ys : List A) → some_of p (xs ++ ys) ≡ some_of p xs || some_of p ys
  unfolding some_of
  some_append p [] ys = refl
  some_append p (x ∷ xs) ys =
      ap (◌||◌ (p x)) (some_append p xs ys) ∙ sym (or_assoc (p x) (some_of p xs) (some_of p ys))

  pub some_or : (p q : A → Bool) (xs : List A) → some_of (λ x. p x || q x) xs ≡ some_of p xs || some_of q xs
  unfolding some_of
  some_or p q [] = refl
  some_or p q (x ∷ xs) = ap (◌||◌ (p x || q x)) (some_or p q xs) ∙ or_swap (p x) (q x) (some_of p xs) (some_of q xs)

  pub some_none : (xs : List A) → some_of (λ x. false) xs ≡ false
  unfolding some_of
  some_none [] = refl
  some_none (x ∷ xs) = some_none xs

  -- a test that does not look at the element
  pub some_const : (b : Bool) (xs : List A) → 1 ≤ length xs → some_of (λ x. b) xs ≡ b
  unfolding some_of
  some_const b [] h = absurd (omega arith)
  some_const true (x ∷ xs) h = refl
  some_const false (x ∷ xs) h = some_none xs

  -- the test passes exactly if there is such an element
  pub some_found : (p : A → Bool) (xs : List A) → some_of p xs ≡ true → (x : A) × Memᴰ x xs × (p x ≡ true)
  unfolding some_of
  some_found p [] e = absurd (false≢true e)
  some_found p (x ∷ xs) e = go (some_found p xs) (p x) refl e
    where
      go : (some_of p xs ≡ true → (y : A) × Memᴰ y xs × (p y ≡ true)) → (b : Bool) → p x ≡ b
          → b || some_of p xs ≡ true → (y : A) × Memᴰ y (x ∷ xs) × (p y ≡ true)
      go later true h e = (x, Memᴰ.head refl, h)
      go later false h e = let (y, m, q) = later e in (y, Memᴰ.tail m, q)

  pub some_is : (p : A → Bool) {x : A} {xs : List A} → Memᴰ x xs → p x ≡ true → some_of p xs ≡ true
  unfolding some_of
  some_is p {xs = []} m h = elim m [ ]
  some_is p {x} {xs = y ∷ ys} (Memᴰ.head e) h = ap (λ (b : Bool). b || some_of p ys) (ap p (sym e) ∙ h)
  some_is p {x} {xs = y ∷ ys} (Memᴰ.tail m) h = ap (◌||◌ (p y)) (some_is p m h) ∙ or-true (p y)

module _ {ℓ κ} {A : Type ℓ} {B : Type κ} where
  pub some_map : (p : B → Bool) (f : A → B) (xs : List A) → some_of p (map f xs) ≡ some_of (λ x. p (f x)) xs
  unfolding some_of
  some_map p f [] = refl
  some_map p f (x ∷ xs) = ap (◌||◌ (p (f x))) (some_map p f xs)

  pub some_swap : (p : A → B → Bool) (xs : List A) (ys : List B)
      → some_of (λ x. some_of (p x) ys) xs ≡ some_of (λ y. some_of (λ x. p x y) xs) ys
  unfolding some_of
  some_swap p [] ys = sym (some_none ys)
  some_swap p (x ∷ xs) ys =
      ap (◌||◌ (some_of (p x) ys)) (some_swap p xs ys) ∙ sym (some_or (p x) (λ y. some_of (λ z. p z y) xs) ys)

  -- some pair of an element of one list and an element of another
  abbrev pub some_pair : (A → B → Bool) → List A → List B → Bool
  some_pair p xs ys = some_of (λ x. some_of (p x) ys) xs

  pub pair_cong : {p q : A → B → Bool} → ((x : A) (y : B) → p x y ≡ q x y) → (xs : List A) (ys : List B)
      → some_pair p xs ys ≡ some_pair q xs ys
  pair_cong h xs ys = some_cong (λ x. some_cong (h x) ys) xs

  pub pair_or : (p q : A → B → Bool) (xs : List A) (ys : List B)
      → some_pair (λ x y. p x y || q x y) xs ys ≡ some_pair p xs ys || some_pair q xs ys
  pair_or p q xs ys =
      some_cong (λ x. some_or (p x) (q x) ys) xs ∙ some_or (λ x. some_of (p x) ys) (λ x. some_of (q x) ys) xs

  pub pair_first : (p : A → Bool) (xs : List A) (ys : List B) → 1 ≤ length ys
      → some_pair (λ x y. p x) xs ys ≡ some_of p xs
  pair_first p xs ys h = some_cong (λ x. some_const (p x) ys h) xs

  pub pair_second : (q : B → Bool) (xs : List A) (ys : List B) → 1 ≤ length xs
      → some_pair (λ x y. q y) xs ys ≡ some_of q ys
  pair_second q xs ys h = some_const (some_of q ys) xs h
