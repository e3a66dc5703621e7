-- Lists that `keep`, `gather` and `cells_of` make: their members, how long they are, permutations part by part.
use Prim.Native.Nat.{ℕ, zero, suc, ◌+◌, ◌*◌, ◌≤◌, ◌<◌}
use native.Mathlib.Nat.{ℕ_set, not-suc-le-zero, suc-mul}
use native.Mathlib.Decide.{ℕ_discrete, dec_le}
use native.Mathlib.Omega.{arith}
use mathlib.Core.Bool.{Bool, true, false, cond, ◌||◌}
use mathlib.Core.Path.{◌≡◌, refl, sym, ◌∙◌, ap, ap₂}
use mathlib.Core.HLevel.{⊥_prop, ¬_prop}
use mathlib.Core.Logic.{◌≢◌, ◌⊎◌, inl, inr, ⊎_elim, ∥∥₁_elim, ∥∥₁_map, by_cases}
use mathlib.Core.List.Perm
use mathlib.Core.List.{List, [], ◌∷◌, ◌++◌, map, foldl, append-nil, Perm, Memᴰ}
use mathlib.Core.List.{Mem}
use mathlib.Core.List.{Nodup, Pairwise}
use mathlib.Core.List.{Pairwise-cons, Pairwise-append}
use mathlib.Core.List.Permᴰ
use mathlib.Core.List.{Permᴰ}
use lib.ListN.{length, get_or, take, replicate, length-append, get_or-append}
use lib.Seq.{get_or-append_seam}
use lib.Dec.{eqb}
use borrow.Author.Tests.{eqb-true, eq-eqb}
use Rattle.base.specs.Lists.{keep, gather, same_row, is_one_of, least_of, cells_of}
use Rattle.base.proofs.Bools.{by_bool, true_not_false, both, and_left, and_right}

module _ {ℓ} {A : Type ℓ} where
  -- A membership of which only the fact is known, where elements can be told apart.
  decide_mem : Discrete A → (a : A) (l : List A) → Dec (Memᴰ a l)
  decide_mem d a [] = no mathlib.Core.List.Memᴰ.not-nil
  decide_mem d a (x ∷ xs) = step (d a x) (decide_mem d a xs)
    where
      step : Dec (a ≡ x) → Dec (Memᴰ a xs) → Dec (Memᴰ a (x ∷ xs))
      step (yes e) m = yes (mathlib.Core.List.Memᴰ.head e)
      step (no ne) (yes m) = yes (mathlib.Core.List.Memᴰ.tail m)
      step (no ne) (no nm) = no (λ m. ⊎_elim ne nm (mathlib.Core.List.Memᴰ.cases_cons m))

  pub mem_found : Discrete A → (a : A) (l : List A) → Mem a l → Memᴰ a l
  mem_found d a l m = by_cases (decide_mem d a l) (λ y. y) (λ n. absurd (∥∥₁_elim m ⊥_prop n))

  -- keep

  pub keep_is : (f : A → Bool) (l : List A) {a : A} → Memᴰ a (keep f l) → Memᴰ a l × (f a ≡ true)
  unfolding keep
  keep_is f [] m = absurd (mathlib.Core.List.Memᴰ.not-nil m)
  keep_is f (x ∷ xs) {a} m =
      by_bool
      (f x)
      (λ y.
      ⊎_elim
      {C = Memᴰ a (x ∷ xs) × (f a ≡ true)}
      (λ e. (mathlib.Core.List.Memᴰ.head e, ap f e ∙ y))
      (λ m'. let (n, z) = keep_is f xs m' in (mathlib.Core.List.Memᴰ.tail n, z))
      (mathlib.Core.List.Memᴰ.cases_cons (rw y at m)))
      (λ z. let (n, w) = keep_is f xs (rw z at m) in (mathlib.Core.List.Memᴰ.tail n, w))

  pub keep_mem : (f : A → Bool) (l : List A) {a : A} → Memᴰ a l → f a ≡ true → Memᴰ a (keep f l)
  unfolding keep
  keep_mem f [] m e = absurd (mathlib.Core.List.Memᴰ.not-nil m)
  keep_mem f (x ∷ xs) {a} m e =
      let rest : Memᴰ a xs → Memᴰ a (keep f xs) = λ m'. keep_mem f xs m' e in
      by_bool
      (f x)
      (λ y. rw y (⊎_elim (λ q. mathlib.Core.List.Memᴰ.head q) (λ m'. mathlib.Core.List.Memᴰ.tail (rest m')) (mathlib.Core.List.Memᴰ.cases_cons m)))
      (λ z. rw z (⊎_elim (λ q. true_not_false (sym (ap f q) ∙ e) z) rest (mathlib.Core.List.Memᴰ.cases_cons m)))

  -- What holds of each and all that follow it.
  pub keep_pairwise {κ} : {R : A → A → Type κ} (f : A → Bool) (l : List A) → Pairwise R l → Pairwise R (keep f l)
  unfolding keep
  keep_pairwise f [] r = r
  keep_pairwise f (x ∷ xs) r =
      let (first, rest) = Pairwise-cons.0 r in
      by_bool
      (f x)
      (λ y.
      rw y
      (Pairwise.cons (λ a m. first a (∥∥₁_map m (λ n. (keep_is f xs n).0))) (keep_pairwise f xs rest)))
      (λ z. rw z (keep_pairwise f xs rest))

  -- A fold that passes over what fails the test.
  pub fold_keep {κ} : {B : Type κ} (f : A → Bool) (step : B → A → B) (k : B) (l : List A)
      → foldl (λ b a. cond (f a) (step b a) b) k l ≡ foldl step k (keep f l)
  unfolding keep
  fold_keep f step k [] = refl
  fold_keep f step k (x ∷ xs) =
      by_bool (f x) (λ y. rw y (fold_keep f step (step k x) xs)) (λ z. rw z (fold_keep f step k xs))

  -- A test that every element fails, and two that agree on the elements.
  pub keep_none : (f : A → Bool) (l : List A) → ((a : A) → f a ≡ false) → keep f l ≡ []
  unfolding keep
  keep_none f [] none = refl
  keep_none f (x ∷ xs) none = rw (none x) (keep_none f xs none)

  pub keep_same : (f g : A → Bool) (l : List A) → ((a : A) → Memᴰ a l → f a ≡ g a) → keep f l ≡ keep g l
  unfolding keep
  keep_same f g [] each = refl
  keep_same f g (x ∷ xs) each =
      let rest : keep f xs ≡ keep g xs = keep_same f g xs (λ a m. each a (mathlib.Core.List.Memᴰ.tail m)) in
      ap₂ (λ (b : Bool) (l : List A). cond b (x ∷ l) l) (each x (mathlib.Core.List.Memᴰ.head refl)) rest

  pub keep_length : (f : A → Bool) (x : A) (xs : List A)
      → length (keep f (x ∷ xs)) ≡ cond (f x) 1 0 + length (keep f xs)
  unfolding keep
  keep_length f x xs = by_bool (f x) (λ y. rw y (omega arith)) (λ z. rw z (omega arith))

  pub keep_map {κ} : {B : Type κ} (f : A → Bool) (g : B → A) (l : List B)
      → keep f (map g l) ≡ map g (keep (λ b. f (g b)) l)
  unfolding keep
  keep_map f g [] = refl
  keep_map f g (x ∷ xs) = by_bool (f (g x)) (λ y. rw y (ap (g x ∷◌) (keep_map f g xs))) (λ z. rw z (keep_map f g xs))

  keep_derived : (f : A → Bool) {l m : List A} → Permᴰ l m → Permᴰ (keep f l) (keep f m)
  unfolding keep
  keep_derived f Permᴰ.nil = Permᴰ.nil
  keep_derived f (Permᴰ.cons {a} {b} e d) =
      by_bool
      (f a)
      (λ y. rw (y, sym (ap f e) ∙ y) (Permᴰ.cons e (keep_derived f d)))
      (λ z. rw (z, sym (ap f e) ∙ z) (keep_derived f d))
  keep_derived f (Permᴰ.swap {a} {b} {a'} {b'} {l} e e') =
      by_bool
      (f a)
      (λ y.
      by_bool
      (f b)
      (λ y'. rw (y, y', sym (ap f e) ∙ y, sym (ap f e') ∙ y') (Permᴰ.swap e e'))
      (λ z'. rw (y, z', sym (ap f e) ∙ y, sym (ap f e') ∙ z') (Permᴰ.cons e (Permᴰ.refl (keep f l)))))
      (λ z.
      by_bool
      (f b)
      (λ y'. rw (z, y', sym (ap f e) ∙ z, sym (ap f e') ∙ y') (Permᴰ.cons e' (Permᴰ.refl (keep f l))))
      (λ z'. rw (z, z', sym (ap f e) ∙ z, sym (ap f e') ∙ z') (Permᴰ.refl (keep f l))))
  keep_derived f (Permᴰ.trans d d') = Permᴰ.trans (keep_derived f d) (keep_derived f d')

  pub keep_perm : (f : A → Bool) {l m : List A} → Perm l m → Perm (keep f l) (keep f m)
  keep_perm f d = ∥∥₁_map d (keep_derived f)

  -- gather

  pub gather_is : (n : ℕ) (f : ℕ → List A) {a : A} → Memᴰ a (gather n f) → (i : ℕ) × (i < n) × Memᴰ a (f i)
  unfolding gather
  gather_is zero f m = absurd (mathlib.Core.List.Memᴰ.not-nil m)
  gather_is (suc n) f {a} m =
      ⊎_elim
      {C = (i : ℕ) × (i < suc n) × Memᴰ a (f i)}
      (λ m'. let (i, l, x) = gather_is n f m' in (i, omega arith, x))
      (λ m'. (n, omega arith, m'))
      (mathlib.Core.List.Memᴰ.append_cases (gather n f) m)

  pub gather_mem : (n : ℕ) (f : ℕ → List A) (i : ℕ) {a : A} → i < n → Memᴰ a (f i) → Memᴰ a (gather n f)
  unfolding gather
  gather_mem zero f i l m = absurd (not-suc-le-zero l)
  gather_mem (suc n) f i l m =
      by_cases
      (ℕ_discrete i n)
      (λ q. mathlib.Core.List.Memᴰ.append_right (gather n f) (rw q at m))
      (λ ne. mathlib.Core.List.Memᴰ.append_left (f n) (gather_mem n f i (omega arith) m))

  pub gather_pairwise {κ} : {R : A → A → Type κ} → ((a b : A) → IsProp (R a b)) → (n : ℕ) (f : ℕ → List A)
      → ((i : ℕ) → i < n → Pairwise R (f i))
      → ((i j : ℕ) → i < j → (a b : A) → Memᴰ a (f i) → Memᴰ b (f j) → R a b)
      → Pairwise R (gather n f)
  unfolding gather
  gather_pairwise prop zero f each apart = Pairwise.nil
  gather_pairwise prop (suc n) f each apart =
      (Pairwise-append prop).1 (
        gather_pairwise prop n f (λ i l. each i (omega arith)) apart,
        each n (omega arith),
        λ a m b m'.
            ∥∥₁_elim m (prop a b)
            (λ x. ∥∥₁_elim m' (prop a b)
            (λ y. let (i, l, z) = gather_is n f x in apart i n l a b z y)),
      )

  pub gather_nodup : (n : ℕ) (f : ℕ → List A)
      → ((i : ℕ) → i < n → Nodup (f i))
      → ((i j : ℕ) (a : A) → Memᴰ a (f i) → Memᴰ a (f j) → i ≡ j)
      → Nodup (gather n f)
  gather_nodup n f each apart =
      gather_pairwise (λ a b. ¬_prop) n f each
      (λ i j l a b m m' e. absurd (omega (arith, apart i j a m (mathlib.Core.List.Memᴰ.cast e m'))))

-- ---- map and gather

pub singles_length {ℓ} : {A : Type ℓ} (f : ℕ → A) (n : ℕ) → length (gather n λ i. f i ∷ []) ≡ n
unfolding gather
singles_length f zero = refl
singles_length f (suc n) = length-append (gather n λ i. f i ∷ []) (f n ∷ []) ∙ omega (arith, singles_length f n)

pub singles_at {ℓ} : {A : Type ℓ} (f : ℕ → A) (n i : ℕ) (d : A) → i < n → get_or (gather n λ k. f k ∷ []) i d ≡ f i
unfolding gather
singles_at f zero i d l = absurd (not-suc-le-zero l)
singles_at f (suc n) i d l =
    by_cases
    (ℕ_discrete i n)
    (λ q.
    ap (λ (k : ℕ). get_or (gather n (λ x. f x ∷ []) ++ f n ∷ []) k d) (q ∙ sym (singles_length f n))
    ∙ get_or-append_seam (gather n λ x. f x ∷ []) (f n) [] d
    ∙ ap f (sym q))
    (λ ne.
    get_or-append (gather n λ x. f x ∷ []) (f n ∷ []) d i (omega (arith, singles_length f n))
    ∙ singles_at f n i d (omega arith))

-- All but one of the parts are empty, or all of them.
pub gather_none {ℓ} : {A : Type ℓ} (n : ℕ) (f : ℕ → List A) → ((i : ℕ) → i < n → f i ≡ []) → gather n f ≡ []
unfolding gather
gather_none zero f h = refl
gather_none (suc n) f h = ap₂ ◌++◌ (gather_none n f (λ i l. h i (omega arith))) (h n (omega arith))

pub gather_same {ℓ} : {A : Type ℓ} (n : ℕ) (f g : ℕ → List A) → ((i : ℕ) → i < n → f i ≡ g i) → gather n f ≡ gather n g
unfolding gather
gather_same zero f g h = refl
gather_same (suc n) f g h = ap₂ ◌++◌ (gather_same n f g (λ i l. h i (omega arith))) (h n (omega arith))

pub gather_one {ℓ} : {A : Type ℓ} (n : ℕ) (f : ℕ → List A) (k : ℕ) → k < n → ((i : ℕ) → i < n → i ≢ k → f i ≡ [])
    → gather n f ≡ f k
unfolding gather
gather_one zero f k l h = absurd (not-suc-le-zero l)
gather_one (suc n) f k l h =
    by_cases
    (ℕ_discrete n k)
    (λ e. ap₂ ◌++◌ (gather_none n f (λ i b. h i (omega arith) (λ q. absurd (omega arith)))) (ap f e))
    (λ ne.
    ap₂ ◌++◌ (gather_one n f k (omega arith) (λ i b. h i (omega arith))) (h n (omega arith) ne) ∙ append-nil (f k))

pub map_map {ℓ κ μ} : {A : Type ℓ} {B : Type κ} {C : Type μ} (g : B → C) (f : A → B) (l : List A)
    → map g (map f l) ≡ map (λ x. g (f x)) l
map_map g f [] = refl
map_map g f (x ∷ xs) = ap (g (f x) ∷◌) (map_map g f xs)

-- The first element, and what holds between it and the others.
pub first_mem {ℓ} : {A : Type ℓ} (l : List A) (d : A) {a : A} → Memᴰ a l → Memᴰ (get_or l 0 d) l
first_mem [] d m = absurd (mathlib.Core.List.Memᴰ.not-nil m)
first_mem (x ∷ xs) d m = mathlib.Core.List.Memᴰ.head refl

pub first_to {ℓ κ} : {A : Type ℓ} {R : A → A → Type κ} (l : List A) (d : A) {a : A} → Pairwise R l → Memᴰ a l
    → (a ≡ get_or l 0 d) ⊎ R (get_or l 0 d) a
first_to [] d r m = absurd (mathlib.Core.List.Memᴰ.not-nil m)
first_to (x ∷ xs) d {a} r m = ⊎_elim (λ e. inl e) (λ n. inr ((Pairwise-cons.0 r).0 a ∣ n ∣₁)) (mathlib.Core.List.Memᴰ.cases_cons m)

pub mem_some {ℓ} : {A : Type ℓ} {a : A} (l : List A) → Memᴰ a l → 1 ≤ length l
mem_some [] m = absurd (mathlib.Core.List.Memᴰ.not-nil m)
mem_some (x ∷ xs) m = omega arith

module _ {ℓ} {A : Type ℓ} where
  pub gather_perm : (n : ℕ) (f g : ℕ → List A) → ((i : ℕ) → i < n → Perm (f i) (g i)) → Perm (gather n f) (gather n g)
  unfolding gather
  gather_perm zero f g each = Perm.refl []
  gather_perm (suc n) f g each = Perm.append (gather_perm n f g (λ i l. each i (omega arith))) (each n (omega arith))

pub zeros : (n i : ℕ) → ◌≡◌ {A = ℕ} (get_or (replicate n 0) i 0) 0
zeros zero i = refl
zeros (suc n) zero = refl
zeros (suc n) (suc i) = zeros n i

pub take_replicate {ℓ} : {A : Type ℓ} (a : A) (n m : ℕ) → n ≤ m → take n (replicate m a) ≡ replicate n a
take_replicate a zero m h = refl
take_replicate a (suc n) zero h = absurd (not-suc-le-zero h)
take_replicate a (suc n) (suc m) h = ap (a ∷◌) (take_replicate a n m (omega arith))

-- One of the rows, by the test.

pub same_row_lem : (a b : List ℕ) → same_row a b ≡ true → a ≡ b
same_row_lem [] [] e = refl
same_row_lem [] (y ∷ ys) e = true_not_false e refl
same_row_lem (x ∷ xs) [] e = true_not_false e refl
same_row_lem (x ∷ xs) (y ∷ ys) e =
    ap₂ ◌∷◌ (eqb-true x y (and_left (eqb x y) (same_row xs ys) e))
    (same_row_lem xs ys (and_right (eqb x y) (same_row xs ys) e))

pub row_same : (a : List ℕ) → same_row a a ≡ true
row_same [] = refl
row_same (x ∷ xs) = both (eq-eqb x x refl) (row_same xs)

pub one_of_is : (row : List ℕ) (rows : List (List ℕ)) → is_one_of row rows ≡ true → Memᴰ row rows
one_of_is row [] e = true_not_false e refl
one_of_is row (other ∷ rows) e =
    by_bool
    (same_row row other)
    (λ y. mathlib.Core.List.Memᴰ.head (same_row_lem row other y))
    (λ z. mathlib.Core.List.Memᴰ.tail (one_of_is row rows (rw z at e)))

pub one_of : (row : List ℕ) (rows : List (List ℕ)) → Memᴰ row rows → is_one_of row rows ≡ true
one_of row [] m = absurd (mathlib.Core.List.Memᴰ.not-nil m)
one_of row (other ∷ rows) m =
    ⊎_elim
    (λ q. ap (λ (b : Bool). b || is_one_of row rows) (ap (same_row row) (sym q) ∙ row_same row))
    (λ n. by_bool (same_row row other) (λ y. rw y refl) (λ z. rw z (one_of row rows n)))
    (mathlib.Core.List.Memᴰ.cases_cons m)

-- The least number of a list.

pub least_below : (l : List ℕ) (a : ℕ) → Memᴰ a l → least_of l ≤ a
least_below [] a m = absurd (mathlib.Core.List.Memᴰ.not-nil m)
least_below (x ∷ []) a m = omega (arith, mathlib.Core.List.Memᴰ.eq_of_singleton m)
least_below (x ∷ (y ∷ ys)) a m =
    ⊎_elim (λ e. omega arith) (λ later. omega (arith, least_below (y ∷ ys) a later)) (mathlib.Core.List.Memᴰ.cases_cons m)

pub least_mem : (x : ℕ) (xs : List ℕ) → Memᴰ (least_of (x ∷ xs)) (x ∷ xs)
least_mem x [] = mathlib.Core.List.Memᴰ.head refl
least_mem x (y ∷ ys) =
    by_cases
    (dec_le x (least_of (y ∷ ys)))
    (λ l. mathlib.Core.List.Memᴰ.head (omega arith))
    (λ g. mathlib.Core.List.Memᴰ.tail (mathlib.Core.List.Memᴰ.cast (omega arith) (least_mem y ys)))

-- Rows that are equally long fill that many cells each.
pub cells_length : (k : ℕ) (rows : List (List ℕ)) → ((row : List ℕ) → Memᴰ row rows → length row ≡ k)
    → length (cells_of rows) ≡ length rows * k
unfolding cells_of
cells_length k [] each = omega arith
cells_length k (row ∷ rows) each =
    length-append row (cells_of rows)
    ∙ omega (
      arith,
      each row (mathlib.Core.List.Memᴰ.head refl),
      cells_length k rows (λ r m. each r (mathlib.Core.List.Memᴰ.tail m)),
      suc-mul (length rows) k,
    )

derived_length {ℓ} : {A : Type ℓ} {l m : List A} → Permᴰ l m → length l ≡ length m
derived_length Permᴰ.nil = refl
derived_length (Permᴰ.cons e d) = ap suc (derived_length d)
derived_length (Permᴰ.swap e e') = refl
derived_length (Permᴰ.trans d d') = derived_length d ∙ derived_length d'

pub perm_length {ℓ} : {A : Type ℓ} (l m : List A) → Perm l m → length l ≡ length m
perm_length l m d = ∥∥₁_elim d (ℕ_set (length l) (length m)) derived_length
