-- The precedence of a term is among its activities; where none repeats, it is irreflexive and transitive.
use Prim.Native.Nat.{ℕ}
use mathlib.Core.Bool.{Bool, true, false, ◌&&◌, ◌||◌, false≢true, or-false, and-eq-true_iff}
use mathlib.Core.List.{List, ◌++◌}
use mathlib.Core.Path.{◌≡◌, refl, sym, ap, ◌∙◌}
use Rattle.base.proofs.Bools.{both}
use Rattle.term.specs.Term.{Term, Forest, act, seq, pll, xor, nil, cons}
use Rattle.term.specs.Variants.{activities, activities_of_all, member, repeats}
use Rattle.variant.specs.Precedence.{precedes, within_one, earlier}
use Rattle.variant.proofs.Members.{or_elim, or_left, or_right, member_left, member_right, apart, repeats_left}
use Rattle.variant.proofs.Members.{repeats_right}

-- In an s a child precedes those behind it, beside what its children and the others say.
abbrev pub before : Forest → ℕ → ℕ → Bool
before f i j = earlier f i j || within_one f i j

abbrev pub behind : Term → Forest → ℕ → ℕ → Bool
behind t f i j = precedes t i j || member i (activities t) && member j (activities_of_all f)

pub before_cons : (t : Term) (f : Forest) (i j : ℕ) → before (cons t f) i j ≡ behind t f i j || before f i j
unfolding precedes
before_cons t f i j =
    swap (member i (activities t) && member j (activities_of_all f)) (earlier f i j) (precedes t i j) (within_one f i j)
  where
    swap : (a b c d : Bool) → a || b || (c || d) ≡ c || a || (b || d)
    swap true b true d = refl
    swap true b false d = refl
    swap false true true d = refl
    swap false true false d = refl
    swap false false c d = ap (λ (x : Bool). x || d) (sym (or-false c))

-- How i comes before j in an s: within its first child, from that one to one behind it, or among those behind.
before_cases {ℓ} : {C : Type ℓ} (t : Term) (f : Forest) (i j : ℕ) → (precedes t i j ≡ true → C)
    → (member i (activities t) ≡ true → member j (activities_of_all f) ≡ true → C) → (before f i j ≡ true → C)
    → before (cons t f) i j ≡ true → C
before_cases t f i j inside across further e =
    or_elim (behind t f i j) (before f i j)
    (or_elim (precedes t i j) (member i (activities t) && member j (activities_of_all f)) inside (λ m.
    let (a, b) = (and-eq-true_iff (member i (activities t)) (member j (activities_of_all f))).0 m in across a b))
    further
    (sym (before_cons t f i j) ∙ e)

is_inside : (t : Term) (f : Forest) (i j : ℕ) → precedes t i j ≡ true → before (cons t f) i j ≡ true
is_inside t f i j e =
    before_cons t f i j ∙ or_left (behind t f i j) (before f i j)
    (or_left (precedes t i j) (member i (activities t) && member j (activities_of_all f)) e)

is_across : (t : Term) (f : Forest) (i j : ℕ) → member i (activities t) ≡ true → member j (activities_of_all f) ≡ true
    → before (cons t f) i j ≡ true
is_across t f i j a b =
    before_cons t f i j
    ∙ or_left (behind t f i j) (before f i j)
    (or_right (precedes t i j) (member i (activities t) && member j (activities_of_all f)) (both a b))

is_further : (t : Term) (f : Forest) (i j : ℕ) → before f i j ≡ true → before (cons t f) i j ≡ true
is_further t f i j e = before_cons t f i j ∙ or_right (behind t f i j) (before f i j) e

-- Both are among the activities.
abbrev Both : ℕ → ℕ → List ℕ → Type 0
Both i j xs = (member i xs ≡ true) × (member j xs ≡ true)

both_left : (i j : ℕ) (xs ys : List ℕ) → Both i j xs → Both i j (xs ++ ys)
both_left i j xs ys (a, b) = (member_left i xs ys a, member_left j xs ys b)

both_right : (i j : ℕ) (xs ys : List ℕ) → Both i j ys → Both i j (xs ++ ys)
both_right i j xs ys (a, b) = (member_right i xs ys a, member_right j xs ys b)

mutual
  unfolding precedes activities

  pub precedes_members : (t : Term) (i j : ℕ) → precedes t i j ≡ true
      → (member i (activities t) ≡ true) × (member j (activities t) ≡ true)
  precedes_members (act k) i j e = absurd (false≢true e)
  precedes_members (seq f) i j e = before_members f i j e
  precedes_members (pll f) i j e = within_members f i j e
  precedes_members (xor f) i j e = within_members f i j e

  before_members : (f : Forest) (i j : ℕ) → before f i j ≡ true → Both i j (activities_of_all f)
  before_members nil i j e = absurd (false≢true e)
  before_members (cons t f) i j e =
      before_cases t f i j
      (λ h. both_left i j (activities t) (activities_of_all f) (precedes_members t i j h))
      (λ a b.
      (member_left i (activities t) (activities_of_all f) a, member_right j (activities t) (activities_of_all f) b))
      (λ h. both_right i j (activities t) (activities_of_all f) (before_members f i j h))
      e

  within_members : (f : Forest) (i j : ℕ) → within_one f i j ≡ true → Both i j (activities_of_all f)
  within_members nil i j e = absurd (false≢true e)
  within_members (cons t f) i j e =
      or_elim (precedes t i j) (within_one f i j)
      (λ h. both_left i j (activities t) (activities_of_all f) (precedes_members t i j h))
      (λ h. both_right i j (activities t) (activities_of_all f) (within_members f i j h))
      e

-- Irreflexive.
mutual
  unfolding precedes activities

  pub precedes_irreflexive : (t : Term) → repeats (activities t) ≡ false → (i : ℕ) → precedes t i i ≡ true → ⊥
  precedes_irreflexive (act k) r i e = false≢true e
  precedes_irreflexive (seq f) r i e = before_irreflexive f r i e
  precedes_irreflexive (pll f) r i e = within_irreflexive f r i e
  precedes_irreflexive (xor f) r i e = within_irreflexive f r i e

  before_irreflexive : (f : Forest) → repeats (activities_of_all f) ≡ false → (i : ℕ) → before f i i ≡ true → ⊥
  before_irreflexive nil r i e = false≢true e
  before_irreflexive (cons t f) r i e =
      before_cases t f i i
      (λ h. precedes_irreflexive t (repeats_left (activities t) (activities_of_all f) r) i h)
      (apart (activities t) (activities_of_all f) r i)
      (λ h. before_irreflexive f (repeats_right (activities t) (activities_of_all f) r) i h)
      e

  within_irreflexive : (f : Forest) → repeats (activities_of_all f) ≡ false → (i : ℕ) → within_one f i i ≡ true → ⊥
  within_irreflexive nil r i e = false≢true e
  within_irreflexive (cons t f) r i e =
      or_elim (precedes t i i) (within_one f i i)
      (λ h. precedes_irreflexive t (repeats_left (activities t) (activities_of_all f) r) i h)
      (λ h. within_irreflexive f (repeats_right (activities t) (activities_of_all f) r) i h)
      e

-- Transitive: the one in the middle stands in one child alone.
mutual
  unfolding precedes activities

  pub precedes_transitive : (t : Term) → repeats (activities t) ≡ false → (i j k : ℕ)
      → precedes t i j ≡ true → precedes t j k ≡ true → precedes t i k ≡ true
  precedes_transitive (act l) r i j k p q = p
  precedes_transitive (seq f) r i j k p q = before_transitive f r i j k p q
  precedes_transitive (pll f) r i j k p q = within_transitive f r i j k p q
  precedes_transitive (xor f) r i j k p q = within_transitive f r i j k p q

  before_transitive : (f : Forest) → repeats (activities_of_all f) ≡ false → (i j k : ℕ)
      → before f i j ≡ true → before f j k ≡ true → before f i k ≡ true
  before_transitive nil r i j k p q = p
  before_transitive (cons t f) r i j k p q =
      let here = activities t in
      let rest = activities_of_all f in
      before_cases t f i j
      (λ a. before_cases t f j k
      (λ b. is_inside t f i k (precedes_transitive t (repeats_left here rest r) i j k a b))
      (λ m n. is_across t f i k (precedes_members t i j a).0 n)
      (λ b. absurd (apart here rest r j (precedes_members t i j a).1 (before_members f j k b).0))
      q)
      (λ m n. before_cases t f j k
      (λ b. absurd (apart here rest r j (precedes_members t j k b).0 n))
      (λ m' n'. absurd (apart here rest r j m' n))
      (λ b. is_across t f i k m (before_members f j k b).1)
      q)
      (λ a. before_cases t f j k
      (λ b. absurd (apart here rest r j (precedes_members t j k b).0 (before_members f i j a).1))
      (λ m n. absurd (apart here rest r j m (before_members f i j a).1))
      (λ b. is_further t f i k (before_transitive f (repeats_right here rest r) i j k a b))
      q)
      p

  within_transitive : (f : Forest) → repeats (activities_of_all f) ≡ false → (i j k : ℕ)
      → within_one f i j ≡ true → within_one f j k ≡ true → within_one f i k ≡ true
  within_transitive nil r i j k p q = p
  within_transitive (cons t f) r i j k p q =
      let here = activities t in
      let rest = activities_of_all f in
      or_elim (precedes t i j) (within_one f i j)
      (λ a. or_elim (precedes t j k) (within_one f j k)
      (λ b. or_left (precedes t i k) (within_one f i k) (precedes_transitive t (repeats_left here rest r) i j k a b))
      (λ b. absurd (apart here rest r j (precedes_members t i j a).1 (within_members f j k b).0))
      q)
      (λ a. or_elim (precedes t j k) (within_one f j k)
      (λ b. absurd (apart here rest r j (precedes_members t j k b).0 (within_members f i j a).1))
      (λ b. or_right (precedes t i k) (within_one f i k) (within_transitive f (repeats_right here rest r) i j k a b))
      q)
      p
