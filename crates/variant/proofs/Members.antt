-- Members of a list, and lists without repeats.
use Prim.Native.Nat.{ℕ}
use mathlib.Core.Bool.{Bool, true, false, ◌||◌, or-true, false≢true}
use mathlib.Core.List.{List, [], ◌∷◌, ◌++◌}
use mathlib.Core.Path.{◌≡◌, refl, sym, ap, ◌∙◌}
use borrow.Author.Tests.{eqb-true}
use lib.Dec.{eqb}
use Rattle.term.specs.Variants.{member, repeats}
use Rattle.term.proofs.Twice.{member_append}

-- Bool as a case: the left or the right.
pub or_elim {ℓ} : {C : Type ℓ} (a b : Bool) → (a ≡ true → C) → (b ≡ true → C) → a || b ≡ true → C
or_elim true b f g e = f refl
or_elim false b f g e = g e

pub or_left : (a b : Bool) → a ≡ true → a || b ≡ true
or_left a b e = ap (λ (c : Bool). c || b) e

pub or_right : (a b : Bool) → b ≡ true → a || b ≡ true
or_right a b e = ap (λ (c : Bool). a || c) e ∙ or-true a

pub member_left : (i : ℕ) (xs ys : List ℕ) → member i xs ≡ true → member i (xs ++ ys) ≡ true
member_left i xs ys e = member_append i xs ys ∙ or_left (member i xs) (member i ys) e

pub member_right : (i : ℕ) (xs ys : List ℕ) → member i ys ≡ true → member i (xs ++ ys) ≡ true
member_right i xs ys e = member_append i xs ys ∙ or_right (member i xs) (member i ys) e

pub member_either {ℓ} : {C : Type ℓ} (i : ℕ) (xs ys : List ℕ) → (member i xs ≡ true → C) → (member i ys ≡ true → C)
    → member i (xs ++ ys) ≡ true → C
member_either i xs ys f g e = or_elim (member i xs) (member i ys) f g (sym (member_append i xs ys) ∙ e)

-- Two parts of a list without repeats have no repeats and no member in common.
pub or_none : (a b : Bool) → a || b ≡ false → (a ≡ false) × (b ≡ false)
or_none true b e = absurd (false≢true (sym e))
or_none false b e = (refl, e)

pub repeats_left : (xs ys : List ℕ) → repeats (xs ++ ys) ≡ false → repeats xs ≡ false
unfolding repeats
repeats_left [] ys e = refl
repeats_left (x ∷ xs) ys e =
    let (a, b) = or_none (member x (xs ++ ys)) (repeats (xs ++ ys)) e in
    let (m, n) = or_none (member x xs) (member x ys) (sym (member_append x xs ys) ∙ a) in
    rw (m, repeats_left xs ys b)

pub repeats_right : (xs ys : List ℕ) → repeats (xs ++ ys) ≡ false → repeats ys ≡ false
unfolding repeats
repeats_right [] ys e = e
repeats_right (x ∷ xs) ys e = repeats_right xs ys (or_none (member x (xs ++ ys)) (repeats (xs ++ ys)) e).1

pub apart : (xs ys : List ℕ) → repeats (xs ++ ys) ≡ false → (i : ℕ) → member i xs ≡ true → member i ys ≡ true → ⊥
unfolding repeats member
apart [] ys e i h k = false≢true h
apart (x ∷ xs) ys e i h k =
    let (a, b) = or_none (member x (xs ++ ys)) (repeats (xs ++ ys)) e in
    let f : eqb i x ≡ true → ⊥ =
    λ q. false≢true (sym a ∙ ap (λ (z : ℕ). member z (xs ++ ys)) (sym (eqb-true i x q)) ∙ member_right i xs ys k) in
    or_elim (eqb i x) (member i xs) f (λ m. apart xs ys b i m k) h
