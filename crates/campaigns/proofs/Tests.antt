-- Tests that two answers are the same.
use Prim.Native.Nat.{ℕ, ◌-◌}
use mathlib.Core.Bool.{Bool, true, false, false≢true, beq, ◌&&◌}
use mathlib.Core.List.{List, [], ◌∷◌}
use mathlib.Core.Option.{Option, none, some}
use mathlib.Core.Path.{◌≡◌, refl, sym, ap, ap₂, ◌∙◌}
use borrow.Author.Tests.{eqb-true}
use lib.Dec.{eqb}
use lib.ListN.{get_or}
use Rattle.plan.specs.Outcome.{Outcome}
use Rattle.plan.specs.Refusals.{number_of, figure_of}
use Rattle.plan.specs.declared.Refusal.{Refusal}
use Rattle.plan.specs.declared.Refusal.TheVariants.{Length, Form, Range, GroupOfOne, OverCapacity, NotOneTerm}
use Rattle.plan.specs.declared.Refusal.TheVariants.{Twice, TooManyVariants, NoSuchVariant, OverCap, AreaTooShort}
use Rattle.std.specs.Prelude.{Result, Ok, Err}
use Rattle.base.proofs.Bools.{and_left, and_right}
use Rattle.read.specs.declared.Counts.{Counts}
use Rattle.answers.specs.declared.Best.{Best}

-- The refusals by their numbers, the first being 1.
refusal_of : ℕ → ℕ → Refusal
refusal_of n k =
    get_or
    (Length ∷ Form k ∷ Range k ∷ NotOneTerm ∷ Twice ∷ TooManyVariants ∷ OverCap ∷ AreaTooShort k ∷ NoSuchVariant
    ∷ GroupOfOne k ∷ OverCapacity k ∷ [])
    (n - 1)
    Length

refusal_is : (r : Refusal) → refusal_of (number_of r) (figure_of r) ≡ r
unfolding refusal_of
refusal_is Length = refl
refusal_is (Form k) = refl
refusal_is (Range k) = refl
refusal_is (GroupOfOne k) = refl
refusal_is (OverCapacity k) = refl
refusal_is NotOneTerm = refl
refusal_is Twice = refl
refusal_is TooManyVariants = refl
refusal_is NoSuchVariant = refl
refusal_is OverCap = refl
refusal_is (AreaTooShort k) = refl

abbrev pub same_refusal : Refusal → Refusal → Bool
same_refusal a b = eqb (number_of a) (number_of b) && eqb (figure_of a) (figure_of b)

-- A refusal is its number and its figure.
pub refusal_same : (a b : Refusal) → same_refusal a b ≡ true → a ≡ b
refusal_same a b e =
    let n = eqb-true (number_of a) (number_of b) (and_left _ _ e) in
    let k = eqb-true (figure_of a) (figure_of b) (and_right (eqb (number_of a) (number_of b)) _ e) in
    sym (refusal_is a) ∙ ap₂ refusal_of n k ∙ refusal_is b

-- An answer is a value or a refusal: it is compared as such, once.
abbrev pub same_result : {A : Type 0} → (A → A → Bool) → Result A Refusal → Result A Refusal → Bool
same_result same (Ok a) (Ok b) = same a b
same_result same (Ok a) (Err r) = false
same_result same (Err r) (Ok a) = false
same_result same (Err r) (Err r') = same_refusal r r'

pub result_same : {A : Type 0} (same : A → A → Bool) → ((a b : A) → same a b ≡ true → a ≡ b)
    → (x y : Result A Refusal) → same_result same x y ≡ true → x ≡ y
result_same same is_same (Ok a) (Ok b) e = ap Ok (is_same a b e)
result_same same is_same (Ok a) (Err r) e = absurd (false≢true e)
result_same same is_same (Err r) (Ok a) e = absurd (false≢true e)
result_same same is_same (Err r) (Err r') e = ap Err (refusal_same r r' e)

abbrev pub same_counts : Counts → Counts → Bool
same_counts a b = eqb a.acts b.acts && (eqb a.nodes b.nodes && eqb a.variants b.variants)

pub counts_same : (a b : Counts) → same_counts a b ≡ true → a ≡ b
counts_same a b e =
    let rest = and_right (eqb a.acts b.acts) _ e in
    let acts = eqb-true a.acts b.acts (and_left _ _ e) in
    let nodes = eqb-true a.nodes b.nodes (and_left _ _ rest) in
    let variants = eqb-true a.variants b.variants (and_right (eqb a.nodes b.nodes) _ rest) in
    λ i. record { acts = acts i; nodes = nodes i; variants = variants i }

-- A number, if there is one.
abbrev pub same_number : Option ℕ → ℕ → Bool
same_number none n = false
same_number (some m) n = eqb m n

pub number_same : (o : Option ℕ) (n : ℕ) → same_number o n ≡ true → o ≡ some n
number_same none n e = absurd (false≢true e)
number_same (some m) n e = ap some (eqb-true m n e)

abbrev pub same_list : List ℕ → List ℕ → Bool
same_list [] [] = true
same_list [] (y ∷ ys) = false
same_list (x ∷ xs) [] = false
same_list (x ∷ xs) (y ∷ ys) = eqb x y && same_list xs ys

pub list_same : (xs ys : List ℕ) → same_list xs ys ≡ true → xs ≡ ys
list_same [] [] e = refl
list_same [] (y ∷ ys) e = absurd (false≢true e)
list_same (x ∷ xs) [] e = absurd (false≢true e)
list_same (x ∷ xs) (y ∷ ys) e =
    ap₂ ◌∷◌ (eqb-true x y (and_left _ _ e)) (list_same xs ys (and_right (eqb x y) _ e))

pub bool_same : (a b : Bool) → beq a b ≡ true → a ≡ b
bool_same true true e = refl
bool_same true false e = absurd (false≢true e)
bool_same false true e = absurd (false≢true e)
bool_same false false e = refl

-- Answers with the areas that they leave.
module _ {A : Type 0} (same : A → A → Bool) where
  abbrev pub same_outcome : Outcome A → Outcome A → Bool
  same_outcome a b = same a.answer b.answer && same_list a.area b.area

  pub outcome_same : ((a b : A) → same a b ≡ true → a ≡ b) → (a b : Outcome A) → same_outcome a b ≡ true → a ≡ b
  outcome_same is_same a b e =
      let x = is_same a.answer b.answer (and_left _ _ e) in
      let y = list_same a.area b.area (and_right (same a.answer b.answer) _ e) in
      λ i. record { answer = x i; area = y i }

abbrev pub same_best : Best → Best → Bool
same_best a b =
    eqb a.variant b.variant
    && (eqb a.makespan b.makespan
    && (eqb a.count b.count
    && (eqb a.shortest b.shortest && same_list a.timetable.starts b.timetable.starts)))

pub best_same : (a b : Best) → same_best a b ≡ true → a ≡ b
best_same a b e =
    let rest = and_right (eqb a.variant b.variant) _ e in
    let more = and_right (eqb a.makespan b.makespan) _ rest in
    let last = and_right (eqb a.count b.count) _ more in
    let variant = eqb-true a.variant b.variant (and_left _ _ e) in
    let makespan = eqb-true a.makespan b.makespan (and_left _ _ rest) in
    let count = eqb-true a.count b.count (and_left _ _ more) in
    let shortest = eqb-true a.shortest b.shortest (and_left _ _ last) in
    let starts = list_same a.timetable.starts b.timetable.starts (and_right (eqb a.shortest b.shortest) _ last) in
    λ i.
    record {
      variant = variant i;
      makespan = makespan i;
      count = count i;
      shortest = shortest i;
      timetable = record { starts = starts i };
    }
