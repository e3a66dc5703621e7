-- What one byte of a form matches, and then the others.
use Prim.Native.Nat.{ℕ, suc, ◌+◌, ◌≤◌, ◌<◌}
use mathlib.Core.Bool.{Bool, true, false, ◌&&◌}
use mathlib.Core.List.{List, [], ◌∷◌, ◌++◌}
use mathlib.Core.Option.{Option, none, some}
use mathlib.Core.Path.{◌≡◌, refl, sym, ap, ◌∙◌}
use native.Mathlib.Numerals.{add-one}
use native.Mathlib.Omega.{arith}
use lib.Dec.{ltb, eqb}
use lib.ListN.{length, get_or, drop, drop_of_length-le}
use lib.Seq.{drop-cons}
use borrow.Author.Tests.{lt-ltb, eq-eqb, ne_eqb}
use Rattle.plan.specs.Plan.{is_letter}
use Rattle.format.specs.Lines.{digits, is_value, decimal, Fields, with_value, matched}
use Rattle.line_reader.specs.Seen.{Seen, latest, latest_of, advance}
use Rattle.base.proofs.Bools.{elim_true, elim_false}
use Rattle.format.proofs.Tests.{choose}

-- A line that has come to a text, with the values a and b.
abbrev pub at_text : ℕ → ℕ → List ℕ → Seen
at_text a b s = record { first = a; second = b; rest = s }

no_more : (s : List ℕ) → length s ≡ 0 → s ≡ []
no_more [] e = refl
no_more (b ∷ s) e = absurd (omega arith)

module _ (x : Seen) where
  pub at_end : (b : ℕ) → length x.rest ≡ 0 → advance (b ∷ []) x ≡ none
  unfolding advance matched digits is_value
  at_end b e = ap (λ (s : List ℕ). latest_of x.first x.second (matched (b ∷ []) s)) (no_more x.rest e) ∙ one (eqb b 35) (eqb b 64)
    where
      one : (p q : Bool) → latest_of x.first x.second
          (choose p (choose (is_value []) (with_value (decimal 0 []) (matched [] [])) none) (choose q none none)) ≡ none
      one true q = refl
      one false true = refl
      one false false = refl

  -- `#`
  abbrev ds : List ℕ
  ds = digits x.rest

  pub value_read : is_value ds ≡ true
      → advance (35 ∷ []) x ≡ some (at_text x.second (decimal 0 ds) (drop (length ds) x.rest))
  unfolding advance matched latest
  value_read e = ap (latest_of x.first x.second) (elim_true (is_value ds) _ none e)

  pub no_value : is_value ds ≡ false → advance (35 ∷ []) x ≡ none
  unfolding advance matched
  no_value e = ap (latest_of x.first x.second) (elim_false (is_value ds) _ none e)

  module _ (y : ℕ) (s : List ℕ) (is : x.rest ≡ y ∷ s) where
    -- `@`
    pub letter_read : is_letter y ≡ true → advance (64 ∷ []) x ≡ some (at_text x.second y s)
    unfolding advance matched latest
    letter_read e =
        ap (λ (t : List ℕ). latest_of x.first x.second (matched (64 ∷ []) t)) is
        ∙ ap (latest_of x.first x.second) (elim_true (is_letter y) _ none e)

    pub no_letter : is_letter y ≡ false → advance (64 ∷ []) x ≡ none
    unfolding advance matched
    no_letter e =
        ap (λ (t : List ℕ). latest_of x.first x.second (matched (64 ∷ []) t)) is
        ∙ ap (latest_of x.first x.second) (elim_false (is_letter y) _ none e)

    -- any other byte
    module _ (b : ℕ) (not_value : b ≡ 35 → ⊥) (not_letter : b ≡ 64 → ⊥) where
      literal_is : matched (b ∷ []) x.rest ≡ choose (eqb y b) (matched [] s) none
      unfolding matched
      literal_is =
          ap (matched (b ∷ [])) is ∙ elim_false (eqb b 35) _ _ (ne_eqb b 35 not_value)
          ∙ elim_false (eqb b 64) _ _ (ne_eqb b 64 not_letter)
          ∙ ap (λ (t : Bool). choose (t && eqb y b) (matched [] s) none) (lt-ltb 0 (suc (length s)) (omega arith))

      pub literal_read : y ≡ b → advance (b ∷ []) x ≡ some (at_text x.first x.second s)
      unfolding advance matched latest
      literal_read e = ap (latest_of x.first x.second) (literal_is ∙ elim_true (eqb y b) _ none (eq-eqb y b e))

      pub no_literal : (y ≡ b → ⊥) → advance (b ∷ []) x ≡ none
      unfolding advance
      no_literal e = ap (latest_of x.first x.second) (literal_is ∙ elim_false (eqb y b) _ none (ne_eqb y b e))

-- The first byte of a form, then the others.
abbrev pub with_values : List ℕ → Option Fields → Option Fields
with_values [] o = o
with_values (v ∷ vs) o = with_value v (with_values vs o)

abbrev pub joined : List ℕ → Option Fields → Option Fields
joined form none = none
joined form (some f) = with_values f.values (matched form f.rest)

module _ (form : List ℕ) where
  guarded : (t : Bool) (o o' : Option Fields) → o ≡ joined form o'
      → ◌≡◌ {A = Option Fields} (elim t [ true ↦ o | false ↦ none ])
      (joined form (elim t [ true ↦ o' | false ↦ none ]))
  guarded true o o' e = e
  guarded false o o' e = refl

  chosen : (p r : Bool) (x y z x' y' z' : Option Fields) → x ≡ joined form x' → y ≡ joined form y'
      → z ≡ joined form z'
      → ◌≡◌ {A = Option Fields} (elim p [ true ↦ x | false ↦ elim r [ true ↦ y | false ↦ z ] ])
      (joined form (elim p [ true ↦ x' | false ↦ elim r [ true ↦ y' | false ↦ z' ] ]))
  chosen true r x y z x' y' z' e f g = e
  chosen false true x y z x' y' z' e f g = f
  chosen false false x y z x' y' z' e f g = g

  matched_cons : (b : ℕ) (s : List ℕ) → matched (b ∷ form) s ≡ joined form (matched (b ∷ []) s)
  unfolding matched
  matched_cons b s =
      chosen (eqb b 35) (eqb b 64) _ _ _ _ _ _ (guarded (is_value (digits s)) _ _ refl)
      (guarded (is_letter (get_or s 0 0)) _ _ refl)
      (guarded (ltb 0 (length s) && eqb (get_or s 0 0) b) _ _ refl)

-- One form behind another.
values_joined : (form vs : List ℕ) (o : Option Fields) → with_values vs (joined form o) ≡ joined form (with_values vs o)
values_joined form [] o = refl
values_joined form (v ∷ vs) o = ap (with_value v) (values_joined form vs o) ∙ value_joined v (with_values vs o)
  where
    value_joined : (v : ℕ) (o : Option Fields) → with_value v (joined form o) ≡ joined form (with_value v o)
    value_joined v none = refl
    value_joined v (some f) = refl

pub matched_append : (form form' s : List ℕ) → matched (form ++ form') s ≡ joined form' (matched form s)
unfolding matched
matched_append [] form' s = refl
matched_append (b ∷ form) form' s =
    matched_cons (form ++ form') b s ∙ both_joined (matched_append form form') (matched (b ∷ []) s)
    ∙ ap (joined form') (sym (matched_cons form b s))
  where
    both_joined : ((t : List ℕ) → matched (form ++ form') t ≡ joined form' (matched form t)) → (o : Option Fields)
        → joined (form ++ form') o ≡ joined form' (joined form o)
    both_joined others none = refl
    both_joined others (some f) =
        ap (with_values f.values) (others f.rest) ∙ values_joined form' f.values (matched form f.rest)

-- What the others match, after what the first byte did.
abbrev pub after : List ℕ → Option Seen → Option Seen
after form none = none
after form (some x) = advance form x

pub advance_cons : (b : ℕ) (form : List ℕ) (x : Seen) → advance (b ∷ form) x ≡ after form (advance (b ∷ []) x)
unfolding advance latest
advance_cons b form x = ap (latest_of x.first x.second) (matched_cons form b x.rest) ∙ then (matched (b ∷ []) x.rest)
  where
    shift : (a b v : ℕ) (o : Option Fields) → latest_of a b (with_value v o) ≡ latest_of b v o
    shift a b v none = refl
    shift a b v (some f) = refl

    values : (vs : List ℕ) (a b : ℕ) (rest : List ℕ)
        → latest_of a b (with_values vs (matched form rest)) ≡ advance form (latest a b vs rest)
    values [] a b rest = refl
    values (v ∷ vs) a b rest = shift a b v (with_values vs (matched form rest)) ∙ values vs b v rest

    then : (o : Option Fields)
        → latest_of x.first x.second (joined form o) ≡ after form (latest_of x.first x.second o)
    then none = refl
    then (some f) = values f.values x.first x.second f.rest

-- The loop over a form.
module _ (form : List ℕ) (i : ℕ) (x : Seen) where
  pub line_done : length form ≤ i → advance (drop i form) x ≡ some x
  unfolding advance matched latest
  line_done h = ap (λ (f : List ℕ). advance f x) (drop_of_length-le form h)

  pub line_again : i < length form
      → advance (drop i form) x ≡ after (drop (i + 1) form) (advance (get_or form i 0 ∷ []) x)
  line_again h =
      ap (λ (f : List ℕ). advance f x) (drop-cons form i 0 h) ∙ advance_cons (get_or form i 0) (drop (suc i) form) x
      ∙ ap (λ (k : ℕ). after (drop k form) (advance (get_or form i 0 ∷ []) x)) (sym (add-one i))
