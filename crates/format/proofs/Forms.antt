-- A form matches what it was filled with, and nothing else: one induction over the form, for all forms.
use Prim.Native.Nat.{ℕ, suc, ◌^◌, ◌<◌}
use mathlib.Core.Bool.{Bool, true, false, not, ◌&&◌, ◌||◌, false≢true}
use mathlib.Core.List.{List, [], ◌∷◌, ◌++◌, append_assoc}
use mathlib.Core.Option.{Option, none, some, none-ne-some, some-injective}
use mathlib.Core.Path.{◌≡◌, refl, sym, ap, ap₂, ◌∙◌}
use native.Mathlib.Omega.{arith}
use borrow.Author.Tests.{ltb-true, lt-ltb, eq-eqb, eqb-true}
use lib.Dec.{ltb, eqb}
use lib.ListN.{length, get_or, drop}
use lib.Seq.{drop-append_seam}
use Rattle.plan.specs.Limits.{most_digits}
use Rattle.plan.specs.Plan.{is_letter}
use Rattle.format.specs.Lines.{is_digit, digits, is_value, decimal, numeral, slots, Fields, with_value, matched}
use Rattle.format.specs.Lines.{filled}
use Rattle.base.proofs.Bools.{by_bool, both, and_left, and_right, elim_false}
use Rattle.format.proofs.Laws.{digits_digits, digits_prefix, Kind, value, letter, literal, kind, matched_value}
use Rattle.format.proofs.Laws.{matched_no_value, matched_letter, matched_no_letter, matched_literal}
use Rattle.format.proofs.Laws.{matched_no_literal, filled_value, filled_letter, filled_literal}
use Rattle.format.proofs.Values.{decimal_written, digits_written, value_written, value_below, value_read}

-- A form can be read back where each `#` is followed by a byte that is no digit and stands for itself.
abbrev pub is_plain : ℕ → Bool
is_plain b = not (is_digit b || eqb b 35 || eqb b 64)

abbrev pub is_form : List ℕ → Bool
is_form [] = true
is_form (b ∷ form) = (not (eqb b 35) || is_plain (get_or form 0 35)) && is_form form

-- One value for each slot: a number of at most five digits at `#`, a letter at `@`.
abbrev pub taking : (ℕ → Bool) → (List ℕ → Bool) → List ℕ → Bool
taking ok others [] = false
taking ok others (v ∷ vs) = ok v && others vs

abbrev pub is_short : ℕ → Bool
is_short v = ltb v (10 ^ most_digits)

unfoldable pub fitting : List ℕ → List ℕ → Bool
fitting [] vs = eqb (length vs) 0
fitting (b ∷ form) vs =
    elim (eqb b 35) [
      | true ↦ taking is_short (fitting form) vs
      | false ↦ elim (eqb b 64) [ true ↦ taking is_letter (fitting form) vs | false ↦ fitting form vs ]
    ]

-- What is matched behind a value, a letter, a byte that stands for itself.
module _ (form s : List ℕ) where
  pub matched_written :
      (v : ℕ) → v < 10 ^ most_digits → is_digit (get_or s 0 0) ≡ false
      → matched (35 ∷ form) (numeral most_digits v ++ s) ≡ with_value v (matched form s)
  matched_written v h n =
      matched_value form (numeral most_digits v ++ s) (rw (digits_written v s n) (value_written v h))
      ∙ rw (digits_written v s n, decimal_written most_digits v h, drop-append_seam (numeral most_digits v) s)

  pub matched_a_letter : (b : ℕ) → is_letter b ≡ true → matched (64 ∷ form) (b ∷ s) ≡ with_value b (matched form s)
  matched_a_letter b e = matched_letter form (b ∷ s) e

  pub matched_a_literal : (b : ℕ) → eqb b 35 ≡ false → eqb b 64 ≡ false → matched (b ∷ form) (b ∷ s) ≡ matched form s
  matched_a_literal b p q =
      matched_literal form (b ∷ s) b p q (both (lt-ltb 0 (suc (length s)) (omega arith)) (eq-eqb b b refl))

-- A plain byte is none of the three.
plain_facts : (b : ℕ) → is_plain b ≡ true → (is_digit b ≡ false) × (eqb b 35 ≡ false) × (eqb b 64 ≡ false)
plain_facts b e = none_of (is_digit b) (eqb b 35) (eqb b 64) e
  where
    none_of : (x y z : Bool) → not (x || y || z) ≡ true → (x ≡ false) × (y ≡ false) × (z ≡ false)
    none_of false false false e = (refl, refl, refl)
    none_of false false true e = absurd (false≢true e)
    none_of false true z e = absurd (false≢true e)
    none_of true y z e = absurd (false≢true e)

ends_value : (form vs rest : List ℕ) → is_plain (get_or form 0 35) ≡ true
    → is_digit (get_or (filled form vs ++ rest) 0 0) ≡ false
ends_value [] vs rest e = absurd (false≢true e)
ends_value (b ∷ form) vs rest e =
    let (n, p, q) = plain_facts b e in
    rw (filled_literal form vs b p q) n

fitting_literal : (form vs : List ℕ) (b : ℕ) → eqb b 35 ≡ false → eqb b 64 ≡ false
    → fitting (b ∷ form) vs ≡ fitting form vs
unfolding fitting
fitting_literal form vs b p q = elim_false _ _ _ p ∙ elim_false _ _ _ q

-- As many values as slots.
abbrev Counts : List ℕ → Type 0
Counts form = (vs : List ℕ) → fitting form vs ≡ true → length vs ≡ slots form

counts : {b : ℕ} → Kind b → (form : List ℕ) → Counts form → Counts (b ∷ form)
unfolding fitting
counts value form others [] fit = absurd (false≢true fit)
counts value form others (v ∷ vs) fit = ap suc (others vs (and_right (is_short v) (fitting form vs) fit))
counts letter form others [] fit = absurd (false≢true fit)
counts letter form others (v ∷ vs) fit = ap suc (others vs (and_right (is_letter v) (fitting form vs) fit))
counts (literal {b} p q) form others vs fit =
    let neither : (eqb b 35 || eqb b 64) ≡ false = rw (p, q) in
    others vs (rw (fitting_literal form vs b p q) at fit) ∙ sym (elim_false _ _ _ neither)

pub fitting_count : (form vs : List ℕ) → fitting form vs ≡ true → length vs ≡ slots form
unfolding fitting
fitting_count [] vs fit = eqb-true (length vs) 0 fit
fitting_count (b ∷ form) vs fit = counts (kind b) form (fitting_count form) vs fit

-- What was filled in is matched.
abbrev Finds : List ℕ → List ℕ → List ℕ → Type 0
Finds form rest vs =
    fitting form vs ≡ true → matched form (filled form vs ++ rest) ≡ some (record { values = vs; rest = rest })

finds : {b : ℕ} → Kind b → (form rest : List ℕ) → is_form (b ∷ form) ≡ true → ((vs : List ℕ) → Finds form rest vs)
    → (vs : List ℕ) → Finds (b ∷ form) rest vs
unfolding fitting
finds value form rest ok others [] fit = absurd (false≢true fit)
finds value form rest ok others (v ∷ vs) fit =
    rw (filled_value form (v ∷ vs), append_assoc (numeral most_digits v) (filled form vs) rest)
    (matched_written form (filled form vs ++ rest) v
    (ltb-true v (10 ^ most_digits) (and_left (is_short v) (fitting form vs) fit))
    (ends_value form vs rest (and_left (is_plain (get_or form 0 35)) (is_form form) ok))
    ∙ rw (others vs (and_right (is_short v) (fitting form vs) fit)))
finds letter form rest ok others [] fit = absurd (false≢true fit)
finds letter form rest ok others (v ∷ vs) fit =
    rw (filled_letter form (v ∷ vs))
    (matched_a_letter form (filled form vs ++ rest) v (and_left (is_letter v) (fitting form vs) fit)
    ∙ rw (others vs (and_right (is_letter v) (fitting form vs) fit)))
finds (literal {b} p q) form rest ok others vs fit =
    rw (filled_literal form vs b p q)
    (matched_a_literal form (filled form vs ++ rest) b p q ∙ others vs (rw (fitting_literal form vs b p q) at fit))

pub matched_filled : (form vs rest : List ℕ) → is_form form ≡ true → fitting form vs ≡ true
    → matched form (filled form vs ++ rest) ≡ some (record { values = vs; rest = rest })
unfolding fitting matched filled
matched_filled [] [] rest ok fit = refl
matched_filled [] (v ∷ vs) rest ok fit = absurd (omega (arith, eqb-true (suc (length vs)) 0 fit))
matched_filled (b ∷ form) vs rest ok fit =
    finds (kind b) form rest ok
    (λ ws fit'. matched_filled form ws rest
    (and_right (not (eqb b 35) || is_plain (get_or form 0 35)) (is_form form) ok) fit') vs fit

-- What is matched was filled in.
pub record Filled (form s : List ℕ) (f : Fields) : Type 0 where
  pub bytes : s ≡ filled form f.values ++ f.rest
  pub fits : fitting form f.values ≡ true

abbrev after : ℕ → Fields → Fields
after v g = record { values = v ∷ g.values; rest = g.rest }

with_some : (P : Fields → Type 0) (v : ℕ) (o : Option Fields) (f : Fields)
    → ((g : Fields) → o ≡ some g → P (after v g))
    → with_value v o ≡ some f → P f
with_some P v none f h e = absurd (none-ne-some f e)
with_some P v (some g) f h e = rw (sym (some-injective _ _ e)) (h g refl)

after_value : (form s : List ℕ) (g : Fields) → is_value (digits s) ≡ true → Filled form (drop (length (digits s)) s) g
    → Filled (35 ∷ form) s (after (decimal 0 (digits s)) g)
unfolding fitting
after_value form s g v m =
    record {
      bytes =
          rw (
            filled_value form (decimal 0 (digits s) ∷ g.values),
            value_read (digits s) v (digits_digits s),
            append_assoc,
            ← m.bytes,
          )
          (digits_prefix s);
      fits = both (lt-ltb _ _ (value_below (digits s) v (digits_digits s))) m.fits;
    }

after_letter : (form s : List ℕ) (g : Fields) → is_letter (get_or s 0 0) ≡ true → Filled form (drop 1 s) g
    → Filled (64 ∷ form) s (after (get_or s 0 0) g)
unfolding fitting
after_letter form [] g e m = absurd (false≢true e)
after_letter form (c ∷ s) g e m =
    record { bytes = rw (filled_letter form (c ∷ g.values)) (ap (λ t. c ∷ t) m.bytes); fits = both e m.fits }

after_literal : (form s : List ℕ) (g : Fields) (b : ℕ) → eqb b 35 ≡ false → eqb b 64 ≡ false
    → (ltb 0 (length s) && eqb (get_or s 0 0) b) ≡ true → Filled form (drop 1 s) g → Filled (b ∷ form) s g
after_literal form [] g b p q e m = absurd (false≢true e)
after_literal form (c ∷ s) g b p q e m =
    record {
      bytes =
          rw (filled_literal form g.values b p q)
          (ap₂ (λ x t. x ∷ t) (eqb-true c b (and_right (ltb 0 (suc (length s))) (eqb c b) e)) m.bytes);
      fits = rw (fitting_literal form g.values b p q) m.fits;
    }

abbrev Fills : List ℕ → Type 0
Fills form = (s : List ℕ) (f : Fields) → matched form s ≡ some f → Filled form s f

nothing : {o : Option Fields} {f : Fields} {C : Type 0} → o ≡ none → o ≡ some f → C
nothing {f} p q = absurd (none-ne-some f (sym p ∙ q))

fills : {b : ℕ} → Kind b → (form : List ℕ) → Fills form → Fills (b ∷ form)
fills value form others s f e =
    by_bool (is_value (digits s))
    (λ v.
    with_some (Filled (35 ∷ form) s) _ (matched form (drop (length (digits s)) s)) f
    (λ g q. after_value form s g v (others _ g q))
    (sym (matched_value form s v) ∙ e))
    (λ v. nothing (matched_no_value form s v) e)
fills letter form others s f e =
    by_bool (is_letter (get_or s 0 0))
    (λ v.
    with_some (Filled (64 ∷ form) s) _ (matched form (drop 1 s)) f
    (λ g q. after_letter form s g v (others _ g q))
    (sym (matched_letter form s v) ∙ e))
    (λ v. nothing (matched_no_letter form s v) e)
fills (literal {b} p q) form others s f e =
    by_bool (ltb 0 (length s) && eqb (get_or s 0 0) b)
    (λ v. after_literal form s f b p q v (others (drop 1 s) f (sym (matched_literal form s b p q v) ∙ e)))
    (λ v. nothing (matched_no_literal form s b p q v) e)

pub filled_matched : (form s : List ℕ) (f : Fields) → matched form s ≡ some f → Filled form s f
unfolding matched filled fitting
filled_matched [] s f e = rw (sym (some-injective _ _ e)) (record { bytes = refl; fits = refl })
filled_matched (b ∷ form) s f e = fills (kind b) form (filled_matched form) s f e
