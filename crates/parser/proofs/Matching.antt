-- What a line that was read says of its form: the values, and the bytes that follow.
use Prim.Native.Nat.{ℕ, suc, ◌+◌, ◌/◌, ◌%◌, ◌≤◌, ◌<◌}
use mathlib.Core.Bool.{Bool, true, false, ◌&&◌}
use mathlib.Core.List.{List, [], ◌∷◌, ◌++◌}
use mathlib.Core.Option.{Option, none, some, none-ne-some, some-injective}
use mathlib.Core.Path.{◌≡◌, refl, sym, ap, ◌∙◌}
use native.Mathlib.Omega.{arith}
use lib.Dec.{ltb, eqb}
use lib.ListN.{length, get_or, drop, length-append}
use borrow.Author.Tests.{ltb-true, ltb-false, ne_eqb}
use Rattle.plan.specs.Limits.{most_digits, node_form}
use Rattle.plan.specs.Plan.{is_letter}
use Rattle.format.specs.Lines.{Fields, matched, slots, numeral, filled}
use Rattle.base.proofs.Bools.{by_bool, and_left, true_not_false}
use Rattle.format.proofs.Tests.{choose}
use Rattle.format.proofs.Forms.{is_short, fitting, fitting_count, Filled, filled_matched}
use Rattle.line_reader.specs.Seen.{Seen, started, latest, latest_of, advance}

by_option : {A C : Type 0} (o : Option A) → (o ≡ none → C) → ((a : A) → o ≡ some a → C) → C
by_option none f g = f refl
by_option (some a) f g = g a refl

abbrev pub fields : List ℕ → List ℕ → Fields
fields vs rest = record { values = vs; rest = rest }

latest_rest : (a b : ℕ) (vs rest : List ℕ) → (latest a b vs rest).rest ≡ rest
unfolding latest
latest_rest a b [] rest = refl
latest_rest a b (v ∷ vs) rest = latest_rest b v vs rest

-- The two latest of no value, of one and of two.
none_of : (vs rest : List ℕ) (x : Seen) → length vs ≡ 0 → latest 0 0 vs rest ≡ x → fields vs rest ≡ fields [] x.rest
unfolding latest
none_of [] rest x e q = ap (λ (y : Seen). fields [] y.rest) q
none_of (v ∷ vs) rest x e q = absurd (omega arith)

one_of : (vs rest : List ℕ) (x : Seen) → length vs ≡ 1 → latest 0 0 vs rest ≡ x
    → fields vs rest ≡ fields (x.second ∷ []) x.rest
unfolding latest
one_of [] rest x e q = absurd (omega arith)
one_of (v ∷ []) rest x e q = ap (λ (y : Seen). fields (y.second ∷ []) y.rest) q
one_of (v ∷ w ∷ vs) rest x e q = absurd (omega arith)

two_of : (vs rest : List ℕ) (x : Seen) → length vs ≡ 2 → latest 0 0 vs rest ≡ x
    → fields vs rest ≡ fields (x.first ∷ x.second ∷ []) x.rest
unfolding latest
two_of [] rest x e q = absurd (omega arith)
two_of (v ∷ []) rest x e q = absurd (omega arith)
two_of (v ∷ w ∷ []) rest x e q = ap (λ (y : Seen). fields (y.first ∷ y.second ∷ []) y.rest) q
two_of (v ∷ w ∷ u ∷ vs) rest x e q = absurd (omega arith)

numeral_some : (k n : ℕ) → 0 < length (numeral (suc k) n)
unfolding numeral
numeral_some k n = one (ltb n 10)
  where
    one : (t : Bool) → 0 < length (choose t ((48 + n) ∷ []) (numeral k (n / 10) ++ ((48 + n % 10) ∷ [])))
    one true = omega arith
    one false = omega (arith, length-append (numeral k (n / 10)) ((48 + n % 10) ∷ []))

filled_some : (form vs : List ℕ) → 0 < length form → 0 < length (filled form vs)
unfolding filled
filled_some [] vs h = absurd (omega arith)
filled_some (b ∷ form) vs h = one (eqb b 35) (eqb b 64)
  where
    one : (p q : Bool) → 0 < length (choose p (numeral most_digits (get_or vs 0 0) ++ filled form (drop 1 vs))
        (choose q (get_or vs 0 0 ∷ filled form (drop 1 vs)) (b ∷ filled form vs)))
    one true q =
        omega (
          arith,
          length-append (numeral most_digits (get_or vs 0 0)) (filled form (drop 1 vs)),
          numeral_some 4 (get_or vs 0 0),
        )
    one false true = omega arith
    one false false = omega arith

pub matched_shorter : (form s : List ℕ) (f : Fields) → matched form s ≡ some f → 0 < length form
    → length f.rest < length s
matched_shorter form s f e h =
    let m : Filled form s f = filled_matched form s f e in
    omega (arith, ap length m.bytes, length-append (filled form f.values) f.rest, filled_some form f.values h)

letter_small : (b : ℕ) → is_letter b ≡ true → b < 256
letter_small b e =
    by_bool (ltb b 256)
    (λ t. ltb-true b 256 t)
    (λ f.
    let large : 256 ≤ b = ltb-false b 256 f in
    let none : is_letter b ≡ false =
    simp (
      ne_eqb b 97 (λ p. omega arith),
      ne_eqb b 115 (λ p. omega arith),
      ne_eqb b 112 (λ p. omega arith),
      ne_eqb b 120 (λ p. omega arith),
    ) in
    true_not_false e none)

pub not_matched : (form s : List ℕ) → advance form (started s) ≡ none → matched form s ≡ none
unfolding advance
not_matched form s e =
    by_option (matched form s)
    (λ q. q)
    (λ f q. absurd (none-ne-some _ (sym e ∙ ap (latest_of 0 0) q)))

-- A line x that was read.
module _ (form s : List ℕ) (x : Seen) (is : advance form (started s) ≡ some x) where
  pub record Says : Type 0 where
    pub values : List ℕ
    pub after : List ℕ
    pub matches : matched form s ≡ some (fields values after)
    pub seen : latest 0 0 values after ≡ x

  says : Says
  unfolding advance
  says =
      by_option (matched form s)
      (λ q. absurd (none-ne-some x (sym (ap (latest_of 0 0) q) ∙ is)))
      (λ f q.
      record {
        values = f.values;
        after = f.rest;
        matches = q;
        seen = some-injective _ _ (sym (ap (latest_of 0 0) q) ∙ is);
      })

  filled_by : Filled form s (fields says.values says.after)
  filled_by = filled_matched form s (fields says.values says.after) says.matches

  count : length says.values ≡ slots form
  count = fitting_count form says.values filled_by.fits

  -- By the number of its values.
  pub no_value : slots form ≡ 0 → matched form s ≡ some (fields [] x.rest)
  no_value e = says.matches ∙ ap some (none_of says.values says.after x (count ∙ e) says.seen)

  pub one_value : slots form ≡ 1 → matched form s ≡ some (fields (x.second ∷ []) x.rest)
  one_value e = says.matches ∙ ap some (one_of says.values says.after x (count ∙ e) says.seen)

  pub two_values : slots form ≡ 2 → matched form s ≡ some (fields (x.first ∷ x.second ∷ []) x.rest)
  two_values e = says.matches ∙ ap some (two_of says.values says.after x (count ∙ e) says.seen)

  -- A line has some bytes.
  pub shorter : 0 < length form → length x.rest < length s
  shorter h =
      let e = sym (latest_rest 0 0 says.values says.after) ∙ ap (λ (y : Seen). y.rest) says.seen in
      omega (arith, matched_shorter form s (fields says.values says.after) says.matches h, ap length e)

pub node_letter : (s : List ℕ) (x : Seen) → advance node_form (started s) ≡ some x → x.first < 256
unfolding fitting
node_letter s x is =
    let whole : Filled node_form s (fields (x.first ∷ x.second ∷ []) x.rest) =
    filled_matched node_form s (fields (x.first ∷ x.second ∷ []) x.rest) (two_values node_form s x is refl) in
    letter_small x.first (and_left (is_letter x.first) (is_short x.second && true) whole.fits)
