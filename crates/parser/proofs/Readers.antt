-- What readers say: a line, a line that is tested, and lines one by one.
use Prim.Native.Nat.{ℕ, suc, ◌+◌, ◌-◌, ◌≤◌, ◌<◌}
use mathlib.Core.Bool.{Bool, true, false}
use mathlib.Core.List.{List, [], ◌∷◌, ◌++◌, append_assoc, append-nil}
use mathlib.Core.Option.{none, some}
use mathlib.Core.Option as Found
use mathlib.Core.Path.{◌≡◌, refl, sym, ap, ◌∙◌}
use native.Mathlib.Omega.{arith}
use native.Mathlib.Numerals.{add-one}
use lib.ListN.{length, take, set}
use lib.Seq.{take-suc-set}
use Rattle.std.specs.Prelude.{Option, None, Some, Result, Ok, Err, MatchResult}
use Rattle.std.proofs.lemmas.List.{take-append-le}
use Rattle.std.specs.Bool.{then_some}
use Rattle.std.specs.Option.{ok_or}
use Rattle.std.specs.Result.{IsErrAnd}
use Rattle.plan.specs.declared.Refusal.{Refusal}
use Rattle.plan.specs.declared.Refusal.TheVariants.{Form}
use Rattle.format.specs.Lines.{Fields, matched, slots}
use Rattle.format.specs.Parse.{LinesRead, read, stop, Reader, a_line, tested, the_lines, the_end}
use Rattle.base.proofs.Bools.{elim_true, elim_false}
use Rattle.format.proofs.Readers.{judged}
use Rattle.line_reader.specs.Seen.{said}
use Rattle.line_reader.specs.declared.Line.{Line}
use Rattle.parser.specs.declared.Lines.{Lines}
use Rattle.parser.specs.Steps.{Took, NotTaken}
use Rattle.parser.proofs.Matching.{fields, not_matched, one_value, two_values}

-- A line by what its form matches.
module _ {A : Type 0} (make : List ℕ → A) (form : List ℕ) (line : ℕ) (s : List ℕ) where
  abbrev answered : Found.Option Fields → LinesRead A
  answered o = elim o [ none ↦ stop (Form line) | some f ↦ read (make f.values) (line + 1) f.rest ]

  pub line_read : {vs t : List ℕ} → matched form s ≡ some (fields vs t)
      → a_line form make line s ≡ read (make vs) (line + 1) t
  unfolding a_line
  line_read e = ap answered e

  pub no_line : matched form s ≡ none → a_line form make line s ≡ stop (Form line)
  unfolding a_line
  no_line e = ap answered e

-- A line that was taken, or not.
module _ {A : Type 0} {form : List ℕ} {before : Lines} (make : List ℕ → A) where
  pub not_taken : {d : Refusal} → NotTaken form before d → a_line form make before.number before.rest.now ≡ stop d
  not_taken e =
      no_line make form before.number before.rest.now (not_matched form before.rest.now e.says)
      ∙ ap stop (sym e.refusal)

  module _ {l : Line} {after : Lines} (taken : Took form before l after) where
    onward : {vs : List ℕ} → matched form before.rest.now ≡ some (fields vs l.rest.now)
        → a_line form make before.number before.rest.now ≡ read (make vs) after.number after.rest.now
    onward {vs} e =
        line_read make form before.number before.rest.now e
        ∙ ap (λ (k : ℕ). read (make vs) k l.rest.now) (sym taken.number)
        ∙ ap (λ (t : List ℕ). read (make vs) after.number t) (sym taken.rest)

    pub one_taken : slots form ≡ 1
        → a_line form make before.number before.rest.now ≡ read (make (l.second ∷ [])) after.number after.rest.now
    one_taken e = onward (one_value form before.rest.now (said l) taken.says e)

    pub two_taken : slots form ≡ 2
        → a_line form make before.number before.rest.now
        ≡ read (make (l.first ∷ l.second ∷ [])) after.number after.rest.now
    two_taken e = onward (two_values form before.rest.now (said l) taken.says e)

-- A test of what was read.
module _ {A : Type 0} (passes : A → Bool) (refusal : ℕ → Refusal) (reader : Reader A) {line : ℕ} {s : List ℕ} where
  module _ {a : A} {line' : ℕ} {s' : List ℕ} (e : reader line s ≡ read a line' s') where
    pub passed : passes a ≡ true → tested passes refusal reader line s ≡ read a line' s'
    unfolding tested
    passed t = ap (judged passes refusal line) e ∙ elim_true _ _ _ t

    pub failed : passes a ≡ false → tested passes refusal reader line s ≡ stop (refusal line)
    unfolding tested
    failed t = ap (judged passes refusal line) e ∙ elim_false _ _ _ t

  pub untested : {r : Refusal} → reader line s ≡ stop r → tested passes refusal reader line s ≡ stop r
  unfolding tested
  untested e = ap (judged passes refusal line) e

-- The exit of a `?`.
pub refused : {T A : Type 0} (P : T → Type 0) {o : LinesRead A} {d : Refusal} (r : Result T Refusal)
    → IsErrAnd r (λ e. e ≡ d) → o ≡ stop d → MatchResult r P (λ e. o ≡ stop e)
refused P (Ok x) e h = absurd e
refused P (Err y) e h = h ∙ ap stop (sym e)

-- The lines xs before others.
abbrev prefixed : {A : Type 0} → List A → LinesRead (List A) → LinesRead (List A)
prefixed xs (read ys line s) = read (xs ++ ys) line s
prefixed xs (stop r) = stop r

-- Of n lines that are to be read at a place, i are read: they say xs, and the others are to be read at another place.
module _ {A : Type 0} where
  pub record ReadSoFar (reader : Reader A) (n i line : ℕ) (s : List ℕ) (line' : ℕ) (s' : List ℕ) (xs : List A)
      : Type 0 where
    pub count : i ≤ n
    pub lines : the_lines n reader line s ≡ prefixed xs (the_lines (n - i) reader line' s')

  module _ {reader : Reader A} {n i line line' : ℕ} {s s' : List ℕ} {xs : List A}
      (so_far : ReadSoFar reader n i line s line' s' xs) where
    -- What the next line says, before those that follow.
    abbrev with_next : LinesRead A → LinesRead (List A)
    with_next o =
        prefixed xs
        (elim o [
          | read a line₁ s₁ ↦ elim (the_lines (n - (i + 1)) reader line₁ s₁)
              [ read rest line₂ s₂ ↦ read (a ∷ rest) line₂ s₂ | stop r ↦ stop r ]
          | stop r ↦ stop r
        ])

    next : i < n → the_lines n reader line s ≡ with_next (reader line' s')
    unfolding the_lines
    next h =
        let turns : n - i ≡ suc (n - (i + 1)) = omega arith in
        so_far.lines ∙ ap (λ (k : ℕ). prefixed xs (the_lines k reader line' s')) turns

    pub one_read : i < n → {a : A} {line₁ : ℕ} {s₁ : List ℕ} {ys : List A} → reader line' s' ≡ read a line₁ s₁
        → ys ≡ xs ++ (a ∷ []) → ReadSoFar reader n (i + 1) line s line₁ s₁ ys
    one_read h {a} {line₁} {s₁} {ys} e grown =
        record {
          count = omega arith;
          lines =
              next h ∙ ap with_next e ∙ shift (the_lines (n - (i + 1)) reader line₁ s₁)
              ∙ ap (λ zs. prefixed zs (the_lines (n - (i + 1)) reader line₁ s₁)) (sym grown);
        }
      where
        shift : (o : LinesRead (List A))
            → prefixed xs (elim o [ read rest line₂ s₂ ↦ read (a ∷ rest) line₂ s₂ | stop r ↦ stop r ])
            ≡ prefixed (xs ++ (a ∷ [])) o
        shift (read rest line₂ s₂) = ap (λ zs. read zs line₂ s₂) (sym (append_assoc xs (a ∷ []) rest))
        shift (stop r) = refl

    pub none_more : i < n → {r : Refusal} → reader line' s' ≡ stop r → the_lines n reader line s ≡ stop r
    none_more h e = next h ∙ ap with_next e

    pub all_read : n ≤ i → {ys : List A} → (n ≡ i → ys ≡ xs) → the_lines n reader line s ≡ read ys line' s'
    unfolding the_lines
    all_read h {ys} e =
        let none_left : n - i ≡ 0 = omega arith in
        so_far.lines ∙ ap (λ (k : ℕ). prefixed xs (the_lines k reader line' s')) none_left
        ∙ ap (λ zs. read zs line' s') (append-nil xs ∙ sym (e (omega (arith, so_far.count))))

-- A table that is filled from its front.
pub grown : {T : Type 0} (table : List T) (i : ℕ) (x : T) → i < length table
    → take (i + 1) (set table i x) ≡ take i table ++ (x ∷ [])
grown table i x h = rw add-one (take-suc-set table i x h)

pub filled : {T : Type 0} (items others : List T) (n i : ℕ) → length items ≡ n → n ≡ i
    → take n (items ++ others) ≡ take i items
filled items others n i long all =
    take-append-le n items others (omega arith) ∙ ap (λ (k : ℕ). take k items) all

-- The end.
pub nothing_left : (line : ℕ) (s : List ℕ) → length s ≡ 0 → the_end line s ≡ read (tt {0}) line s
unfolding the_end
nothing_left line [] e = refl
nothing_left line (b ∷ s) e = absurd (omega arith)

pub something_left : (line : ℕ) (s : List ℕ) → (length s ≡ 0 → ⊥) → the_end line s ≡ stop (Form line)
unfolding the_end
something_left line [] e = absurd (e refl)
something_left line (b ∷ s) e = refl

-- A value in its range, or none.
pub in_range : {T : Type 0} (b : Bool) {x y : T} {r : Option T} → r ≡ then_some b x → r ≡ Some y
    → (b ≡ true) × (x ≡ y)
in_range true e f = (refl, cc)
in_range false e f = absurd (cc)

pub out_of_range : {T E : Type 0} (b : Bool) (x : T) {r : Option T} {d e : E} → r ≡ then_some b x
    → Err e ≡ ok_or r d → (b ≡ false) × (e ≡ d)
out_of_range true x q f = absurd (cc)
out_of_range false x q f = (refl, cc)

pub missing : {T E : Type 0} (r : Option T) {d e : E} → r ≡ None → Err e ≡ ok_or r d → e ≡ d
missing None p q = cc
missing (Some x) p q = absurd (cc)
