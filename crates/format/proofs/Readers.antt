-- Readers of lines, each with what it reads: it takes just the bytes that say a thing, and says that thing.
use Prim.Native.Nat.{ℕ, zero, suc, ◌+◌}
use mathlib.Core.Bool.{Bool, true}
use mathlib.Core.List.{List, [], ◌∷◌, ◌++◌, append_assoc}
use mathlib.Core.Option.{Option, none, some}
use mathlib.Core.Path.{◌≡◌, refl, sym, ap, ap₂, ◌∙◌}
use native.Mathlib.Omega.{arith}
use lib.ListN.{length}
use Rattle.base.specs.Lists.{every}
use Rattle.plan.specs.declared.Refusal.{Refusal}
use Rattle.plan.specs.declared.Refusal.TheVariants.{Form, Range}
use Rattle.format.specs.Lines.{Fields, matched, filled}
use Rattle.format.specs.Parse.{LinesRead, read, stop, Reader, a_line, tested, the_lines}
use Rattle.base.proofs.Bools.{by_bool, both, and_left, and_right, elim_true, elim_false}
use Rattle.format.proofs.Tests.{choose}
use Rattle.format.proofs.Forms.{is_form, fitting, matched_filled, Filled, filled_matched}

pub stopped : {A : Type 0} {r : Refusal} {a : A} {line : ℕ} {s : List ℕ} → stop r ≡ read a line s → ⊥
stopped e = let z : ◌≡◌ {A = ℕ} 0 1 = cc in omega arith

-- One reader, then another.
module _ {A B : Type 0} (next : A → Reader B) where
  abbrev pub onward : LinesRead A → LinesRead B
  onward o = elim o [ read a line s ↦ next a line s | stop r ↦ stop r ]

  pub then_read : {o : LinesRead A} {a : A} {line : ℕ} {s : List ℕ} → o ≡ read a line s → onward o ≡ next a line s
  then_read e = ap onward e

  pub both_read : {C : Type 0} (o : LinesRead A) {b : B} {line : ℕ} {s : List ℕ} → onward o ≡ read b line s
      → ((a : A) (line₁ : ℕ) (s₁ : List ℕ) → o ≡ read a line₁ s₁ → next a line₁ s₁ ≡ read b line s → C) → C
  both_read (read a line₁ s₁) e then = then a line₁ s₁ refl e
  both_read (stop r) e then = absurd (stopped e)

-- `reader` takes what `write` gives, for each thing that is `Ok`, whatever follows; and nothing else.
pub record Exact {A : Type 0} (reader : Reader A) (write : A → List ℕ) (Ok : A → Type 0) : Type 0 where
  pub reads : (a : A) (line : ℕ) (s : List ℕ) → Ok a → (line' : ℕ) × (reader line (write a ++ s) ≡ read a line' s)
  pub wrote : (line : ℕ) (s : List ℕ) (a : A) (line' : ℕ) (s' : List ℕ) → reader line s ≡ read a line' s'
      → (Ok a) × (s ≡ write a ++ s')

-- A test of what was read.
module _ {A : Type 0} (passes : A → Bool) (refusal : ℕ → Refusal) (line : ℕ) where
  abbrev pub judged : LinesRead A → LinesRead A
  judged o =
      elim o [
        | read a line' s' ↦ choose (passes a) (read a line' s') (stop (refusal line))
        | stop r ↦ stop r
      ]

  judged_read : {o : LinesRead A} (a : A) (line' : ℕ) (s' : List ℕ) → o ≡ read a line' s' → passes a ≡ true
      → judged o ≡ read a line' s'
  judged_read a line' s' e pass = ap judged e ∙ elim_true _ _ _ pass

  -- What it takes was read, and passes.
  passed : {C : Type 0} (o : LinesRead A) (a : A) (line' : ℕ) (s' : List ℕ) → judged o ≡ read a line' s'
      → (o ≡ read a line' s' → passes a ≡ true → C) → C
  passed (stop r) a line' s' e then = absurd (stopped e)
  passed (read b line₁ s₁) a line' s' e then =
      by_bool (passes b)
      (λ v.
      let same : read b line₁ s₁ ≡ read a line' s' = sym (elim_true _ _ _ v) ∙ e in
      let eb : b ≡ a = cc in
      then same (rw eb at v))
      (λ v. absurd (stopped (sym (elim_false _ _ _ v) ∙ e)))

-- A line and a test of what it says: it takes what passes.
module _ {A : Type 0} {reader : Reader A} {write : A → List ℕ} {Ok Good : A → Type 0} (passes : A → Bool)
    (refusal : ℕ → Refusal) (exact : Exact reader write Ok) (meets : (a : A) → Good a → Ok a × (passes a ≡ true))
    (good : (a : A) → Ok a → passes a ≡ true → Good a)
  where
    pub tested_exact : Exact (tested passes refusal reader) write Good
    unfolding tested
    tested_exact =
        record {
          reads =
              λ a line s k.
              let (ok, pass) = meets a k in
              let (line', here) = exact.reads a line s ok in
              (line', judged_read passes refusal line a line' s here pass);
          wrote =
              λ line s a line' s' e.
              passed passes refusal line (reader line s) a line' s' e
              (λ here pass. let (ok, bytes) = exact.wrote line s a line' s' here in (good a ok pass, bytes));
        }

-- A line by its form and the test of its range: what passes has values that fit the form and say it again, and
-- values that say what passes are those of what they say.
module _ {A : Type 0} (form : List ℕ) (make : List ℕ → A) (values : A → List ℕ) (ok : A → Bool)
    (formed : is_form form ≡ true)
    (fits : (a : A) → ok a ≡ true → fitting form (values a) ≡ true)
    (same : (a : A) → ok a ≡ true → make (values a) ≡ a)
    (back : (vs : List ℕ) → fitting form vs ≡ true → ok (make vs) ≡ true → values (make vs) ≡ vs)
  where
    abbrev answered : ℕ → Option Fields → LinesRead A
    answered line o =
        elim o [ none ↦ stop (Form line) | some f ↦ read (make f.values) (line + 1) f.rest ]

    answer : (line : ℕ) (s : List ℕ) → a_line form make line s ≡ answered line (matched form s)
    unfolding a_line
    answer line s = refl

    says : (line : ℕ) (s : List ℕ) (a : A) (line' : ℕ) (s' : List ℕ) (o : Option Fields) → matched form s ≡ o
        → answered line o ≡ read a line' s' → ok a ≡ true
        → s ≡ filled form (values a) ++ s'
    says line s a line' s' none q e pass = absurd (stopped e)
    says line s a line' s' (some f) q e pass =
        let m : Filled form s f = filled_matched form s f q in
        let ea : make f.values ≡ a = cc in
        let es : f.rest ≡ s' = cc in
        let ev : f.values ≡ values a = sym (back f.values m.fits (ap ok ea ∙ pass)) ∙ ap values ea in
        m.bytes ∙ ap₂ (λ vs t. filled form vs ++ t) ev es

    pub line_exact : Exact (tested ok Range (a_line form make)) (λ a. filled form (values a)) (λ a. ok a ≡ true)
    unfolding tested
    line_exact =
        record {
          reads =
              λ a line s k. (
                line + 1,
                judged_read ok Range line a (line + 1) s
                    (answer line (filled form (values a) ++ s)
                    ∙ rw (matched_filled form (values a) s formed (fits a k)) (rw (same a k)))
                    k,
              );
          wrote =
              λ line s a line' s' e.
              passed ok Range line (a_line form make line s) a line' s' e
              (λ here pass.
              (pass, says line s a line' s' (matched form s) refl (sym (answer line s) ∙ here) pass));
        }

-- So many things, each `ok`, and their lines one behind the other.
abbrev pub Count : {A : Type 0} → (A → Bool) → ℕ → List A → Type 0
Count ok n xs = (length xs ≡ n) × (every ok xs ≡ true)

pub record Joined {A : Type 0} (write : A → List ℕ) (writes : List A → List ℕ) : Type 0 where
  pub nil : writes [] ≡ []
  pub cons : (x : A) (xs : List A) → writes (x ∷ xs) ≡ write x ++ writes xs

module _ {A : Type 0} {reader : Reader A} {write : A → List ℕ} {writes : List A → List ℕ}
    (ok : A → Bool) (exact : Exact reader write (λ a. ok a ≡ true)) (joined : Joined write writes)
  where
    lines_read : (n : ℕ) (xs : List A) (line : ℕ) (s : List ℕ) → Count ok n xs
        → (line' : ℕ) × (the_lines n reader line (writes xs ++ s) ≡ read xs line' s)
    unfolding the_lines
    lines_read zero [] line s k = (line, rw joined.nil)
    lines_read zero (x ∷ xs) line s k = absurd (omega arith)
    lines_read (suc n) [] line s k = absurd (omega arith)
    lines_read (suc n) (x ∷ xs) line s k =
        let (line₁, here) = exact.reads x line (writes xs ++ s) (and_left (ok x) (every ok xs) k.1) in
        let (line₂, there) = lines_read n xs line₁ s (omega arith, and_right (ok x) (every ok xs) k.1) in
        (line₂, rw (joined.cons x xs, append_assoc) (then_read _ here ∙ then_read _ there))

    lines_wrote : (n line : ℕ) (s : List ℕ) (xs : List A) (line' : ℕ) (s' : List ℕ)
        → the_lines n reader line s ≡ read xs line' s'
        → Count ok n xs × (s ≡ writes xs ++ s')
    unfolding the_lines
    lines_wrote zero line s xs line' s' e =
        let ex : [] ≡ xs = cc in
        let es : s ≡ s' = cc in
        rw (← ex) ((refl, refl), rw joined.nil es)
    lines_wrote (suc n) line s xs line' s' e =
        both_read _ (reader line s) e λ y line₁ s₁ here e₁.
        both_read _ (the_lines n reader line₁ s₁) e₁ λ ys line₂ s₂ there e₂.
        let one : (ok y ≡ true) × (s ≡ write y ++ s₁) = exact.wrote line s y line₁ s₁ here in
        let more : Count ok n ys × (s₁ ≡ writes ys ++ s₂) = lines_wrote n line₁ s₁ ys line₂ s₂ there in
        let ex : y ∷ ys ≡ xs = cc in
        let es : s₂ ≡ s' = cc in
        rw (← ex, ← es, joined.cons y ys, append_assoc)
        ((ap suc more.0.0, both one.0 more.0.1), one.1 ∙ ap (λ t. write y ++ t) more.1)

    pub lines_exact : (n : ℕ) → Exact (the_lines n reader) writes (Count ok n)
    lines_exact n = record { reads = lines_read n; wrote = lines_wrote n }
