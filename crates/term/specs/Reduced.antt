-- The reduced activity terms of document 000, section 2.2. B is a reduced subterm of A if B comes from A by
-- repeatedly replacing subterms (xor C1 .. Cn) by exactly one Ci so that B is xor-free.
use Rattle.std.specs.Prelude.{Bool, true, false, ◌&&◌, ◌≡◌}
use Rattle.term.specs.Term.{Term, Forest, act, seq, pll, xor, nil, cons}

-- C is one of C1 .. Cn.
pub data OneOf : Term → Forest → Type 0 where
  head : {c : Term} {f : Forest} → OneOf c (cons c f)
  tail : {c d : Term} {f : Forest} → OneOf c f → OneOf c (cons d f)

-- One replacement, anywhere in the term.
mutual
  pub data Replaces : Term → Term → Type 0 where
    pick : {f : Forest} {c : Term} → OneOf c f → Replaces (xor f) c
    in_seq : {f g : Forest} → ReplacesIn f g → Replaces (seq f) (seq g)
    in_pll : {f g : Forest} → ReplacesIn f g → Replaces (pll f) (pll g)
    in_xor : {f g : Forest} → ReplacesIn f g → Replaces (xor f) (xor g)

  pub data ReplacesIn : Forest → Forest → Type 0 where
    first : {t u : Term} {f : Forest} → Replaces t u → ReplacesIn (cons t f) (cons u f)
    later : {t : Term} {f g : Forest} → ReplacesIn f g → ReplacesIn (cons t f) (cons t g)

-- Any number of steps of a relation.
pub data Steps {A : Type 0} (R : A → A → Type 0) : A → A → Type 0 where
  done : {a : A} → Steps R a a
  step : {a b c : A} → R a b → Steps R b c → Steps R a c

unfoldable mutual
  pub xor_free : Term → Bool
  xor_free (act i) = true
  xor_free (seq f) = xor_free_all f
  xor_free (pll f) = xor_free_all f
  xor_free (xor f) = false

  pub xor_free_all : Forest → Bool
  xor_free_all nil = true
  xor_free_all (cons t f) = xor_free t && xor_free_all f

-- B is a reduced subterm of A.
pub record Reduced (a b : Term) : Type 0 where
  pub steps : Steps Replaces a b
  pub free : xor_free b ≡ true
