-- The mask of a term has its activities, so that masks meet where terms share one.
use Prim.Native.Nat.{ℕ, zero, suc, ◌<◌, ◌^◌}
use mathlib.Core.Path.{◌≡◌, sym, ap₂, ◌∙◌}
use mathlib.Core.Bool.{true, ◌||◌, or-false}
use native.Mathlib.Nat.{pow-suc}
use native.Mathlib.Omega.{arith}
use lib.Dec.{lit<, eqb}
use Rattle.base.proofs.Bools.{same_bool}
use Rattle.sets.specs.Sets.{has, meet}
use Rattle.sets.proofs.Laws.{has_none, has_or, has_single, meet_at, meet_of}
use Rattle.term.specs.Term.{Term, Forest, act, seq, pll, xor, nil, cons}
use Rattle.term.specs.Variants.{activities, activities_of_all, member}
use Rattle.term.specs.Clash.{share}
use Rattle.term.proofs.SomeOf.{some_found, some_is}
use Rattle.term.proofs.Twice.{member_append, member_found, member_is}
use Rattle.term_reader.specs.Walk.{mask, mask_all}

mutual
  unfolding mask activities member

  pub has_mask : (t : Term) (i : ℕ) → has (mask t) i ≡ member i (activities t)
  has_mask (act j) i = has_single j i ∙ sym (or-false (eqb i j))
  has_mask (seq f) i = has_mask_all f i
  has_mask (pll f) i = has_mask_all f i
  has_mask (xor f) i = has_mask_all f i

  pub has_mask_all : (f : Forest) (i : ℕ) → has (mask_all f) i ≡ member i (activities_of_all f)
  has_mask_all nil i = has_none i
  has_mask_all (cons t f) i =
      has_or (mask t) (mask_all f) i ∙ ap₂ ◌||◌ (has_mask t i) (has_mask_all f i)
      ∙ sym (member_append i (activities t) (activities_of_all f))

-- A number is below some power of 2.
below_power : (n : ℕ) → n < 2 ^ n
below_power zero = lit< tt
below_power (suc n) = omega (arith, below_power n, pow-suc 2 n)

pub meet_share : (t : Term) (f : Forest) → meet (mask t) (mask_all f) ≡ share (activities t) (activities_of_all f)
unfolding share
meet_share t f = same_bool (meet (mask t) (mask_all f)) (share (activities t) (activities_of_all f)) shared met
  where
    shared : meet (mask t) (mask_all f) ≡ true → share (activities t) (activities_of_all f) ≡ true
    shared e =
        let (i, l, p, q) = meet_at (mask t) (mask t) (mask_all f) (below_power (mask t)) e in
        some_is (λ j. member j (activities_of_all f)) (member_found i (activities t) (sym (has_mask t i) ∙ p))
        (sym (has_mask_all f i) ∙ q)

    met : share (activities t) (activities_of_all f) ≡ true → meet (mask t) (mask_all f) ≡ true
    met e =
        let (i, m, q) = some_found (λ j. member j (activities_of_all f)) (activities t) e in
        meet_of (mask t) (mask_all f) i (has_mask t i ∙ member_is m) (has_mask_all f i ∙ q)
