-- Cells filled one after another, and sets made by a test.
use Prim.Native.Nat.{ℕ, ◌+◌, ◌^◌, ◌≤◌, ◌<◌}
use native.Mathlib.Decide.{ℕ_discrete}
use native.Mathlib.Omega.{arith}
use mathlib.Core.Bool.{Bool, true, false, ◌&&◌, ◌||◌}
use mathlib.Core.List.{List}
use mathlib.Core.Logic.{◌≢◌, by_cases}
use mathlib.Core.Path.{◌≡◌, refl, sym, ap, ◌∙◌, subst}
use lib.Bits.{bit_or, or_lt}
use lib.Dec.{ltb, eqb}
use lib.ListN.{length, get_or, set, length-set}
use lib.Pow.{pow-lt}
use lib.Seq.{get_or-set_same, get_or-set_other}
use borrow.Author.Tests.{le-ltb}
use borrow.Rule.Slice.PartMut.{put_mid}
use Rattle.std.proofs.Common.{rules, length-append, length-take, length-drop}
use Rattle.std.proofs.lemmas.List.{places}
use Rattle.std.proofs.lemmas.Bool.Decides.{nat_tests}
use Rattle.sets.proofs.Laws.{has_none, has_with}
use Rattle.sets.specs.Sets.{most, has}
use Rattle.instance.specs.Steps.{Passing, Filled}

-- ---- cells

module _ (t : List ℕ) (from : ℕ) (P : ℕ → ℕ → Type 0) where
  pub filled_none : Filled t from 0 P t
  filled_none =
      record { long = refl; new = λ i b. absurd (omega arith); before = λ at b. refl; behind = λ at b. refl }

  pub filled_more : (n : ℕ) (l : List ℕ) (x : ℕ) → from + n < length t → Filled t from n P l → P n x
      → Filled t from (n + 1) P (set l (from + n) x)
  filled_more n l x inside so_far holds =
      record {
        long = length-set l (from + n) x ∙ so_far.long;
        new = λ i b. by_cases (ℕ_discrete i n) (here i) (λ ne. there i ne (so_far.new i (omega arith)));
        before = λ at b. get_or-set_other l (from + n) at x 0 (λ q. omega arith) ∙ so_far.before at b;
        behind = λ at b. get_or-set_other l (from + n) at x 0 (λ q. omega arith) ∙ so_far.behind at (omega arith);
      }
    where
      here : (i : ℕ) → i ≡ n → P i (get_or (set l (from + n) x) (from + i) 0)
      here i e =
          subst (λ (k : ℕ). P k (get_or (set l (from + n) x) (from + k) 0)) (sym e)
          (subst (P n) (sym (get_or-set_same l (from + n) x 0 (omega (arith, so_far.long)))) holds)

      there : (i : ℕ) → i ≢ n → P i (get_or l (from + i) 0) → P i (get_or (set l (from + n) x) (from + i) 0)
      there i ne = subst (P i) (sym (get_or-set_other l (from + n) (from + i) x 0 (λ q. ne (omega arith))))

  pub filled_all : (n m : ℕ) (l : List ℕ) → n ≡ m → Filled t from n P l → Filled t from m P l
  filled_all n m l e = subst (λ (k : ℕ). Filled t from k P l) e

-- A part of the table is written at once.
pub filled_part : (t : List ℕ) (from n : ℕ) (P : ℕ → ℕ → Type 0) (xs : List ℕ) → from + n ≤ length t → length xs ≡ n
    → ((i : ℕ) → i < n → P i (get_or xs i 0)) → Filled t from n P (put_mid from n t xs)
filled_part t from n P xs inside long here =
    record {
      long = omega (arith, length-append {A = ℕ}, length-take {A = ℕ}, length-drop {A = ℕ});
      new = λ i b. subst (P i) (new_at i b) (here i b);
      before = λ at b. search (rules, places);
      behind = λ at b. search (rules, places);
    }
  where
    new_at : (i : ℕ) → i < n → get_or xs i 0 ≡ get_or (put_mid from n t xs) (from + i) 0
    new_at i b = search (rules, places)

-- ---- sets

pub passing_none : (test : ℕ → Bool) → Passing 0 test 0
passing_none test =
    record {
      low = omega arith;
      member = λ k. has_none k ∙ sym (ap (λ (b : Bool). b && test k) (le-ltb k 0 (omega arith)));
    }

module _ {n : ℕ} {test : ℕ → Bool} {set : ℕ} (h : Passing n test set) where
  pub passing_yes : {x : ℕ} → n < most → test n ≡ true → x ≡ bit_or set (2 ^ n) → Passing (n + 1) test x
  passing_yes {x} b y e =
      record {
        low = rw e (or_lt most set (2 ^ n) h.low (pow-lt b));
        member = λ k. ap (λ (z : ℕ). has z k) e ∙ has_with set n k ∙ next k;
      }
    where
      next : (k : ℕ) → (has set k || eqb k n) ≡ (ltb k (n + 1) && test k)
      next k = grind (arith, nat_tests, h.member k)

  pub passing_no : {x : ℕ} → test n ≡ false → x ≡ set → Passing (n + 1) test x
  passing_no y e = rw e (record { low = h.low; member = λ k. grind (arith, nat_tests, h.member k) })
