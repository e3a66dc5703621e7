-- The steps of the test, free of the code.
use Prim.Native.Nat.{ℕ, ◌+◌, ◌<◌}
use mathlib.Core.Bool.{Bool, true, false, ◌&&◌}
use mathlib.Core.List.{List}
use mathlib.Core.Path.{◌≡◌, refl, sym, ap, ◌∙◌}
use native.Mathlib.Nat.{sub-zero}
use native.Mathlib.Numerals.{add-one}
use native.Mathlib.Omega.{arith}
use lib.ListN.{get_or}
use Rattle.std.specs.Prelude.{Option}
use denote.Param.Members.{Mut}
use Rattle.std.proofs.iter.Yields.{nat_range_steps}
use Rattle.std.specs.Fn.{Called}
use Rattle.std.specs.Iterator.{YieldsThen}
use Rattle.std.specs.Option.{MatchOption}
use Rattle.std.specs.List.{FoldsTo, list_all, range_with_len}
use Rattle.std.proofs.lemmas.Iterator.{YieldsList-from_range}
use Rattle.std.proofs.lemmas.Iterator.Search.{all_from_yields_List}
use Rattle.std.proofs.lemmas.List.Sums.{AllPass-from_list_all, list_all-from_AllPass}
use Rattle.std.proofs.lemmas.List.FromFn.{length-range_with_len, get_or-range_with_len}
use Rattle.base.specs.Below.{every_below, sum_below}
use Rattle.base.proofs.Bools.{same_bool}
use Rattle.base.proofs.Below.{every_at, every_of}

-- A test of each number below n, one by one.
every_listed : (n : ℕ) (f : ℕ → Bool) → list_all f (range_with_len 0 n) ≡ every_below n f
every_listed n f =
    let ns : List ℕ = range_with_len 0 n in
    same_bool (list_all f ns) (every_below n f)
    (λ e. every_of n f (λ i l.
    let is : get_or ns i 0 ≡ i = omega (arith, get_or-range_with_len 0 n i 0 l) in
    ap f (sym is) ∙ AllPass-from_list_all f ns e i 0 (omega (arith, length-range_with_len 0 n))))
    (λ e. list_all-from_AllPass f ns (λ i d l.
    let small : i < n = omega (arith, length-range_with_len 0 n) in
    let is : get_or ns i d ≡ i = omega (arith, get_or-range_with_len 0 n i d small) in
    ap f is ∙ every_at n f e i small))

-- What `all` of a range answers, by the test that its closure computes.
pub every_by_all :
    {F : Type 0} {g : Mut F (ℕ × Unit {0}) Bool} (n : ℕ) (f : ℕ → Bool) (u : _) (h : F) (r : Bool)
    → (xs : List ℕ) × (o : Option ℕ) × (j : F) × YieldsThen nat_range_steps (record { start = 0; end = n }) xs o u
    × FoldsTo (λ p x q. Called g p (x, tt) true q) h xs j
    × MatchOption o (r ≡ true) (λ x. (r ≡ false) × ((k : F) × Called g j (x, tt) false k))
    → ((x : ℕ) (b : Bool) (q : F) → Called g h (x, tt) b q → (q ≡ h) × (b ≡ f x))
    → r ≡ every_below n f
every_by_all n f u h r ran says =
    all_from_yields_List f u h r ran (YieldsList-from_range 0 n n refl (sub-zero n)) says ∙ every_listed n f

-- A sum over the numbers below i, and one more.
pub sum_none : (f : ℕ → ℕ) → 0 ≡ sum_below 0 f
unfolding sum_below
sum_none f = refl

pub sum_more : (f : ℕ → ℕ) (i : ℕ) {held next : ℕ} → held ≡ sum_below i f → next ≡ held + f i → next ≡ sum_below (i + 1) f
unfolding sum_below
sum_more f i e h = rw add-one (h ∙ ap (λ (k : ℕ). k + f i) e)

-- Three tests, one after another.
module _ (a b c : Bool) {r : Bool} where
  pub third_says : a ≡ true → b ≡ true → r ≡ c → r ≡ (a && b && c)
  third_says e h k = rw (e, h) k

  pub second_fails : a ≡ true → b ≡ false → r ≡ false → r ≡ (a && b && c)
  second_fails e h k = rw (e, h) k

  pub first_fails : a ≡ false → r ≡ false → r ≡ (a && b && c)
  first_fails e k = rw e k
