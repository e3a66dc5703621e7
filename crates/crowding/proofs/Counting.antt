-- What a turn of the loop that counts what may yet be contested keeps.
use Prim.Native.Nat.{ℕ, ◌+◌, ◌^◌, ◌≤◌, ◌<◌}
use native.Mathlib.Decide.{ℕ_discrete, dec_lt}
use native.Mathlib.Omega.{arith}
use mathlib.Core.Bool.{Bool, true, false, not, ◌&&◌, ◌||◌, or-true}
use mathlib.Core.List.{List}
use mathlib.Core.Logic.{◌≢◌, by_cases}
use mathlib.Core.Path.{◌≡◌, sym, ap, ◌∙◌}
use borrow.Author.Tests.{eq-eqb, eqb-true}
use lib.Bits.{bit_or}
use lib.Dec.{eqb}
use Rattle.base.specs.Below.{sum_below}
use Rattle.base.proofs.Below.{sum_eq_but, sum_zero}
use Rattle.base.proofs.Bools.{by_bool, true_not_false}
use Rattle.sets.specs.Sets.{most, has}
use Rattle.sets.proofs.Laws.{has_none, has_with}
use Rattle.sets.proofs.Turns.{Turn, turn_has}
use Rattle.instance.specs.Instance.{own_of}
use Rattle.instance.specs.Table.{tight_of}
use Rattle.crowding.specs.Crowd.{is_extra, crowd}
use Rattle.crowding.proofs.Crowd.{one, extra_loose, extra_after, extra_first, crowd_le}

-- Those of `rest` that are extra in `all`.
abbrev to_count : List ℕ → ℕ → ℕ → ℕ
to_count t all rest = sum_below most λ i. one (has rest i && is_extra t all i)

-- Those looked at are the lowest; their components are seen, and of them `many` are extra.
pub record Counting (t : List ℕ) (all many seen rest : ℕ) : Type 0 where
  pub low : rest < 2 ^ most
  pub inside : (j : ℕ) → has rest j ≡ true → has all j ≡ true
  pub before : (j k : ℕ) → has all j ≡ true → has rest j ≡ false → has rest k ≡ true → j < k
  pub marked : (j : ℕ) → has all j ≡ true → has rest j ≡ false → has seen (own_of t j) ≡ true
  pub only : (c : ℕ) → has seen c ≡ true
      → (j : ℕ) × (has all j ≡ true) × (has rest j ≡ false) × (own_of t j ≡ c)
  pub count : many + to_count t all rest ≡ crowd t all

module _ (t : List ℕ) (all : ℕ) where
  pub counting : all < 2 ^ most → Counting t all 0 0 all
  unfolding crowd
  counting h =
      record {
        low = h;
        inside = λ j y. y;
        before = λ j k y n y'. true_not_false y n;
        marked = λ j y n. true_not_false y n;
        only = λ c y. true_not_false y (has_none c);
        count = omega arith;
      }

  module _ {many seen rest : ℕ} (so_far : Counting t all many seen rest) where
    pub counted_few : many ≤ most
    counted_few = omega (arith, so_far.count, crowd_le t all)

    pub counted : rest ≡ 0 → many ≡ crowd t all
    counted none =
        omega (
          arith,
          so_far.count,
          sum_zero most (λ i. one (has rest i && is_extra t all i))
              (λ i l. ap (λ (b : Bool). one (b && is_extra t all i)) (ap (λ (x : ℕ). has x i) none ∙ has_none i)),
        )

    module _ {rest' i : ℕ} (turn : Turn rest rest' i) (first : (k : ℕ) → k < i → has rest k ≡ false) where
      extra_is : (not (has (tight_of t) i) || has seen (own_of t i)) ≡ is_extra t all i
      extra_is =
          by_bool (has (tight_of t) i)
          (λ tight.
          ap (λ (b : Bool). not b || has seen (own_of t i)) tight
          ∙ by_bool (has seen (own_of t i))
          (λ y.
          let (j, there, past, on) = so_far.only (own_of t i) y in
          y ∙ sym (extra_after t all i j (so_far.before j i there past turn.there) there on))
          (λ n.
          n ∙ sym (extra_first t all i tight
          (λ k l y on. true_not_false (so_far.marked k y (first k l)) (ap (has seen) on ∙ n)))))
          (λ loose.
          ap (λ (b : Bool). not b || has seen (own_of t i)) loose ∙ sym (extra_loose t all i loose))

      one_less : to_count t all rest ≡ to_count t all rest' + one (is_extra t all i)
      one_less =
          sum_eq_but most (λ j. one (has rest j && is_extra t all j)) (λ j. one (has rest' j && is_extra t all j)) i
          (one (is_extra t all i)) turn.below
          (λ j l ne. ap (λ (b : Bool). one (b && is_extra t all j)) (sym (turn.others j ne)))
          (omega (
            arith,
            ap (λ (b : Bool). one (b && is_extra t all i)) turn.there,
            ap (λ (b : Bool). one (b && is_extra t all i)) turn.gone,
          ))

      past_is : (j : ℕ) → has all j ≡ true → has rest' j ≡ false → j ≢ i → has rest j ≡ false
      past_is j y n ne = sym (turn.others j ne) ∙ n

      -- i is looked at besides.
      pub counting_more : (many' : ℕ) → many' ≡ many + one (not (has (tight_of t) i) || has seen (own_of t i))
          → Counting t all many' (bit_or seen (2 ^ own_of t i)) rest'
      counting_more many' more =
          record {
            low = turn.low;
            inside = λ j y. so_far.inside j (turn_has turn j y);
            before =
                λ j k y n y'.
                by_cases (ℕ_discrete j i)
                (λ e.
                by_cases (dec_lt i k) (λ l. omega (arith, e))
                (λ g.
                by_cases (ℕ_discrete k i)
                (λ q. true_not_false y' (ap (has rest') q ∙ turn.gone))
                (λ ne. true_not_false (turn_has turn k y') (first k (omega (arith, ne))))))
                (λ ne. so_far.before j k y (past_is j y n ne) (turn_has turn k y'));
            marked =
                λ j y n.
                has_with seen (own_of t i) (own_of t j)
                ∙ by_cases (ℕ_discrete j i)
                (λ e.
                ap (λ (b : Bool). has seen (own_of t j) || b) (eq-eqb (own_of t j) (own_of t i) (ap (own_of t) e))
                ∙ or-true (has seen (own_of t j)))
                (λ ne.
                ap (λ (b : Bool). b || eqb (own_of t j) (own_of t i)) (so_far.marked j y (past_is j y n ne)));
            only =
                λ c y.
                by_bool (has seen c)
                (λ y'.
                let (j, there, past, on) = so_far.only c y' in
                let gone = turn.others j (λ e. true_not_false turn.there (ap (has rest) (sym e) ∙ past)) ∙ past in
                (j, there, gone, on))
                (λ n. (
                  i,
                  so_far.inside i turn.there,
                  turn.gone,
                  sym (eqb-true c (own_of t i)
                      (sym (has_with seen (own_of t i) c ∙ ap (λ (b : Bool). b || eqb c (own_of t i)) n) ∙ y)),
                ));
            count = omega (arith, more, ap one extra_is, one_less, so_far.count);
          }
