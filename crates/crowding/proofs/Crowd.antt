-- How many of a set may yet be contested: when there are none and when there are some, and what one member fewer
-- changes.
use Prim.Native.Nat.{ℕ, suc, ◌+◌, ◌-◌, ◌^◌, ◌≤◌, ◌<◌}
use native.Mathlib.Nat.{lt_of_le_of_lt}
use native.Mathlib.Decide.{ℕ_discrete, dec_lt}
use native.Mathlib.Omega.{arith}
use mathlib.Core.Bool.{Bool, true, false, cond, not, ◌&&◌, ◌||◌, and-false, and-true, or-true}
use mathlib.Core.List.{List}
use mathlib.Core.Logic.{◌≢◌, by_cases}
use mathlib.Core.Path.{◌≡◌, refl, sym, ap, ap₂, ◌∙◌}
use borrow.Author.Tests.{lt-ltb, eq-eqb, ne_eqb, eqb-true, not-true}
use lib.Bits.{bit_and, and_le_l}
use lib.Dec.{ltb, eqb}
use Rattle.base.specs.Below.{every_below}
use Rattle.base.proofs.Below.{every_at, every_of, every_same, cond_le, sum_eq, sum_eq_but, sum_term, sum_some}
use Rattle.base.proofs.Below.{sum_const}
use Rattle.base.proofs.Bools.{by_bool, true_not_false, both, and_left, and_right, not_both}
use Rattle.sets.specs.Sets.{most, has}
use Rattle.sets.specs.Lowest.{lowest_of}
use Rattle.sets.proofs.Laws.{has_none, has_and, has_without, has_above}
use Rattle.sets.proofs.Members.{lowest_is}
use Rattle.instance.specs.Instance.{Laid, own_of, is_tight}
use Rattle.instance.specs.Table.{acts_of, component_at, tight_of}
use Rattle.steps.proofs.Own.{component_has, component_is, tight_with}
use Rattle.crowding.specs.Crowd.{is_extra, crowd, Acts}

-- ---- which are extra

abbrev pub one : Bool → ℕ
one b = cond b 1 0

abbrev counts : List ℕ → ℕ → ℕ → Bool
counts t set i = has set i && is_extra t set i

-- k is not in the set, or in another component than i.
abbrev is_other : List ℕ → ℕ → ℕ → ℕ → Bool
is_other t set i k = not (has set k && eqb (own_of t k) (own_of t i))

module _ (t : List ℕ) (set i : ℕ) where
  pub extra_loose : has (tight_of t) i ≡ false → is_extra t set i ≡ true
  unfolding is_extra
  extra_loose z = ap (λ (b : Bool). not b || not (every_below i (is_other t set i))) z

  not_first : (k : ℕ) → k < i → has set k ≡ true → own_of t k ≡ own_of t i → every_below i (is_other t set i) ≡ false
  not_first k l y on =
      by_bool (every_below i (is_other t set i))
      (λ e.
      true_not_false (both y (eq-eqb (own_of t k) (own_of t i) on))
      (not-true (has set k && eqb (own_of t k) (own_of t i))
      (every_at i (is_other t set i) e k l)))
      (λ n. n)

  pub extra_after : (k : ℕ) → k < i → has set k ≡ true → own_of t k ≡ own_of t i → is_extra t set i ≡ true
  unfolding is_extra
  extra_after k l y on =
      ap (λ (b : Bool). not (has (tight_of t) i) || not b) (not_first k l y on) ∙ or-true (not (has (tight_of t) i))

  pub extra_first : has (tight_of t) i ≡ true → ((k : ℕ) → k < i → has set k ≡ true → own_of t k ≡ own_of t i → ⊥)
      → is_extra t set i ≡ false
  unfolding is_extra
  extra_first y none =
      ap₂ (λ (a b : Bool). not a || not b) y
      (every_of i (is_other t set i)
      (λ k l.
      by_bool (has set k && eqb (own_of t k) (own_of t i))
      (λ e.
      absurd (none k l (and_left (has set k) (eqb (own_of t k) (own_of t i)) e)
      (eqb-true (own_of t k) (own_of t i) (and_right (has set k) (eqb (own_of t k) (own_of t i)) e))))
      (λ n. ap not n)))

-- Those of its component below it are the same.
extra_same : (t : List ℕ) (a b j : ℕ) → ((k : ℕ) → k < j → own_of t k ≡ own_of t j → has a k ≡ has b k)
    → is_extra t a j ≡ is_extra t b j
unfolding is_extra
extra_same t a b j same =
    ap (λ (x : Bool). not (has (tight_of t) j) || not x)
    (every_same j (is_other t a j) (is_other t b j)
    (λ k l.
    ap not (by_cases (ℕ_discrete (own_of t k) (own_of t j))
    (λ e. ap (λ (x : Bool). x && eqb (own_of t k) (own_of t j)) (same k l e))
    (λ ne.
    let apart = ne_eqb (own_of t k) (own_of t j) ne in
    ap (λ (x : Bool). has a k && x) apart ∙ and-false (has a k)
    ∙ sym (ap (λ (x : Bool). has b k && x) apart ∙ and-false (has b k))))))

-- ---- none, and some

pub crowd_le : (t : List ℕ) (set : ℕ) → crowd t set ≤ most
unfolding crowd
crowd_le t set =
    omega (arith, sum_const most (λ i. one (counts t set i)) 1 (λ i l. cond_le (counts t set i) 1))

pub crowd_some : (t : List ℕ) (set : ℕ) → 0 < crowd t set → 0 < set
unfolding crowd
crowd_some t set some =
    let (i, l, y) = sum_some most (λ i. one (counts t set i)) some in
    by_cases (ℕ_discrete set 0)
    (λ e.
    absurd (omega (
      arith,
      ap (λ (b : Bool). one (b && is_extra t set i)) (ap (λ (x : ℕ). has x i) e ∙ has_none i),
    )))
    (λ ne. omega arith)

module _ (t : List ℕ) (set : ℕ) (low : set < 2 ^ most) (z : crowd t set ≡ 0) where
  none_extra : (i : ℕ) → has set i ≡ true → is_extra t set i ≡ true → ⊥
  unfolding crowd
  none_extra i y extra =
      by_cases (dec_lt i most)
      (λ l. omega (arith, sum_term most (λ i. one (counts t set i)) i l, ap one (both y extra)))
      (λ g. true_not_false y (has_above most set i low (omega arith)))

  pub crowd_tight : (i : ℕ) → has set i ≡ true → has (tight_of t) i ≡ true
  crowd_tight i y =
      by_bool (has (tight_of t) i) (λ e. e) (λ n. absurd (none_extra i y (extra_loose t set i n)))

  pub crowd_sole : (i k : ℕ) → has set i ≡ true → has set k ≡ true → own_of t i ≡ own_of t k → i ≡ k
  crowd_sole i k y x on =
      by_cases (ℕ_discrete i k) (λ e. e)
      (λ ne.
      by_cases (dec_lt i k)
      (λ l. absurd (none_extra k x (extra_after t set k i l y on)))
      (λ g. absurd (none_extra i y (extra_after t set i k (omega arith) x (sym on)))))

-- ---- one member fewer

-- The set a is b with i.
module _ (t : List ℕ) (a b i : ℕ) (there : has a i ≡ true) (gone : has b i ≡ false)
    (others : (j : ℕ) → j ≢ i → has a j ≡ has b j) where
  off : counts t b i ≡ false
  off = ap (λ (x : Bool). x && is_extra t b i) gone

  counts_same : (j : ℕ) → j ≢ i → (has a j ≡ true → is_extra t a j ≡ is_extra t b j) → counts t a j ≡ counts t b j
  counts_same j ne same =
      by_bool (has a j)
      (λ y. ap₂ ◌&&◌ (others j ne) (same y))
      (λ n.
      ap (λ (x : Bool). x && is_extra t a j) n
      ∙ sym (ap (λ (x : Bool). x && is_extra t b j) (sym (others j ne) ∙ n)))

  -- In another component.
  elsewhere : (j : ℕ) → own_of t j ≢ own_of t i → is_extra t a j ≡ is_extra t b j
  elsewhere j ne = extra_same t a b j (λ k l on. others k (λ e. ne (sym on ∙ ap (own_of t) e)))

  -- The one at e is no longer counted, and the others as before.
  crowd_more : (e : ℕ) → e < most → counts t a e ≡ true → counts t b e ≡ false
      → ((j : ℕ) → j ≢ e → counts t a j ≡ counts t b j)
      → crowd t a ≡ suc (crowd t b)
  unfolding crowd
  crowd_more e l y n same =
      omega (
        arith,
        sum_eq_but most (λ j. one (counts t a j)) (λ j. one (counts t b j)) e 1 l (λ j m ne. ap one (same j ne))
            (ap one y ∙ sym (ap (λ (x : Bool). one x + 1) n)),
      )

  crowd_as : ((j : ℕ) → counts t a j ≡ counts t b j) → crowd t a ≡ crowd t b
  unfolding crowd
  crowd_as same = sum_eq most (λ j. one (counts t a j)) (λ j. one (counts t b j)) (λ j l. ap one (same j))

  alone : has (tight_of t) i ≡ true → ((k : ℕ) → has a k ≡ true → k ≢ i → own_of t k ≡ own_of t i → ⊥)
      → crowd t a ≡ crowd t b
  alone tight none =
      crowd_as
      (λ j.
      by_cases (ℕ_discrete j i)
      (λ e.
      ap (counts t a) e
      ∙ ap (λ (x : Bool). has a i && x)
      (extra_first t a i tight (λ k l y on. none k y (λ e. omega (arith, e)) on))
      ∙ and-false (has a i) ∙ sym (ap (counts t b) e ∙ off))
      (λ ne. counts_same j ne (λ y. elsewhere j (none j y ne))))

  module _ (laid : Laid t) (own : i < acts_of t) where
    loose_with : (j : ℕ) → own_of t j ≡ own_of t i → has (tight_of t) i ≡ false → has (tight_of t) j ≡ false
    loose_with j on z =
        let loose =
        not_both (ltb i (acts_of t)) (is_tight t (own_of t i)) (sym (laid.tight i) ∙ z) (lt-ltb i (acts_of t) own) in
        laid.tight j ∙ ap (λ (x : Bool). ltb j (acts_of t) && x) (ap (is_tight t) on ∙ loose)
        ∙ and-false (ltb j (acts_of t))

    loose : has (tight_of t) i ≡ false → crowd t a ≡ suc (crowd t b)
    loose z =
        crowd_more i (omega (arith, laid.acts)) (both there (extra_loose t a i z)) off
        (λ j ne.
        counts_same j ne
        (λ y.
        by_cases (ℕ_discrete (own_of t j) (own_of t i))
        (λ on. extra_loose t a j (loose_with j on z) ∙ sym (extra_loose t b j (loose_with j on z)))
        (elsewhere j)))

    -- m is the least other of its component, in which no two can run together. The greater of the two is extra as long
    -- as i is there.
    module _ (m : ℕ) (low : m < most) (kept : has b m ≡ true) (on : own_of t m ≡ own_of t i)
        (least : (k : ℕ) → has b k ≡ true → own_of t k ≡ own_of t i → m ≤ k) (tight : has (tight_of t) i ≡ true)
        (tight_m : has (tight_of t) m ≡ true) where
      other : m ≢ i
      other e = true_not_false kept (ap (has b) e ∙ gone)

      in_a : has a m ≡ true
      in_a = others m other ∙ kept

      behind : (j : ℕ) → j ≢ i → has a j ≡ true → (j ≡ m → is_extra t a j ≡ is_extra t b j)
          → is_extra t a j ≡ is_extra t b j
      behind j ne y at =
          by_cases (ℕ_discrete (own_of t j) (own_of t i))
          (λ e.
          by_cases (ℕ_discrete j m) at
          (λ ne'.
          let l : m < j = omega (arith, least j (sym (others j ne) ∙ y) e, ne') in
          extra_after t a j m l in_a (on ∙ sym e) ∙ sym (extra_after t b j m l kept (on ∙ sym e))))
          (elsewhere j)

      after : m < i → crowd t a ≡ suc (crowd t b)
      after l =
          crowd_more i (omega (arith, laid.acts)) (both there (extra_after t a i m l in_a on)) off
          (λ j ne.
          counts_same j ne
          (λ y. behind j ne y (λ e. extra_same t a b j (λ k l' on'. others k (λ q. omega (arith, q, e))))))

      first : i < m → crowd t a ≡ suc (crowd t b)
      first l =
          crowd_more m low (both in_a (extra_after t a m i l there (sym on)))
          (ap (λ (x : Bool). has b m && x)
          (extra_first t b m tight_m (λ k l' y on'. omega (arith, least k y (on' ∙ on))))
          ∙ and-false (has b m))
          (λ j ne.
          by_cases (ℕ_discrete j i)
          (λ e.
          ap (counts t a) e
          ∙ ap (λ (x : Bool). has a i && x)
          (extra_first t a i tight
          (λ k l' y on'. omega (arith, least k (sym (others k (λ q. omega (arith, q))) ∙ y) on')))
          ∙ and-false (has a i) ∙ sym (ap (counts t b) e ∙ off))
          (λ ne'. counts_same j ne' (λ y. behind j ne' y (λ e. absurd (ne e)))))

      either : crowd t a ≡ suc (crowd t b)
      either = by_cases (dec_lt m i) after (λ g. first (omega (arith, other)))

    beside : Acts t a → (k : ℕ) → has a k ≡ true → k ≢ i → own_of t k ≡ own_of t i → crowd t a ≡ suc (crowd t b)
    beside acts k y ne on =
        by_bool (has (tight_of t) i) (λ tight. go tight) loose
      where
        left : ℕ
        left = bit_and (component_at t i) b

        kept : (j : ℕ) → has b j ≡ true → j < acts_of t
        kept j y' = acts.below j (others j (λ e. true_not_false y' (ap (has b) e ∙ gone)) ∙ y')

        in_left : (j : ℕ) → has b j ≡ true → own_of t j ≡ own_of t i → has left j ≡ true
        in_left j y' on' = has_and (component_at t i) b j ∙ both (component_has t laid i j own (kept j y') on') y'

        left_low : left < 2 ^ most
        left_low =
            lt_of_le_of_lt (and_le_l (component_at t i) b) (laid.component_low i (omega (arith, laid.acts)))

        some : left ≢ 0
        some e =
            true_not_false (in_left k (sym (others k ne) ∙ y) on) (ap (λ (x : ℕ). has x k) e ∙ has_none k)

        go : has (tight_of t) i ≡ true → crowd t a ≡ suc (crowd t b)
        go tight =
            let low = lowest_is left left_low some in
            let m = lowest_of left in
            let two = sym (has_and (component_at t i) b m) ∙ low.member in
            let m_kept = and_right (has (component_at t i) m) (has b m) two in
            let m_on = component_is t laid i m own (and_left (has (component_at t i) m) (has b m) two) in
            either m low.inside m_kept m_on
            (λ j y' on'.
            by_cases (dec_lt j m) (λ l. true_not_false (in_left j y' on') (low.none j l)) (λ g. omega arith))
            tight
            (tight_with t laid i m own (kept m m_kept) m_on tight)

-- The set without i.
module _ (t : List ℕ) (set i : ℕ) (there : has set i ≡ true) where
  gone : has (set - 2 ^ i) i ≡ false
  gone =
      has_without set i i there ∙ ap (λ (b : Bool). has set i && not b) (eq-eqb i i refl) ∙ and-false (has set i)

  others : (j : ℕ) → j ≢ i → has set j ≡ has (set - 2 ^ i) j
  others j ne =
      sym (has_without set i j there ∙ ap (λ (b : Bool). has set j && not b) (ne_eqb j i ne) ∙ and-true (has set j))

  -- Two of its component can run together.
  pub crowd_loose : Laid t → i < acts_of t → has (tight_of t) i ≡ false → crowd t set ≡ suc (crowd t (set - 2 ^ i))
  crowd_loose = loose t set (set - 2 ^ i) i there gone others

  -- Another of its component is in the set.
  pub crowd_beside : Laid t → Acts t set → (k : ℕ) → has set k ≡ true → k ≢ i → own_of t k ≡ own_of t i
      → crowd t set ≡ suc (crowd t (set - 2 ^ i))
  crowd_beside laid acts = beside t set (set - 2 ^ i) i there gone others laid (acts.below i there) acts

  -- No two of its component can, and it is the only one of it.
  pub crowd_same : has (tight_of t) i ≡ true
      → ((k : ℕ) → has set k ≡ true → k ≢ i → own_of t k ≡ own_of t i → ⊥)
      → crowd t (set - 2 ^ i) ≡ crowd t set
  crowd_same tight none = sym (alone t set (set - 2 ^ i) i there gone others tight none)
