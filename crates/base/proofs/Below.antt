-- Facts about "every number below n", the sum below n and the largest below n. Two sums or two maxima are compared
-- term by term.
use Prim.Native.Nat.{ℕ, zero, suc, ◌+◌, ◌*◌, ◌≤◌, ◌<◌, zero-le}
use native.Mathlib.Nat.{not-suc-le-zero, le_antisymm}
use native.Mathlib.Decide.{ℕ_discrete, dec_le}
use native.Mathlib.Omega.{arith}
use mathlib.Core.Bool.{Bool, true, false, cond, ◌&&◌}
use mathlib.Core.Path.{◌≡◌, refl, sym, ◌∙◌, ap, ap₂}
use mathlib.Core.Logic.{◌≢◌, by_cases}
use lib.Dec.{eqb}
use borrow.Author.Tests.{eq-eqb, ne_eqb}
use Rattle.base.proofs.Bools.{by_bool, true_not_false, both, and_left, and_right, not_both, cond_true}
use Rattle.base.proofs.Bools.{cond_false}
use Rattle.base.specs.Below.{every_below, sum_below, max_below, ◌implies◌}

-- implications and choices

pub implies_elim : (a b : Bool) → (a implies b) ≡ true → a ≡ true → b ≡ true
implies_elim true b e h = e
implies_elim false b e h = true_not_false h refl

pub implies_intro : (a b : Bool) → (a ≡ true → b ≡ true) → (a implies b) ≡ true
implies_intro true b f = f refl
implies_intro false b f = refl

pub implies_fails : (a b : Bool) → (a implies b) ≡ false → (a ≡ true) × (b ≡ false)
implies_fails true b e = (refl, e)
implies_fails false b e = true_not_false refl e

pub cond_le : (b : Bool) (x : ℕ) → cond b x 0 ≤ x
cond_le true x = omega arith
cond_le false x = zero-le

pub cond_mono : (a b : Bool) (x : ℕ) → (a ≡ true → b ≡ true) → cond a x 0 ≤ cond b x 0
cond_mono true b x f = omega (arith, cond_true x 0 (f refl))
cond_mono false b x f = zero-le

-- every number below n

pub every_at : (n : ℕ) (f : ℕ → Bool) → every_below n f ≡ true → (i : ℕ) → i < n → f i ≡ true
unfolding every_below
every_at zero f e i h = absurd (not-suc-le-zero h)
every_at (suc n) f e i h =
    by_cases
    (ℕ_discrete i n)
    (λ q. rw q (and_right (every_below n f) (f n) e))
    (λ ne. every_at n f (and_left (every_below n f) (f n) e) i (omega arith))

pub every_of : (n : ℕ) (f : ℕ → Bool) → ((i : ℕ) → i < n → f i ≡ true) → every_below n f ≡ true
unfolding every_below
every_of zero f h = refl
every_of (suc n) f h = both (every_of n f (λ i l. h i (omega arith))) (h n (omega arith))

pub every_same : (n : ℕ) (f g : ℕ → Bool) → ((i : ℕ) → i < n → f i ≡ g i) → every_below n f ≡ every_below n g
unfolding every_below
every_same zero f g h = refl
every_same (suc n) f g h = ap₂ ◌&&◌ (every_same n f g (λ i l. h i (omega arith))) (h n (omega arith))

pub every_fails : (n : ℕ) (f : ℕ → Bool) → every_below n f ≡ false → (i : ℕ) × (i < n) × (f i ≡ false)
unfolding every_below
every_fails zero f e = true_not_false refl e
every_fails (suc n) f e =
    by_bool
    (every_below n f)
    (λ y. (n, omega arith, not_both (every_below n f) (f n) e y))
    (λ no'. let (i, l, x) = every_fails n f no' in (i, omega arith, x))

-- sums

pub sum_le : (n : ℕ) (f g : ℕ → ℕ) → ((i : ℕ) → i < n → f i ≤ g i) → sum_below n f ≤ sum_below n g
unfolding sum_below
sum_le zero f g h = zero-le
sum_le (suc n) f g h = omega (arith, sum_le n f g (λ i l. h i (omega arith)), h n (omega arith))

pub sum_eq : (n : ℕ) (f g : ℕ → ℕ) → ((i : ℕ) → i < n → f i ≡ g i) → sum_below n f ≡ sum_below n g
sum_eq n f g h = le_antisymm (sum_le n f g (λ i l. omega (arith, h i l))) (sum_le n g f (λ i l. omega (arith, h i l)))

-- A sum of more terms, and of more that are 0.
pub sum_more : (n m : ℕ) (f : ℕ → ℕ) → n ≤ m → sum_below n f ≤ sum_below m f
unfolding sum_below
sum_more n zero f h = let e : n ≡ 0 = omega (arith, h) in rw e (omega arith)
sum_more n (suc m) f h =
    by_cases (ℕ_discrete n (suc m)) (λ e. rw e (omega arith))
    (λ ne. omega (arith, sum_more n m f (omega (arith, h, ne))))

pub sum_stops : (n m : ℕ) (f : ℕ → ℕ) → n ≤ m → ((i : ℕ) → n ≤ i → i < m → f i ≡ 0) → sum_below m f ≤ sum_below n f
unfolding sum_below
sum_stops n zero f h none = zero-le
sum_stops n (suc m) f h none =
    by_cases (ℕ_discrete n (suc m)) (λ e. rw e (omega arith))
    (λ ne.
    omega (
      arith,
      sum_stops n m f (omega (arith, h, ne)) (λ i a b. none i a (omega (arith, b))),
      none m (omega (arith, h, ne)) (omega arith),
    ))

-- All terms of f are at most those of g, save the one at j.
pub sum_le_but : (n : ℕ) (f g : ℕ → ℕ) (j b c : ℕ) → j < n → ((i : ℕ) → i < n → i ≢ j → f i ≤ g i) → f j + b ≤ g j + c
    → sum_below n f + b ≤ sum_below n g + c
unfolding sum_below
sum_le_but zero f g j b c l h k = absurd (not-suc-le-zero l)
sum_le_but (suc n) f g j b c l h k =
    by_cases
    (ℕ_discrete j n)
    (λ q.
    let m : f n + b ≤ g n + c = rw q at k in
    omega (arith, sum_le n f g (λ i l'. h i (omega arith) (omega arith))))
    (λ ne.
    omega (
      arith,
      sum_le_but n f g j b c (omega arith) (λ i l'. h i (omega arith)) k,
      h n (omega arith) (omega arith),
    ))

pub sum_eq_but : (n : ℕ) (f g : ℕ → ℕ) (j c : ℕ) → j < n → ((i : ℕ) → i < n → i ≢ j → f i ≡ g i) → f j ≡ g j + c
    → sum_below n f ≡ sum_below n g + c
sum_eq_but n f g j c l h k =
    omega (
      arith,
      sum_le_but n f g j 0 c l (λ i l' ne. omega (arith, h i l' ne)) (omega arith),
      sum_le_but n g f j c 0 l (λ i l' ne. omega (arith, h i l' ne)) (omega arith),
    )

pub sum_zero : (n : ℕ) (f : ℕ → ℕ) → ((i : ℕ) → i < n → f i ≡ 0) → sum_below n f ≡ 0
unfolding sum_below
sum_zero zero f h = refl
sum_zero (suc n) f h = omega (arith, sum_zero n f (λ i l. h i (omega arith)), h n (omega arith))

-- Terms from n on that are 0.
pub sum_front : (n m : ℕ) (f : ℕ → ℕ) → n ≤ m → ((i : ℕ) → n ≤ i → f i ≡ 0) → sum_below m f ≡ sum_below n f
unfolding sum_below
sum_front n zero f le none = let e : zero ≡ n = omega arith in ap (λ (k : ℕ). sum_below k f) e
sum_front n (suc m) f le none =
    by_cases
    (dec_le n m)
    (λ l. omega (arith, sum_front n m f l none, none m l))
    (λ g. let e : suc m ≡ n = omega arith in ap (λ (k : ℕ). sum_below k f) e)

pub sum_term : (n : ℕ) (f : ℕ → ℕ) (i : ℕ) → i < n → f i ≤ sum_below n f
sum_term n f i l =
    omega
    (arith, sum_le_but n (λ k. 0) f i (f i) 0 l (λ k l' ne. zero-le) (omega arith))

pub sum_two : (n : ℕ) (f : ℕ → ℕ) (i j : ℕ) → i < n → j < n → i ≢ j → f i + f j ≤ sum_below n f
sum_two n f i j l m ne =
    let only : ℕ → ℕ = λ k. cond (eqb k i) (f k) 0 in
    let at_i : only i ≡ f i = cond_true (f i) 0 (eq-eqb i i refl) in
    let at_j : only j ≡ 0 = cond_false (f j) 0 (ne_eqb j i (λ q. ne (sym q))) in
    omega (
      arith,
      sum_term n only i l,
      sum_le_but n only f j (f j) 0 m (λ k l' ne'. cond_le (eqb k i) (f k)) (omega arith),
    )

pub sum_some : (n : ℕ) (f : ℕ → ℕ) → 0 < sum_below n f → (i : ℕ) × (i < n) × (0 < f i)
unfolding sum_below
sum_some zero f h = absurd (omega arith)
sum_some (suc n) f h =
    by_cases
    (ℕ_discrete (f n) 0)
    (λ z. let (i, l, x) = sum_some n f (omega arith) in (i, omega arith, x))
    (λ ne. (n, omega arith, omega arith))

-- At most one term is not 0.
pub sum_single : (n : ℕ) (f : ℕ → ℕ) (b c : ℕ) → b ≤ c → ((i : ℕ) → i < n → f i + b ≤ c)
    → ((i j : ℕ) → i < n → j < n → 0 < f i → 0 < f j → i ≡ j) → sum_below n f + b ≤ c
unfolding sum_below
sum_single zero f b c l low single = omega arith
sum_single (suc n) f b c l low single =
    by_cases
    (ℕ_discrete (f n) 0)
    (λ z.
    omega (
      arith,
      sum_single n f b c l (λ i m. low i (omega arith)) (λ i j m k. single i j (omega arith) (omega arith)),
    ))
    (λ ne.
    let rest : sum_below n f ≡ 0 =
    sum_zero
    n
    f
    (λ i m.
    by_cases
    (ℕ_discrete (f i) 0)
    (λ z. z)
    (λ ne'. absurd (omega (arith, single i n (omega arith) (omega arith) (omega arith) (omega arith)))))
    in
    omega (arith, low n (omega arith)))

-- And none is above 1.
pub sum_one : (n : ℕ) (f : ℕ → ℕ) → ((i : ℕ) → i < n → f i ≤ 1)
    → ((i j : ℕ) → i < n → j < n → 0 < f i → 0 < f j → i ≡ j) → sum_below n f ≤ 1
sum_one n f low single = omega (arith, sum_single n f 0 1 (omega arith) (λ i l. omega (arith, low i l)) single)

pub sum_const : (n : ℕ) (f : ℕ → ℕ) (c : ℕ) → ((i : ℕ) → i < n → f i ≤ c) → sum_below n f ≤ n * c
unfolding sum_below
sum_const zero f c h = zero-le
sum_const (suc n) f c h = omega (arith, sum_const n f c (λ i l. h i (omega arith)), h n (omega arith))

-- d terms in a row that are at least u.
pub sum_window : (n : ℕ) (f : ℕ → ℕ) (a d u : ℕ) → a + d ≤ n → ((i : ℕ) → a ≤ i → i < a + d → u ≤ f i)
    → d * u ≤ sum_below n f
unfolding sum_below
sum_window n f a zero u l h = omega arith
sum_window zero f a (suc d) u l h = absurd (omega arith)
sum_window (suc n) f a (suc d) u l h =
    by_cases
    (dec_le (a + suc d) n)
    (λ b. omega (arith, sum_window n f a (suc d) u b h))
    (λ b.
    omega (arith, sum_window n f a d u (omega arith) (λ i x y. h i x (omega arith)), h n (omega arith) (omega arith)))

pub sum_add : (n : ℕ) (f g : ℕ → ℕ) → sum_below n (λ i. f i + g i) ≡ sum_below n f + sum_below n g
unfolding sum_below
sum_add zero f g = refl
sum_add (suc n) f g = omega (arith, sum_add n f g)

pub sum_swap : (m n : ℕ) (f : ℕ → ℕ → ℕ)
    → sum_below m (λ i. sum_below n (f i)) ≡ sum_below n (λ j. sum_below m (λ i. f i j))
unfolding sum_below
sum_swap zero n f = sym (sum_zero n (λ j. 0) (λ j l. refl))
sum_swap (suc m) n f =
    ap (◌+ sum_below n (f m)) (sum_swap m n f) ∙ sym (sum_add n (λ j. sum_below m (λ i. f i j)) (f m))

-- maxima

pub max_term : (n : ℕ) (f : ℕ → ℕ) (i : ℕ) → i < n → f i ≤ max_below n f
unfolding max_below
max_term zero f i l = absurd (not-suc-le-zero l)
max_term (suc n) f i l =
    by_cases
    (ℕ_discrete i n)
    (λ q. let m : f i ≡ f n = ap f q in omega arith)
    (λ ne. omega (arith, max_term n f i (omega arith)))

pub max_least : (n : ℕ) (f : ℕ → ℕ) (b : ℕ) → ((i : ℕ) → i < n → f i ≤ b) → max_below n f ≤ b
unfolding max_below
max_least zero f b h = zero-le
max_least (suc n) f b h = omega (arith, max_least n f b (λ i l. h i (omega arith)), h n (omega arith))

pub max_reached : (n : ℕ) (f : ℕ → ℕ) → 0 < max_below n f → (i : ℕ) × (i < n) × (max_below n f ≡ f i)
unfolding max_below
max_reached zero f h = absurd (omega arith)
max_reached (suc n) f h =
    by_cases
    (dec_le (max_below n f) (f n))
    (λ l. (n, omega arith, omega arith))
    (λ g. let (i, l, e) = max_reached n f (omega arith) in (i, omega arith, omega arith))

-- Of those that are chosen.
pub max_chosen : (n : ℕ) (chosen : ℕ → Bool) (f : ℕ → ℕ) (b : ℕ) → ((i : ℕ) → i < n → f i ≤ b)
    → max_below n (λ i. cond (chosen i) (f i) 0) ≤ b
max_chosen n chosen f b h =
    max_least n (λ i. cond (chosen i) (f i) 0) b (λ i l. omega (arith, cond_le (chosen i) (f i), h i l))

pub max_le : (n : ℕ) (f g : ℕ → ℕ) → ((i : ℕ) → i < n → f i ≤ g i) → max_below n f ≤ max_below n g
max_le n f g h = max_least n f (max_below n g) (λ i l. omega (arith, h i l, max_term n g i l))

pub max_eq : (n : ℕ) (f g : ℕ → ℕ) → ((i : ℕ) → i < n → f i ≡ g i) → max_below n f ≡ max_below n g
max_eq n f g h = le_antisymm (max_le n f g (λ i l. omega (arith, h i l))) (max_le n g f (λ i l. omega (arith, h i l)))
