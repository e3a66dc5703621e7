-- The rows of the box and the list of sessions: a row is a session exactly if it is active and has the mark at every
-- absent activity; every active schedule has its row there; and the rows stand in the order of their starts.
use Prim.Native.Nat.{ℕ, zero, suc, ◌+◌, ◌≤◌, ◌<◌}
use native.Mathlib.Nat.{not-suc-le-zero, suc-ne-zero, zero-add}
use native.Mathlib.Omega.{arith}
use mathlib.Core.Bool.{true, false, cond}
use mathlib.Core.Path.{◌≡◌, refl, sym, ◌∙◌, ap, subst}
use mathlib.Core.List.{List, [], ◌∷◌, map, Memᴰ, Nodup}
use mathlib.Core.List.{Pairwise, Pairwise-singleton}
use lib.ListN.{length, get_or}
use lib.Seq.{ext_get_or}
use Rattle.schedule.specs.Project.{Project}
use Rattle.schedule.specs.Schedule.{Starts, active, makespan}
use Rattle.schedule.specs.Sessions.{rows, horizon, starts_of, sessions}
use Rattle.base.proofs.Bools.{by_bool, true_not_false, cond_true, cond_false}
use Rattle.schedule.proofs.Load.{Has, Sound, Unfixed}
use Rattle.schedule.proofs.Reflect.{Feasible, Active, active_is, active_of}
use Rattle.schedule.proofs.Agree.{Agree, Active-agree, makespan_agree}
use Rattle.schedule.proofs.Compact.{Shorter, compact_makespan}
use Rattle.schedule.proofs.Bounds.{starts_below_horizon}
use Rattle.base.specs.Order.{Before}
use Rattle.base.proofs.Order.{before_prop, cons_before, cons_ordered, ordered_nodup}
use Rattle.base.proofs.Lists.{keep_is, keep_mem, keep_pairwise, gather_is, gather_mem, gather_pairwise}
pub use Rattle.schedule.specs.Facts.{SessionRow}

-- A row for the activities from number k on, of which there are n more.
pub record BoxRow (p : Project) (mark k n : ℕ) (row : List ℕ) : Type 0 where
  pub long : length row ≡ n
  pub inside : (i : ℕ) → i < n → p.present (k + i) ≡ true → get_or row i 0 < horizon p
  pub marked : (i : ℕ) → i < n → p.present (k + i) ≡ false → get_or row i 0 ≡ mark

row_cons : (p : Project) (mark k n t : ℕ) (row : List ℕ)
    → (p.present k ≡ true → t < horizon p)
    → (p.present k ≡ false → t ≡ mark)
    → BoxRow p mark (suc k) n row
    → BoxRow p mark k (suc n) (t ∷ row)
row_cons p mark k n t row here away r = record { long = ap suc r.long; inside = inside; marked = marked }
  where
    inside : (i : ℕ) → i < suc n → p.present (k + i) ≡ true → get_or (t ∷ row) i 0 < horizon p
    inside zero l y = here (subst (λ (j : ℕ). p.present j ≡ true) (omega arith) y)
    inside (suc i) l y = r.inside i (omega arith) (subst (λ (j : ℕ). p.present j ≡ true) (omega arith) y)

    marked : (i : ℕ) → i < suc n → p.present (k + i) ≡ false → get_or (t ∷ row) i 0 ≡ mark
    marked zero l y = away (subst (λ (j : ℕ). p.present j ≡ false) (omega arith) y)
    marked (suc i) l y = r.marked i (omega arith) (subst (λ (j : ℕ). p.present j ≡ false) (omega arith) y)

pub box_row_is : (p : Project) (mark k n : ℕ) (row : List ℕ) → Memᴰ row (rows p mark k n) → BoxRow p mark k n row
unfolding rows
box_row_is p mark k zero row m =
    rw
    (mathlib.Core.List.Memᴰ.eq_of_singleton m)
    (record { long = refl; inside = λ i l. absurd (not-suc-le-zero l); marked = λ i l. absurd (not-suc-le-zero l) })
box_row_is p mark k (suc n) row m =
    by_bool
    (p.present k)
    (λ y.
    let (t, l, m') = gather_is (horizon p) (λ t. map (t ∷◌) (rows p mark (suc k) n)) (rw y at m) in
    let (rest, m'', e) = mathlib.Core.List.Memᴰ.of_map (t ∷◌) (rows p mark (suc k) n) m' in
    rw (← e) (row_cons p mark k n t rest (λ _. l) (λ z. true_not_false y z) (box_row_is p mark (suc k) n rest m'')))
    (λ z.
    let (rest, m'', e) = mathlib.Core.List.Memᴰ.of_map (mark ∷◌) (rows p mark (suc k) n) (rw z at m) in
    rw (← e)
    (row_cons p mark k n mark rest (λ y. true_not_false y z) (λ _. refl) (box_row_is p mark (suc k) n rest m'')))

row_rest : (p : Project) (mark k n t : ℕ) (row : List ℕ) → BoxRow p mark k (suc n) (t ∷ row)
    → BoxRow p mark (suc k) n row
row_rest p mark k n t row r =
    record {
      long = omega (arith, r.long);
      inside = λ i l y. r.inside (suc i) (omega arith) (subst (λ (j : ℕ). p.present j ≡ true) (omega arith) y);
      marked = λ i l y. r.marked (suc i) (omega arith) (subst (λ (j : ℕ). p.present j ≡ false) (omega arith) y);
    }

pub row_mem : (p : Project) (mark k n : ℕ) (row : List ℕ) → BoxRow p mark k n row → Memᴰ row (rows p mark k n)
unfolding rows
row_mem p mark k zero [] r = mathlib.Core.List.Memᴰ.head refl
row_mem p mark k zero (x ∷ xs) r = absurd (suc-ne-zero (length xs) r.long)
row_mem p mark k (suc n) [] r = absurd (suc-ne-zero n (sym r.long))
row_mem p mark k (suc n) (x ∷ xs) r =
    let rest : Memᴰ xs (rows p mark (suc k) n) = row_mem p mark (suc k) n xs (row_rest p mark k n x xs r) in
    by_bool
    (p.present k)
    (λ y.
    rw y
    (gather_mem
    (horizon p)
    (λ t. map (t ∷◌) (rows p mark (suc k) n))
    x
    (r.inside 0 (omega arith) (subst (λ (j : ℕ). p.present j ≡ true) (omega arith) y))
    (mathlib.Core.List.Memᴰ.map (x ∷◌) rest)))
    (λ z.
    rw z
    (mathlib.Core.List.Memᴰ.cast
    (ap (◌∷ xs) (r.marked 0 (omega arith) (subst (λ (j : ℕ). p.present j ≡ false) (omega arith) z)))
    (mathlib.Core.List.Memᴰ.map (mark ∷◌) rest)))

rows_ordered : (p : Project) (mark k n : ℕ) → Pairwise Before (rows p mark k n)
unfolding rows
rows_ordered p mark k zero = Pairwise-singleton Before []
rows_ordered p mark k (suc n) =
    let rest : (t : ℕ) → Pairwise Before (map (t ∷◌) (rows p mark (suc k) n)) =
    λ t. cons_ordered t (rows p mark (suc k) n) (rows_ordered p mark (suc k) n)
    in
    by_bool
    (p.present k)
    (λ y.
    rw y
    (gather_pairwise before_prop (horizon p) (λ t. map (t ∷◌) (rows p mark (suc k) n)) (λ t l. rest t)
    (λ t u l a b m m'.
    cons_before t u l a b (rows p mark (suc k) n) (rows p mark (suc k) n) m m')))
    (λ z. rw z (rest mark))

-- Sessions.

pub session_is : (p : Project) (mark : ℕ) (row : List ℕ) → Memᴰ row (sessions p mark) → SessionRow p mark row
unfolding sessions
session_is p mark row m =
    let (inbox, y) = keep_is (λ x. active p (starts_of x)) (rows p mark 0 p.size) m in
    let r : BoxRow p mark 0 p.size row = box_row_is p mark 0 p.size row inbox in
    record {
      long = r.long;
      marked = λ i l z. r.marked i l (rw zero-add z);
      is_active = active_is p (starts_of row) y;
    }

-- Where the mark is no start of the box, the absent activities are those that carry it.
pub session_unmarked : (p : Project) (mark : ℕ) (row : List ℕ) → Memᴰ row (sessions p mark) → horizon p ≤ mark
    → (i : ℕ) → Has p i → starts_of row i < mark
unfolding sessions
session_unmarked p mark row m far i h =
    let inbox : Memᴰ row (rows p mark 0 p.size) =
    (keep_is (λ x. active p (starts_of x)) (rows p mark 0 p.size) m).0 in
    omega (arith, (box_row_is p mark 0 p.size row inbox).inside i h.below (rw zero-add h.there))

pub session_mem : (p : Project) (mark : ℕ) (row : List ℕ) → Sound p → SessionRow p mark row
    → Memᴰ row (sessions p mark)
unfolding sessions
session_mem p mark row sound s =
    keep_mem
    (λ x. active p (starts_of x))
    (rows p mark 0 p.size)
    (row_mem
    p
    mark
    0
    p.size
    row
    (record {
      long = s.long;
      inside =
          λ i l y.
          starts_below_horizon p (starts_of row) sound s.is_active i
          (record { below = l; there = rw zero-add at y });
      marked = λ i l z. s.marked i l (rw zero-add at z);
    }))
    (active_of p (starts_of row) s.is_active)

-- They stand in the order of their starts, and so none is there twice.
pub sessions_ordered : (p : Project) (mark : ℕ) → Pairwise Before (sessions p mark)
unfolding sessions
sessions_ordered p mark =
    keep_pairwise (λ x. active p (starts_of x)) (rows p mark 0 p.size) (rows_ordered p mark 0 p.size)

pub sessions_nodup : (p : Project) (mark : ℕ) → Nodup (sessions p mark)
sessions_nodup p mark = ordered_nodup (sessions p mark) (sessions_ordered p mark)

-- The row of a schedule.

unfoldable pub row_from : Project → ℕ → Starts → ℕ → ℕ → List ℕ
row_from p mark S k zero = []
row_from p mark S k (suc n) = cond (p.present k) (S k) mark ∷ row_from p mark S (suc k) n

abbrev pub row_of : Project → ℕ → Starts → List ℕ
row_of p mark S = row_from p mark S 0 p.size

row_long : (p : Project) (mark : ℕ) (S : Starts) (k n : ℕ) → length (row_from p mark S k n) ≡ n
unfolding row_from
row_long p mark S k zero = refl
row_long p mark S k (suc n) = ap suc (row_long p mark S (suc k) n)

row_at : (p : Project) (mark : ℕ) (S : Starts) (k n i : ℕ) → i < n
    → get_or (row_from p mark S k n) i 0 ≡ cond (p.present (k + i)) (S (k + i)) mark
unfolding row_from
row_at p mark S k zero i l = absurd (not-suc-le-zero l)
row_at p mark S k (suc n) zero l = ap (λ (j : ℕ). cond (p.present j) (S j) mark) (omega arith)
row_at p mark S k (suc n) (suc i) l =
    row_at p mark S (suc k) n i (omega arith) ∙ ap (λ (j : ℕ). cond (p.present j) (S j) mark) (omega arith)

pub row_of_at : (p : Project) (mark : ℕ) (S : Starts) (i : ℕ) → i < p.size
    → starts_of (row_of p mark S) i ≡ cond (p.present i) (S i) mark
row_of_at p mark S i l = row_at p mark S 0 p.size i l ∙ rw zero-add

pub row_of_agrees : (p : Project) (mark : ℕ) (S : Starts) → Agree p S (starts_of (row_of p mark S))
row_of_agrees p mark S i h = sym (row_of_at p mark S i h.below ∙ cond_true (S i) mark h.there)

-- Every active schedule has its row in the list.
pub row_of_session : (p : Project) (mark : ℕ) (S : Starts) → Active p S → SessionRow p mark (row_of p mark S)
row_of_session p mark S a =
    record {
      long = row_long p mark S 0 p.size;
      marked = λ i l z. row_of_at p mark S i l ∙ cond_false (S i) mark z;
      is_active = Active-agree p S (starts_of (row_of p mark S)) (row_of_agrees p mark S) a;
    }

-- A session is its starts.
pub session_ext : (p : Project) (mark : ℕ) (row row' : List ℕ) → SessionRow p mark row → SessionRow p mark row'
    → Agree p (starts_of row) (starts_of row') → row ≡ row'
session_ext p mark row row' s s' a =
    ext_get_or
    0
    row
    row'
    (s.long ∙ sym s'.long)
    (λ i l.
    let l' : i < p.size = omega (arith, s.long) in
    by_bool
    (p.present i)
    (λ y. a i (record { below = l'; there = y }))
    (λ z. s.marked i l' z ∙ sym (s'.marked i l' z)))

-- For every feasible schedule there is a session that is no longer.
pub no_longer_session : (p : Project) (mark : ℕ) (S : Starts) → Unfixed p → Feasible p S
    → (row : List ℕ) × SessionRow p mark row × (makespan p (starts_of row) ≤ makespan p S)
no_longer_session p mark S unfixed f =
    let c : Shorter p S = compact_makespan p S unfixed f in
    let row : List ℕ = row_of p mark c.into in
    let same : makespan p c.into ≡ makespan p (starts_of row) =
    makespan_agree p c.into (starts_of row) (row_of_agrees p mark c.into) in
    (row, row_of_session p mark c.into c.is_active, omega (arith, c.no_longer))
