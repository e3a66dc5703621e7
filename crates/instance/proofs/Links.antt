-- The nearest predecessors, and the activities that come next.
use Prim.Native.Nat.{ℕ, ◌+◌, ◌^◌, ◌≤◌, ◌<◌}
use native.Mathlib.Decide.{ℕ_discrete, dec_lt}
use native.Mathlib.Omega.{arith}
use mathlib.Core.Bool.{Bool, true, false, not, ◌&&◌, ◌||◌, or-true, or-false}
use mathlib.Core.List.{List}
use mathlib.Core.Logic.{◌≢◌, by_cases}
use mathlib.Core.Path.{◌≡◌, refl, sym, ap, ap₂, ◌∙◌, subst}
use lib.Bits.{bit_and, bit_or, bit_xor, or_lt}
use lib.ListN.{length, get_or, set, length-set}
use lib.Pow.{pow-lt}
use lib.Seq.{get_or-set_same, get_or-set_other}
use borrow.Author.Tests.{eq-eqb, ne_eqb}
use Rattle.base.proofs.Bools.{by_bool, true_not_false, and_left, cond_true, cond_false}
use Rattle.sets.proofs.Laws.{has_none, has_with, has_minus, minus_low}
use Rattle.sets.specs.Sets.{most, has}
use Rattle.sets.proofs.Turns.{Turn, turn_has}
use Rattle.instance.specs.Table.{preds_at, next_at, near_at, preds_from, next_from, near_from, component_from, words}
use Rattle.instance.specs.Instance.{Between}
use Rattle.instance.specs.Steps.{with_if, Nearest, LinkedNext, Blank, Links}

-- ---- the nearest members of a set

-- The members before those of `rest` have been looked at.
pub record Nearing (t : List ℕ) (set near rest : ℕ) : Type 0 where
  pub so_far : Nearest t set near
  pub low : rest < 2 ^ most
  pub within : (k : ℕ) → has rest k ≡ true → has set k ≡ true

pub nearing_more : {t : List ℕ} {set near rest near' rest' i : ℕ} → Nearing t set near rest → Turn rest rest' i
    → near' ≡ bit_xor near (bit_and near (preds_at t i)) → Nearing t set near' rest'
nearing_more {t} {set} {near} {rest} {near'} {rest'} {i} h turn new =
    record {
      so_far =
          record {
            low = rw new (minus_low near (preds_at t i) h.so_far.low);
            inside =
                λ k e. h.so_far.inside k (and_left (has near k) (not (has (preds_at t i) k)) (sym (member k) ∙ e));
            far = λ k e n.
                by_bool
                (has near k)
                (λ there.
                by_bool
                (has (preds_at t i) k)
                (λ gone. (i, turn.below, h.within i turn.there, gone))
                (λ stays. true_not_false (member k ∙ ap₂ (λ (x y : Bool). x && not y) there stays) n))
                (λ out. h.so_far.far k e out);
          };
      low = turn.low;
      within = λ k e. h.within k (turn_has turn k e);
    }
  where
    member : (k : ℕ) → has near' k ≡ (has near k && not (has (preds_at t i) k))
    member k = ap (λ (x : ℕ). has x k) new ∙ has_minus near (preds_at t i) k

-- ---- the activities below n are linked

pub record Linking (t : List ℕ) (n : ℕ) (l : List ℕ) : Type 0 where
  pub long : length l ≡ length t
  pub next_low : (i : ℕ) → i < most → next_at l i < 2 ^ most
  pub near_low : (i : ℕ) → i < most → near_at l i < 2 ^ most
  pub near : (j k : ℕ) → j < most → has (near_at l j) k ≡ true → has (preds_at t j) k ≡ true
  pub far : (j k : ℕ) → j < n → has (preds_at t j) k ≡ true → has (near_at l j) k ≡ false → Between t j k
  pub next : (i j : ℕ) → i < most → j < most → has (next_at l i) j ≡ has (near_at l j) i
  pub none : (j : ℕ) → n ≤ j → j < most → near_at l j ≡ 0
  pub before : (at : ℕ) → at < next_from → get_or l at 0 ≡ get_or t at 0
  pub behind : (at : ℕ) → component_from ≤ at → get_or l at 0 ≡ get_or t at 0

pub linking_none : {acts : ℕ} {t : List ℕ} → Blank acts t → Linking t 0 t
linking_none {acts} {t} h =
    record {
      long = refl;
      next_low = λ i b. omega (arith, h.next_none i b);
      near_low = λ i b. omega (arith, h.near_none i b);
      near = λ j k b e. true_not_false e (blank_has (near_at t j) k (h.near_none j b));
      far = λ j k b. absurd (omega arith);
      next = λ i j b c. blank_has (next_at t i) j (h.next_none i b) ∙ sym (blank_has (near_at t j) i (h.near_none j c));
      none = λ j l b. h.near_none j b;
      before = λ at b. refl;
      behind = λ at b. refl;
    }
  where
    blank_has : (x k : ℕ) → x ≡ 0 → has x k ≡ false
    blank_has x k e = ap (λ (y : ℕ). has y k) e ∙ has_none k

-- Activity n gets its nearest predecessors x, and comes next after each of them.
module _ {t : List ℕ} {n : ℕ} {l : List ℕ} {x : ℕ} {r : List ℕ} (below : n < most) (long : length t ≡ words)
    (h : Linking t n l) (low : Nearest l (preds_at l n) x) (joined : LinkedNext (set l (near_from + n) x) x n r) where
  preds_same : (i : ℕ) → i < most → preds_at l i ≡ preds_at t i
  preds_same i b = h.before (preds_from + i) (omega arith)

  near_here : near_at r n ≡ x
  near_here =
      joined.behind (near_from + n) (omega arith) ∙ get_or-set_same l (near_from + n) x 0 (omega (arith, h.long))

  near_there : (j : ℕ) → j ≢ n → near_at r j ≡ near_at l j
  near_there j ne =
      joined.behind (near_from + j) (omega arith) ∙ get_or-set_other l (near_from + n) (near_from + j) x 0
      (λ q. ne (omega arith))

  next_is : (i : ℕ) → i < most → next_at r i ≡ with_if (has x i) (next_at l i) n
  next_is i b =
      joined.next i b ∙ ap (λ (y : ℕ). with_if (has x i) y n) (get_or-set_other l (near_from + n) (next_from + i) x 0
      (λ q. omega arith))

  next_true : (i : ℕ) → i < most → has x i ≡ true → next_at r i ≡ bit_or (next_at l i) (2 ^ n)
  next_true i b e = next_is i b ∙ cond_true (bit_or (next_at l i) (2 ^ n)) (next_at l i) e

  next_false : (i : ℕ) → i < most → has x i ≡ false → next_at r i ≡ next_at l i
  next_false i b e = next_is i b ∙ cond_false (bit_or (next_at l i) (2 ^ n)) (next_at l i) e

  -- what holds of every activity's nearest predecessors: of n's new ones, and of the others' old ones
  each : (P : ℕ → ℕ → Type 0) → P n x → ((j : ℕ) → j ≢ n → P j (near_at l j)) → (j : ℕ) → P j (near_at r j)
  each P new old j =
      by_cases
      (ℕ_discrete j n)
      (λ e. subst (λ (k : ℕ). P k (near_at r k)) (sym e) (subst (P n) (sym near_here) new))
      (λ ne. subst (P j) (sym (near_there j ne)) (old j ne))

  next_here : (i : ℕ) → i < most → has (next_at r i) n ≡ has x i
  next_here i b =
      by_bool
      (has x i)
      (λ e. ap (λ (y : ℕ). has y n) (next_true i b e) ∙ has_with (next_at l i) n n
      ∙ ap (λ (y : Bool). has (next_at l i) n || y) (eq-eqb n n refl) ∙ or-true (has (next_at l i) n) ∙ sym e)
      (λ e.
      ap (λ (y : ℕ). has y n) (next_false i b e) ∙ h.next i n b below
      ∙ ap (λ (y : ℕ). has y i) (h.none n (omega arith) below) ∙ has_none i ∙ sym e)

  next_there : (i j : ℕ) → i < most → j ≢ n → has (next_at r i) j ≡ has (next_at l i) j
  next_there i j b ne =
      by_bool
      (has x i)
      (λ e. ap (λ (y : ℕ). has y j) (next_true i b e) ∙ has_with (next_at l i) n j
      ∙ ap (λ (y : Bool). has (next_at l i) j || y) (ne_eqb j n ne) ∙ or-false (has (next_at l i) j))
      (λ e. ap (λ (y : ℕ). has y j) (next_false i b e))

  between : (k : ℕ) → has (preds_at t n) k ≡ true → has x k ≡ false → Between t n k
  between k e out =
      let m = low.far k (ap (λ (y : ℕ). has y k) (preds_same n below) ∙ e) out in
      record {
        other = m.0;
        below = m.1;
        after = ap (λ (y : ℕ). has y m.0) (sym (preds_same n below)) ∙ m.2;
        before = ap (λ (y : ℕ). has y k) (sym (preds_same m.0 m.1)) ∙ m.3;
      }

  pub linking_more : Linking t (n + 1) r
  linking_more =
      record {
        long = joined.long ∙ length-set l (near_from + n) x ∙ h.long;
        next_low = λ i b.
            by_bool
            (has x i)
            (λ e. omega (arith, next_true i b e, or_lt most (next_at l i) (2 ^ n) (h.next_low i b) (pow-lt below)))
            (λ e. omega (arith, next_false i b e, h.next_low i b));
        near_low = each (λ j y. j < most → y < 2 ^ most) (λ b. low.low) (λ j ne. h.near_low j);
        near = λ j k. each (λ i y. i < most → has y k ≡ true → has (preds_at t i) k ≡ true)
            (λ b e. ap (λ (y : ℕ). has y k) (sym (preds_same n below)) ∙ low.inside k e)
            (λ i ne. h.near i k)
            j;
        far = λ j k. each (λ i y. i < n + 1 → has (preds_at t i) k ≡ true → has y k ≡ false → Between t i k)
            (λ b. between k)
            (λ i ne b. h.far i k (omega arith))
            j;
        next = λ i j b. each (λ k y. k < most → has (next_at r i) k ≡ has y i)
            (λ c. next_here i b)
            (λ k ne c. next_there i k b ne ∙ h.next i k b c)
            j;
        none = λ j c b. near_there j (λ q. omega arith) ∙ h.none j (omega arith) b;
        before = λ p b. joined.before p b ∙ get_or-set_other l (near_from + n) p x 0 (λ q. omega arith) ∙ h.before p b;
        behind =
            λ p b. joined.behind p (omega arith) ∙ get_or-set_other l (near_from + n) p x 0 (λ q. omega arith)
            ∙ h.behind p b;
      }

pub linking_all : {acts n : ℕ} {t l : List ℕ} → Blank acts t → Linking t n l → n ≡ acts → Links t l
linking_all {acts} {n} {t} {l} blank h e =
    record {
      linked =
          record {
            preds_low = λ i b. omega (arith, same i b, blank.preds_low i b);
            next_low = h.next_low;
            near_low = h.near_low;
            near = λ j k b m. has_same j k b ∙ h.near j k b m;
            far = λ j k b m out. moved j k b (far j k b (sym (has_same j k b) ∙ m) out);
            next = h.next;
          };
      long = h.long;
      before = h.before;
      behind = h.behind;
    }
  where
    same : (i : ℕ) → i < most → preds_at l i ≡ preds_at t i
    same i b = h.before (preds_from + i) (omega arith)

    has_same : (i k : ℕ) → i < most → has (preds_at l i) k ≡ has (preds_at t i) k
    has_same i k b = ap (λ (y : ℕ). has y k) (same i b)

    far : (j k : ℕ) → j < most → has (preds_at t j) k ≡ true → has (near_at l j) k ≡ false → Between t j k
    far j k b m out =
        by_cases
        (dec_lt j n)
        (λ c. h.far j k c m out)
        (λ c. true_not_false m (ap (λ (y : ℕ). has y k) (blank.preds_none j (omega arith) b) ∙ has_none k))

    moved : (j k : ℕ) → j < most → Between t j k → Between l j k
    moved j k b m =
        record {
          other = m.other;
          below = m.below;
          after = has_same j m.other b
              ∙ m.after;
          before = has_same m.other k m.below ∙ m.before;
        }
