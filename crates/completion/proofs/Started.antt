-- The loop at its start: what is placed and not frozen is open, and what waits for nothing that is left.
use Prim.Native.Nat.{ℕ, ◌+◌, ◌<◌, max}
use native.Mathlib.Omega.{arith}
use mathlib.Core.Bool.{true, false, not, ◌&&◌, ◌||◌, or-true}
use mathlib.Core.List.{List}
use mathlib.Core.Path.{◌≡◌, refl, sym, ap, ◌∙◌, subst}
use lib.Bits.{bit_and, bit_or, or_lt}
use borrow.Author.Tests.{not-true}
use Rattle.base.proofs.Bools.{by_bool, true_not_false, both, and_left, and_right}
use Rattle.sets.specs.Sets.{most, has, meet}
use Rattle.sets.proofs.Laws.{has_and, has_or, meet_of, meet_none}
use Rattle.branching.proofs.Room.{Open}
use Rattle.scan.specs.Scan.{Diagram}
use Rattle.scan_exact.proofs.Standing.{placed_open}
use Rattle.instance.specs.Instance.{Instance}
use Rattle.instance.specs.Table.{preds_at, near_at, project_in}
use Rattle.profile.specs.Work.{end_at, latest_of, ready_from, free_from}
use Rattle.steps.specs.Steps.{frozen_in, loose_in, waiting_in}
use Rattle.steps.specs.declared.Line.{Line}
use Rattle.steps.proofs.Given.{has_is, has_of}
use Rattle.steps.proofs.Loops.{common_low}
use Rattle.steps.proofs.Ready.{frozen_below}
use Rattle.steps.proofs.Sets.{loose_is, loose_of, waiting_is, waiting_of, left_is, left_of, loose_shown}
use Rattle.unbranched.specs.Position.{Position, Beside, bound_of}
use Rattle.completion.specs.Rest.{Readies}
use Rattle.completion.proofs.Latest.{latest_same, latest_of_lem, latest_least}
use Rattle.completion.proofs.Earliest.{Beyond}
use Rattle.completion.proofs.Counted.{counted, bound_less}
use Rattle.completion.proofs.Completed.{Ripe, Ends, Completing, member_below, by_or}

module _ (t : List ℕ) (given : Instance t) (l : Line) (w : List ℕ) (d : Diagram) (at : Position t l w d)
    {w' : List ℕ} {first cands last : ℕ} (readies : Readies t l.tick l.left (waiting_in l) w w' first)
    (joined : cands ≡ bit_or (loose_in l) first) (latest : last ≡ latest_of w (frozen_in l)) where
  left_here : (k : ℕ) → has l.left k ≡ true → d.frozen k ≡ false
  left_here k y = (left_is t given l w d at.shows d.tick at.stands k y).1

  beyond_here : Beyond t l d d.frozen d.starts l.left
  beyond_here =
      record {
        node = at.stands.node;
        inside = λ k y. at.stands.inside k (at.stands.within k y);
        left = at.shows.left;
        within = λ k y. y;
        agrees = λ k f. refl;
        late = λ k y f. true_not_false f (left_here k y);
      }

  -- What was made ready.
  first_is : (j : ℕ) → has first j ≡ true
      → (has l.left j ≡ true) × (has l.placed j ≡ false) × (meet (preds_at t j) l.left ≡ false)
  first_is j y =
      let two : (has (waiting_in l) j && not (meet (preds_at t j) l.left)) ≡ true = sym (readies.found j) ∙ y in
      let (left, off) = waiting_is l j (and_left (has (waiting_in l) j) (not (meet (preds_at t j) l.left)) two) in (
        left,
        off,
        not-true (meet (preds_at t j) l.left)
            (and_right (has (waiting_in l) j) (not (meet (preds_at t j) l.left)) two),
      )

  end_same : (k : ℕ) → k < most → end_at w' k ≡ end_at w k
  end_same k b = readies.same k (λ j y q. omega (arith, b, q))

  beside_here : Beside t l w w'
  beside_here =
      record {
        timed = readies.timed;
        ends = λ k b n. end_same k b;
        ready =
            λ k b y.
            readies.same (ready_from + k)
            (λ j z q.
            true_not_false y
            (ap (has l.placed) {x = k} {y = j} (omega (arith, q)) ∙ (first_is j z).1));
        free =
            λ c b.
            readies.same (free_from + c) (λ j z q. omega (arith, member_below first j readies.low z, q));
      }

  frozen_has : (k : ℕ) → d.frozen k ≡ true → has (frozen_in l) k ≡ true
  frozen_has k f = sym (at.shows.frozen k) ∙ f

  frozen_same : (k : ℕ) → d.frozen k ≡ true → end_at w' k ≡ end_at w k
  frozen_same k f = end_same k (frozen_below t l w at.sets k (frozen_has k f))

  ends_here : (coming : ℕ) → Ends t w' d.frozen d.starts (bound_of (bit_and l.left coming)) last
  ends_here coming =
      record {
        ended = λ k f. at.shows.ended k (frozen_has k f) ∙ sym (frozen_same k f);
        early =
            λ k f.
            omega (
              arith,
              frozen_same k f,
              at.bounded.ends k (frozen_has k f),
              bound_less (bit_and l.left coming) l.left
                  (λ j y. and_left (has l.left j) (has coming j) (sym (has_and l.left coming j) ∙ y)),
            );
        upto =
            λ k f.
            omega (
              arith,
              latest,
              frozen_same k f,
              latest_of_lem w (frozen_in l) k (frozen_below t l w at.sets k (frozen_has k f)) (frozen_has k f),
            );
        least =
            λ x all.
            omega (
              arith,
              latest,
              latest_least w (frozen_in l) x
                  (λ k b y.
                  let f : d.frozen k ≡ true = at.shows.frozen k ∙ y in omega (arith, frozen_same k f, all k f)),
            );
      }

  -- What is open.
  has_joined : (j : ℕ) → has cands j ≡ (has (loose_in l) j || has first j)
  has_joined j = ap (λ (x : ℕ). has x j) joined ∙ has_or (loose_in l) first j

  first_open : (j : ℕ) → has first j ≡ true → Open (project_in t) d.frozen j
  unfolding project_in
  first_open j y =
      let (left, off, clear) = first_is j y in
      let (there, z) = left_is t given l w d at.shows d.tick at.stands j left in
      record {
        has = has_of t given j there;
        waits = z;
        freed =
            λ k h before.
            by_bool (d.frozen k) (λ f. f)
            (λ n.
            true_not_false
            (meet_of (preds_at t j) l.left k before
            (left_of t given l w d at.shows d.tick at.stands k (has_is t given k h) n))
            clear);
      }

  all_open : (j : ℕ) → Open (project_in t) d.frozen j → (has (loose_in l) j || has first j) ≡ true
  unfolding project_in
  all_open j o =
      let left : has l.left j ≡ true =
      left_of t given l w d at.shows d.tick at.stands j (has_is t given j o.has) o.waits in
      by_bool (has l.placed j) (λ y. ap (◌|| has first j) (loose_of l j y left))
      (λ off.
      ap (has (loose_in l) j ||◌)
      (readies.found j
      ∙ both (waiting_of l j left off)
      (ap not
      (meet_none most (preds_at t j) l.left
      (given.linked.preds_low j (omega (arith, o.has.below, given.laid.acts)))
      (λ k _ before left_k.
      let (there, z) = left_is t given l w d at.shows d.tick at.stands k left_k in
      true_not_false (o.freed k (has_of t given k there) before) z))))
      ∙ or-true (has (loose_in l) j))

  ripe_here : Ripe t l w' d.frozen cands
  ripe_here =
      record {
        low =
            omega (
              arith,
              joined,
              or_lt most (loose_in l) first (common_low l.placed l.left at.sets.placed_low) readies.low,
            );
        is_open =
            λ j y.
            by_or (has (loose_in l) j) (has first j) (sym (has_joined j) ∙ y)
            (λ z.
            let (there, n) = loose_shown t given l w d at.shows d.tick at.stands j z in
            placed_open (project_in t) d d.tick at.stands j there n)
            (first_open j);
        all = λ j o. has_joined j ∙ all_open j o;
        ready =
            λ j y off.
            by_or (has (loose_in l) j) (has first j) (sym (has_joined j) ∙ y)
            (λ z. true_not_false (loose_is l j z).0 off)
            (λ z.
            readies.ready j z
            ∙ ap (λ (x : ℕ). max x l.tick) (sym (latest_same w w' (near_at t j) (λ k b near. end_same k b))));
      }

  completing_first : Completing t l w d w' last l.left cands
  completing_first =
      let (coming, counts) = counted t given l w d at in
      record {
        F = d.frozen;
        S = d.starts;
        coming = coming;
        counts = counts;
        beyond = beyond_here;
        rows = λ rows all. all;
        beside = beside_here;
        ends = ends_here coming;
        ripe = ripe_here;
      }

-- The same by the sets that the code has.
pub completing_start : (t : List ℕ) → Instance t → (l : Line) (w : List ℕ) (d : Diagram) → Position t l w d
    → {w' : List ℕ} {waits loose first cands last : ℕ} → waits ≡ waiting_in l
    → Readies t l.tick l.left waits w w' first
    → loose ≡ loose_in l
    → cands ≡ bit_or loose first
    → last ≡ latest_of w (frozen_in l)
    → Completing t l w d w' last l.left cands
completing_start t given l w d at {w'} {first = first} is readies on joined =
    completing_first t given l w d at (subst (λ (x : ℕ). Readies t l.tick l.left x w w' first) is readies)
    (joined ∙ ap (λ (x : ℕ). bit_or x first) on)
