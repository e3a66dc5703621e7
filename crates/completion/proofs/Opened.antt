-- What opens once an open activity is frozen: what waited for it alone.
use Prim.Native.Nat.{ℕ, ◌-◌, ◌^◌, ◌<◌}
use native.Mathlib.Decide.{ℕ_discrete}
use native.Mathlib.Omega.{arith}
use mathlib.Core.Bool.{Bool, true, false, not, ◌&&◌, and-false, and-true}
use mathlib.Core.List.{List}
use mathlib.Core.Logic.{◌≢◌, ◌⊎◌, inl, inr, by_cases}
use mathlib.Core.Path.{◌≡◌, sym, ap, ◌∙◌}
use borrow.Author.Tests.{eq-eqb, ne_eqb, not-true}
use Rattle.base.proofs.Bools.{by_bool, true_not_false, both, and_left, and_right}
use Rattle.sets.specs.Sets.{most, has, meet}
use Rattle.sets.proofs.Laws.{has_without, meet_of, meet_none}
use Rattle.schedule.specs.Schedule.{Starts}
use Rattle.schedule.proofs.Load.{Has}
use Rattle.branching.proofs.Room.{Open, adding, adding_new, adding_other, adding_old, not_added}
use Rattle.branching.proofs.Node.{Node}
use Rattle.instance.specs.Instance.{Instance}
use Rattle.instance.specs.Table.{present_of, preds_at, next_at, near_at, project_in}
use Rattle.steps.proofs.Given.{has_is, has_of}

module _ (t : List ℕ) (given : Instance t) (F : ℕ → Bool) (S : Starts) (node : Node (project_in t) F S) (rest : ℕ)
    (left : (k : ℕ) → has rest k ≡ (has (present_of t) k && not (F k))) (i : ℕ) (o : Open (project_in t) F i) where
  below : (j : ℕ) → Has (project_in t) j → j < most
  unfolding project_in
  below j h = omega (arith, h.below, given.laid.acts)

  rests : has rest i ≡ true
  rests = left i ∙ both (has_is t given i o.has) (ap not o.waits)

  -- What is left then.
  pub left_next : (k : ℕ) → has (rest - 2 ^ i) k ≡ (has (present_of t) k && not (adding F i k))
  left_next k =
      has_without rest i k rests
      ∙ by_cases (ℕ_discrete k i)
      (λ q.
      ap (λ (b : Bool). has rest k && not b) (eq-eqb k i q)
      ∙ and-false (has rest k)
      ∙ sym (ap (λ (b : Bool). has (present_of t) k && not b) (ap (adding F i) q ∙ adding_new F i)
      ∙ and-false (has (present_of t) k)))
      (λ ne.
      ap (λ (b : Bool). has rest k && not b) (ne_eqb k i ne)
      ∙ and-true (has rest k)
      ∙ left k
      ∙ ap (λ (b : Bool). has (present_of t) k && not b) (sym (adding_other F i k ne)))

  -- It precedes what has it as a nearest predecessor.
  pub follows : (j : ℕ) → j < most → has (next_at t i) j ≡ true → has (preds_at t j) i ≡ true
  follows j low y = given.linked.near j i low (sym (given.linked.next i j (below i o.has) low) ∙ y)

  pub none_again : (j : ℕ) → Open (project_in t) F j → has (next_at t i) j ≡ false
  unfolding project_in
  none_again j oj =
      by_bool (has (next_at t i) j)
      (λ y. true_not_false (oj.freed i o.has (follows j (below j oj.has) y)) o.waits) (λ n. n)

  pub open_still : (j : ℕ) → Open (project_in t) F j → j ≢ i → Open (project_in t) (adding F i) j
  open_still j oj ne =
      record {
        has = oj.has;
        waits = adding_other F i j ne ∙ oj.waits;
        freed = λ k h c. adding_old F i k (oj.freed k h c);
      }

  pub next_open : (j : ℕ) → j < most → has (next_at t i) j ≡ true → meet (preds_at t j) (rest - 2 ^ i) ≡ false
      → Open (project_in t) (adding F i) j
  unfolding project_in
  next_open j low y clear =
      let before : has (preds_at t j) i ≡ true = follows j low y in
      let has_j : Has (project_in t) j = has_of t given j (given.ordered i j low before).1 in
      let waits : F j ≡ false =
      by_bool (F j)
      (λ f.
      true_not_false (node.closed i j o.has (record { below = has_j.below; there = f }) before) o.waits)
      (λ n. n) in
      record {
        has = has_j;
        waits = adding_other F i j (λ q. omega (arith, given.ranked i j low before, ap given.rank q)) ∙ waits;
        freed =
            λ k h c.
            by_bool (adding F i k) (λ f. f)
            (λ z.
            true_not_false
            (meet_of (preds_at t j) (rest - 2 ^ i) k c (left_next k ∙ both (has_is t given k h) (ap not z)))
            clear);
      }

  module _ (j : ℕ) (oj : Open (project_in t) (adding F i) j) where
    low_j : j < most
    low_j = below j oj.has

    -- What waited for it has it as a nearest predecessor.
    near_i : has (preds_at t j) i ≡ true → has (near_at t j) i ≡ true
    unfolding project_in
    near_i y =
        by_bool (has (near_at t j) i) (λ h. h)
        (λ far.
        let b = given.linked.far j i low_j y far in
        let m : ℕ = b.other in
        let has_m : Has (project_in t) m = has_of t given m (given.ordered m j low_j b.after).0 in
        let g : F m ≡ true =
        sym (adding_other F i m (λ q. omega (arith, given.ranked i m b.below b.before, ap given.rank q)))
        ∙ oj.freed m has_m b.after in
        true_not_false (node.closed i m o.has (record { below = has_m.below; there = g }) b.before) o.waits)

    clear_j : meet (preds_at t j) (rest - 2 ^ i) ≡ false
    unfolding project_in
    clear_j =
        meet_none most (preds_at t j) (rest - 2 ^ i) (given.linked.preds_low j low_j)
        (λ k _ before there.
        let two : (has (present_of t) k && not (adding F i k)) ≡ true = sym (left_next k) ∙ there in
        true_not_false
        (oj.freed k (has_of t given k (and_left (has (present_of t) k) (not (adding F i k)) two)) before)
        (not-true (adding F i k) (and_right (has (present_of t) k) (not (adding F i k)) two)))

    pub open_next : (Open (project_in t) F j × (j ≢ i))
        ⊎ ((has (next_at t i) j && not (meet (preds_at t j) (rest - 2 ^ i))) ≡ true)
    unfolding project_in
    open_next =
        by_bool (has (preds_at t j) i)
        (λ y.
        inr (both (given.linked.next i j (below i o.has) low_j ∙ near_i y) (ap not clear_j)))
        (λ n.
        let (ne, waits) = not_added F i j oj.waits in
        inl (
          record {
            has = oj.has;
            waits = waits;
            freed =
                λ k h c.
                sym (adding_other F i k (λ q. true_not_false c (ap (has (preds_at t j)) q ∙ n))) ∙ oj.freed k h c;
          },
          ne,
        ))
