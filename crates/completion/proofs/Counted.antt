-- No time is later than a session can end: it is no later than as many durations as activities are not left, where one
-- that is placed and ends on the scan-line counts as one of these.
use Prim.Native.Nat.{ℕ, ◌+◌, ◌-◌, ◌^◌, ◌≤◌, ◌<◌}
use native.Mathlib.Decide.{ℕ_discrete}
use native.Mathlib.Omega.{arith}
use mathlib.Core.Bool.{Bool, true, false, not, ◌&&◌, and-false, and-true}
use mathlib.Core.List.{List}
use mathlib.Core.Logic.{◌≢◌, by_cases}
use mathlib.Core.Path.{◌≡◌, refl, sym, ap, ◌∙◌}
use lib.Bits.{bit_and}
use lib.Dec.{eqb}
use borrow.Author.Tests.{eq-eqb, ne_eqb, eqb-true, not-true, not-false}
use Rattle.base.proofs.Bools.{true_not_false, both, and_left, and_right}
use Rattle.base.proofs.Below.{every_fails}
use Rattle.plan.specs.Limits.{longest_duration, latest_possible}
use Rattle.sets.specs.Sets.{most, has}
use Rattle.sets.proofs.Laws.{has_some, has_and, has_without, size_le, size_more, size_sub, size_without}
use Rattle.scan.specs.Scan.{Diagram}
use Rattle.scan.specs.Scan.{is_direct, is_loose, right_end}
use Rattle.instance.specs.Instance.{own_of, Instance}
use Rattle.instance.specs.Table.{acts_of, project_in}
use Rattle.steps.specs.Steps.{loose_in, finish_at}
use Rattle.steps.specs.declared.Line.{Line}
use Rattle.steps.proofs.Sets.{loose_is, loose_there}
use Rattle.unbranched.specs.Position.{Position, bound_of}

-- Those left whose durations are still to come; the tick is no later than the others allow.
pub record Counted (t : List ℕ) (l : Line) (w : List ℕ) (coming : ℕ) : Type 0 where
  pub inside : (i : ℕ) → has coming i ≡ true → has l.left i ≡ true
  pub tick : l.tick ≤ bound_of coming
  pub other : (i : ℕ) → has l.left i ≡ true → has coming i ≡ false
      → (has (loose_in l) i ≡ true) × (finish_at t w i ≡ l.tick)

-- One that is placed and ends on the scan-line.
module _ (t : List ℕ) (given : Instance t) (l : Line) (w : List ℕ) (d : Diagram) (at : Position t l w d) where
  record Ending : Type 0 where
    pub who : ℕ
    pub loose : has (loose_in l) who ≡ true
    pub ends : finish_at t w who ≡ l.tick

  ending : l.due ≢ 0 → Ending
  unfolding project_in
  ending some =
      let (c, b, y) = has_some most l.due at.sets.due_low some in
      let test : ℕ → Bool = λ i. is_direct (project_in t) (own_of t) d i && eqb (own_of t i) c in
      let (i, li, fails) = every_fails (acts_of t) (λ i. not (test i)) (not-true _ (at.contested c y)) in
      let direct : is_direct (project_in t) (own_of t) d i ≡ true =
      and_left (is_direct (project_in t) (own_of t) d i) (eqb (own_of t i) c) (not-false (test i) fails) in
      let free : is_loose (project_in t) (own_of t) d i ≡ true =
      and_left (is_loose (project_in t) (own_of t) d i) (eqb (right_end (project_in t) (own_of t) d i) d.tick) direct in
      let loose : has (loose_in l) i ≡ true =
      loose_there t given l w d at.shows d.tick at.stands i (and_left (d.placed i) (not (d.frozen i)) free)
      (not-true (d.frozen i) (and_right (d.placed i) (not (d.frozen i)) free)) in
      record {
        who = i;
        loose = loose;
        ends =
            omega (
              arith,
              at.shows.loose i loose,
              at.shows.tick,
              eqb-true (right_end (project_in t) (own_of t) d i) d.tick
                  (and_right (is_loose (project_in t) (own_of t) d i)
                  (eqb (right_end (project_in t) (own_of t) d i) d.tick) direct),
            );
      }

  pub counted : (coming : ℕ) × Counted t l w coming
  counted =
      by_cases (ℕ_discrete l.due 0)
      (λ none. (
        l.left,
        record { inside = λ i y. y; tick = at.bounded.passed none; other = λ i y n. true_not_false y n },
      ))
      (λ some.
      let one : Ending = ending some in
      let i : ℕ = one.who in
      let left : has l.left i ≡ true = (loose_is l i one.loose).1 in
      let low : i < most = omega (arith, at.sets.left i left, given.laid.acts) in
      let is : (k : ℕ) → has (l.left - 2 ^ i) k ≡ (has l.left k && not (eqb k i)) =
      λ k. has_without l.left i k left in (
        l.left - 2 ^ i,
        record {
          inside = λ k y. and_left (has l.left k) (not (eqb k i)) (sym (is k) ∙ y);
          tick =
              omega (
                arith,
                at.bounded.tick,
                size_without most l.left i low left,
                size_le most l.left,
              );
          other =
              λ k y n.
              by_cases (ℕ_discrete k i)
              (λ q. (ap (has (loose_in l)) q ∙ one.loose, ap (finish_at t w) q ∙ one.ends))
              (λ ne. true_not_false (is k ∙ both y (ap not (ne_eqb k i ne))) n);
        },
      ))

  pub tick_early : l.tick ≤ latest_possible
  tick_early = let (coming, counts) = counted in omega (arith, counts.tick)

-- Fewer are left.
pub bound_less : (a b : ℕ) → ((i : ℕ) → has a i ≡ true → has b i ≡ true) → bound_of b ≤ bound_of a
bound_less a b h = omega (arith, size_sub most a b h, size_le most b)

-- One fewer to come makes room for a duration.
pub bound_turn : (rest coming i : ℕ) → i < most → has rest i ≡ true → has coming i ≡ true
    → bound_of (bit_and rest coming) + longest_duration ≤ bound_of (bit_and (rest - 2 ^ i) coming)
bound_turn rest coming i low there counts =
    let is : (k : ℕ) → has (bit_and (rest - 2 ^ i) coming) k ≡ (has rest k && not (eqb k i) && has coming k) =
    λ k. has_and (rest - 2 ^ i) coming k ∙ ap (◌&& has coming k) (has_without rest i k there) in
    omega (
      arith,
      size_le most (bit_and rest coming),
      size_more most (bit_and rest coming) (bit_and (rest - 2 ^ i) coming) i low
          (has_and rest coming i ∙ both there counts)
          (is i ∙ ap (λ (x : Bool). has rest i && not x && has coming i) (eq-eqb i i refl)
          ∙ ap (◌&& has coming i) (and-false (has rest i)))
          (λ k ne.
          has_and rest coming k
          ∙ sym
          (is k ∙ ap (λ (x : Bool). has rest k && not x && has coming k) (ne_eqb k i ne)
          ∙ ap (◌&& has coming k) (and-true (has rest k)))),
    )
