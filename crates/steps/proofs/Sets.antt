-- The sets of a line by their members.
use Prim.Native.Nat.{ℕ}
use mathlib.Core.Bool.{true, false, not, ◌&&◌}
use mathlib.Core.List.{List}
use mathlib.Core.Path.{◌≡◌, sym, ap, ◌∙◌}
use borrow.Author.Tests.{not-true}
use Rattle.base.proofs.Bools.{by_bool, true_not_false, both, and_left, and_right}
use Rattle.sets.specs.Sets.{has}
use Rattle.sets.proofs.Laws.{has_and, has_minus}
use Rattle.scan.specs.Scan.{Diagram}
use Rattle.scan_exact.proofs.Standing.{Standing}
use Rattle.instance.specs.Instance.{Instance}
use Rattle.instance.specs.Table.{present_of, project_in}
use Rattle.steps.specs.Steps.{frozen_in, running_in, waiting_in, loose_in}
use Rattle.steps.specs.Shown.{Shows}
use Rattle.steps.specs.declared.Line.{Line}
use Rattle.steps.proofs.Given.{has_is}

module _ (l : Line) (i : ℕ) where
  -- Placed, and left or not.
  pub frozen_of : has l.placed i ≡ true → has l.left i ≡ false → has (frozen_in l) i ≡ true
  frozen_of y z = has_minus l.placed l.left i ∙ both y (ap not z)

  pub frozen_is : has (frozen_in l) i ≡ true → (has l.placed i ≡ true) × (has l.left i ≡ false)
  frozen_is y =
      let two : (has l.placed i && not (has l.left i)) ≡ true = sym (has_minus l.placed l.left i) ∙ y in (
        and_left (has l.placed i) (not (has l.left i)) two,
        not-true (has l.left i) (and_right (has l.placed i) (not (has l.left i)) two),
      )

  pub loose_of : has l.placed i ≡ true → has l.left i ≡ true → has (loose_in l) i ≡ true
  loose_of y z = has_and l.placed l.left i ∙ both y z

  pub loose_is : has (loose_in l) i ≡ true → (has l.placed i ≡ true) × (has l.left i ≡ true)
  loose_is y =
      let two : (has l.placed i && has l.left i) ≡ true = sym (has_and l.placed l.left i) ∙ y in
      (and_left (has l.placed i) (has l.left i) two, and_right (has l.placed i) (has l.left i) two)

  pub waiting_of : has l.left i ≡ true → has l.placed i ≡ false → has (waiting_in l) i ≡ true
  waiting_of y z = has_minus l.left l.placed i ∙ both y (ap not z)

  pub waiting_is : has (waiting_in l) i ≡ true → (has l.left i ≡ true) × (has l.placed i ≡ false)
  waiting_is y =
      let two : (has l.left i && not (has l.placed i)) ≡ true = sym (has_minus l.left l.placed i) ∙ y in (
        and_left (has l.left i) (not (has l.placed i)) two,
        not-true (has l.placed i) (and_right (has l.left i) (not (has l.placed i)) two),
      )

  pub running_of : has l.term i ≡ true → has l.left i ≡ false → has (running_in l) i ≡ true
  running_of y z = has_minus l.term l.left i ∙ both y (ap not z)

  pub running_is : has (running_in l) i ≡ true → (has l.term i ≡ true) × (has l.left i ≡ false)
  running_is y =
      let two : (has l.term i && not (has l.left i)) ≡ true = sym (has_minus l.term l.left i) ∙ y in (
        and_left (has l.term i) (not (has l.left i)) two,
        not-true (has l.left i) (and_right (has l.term i) (not (has l.left i)) two),
      )

-- In the diagram that a line shows.
module _ (t : List ℕ) (given : Instance t) (l : Line) (w : List ℕ) (d : Diagram) (shows : Shows t l w d) (line : ℕ)
    (standing : Standing (project_in t) d line) (i : ℕ) where
  -- What is left is present and not frozen.
  pub left_is : has l.left i ≡ true → (has (present_of t) i ≡ true) × (d.frozen i ≡ false)
  left_is y =
      let two : (has (present_of t) i && not (d.frozen i)) ≡ true = sym (shows.left i) ∙ y in (
        and_left (has (present_of t) i) (not (d.frozen i)) two,
        not-true (d.frozen i) (and_right (has (present_of t) i) (not (d.frozen i)) two),
      )

  pub left_of : has (present_of t) i ≡ true → d.frozen i ≡ false → has l.left i ≡ true
  left_of y z = shows.left i ∙ both y (ap not z)

  -- What is in T and not left is frozen.
  pub running_frozen : has (running_in l) i ≡ true → d.frozen i ≡ true
  running_frozen y =
      let (term, off) = running_is l i y in
      by_bool (d.frozen i) (λ f. f)
      (λ z.
      true_not_false (left_of (has_is t given i (standing.known i (shows.term i ∙ term))) z) off)

  pub running_there : d.frozen i ≡ true → d.term i ≡ true → has (running_in l) i ≡ true
  running_there f y =
      running_of l i (sym (shows.term i) ∙ y) (frozen_is l i (sym (shows.frozen i) ∙ f)).1

  -- What is placed and not frozen.
  pub loose_there : d.placed i ≡ true → d.frozen i ≡ false → has (loose_in l) i ≡ true
  loose_there y z =
      loose_of l i (sym (shows.placed i) ∙ y) (left_of (has_is t given i (standing.inside i y)) z)

  pub loose_shown : has (loose_in l) i ≡ true → (d.placed i ≡ true) × (d.frozen i ≡ false)
  loose_shown y = let (placed, left) = loose_is l i y in (shows.placed i ∙ placed, (left_is left).1)
