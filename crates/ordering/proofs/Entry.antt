-- A position of the search at which all that is left is placed, in one component in which no two can run together, and
-- starts before the scan-line.
use Prim.Native.Nat.{ℕ, ◌+◌, ◌≤◌, ◌<◌}
use native.Mathlib.Omega.{arith}
use mathlib.Core.Bool.{Bool, true, false, cond}
use mathlib.Core.List.{List}
use mathlib.Core.Path.{◌≡◌, sym, ap, ◌∙◌, subst}
use Rattle.base.proofs.Bools.{true_not_false}
use Rattle.base.proofs.Below.{max_eq}
use Rattle.sets.specs.Sets.{most, has}
use Rattle.branching.proofs.Room.{Soonest}
use Rattle.scan.specs.Scan.{Diagram}
use Rattle.scan_exact.proofs.Standing.{placed_open, ends_late}
use Rattle.instance.specs.Instance.{own_of, Instance}
use Rattle.instance.specs.Table.{duration_at, own_at, tight_of, project_in}
use Rattle.instance.proofs.Own.{own_is}
use Rattle.profile.specs.Work.{end_at, free_at, soon_at, latest_of, ready_from, free_from}
use Rattle.tally.specs.Seen.{Kept}
use Rattle.steps.specs.Steps.{frozen_in, loose_in}
use Rattle.steps.specs.declared.Line.{Line}
use Rattle.steps.proofs.Given.{has_is}
use Rattle.steps.proofs.Sets.{loose_of, loose_shown}
use Rattle.steps.proofs.Free.{tight_after}
use Rattle.unbranched.specs.Position.{Position, Explored}
use Rattle.ordering.specs.Lone.{from_at, Lone, Ordered}

module _ (t : List ℕ) (given : Instance t) (l : Line) (w : List ℕ) (c latest : ℕ)
    (placed : (i : ℕ) → has l.left i ≡ true → has l.placed i ≡ true)
    (tight : (i : ℕ) → has l.left i ≡ true → has (tight_of t) i ≡ true)
    (own : (i : ℕ) → has l.left i ≡ true → own_at t i ≡ c)
    (early : (i : ℕ) → has l.left i ≡ true → soon_at t w i < l.tick)
    (last : latest ≡ latest_of w (frozen_in l)) where
  module _ (d : Diagram) (position : Position t l w d) where
    loose : (i : ℕ) → has l.left i ≡ true → has (loose_in l) i ≡ true
    loose i y = loose_of l i (placed i y) y

    shown : (i : ℕ) → has l.left i ≡ true → (d.placed i ≡ true) × (d.frozen i ≡ false)
    shown i y = loose_shown t given l w d position.shows d.tick position.stands i (loose i y)

    one : (i k : ℕ) → has l.left i ≡ true → has l.left k ≡ true → own_of t i ≡ own_of t k
    one i k y z =
        let acts = position.sets.left in
        sym (own_is t given.laid i (acts i y)) ∙ own i y ∙ sym (own k z) ∙ own_is t given.laid k (acts k z)

    -- It stands where it can start.
    stands_at : (i : ℕ) → has l.left i ≡ true → d.starts i ≡ from_at w (free_at w c) i
    stands_at i y =
        position.shows.loose i (loose i y) ∙ ap (λ (x : ℕ). from_at w (free_at w x) i) (own i y)

    starts_early : (i : ℕ) → has l.left i ≡ true → from_at w (free_at w c) i < d.tick
    starts_early i y =
        omega (
          arith,
          stands_at i y,
          position.shows.loose i (loose i y),
          early i y,
          position.shows.tick,
        )

    ends_after : (k : ℕ) → has l.left k ≡ true → d.tick ≤ from_at w (free_at w c) k + duration_at t k
    unfolding project_in
    ends_after k y =
        let (there, waits) = shown k y in
        omega (arith, ends_late (project_in t) d d.tick position.stands k there waits, stands_at k y)

    pub lone_of : Lone t l.left (free_at w c) latest w d.frozen d.starts
    lone_of =
        let shows = position.shows in
        let stands = position.stands in
        let ended : (i : ℕ) → d.frozen i ≡ true → d.starts i + duration_at t i ≡ end_at w i =
        λ i f. shows.ended i (sym (shows.frozen i) ∙ f) in
        record {
          node = stands.node;
          timed = position.sets.timed;
          low = position.sets.left_low;
          inside = λ i f. has_is t given i (stands.inside i (stands.within i f));
          is_left = shows.left;
          ended = ended;
          idle = position.idle;
          last =
              last
              ∙ max_eq most (λ i. cond (has (frozen_in l) i) (end_at w i) 0) (λ i. cond (d.frozen i) (end_at w i) 0)
              (λ i b. ap (λ (x : Bool). cond x (end_at w i) 0) (sym (shows.frozen i)));
          tight = tight;
          together = one;
          opened = λ i y. placed_open (project_in t) d d.tick stands i (shown i y).0 (shown i y).1;
          soon =
              λ i y.
              subst (Soonest (project_in t) d.frozen d.starts i) (stands_at i y)
              (stands.at i (shown i y).0 (shown i y).1);
          before = λ i k y z. omega (arith, starts_early i y, ends_after k z);
          after =
              λ i k y f on.
              omega (
                arith,
                ended k f,
                stands_at i y,
                tight_after t given d d.tick stands i (shown i y).0 (shown i y).1 (tight i y) k f on,
              );
          early =
              λ i y.
              omega (arith, stands_at i y, shows.loose i (loose i y), position.bounded.starts i (loose i y));
        }

  -- Its orders are all that is to be explored.
  pub explored_of : {b : List ℕ} {k : Kept} {w' cells area : List ℕ}
      → Ordered t b l.left (free_at w c) latest k w w' cells area
      → Explored t b l k w w' cells area
  explored_of done =
      let same = done.beside.same in
      record {
        beside =
            record {
              timed = done.beside.timed;
              ends = λ i b z. same i (λ j m y e. true_not_false y (ap (has l.left) (sym e) ∙ z));
              ready = λ i b y. same (ready_from + i) (λ j m z e. omega (arith, m, e));
              free = λ x b. same (free_from + x) (λ j m z e. omega (arith, m, e));
            };
        tally = done.tally;
        seen =
            λ d position.
            let found = done.seen d.frozen d.starts (lone_of d position) in
            record { rows = found.rows; all = found.all; kept = found.kept };
      }
