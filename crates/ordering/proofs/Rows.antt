-- The active schedules where all that is left is in one component: the rows of the branches joined, and one row once
-- all is frozen.
use Prim.Native.Nat.{ℕ, ◌+◌, ◌≤◌, ◌<◌}
use native.Mathlib.Omega.{arith}
use mathlib.Core.Bool.{Bool, true, false, cond}
use mathlib.Core.List.Memᴰ
use mathlib.Core.List.{List, [], ◌∷◌, Memᴰ}
use mathlib.Core.Path.{◌≡◌, refl, sym, ap, ◌∙◌, subst}
use lib.Seq.{ext_get_or}
use Rattle.base.specs.Lists.{gather}
use Rattle.base.proofs.Bools.{by_bool, true_not_false, same_bool}
use Rattle.base.proofs.Below.{max_eq}
use Rattle.sets.specs.Sets.{most, has}
use Rattle.sets.proofs.Laws.{has_none}
use Rattle.timetable.specs.Mark.{mark}
use Rattle.schedule.specs.Schedule.{Starts, active, moved}
use Rattle.schedule.specs.Sessions.{starts_of}
use Rattle.schedule.proofs.Load.{Has}
use Rattle.schedule.proofs.Reflect.{active_of}
use Rattle.schedule.proofs.Box.{row_of, row_of_at, row_of_session}
use Rattle.branching.proofs.First.{First, first_of}
use Rattle.branching.proofs.Room.{adding}
use Rattle.branching.proofs.Node.{leaf_active}
use Rattle.branching.proofs.Under.{Ahead, Choice}
use Rattle.branching.proofs.Rows.{branch_rows, alone_rows, leaf_rows}
use Rattle.instance.specs.Instance.{own_of, Instance}
use Rattle.instance.specs.Table.{acts_of, present_of, duration_at, project_in}
use Rattle.profile.specs.Work.{end_at}
use Rattle.soonest.specs.Row.{Ended, row_in}
use Rattle.soonest.proofs.Row.{row_length, row_at}
use Rattle.tally.specs.Seen.{IsTally}
use Rattle.tally.specs.Leaf.{Leaf}
use Rattle.steps.proofs.Given.{has_of, scannable}
use Rattle.ordering.specs.Lone.{from_at, Lone, RowsUnder}
use Rattle.ordering.proofs.Lone.{left_of, left_below}

module _ (t : List ℕ) (given : Instance t) {left free latest : ℕ} {w : List ℕ} {F : ℕ → Bool} {S : Starts}
    (lone : Lone t left free latest w F S) where
  -- Each comes after what is frozen in the component.
  ahead : (i k : ℕ) → has left i ≡ true → F k ≡ true → own_of t k ≡ own_of t i → Ahead (S k) k (from_at w free i) i
  ahead i k y f on =
      let less : S k < from_at w free i =
      omega (
        arith,
        lone.after i k y f on,
        lone.ended k f,
        given.laid.long k (given.present k (lone.inside k f)),
      ) in
      record { low = omega (arith, less); tie = λ e. absurd (omega (arith, less, e)) }

  -- Each is a choice, whichever of them ends first.
  module _ (who : ℕ) (member : has left who ≡ true)
      (least : (i : ℕ) → has left i ≡ true → from_at w free who + duration_at t who ≤ from_at w free i + duration_at t i)
    where
      abbrev Chosen : ℕ → Type 0
      Chosen =
          Choice (project_in t) (own_of t) F S (from_at w free) (from_at w free who + duration_at t who) (own_of t who)

      choice_of : (j : ℕ) → has left j ≡ true → Chosen j
      choice_of j y =
          record {
            is_open = lone.opened j y;
            on = lone.together j who y member;
            before = lone.before j who y member;
            after = λ k f free on. ahead j k y f.there (on ∙ lone.together who j member y);
          }

      first_rows : (below : ℕ → List (List ℕ))
          → ((j : ℕ) → has left j ≡ true → RowsUnder t (adding F j) (moved S j (from_at w free j)) (below j))
          → ((j : ℕ) → has left j ≡ false → below j ≡ [])
          → RowsUnder t F S (gather most below)
      unfolding project_in
      first_rows below each none =
          let is_left_lem : (j : ℕ) → Chosen j → has left j ≡ true =
          λ j b. left_of t given lone j b.is_open.has b.is_open.waits in
          branch_rows (project_in t) (own_of t) mark F S (scannable t given).sound (scannable t given).joint
          lone.node (from_at w free) (λ i o. lone.soon i (left_of t given lone i o.has o.waits))
          (from_at w free who + duration_at t who) (own_of t who)
          (record {
            least = λ i o. least i (left_of t given lone i o.has o.waits);
            who = who;
            is_open = lone.opened who member;
            on = refl;
            ends = refl;
          })
          most below
          (record {
            inside = λ j b. left_below t given lone j (is_left_lem j b);
            each = λ j b. each j (is_left_lem j b);
            other =
                λ j row m.
                by_bool (has left j) (choice_of j)
                (λ z. absurd (Memᴰ.not-nil (subst (Memᴰ row) (none j z) m)));
          })

  pub lone_rows : (i : ℕ) → has left i ≡ true → (below : ℕ → List (List ℕ))
      → ((j : ℕ) → has left j ≡ true → RowsUnder t (adding F j) (moved S j (from_at w free j)) (below j))
      → ((j : ℕ) → has left j ≡ false → below j ≡ [])
      → RowsUnder t F S (gather most below)
  lone_rows i y =
      let cost : ℕ → ℕ = λ j. from_at w free j + duration_at t j in
      let f : First most (has left) cost = first_of (has left) cost most i (left_below t given lone i y) y in
      first_rows f.who f.passes (λ j z. f.least j (left_below t given lone j z) z)

  -- The last one left.
  pub last_rows : (i : ℕ) → has left i ≡ true → ((k : ℕ) → has left k ≡ true → k ≡ i) → (rows : List (List ℕ))
      → RowsUnder t (adding F i) (moved S i (from_at w free i)) rows
      → RowsUnder t F S rows
  last_rows i y only rows =
      alone_rows (project_in t) (own_of t) mark F S (scannable t given).sound (scannable t given).joint lone.node i
      (from_at w free i) (lone.opened i y) (lone.soon i y)
      (λ k h z on. only k (left_of t given lone k h z))
      (λ k f free on. ahead i k y f.there on) rows

-- Nothing is left.
module _ (t : List ℕ) (given : Instance t) {free latest : ℕ} {w : List ℕ} {F : ℕ → Bool} {S : Starts}
    (lone : Lone t 0 free latest w F S) where
  all_frozen : (i : ℕ) → Has (project_in t) i → F i ≡ true
  all_frozen i h =
      by_bool (F i) (λ y. y) (λ z. true_not_false (left_of t given lone i h z) (has_none i))

  ended_at : (i : ℕ) → has (present_of t) i ≡ true → S i + duration_at t i ≡ end_at w i
  ended_at i y = lone.ended i (all_frozen i (has_of t given i y))

  ended : Ended t w
  ended = record { timed = lone.timed; ran = λ i y. omega (arith, ended_at i y); idle = lone.idle }

  row_is : row_of (project_in t) mark S ≡ row_in t w
  unfolding project_in
  row_is =
      let long = (row_of_session (project_in t) mark S (leaf_active (project_in t) F S lone.node all_frozen)).long in
      ext_get_or 0 (row_of (project_in t) mark S) (row_in t w) (long ∙ sym (row_length t w))
      (λ i l.
      let b : i < acts_of t = omega (arith, l, long) in
      row_of_at (project_in t) mark S i b
      ∙ by_bool (has (present_of t) i)
      (λ y. ap (λ (x : ℕ). cond (has (present_of t) i) x mark) (omega (arith, ended_at i y)))
      (λ z. rw z)
      ∙ sym (row_at t w i b))

  pub whole_rows : RowsUnder t F S (row_in t w ∷ [])
  whole_rows =
      subst (λ (row : List ℕ). RowsUnder t F S (row ∷ [])) row_is
      (leaf_rows (project_in t) (own_of t) mark F S lone.node all_frozen)

  pub whole_active : active (project_in t) (starts_of (row_in t w)) ≡ true
  whole_active =
      active_of (project_in t) (starts_of (row_in t w))
      (whole_rows.session (row_in t w) (Memᴰ.head refl)).is_active

  pub whole_leaf : {cells : List ℕ} → IsTally cells → Leaf t w latest cells
  whole_leaf tally =
      record {
        whole = given;
        ended = ended;
        tally = tally;
        last =
            lone.last
            ∙ max_eq most (λ i. cond (F i) (end_at w i) 0) (λ i. cond (has (present_of t) i) (end_at w i) 0)
            (λ i l.
            ap (λ (b : Bool). cond b (end_at w i) 0)
            (same_bool (F i) (has (present_of t) i) (lone.inside i) (λ y. all_frozen i (has_of t given i y))));
      }
