-- What the moves without a branch lead to: a contest, or what is left is uncontested.
use Prim.Native.Nat.{ℕ, ◌^◌, ◌≤◌, ◌<◌}
use native.Mathlib.Decide.{ℕ_discrete}
use native.Mathlib.Omega.{arith}
use mathlib.Core.Bool.{true, false}
use mathlib.Core.List.{List}
use mathlib.Core.Logic.{by_cases}
use mathlib.Core.Path.{◌≡◌, refl, sym, ap, ◌∙◌, subst}
use Rattle.base.proofs.Bools.{true_not_false}
use Rattle.sets.specs.Sets.{most, has, size}
use Rattle.sets.specs.Lowest.{lowest_of, after_lowest}
use Rattle.sets.proofs.Laws.{meet_at, size_sub}
use Rattle.sets.proofs.Members.{lowest_has}
use Rattle.timetable.specs.Mark.{mark}
use Rattle.branching.proofs.Rows.{some_rows}
use Rattle.scan.specs.Scan.{Diagram}
use Rattle.instance.specs.Instance.{own_of, Instance}
use Rattle.instance.specs.Table.{cap_of, own_at, tight_of, project_in}
use Rattle.profile.specs.Work.{free_at, soon_at}
use Rattle.tally.specs.Seen.{Kept, kept_of, tally_of, IsTally}
use Rattle.tally.proofs.Passed.{stopped}
use Rattle.steps.specs.declared.Line.{Line}
use Rattle.steps.proofs.Sets.{loose_is}
use Rattle.steps.proofs.Given.{scannable}
use Rattle.unbranched.specs.Position.{Position, Explored}
use Rattle.unbranched.specs.Advance.{Advances}
use Rattle.unbranched.specs.declared.Reached.{Reached}
use Rattle.unbranched.proofs.Advancing.{here_low, beside_on}
use Rattle.unbranched.proofs.Alone.{acts_c, here_is}
use Rattle.completion.specs.Rest.{Uncontested}
use Rattle.ordering.specs.Lone.{Lone, Ordered}
use Rattle.ordering.proofs.Entry.{lone_of, explored_of}
use Rattle.search.specs.Choice.{InConflict}
use Rattle.search.specs.Branch.{Contest}
use Rattle.search.proofs.Rivals.{tight_free}
use Rattle.search.proofs.Branches.{uncontested, beside_itself, rival_loose, rival_tight, rival_early, choosing}

-- Above the cap nothing is done.
pub passed : (t b : List ℕ) → Instance t → (l : Line) (w cells area : List ℕ) → (d : Diagram) × Position t l w d
    → IsTally cells
    → cap_of t < (tally_of cells).count
    → Explored t b l (kept_of cells area) w w cells area
passed t b given l w cells area at tally over =
    record {
      beside = beside_itself t l w at.1.sets.timed;
      tally = tally;
      seen =
          λ d _.
          let (rows, all) =
          some_rows (project_in t) (own_of t) d.frozen d.starts mark (scannable t given).sound in
          record { rows = rows; all = all; kept = sym (stopped t b (kept_of cells area) rows over) };
    }

pub explored_same : {t b : List ℕ} {l : Line} {k : Kept} {w w₁ w₂ cells₁ cells₂ area₁ area₂ : List ℕ}
    → Explored t b l k w w₁ cells₁ area₁
    → w₂ ≡ w₁
    → cells₂ ≡ cells₁
    → area₂ ≡ area₁
    → Explored t b l k w w₂ cells₂ area₂
explored_same done p q r = rw p (rw q (rw r done))

-- The line that is reached, with the conflict activities.
abbrev pub rivalling : Reached → ℕ → Reached
rivalling r rivals = record { line = r.line; latest = r.latest; many = r.many; rivals = rivals }

module _ {t : List ℕ} (given : Instance t) {l : Line} {w w' : List ℕ} {r : Reached}
    (advances : Advances t l w w' r) (start : (d : Diagram) × Position t l w d) where
  -- What is explored from there is all.
  pub explored_on : {b : List ℕ} {k : Kept} {w'' cells area : List ℕ} → Explored t b r.line k w' w'' cells area
      → Explored t b l k w w'' cells area
  explored_on {w'' = w''} done =
      record {
        beside = beside_on t l r.line w w' w'' advances.fewer advances.more advances.beside done.beside;
        tally = done.tally;
        seen =
            λ d at.
            let on = advances.leads d at in
            let found = done.seen on.to on.position in
            record { rows = found.rows; all = on.same found.rows found.all; kept = found.kept };
      }

  pub reached : (d : Diagram) × Position t r.line w' d
  reached = let on = advances.leads start.0 start.1 in (on.to, on.position)

  pub no_more : size r.line.left most ≤ size l.left most
  no_more = size_sub most r.line.left l.left advances.fewer

  pub nothing_contested : r.rivals ≡ 0 → Uncontested t r.line.left
  nothing_contested none =
      uncontested t r.line.left reached.1.sets.left_low (sym advances.many ∙ advances.settled none)

  module _ (some : 0 < r.rivals) where
    due : has r.line.due (lowest_of r.line.due) ≡ true
    due =
        lowest_has r.line.due (lowest_of r.line.due) reached.1.sets.due_low
        (λ e. omega (arith, (advances.here some).0, e)) refl

    abbrev first : ℕ
    first = lowest_of r.line.due

    pub first_low : lowest_of r.line.due < most
    first_low = omega (arith, acts_c t given r.line w' reached.0 reached.1 first due, given.laid.acts)

    pub rivals_low : r.rivals < 2 ^ most
    rivals_low = omega (arith, (advances.here some).1, here_low t given.laid r.line first_low)

    -- Two of the component can run together.
    pub contest_roomy : {rivals : ℕ} → has (tight_of t) (lowest_of r.line.due) ≡ false
        → InConflict w' r.line r.rivals rivals
        → Contest t w' (rivalling r rivals)
    contest_roomy {rivals} roomy conflict =
        record {
          due = (advances.here some).0;
          tight = λ y. true_not_false y roomy;
          roomy = λ z. subst (λ (x : ℕ). InConflict w' r.line x rivals) (advances.here some).1 conflict;
          many = advances.many;
          last = advances.last;
          some = reached;
        }

    -- No two of it can, so none has been passed.
    several : has (tight_of t) (lowest_of r.line.due) ≡ true → 0 < after_lowest r.rivals
    several tight =
        by_cases (ℕ_discrete (after_lowest r.rivals) 0)
        (λ e.
        let (i, _, here, passed) = meet_at most r.rivals r.line.passed rivals_low (advances.several some e) in
        let (loose, own) =
        here_is t given r.line w' reached.0 reached.1 first due i
        (ap (λ (x : ℕ). has x i) (sym (advances.here some).1) ∙ here) in
        true_not_false passed (tight_free given reached.1 due i loose own tight))
        (λ ne. omega (arith, ne))

    pub contest_tight : has (tight_of t) (lowest_of r.line.due) ≡ true → Contest t w' r
    contest_tight tight =
        record {
          due = (advances.here some).0;
          tight = λ y. ((advances.here some).1, several tight);
          roomy = λ z. true_not_false tight z;
          many = advances.many;
          last = advances.last;
          some = reached;
        }

-- A contest of all that is left, where no two of the component can run together.
module _ {t : List ℕ} (given : Instance t) {r : Reached} {w : List ℕ} (contest : Contest t w r)
    (all : r.rivals ≡ r.line.left) (tight : has (tight_of t) (lowest_of r.line.due) ≡ true) {free : ℕ}
    (free_is : free ≡ free_at w (lowest_of r.line.due)) where
  abbrev c : ℕ
  c = lowest_of r.line.due

  in_conflict_lem : (i : ℕ) → has r.line.left i ≡ true → has r.rivals i ≡ true
  in_conflict_lem i y = ap (λ (x : ℕ). has x i) all ∙ y

  is_tight_lem : (i : ℕ) → has r.line.left i ≡ true → has (tight_of t) i ≡ true
  is_tight_lem i y = rival_tight given contest i (in_conflict_lem i y) tight

  own : (i : ℕ) → has r.line.left i ≡ true → own_at t i ≡ c
  own i y =
      (choosing given contest i (in_conflict_lem i y)
      (beside_itself t r.line w contest.some.1.sets.timed)).on

  placed : (i : ℕ) → has r.line.left i ≡ true → has r.line.placed i ≡ true
  placed i y = (loose_is r.line i (rival_loose given contest i (in_conflict_lem i y))).0

  early : (i : ℕ) → has r.line.left i ≡ true → soon_at t w i < r.line.tick
  early i y = rival_early given contest i (in_conflict_lem i y)

  pub orders_lone : Lone t r.rivals free r.latest w contest.some.0.frozen contest.some.0.starts
  orders_lone =
      rw all
      (rw free_is
      (lone_of t given r.line w c r.latest placed is_tight_lem own early contest.last contest.some.0
      contest.some.1))

  pub orders_explored : {b : List ℕ} {k : Kept} {w' cells area : List ℕ}
      → Ordered t b r.rivals free r.latest k w w' cells area
      → Explored t b r.line k w w' cells area
  orders_explored {b} {k} {w'} {cells} {area} done =
      explored_of t given r.line w c r.latest placed is_tight_lem own early contest.last
      (subst (λ (x : ℕ). Ordered t b r.line.left x r.latest k w w' cells area) free_is
      (subst (λ (x : ℕ). Ordered t b x free r.latest k w w' cells area) all done))
