-- The loop over what is left in one component, and the last one left.
use Prim.Native.Nat.{ℕ, ◌+◌, ◌^◌, ◌<◌, max}
use native.Mathlib.Omega.{arith}
use mathlib.Core.Bool.{Bool, true}
use mathlib.Core.List.{List, [], ◌∷◌}
use mathlib.Core.Logic.{◌≢◌}
use mathlib.Core.Path.{◌≡◌, refl, sym, subst}
use lib.ListN.{set}
use Rattle.base.specs.Lists.{gather}
use Rattle.sets.specs.Sets.{most, has}
use Rattle.sets.specs.Lowest.{lowest_of, after_lowest}
use Rattle.sets.proofs.Members.{lowest_has, after_none}
use Rattle.sets.proofs.Turns.{Turn, turned, turn_has, one_member}
use Rattle.timetable.specs.Mark.{mark}
use Rattle.schedule.specs.Schedule.{Starts, moved}
use Rattle.branching.proofs.Room.{adding}
use Rattle.branching.proofs.Under.{Under}
use Rattle.branching.proofs.Rows.{some_rows}
use Rattle.instance.specs.Instance.{own_of, Instance}
use Rattle.instance.specs.Table.{cap_of, duration_at, project_in}
use Rattle.profile.specs.Work.{Timed}
use Rattle.soonest.specs.Row.{row_in}
use Rattle.tally.specs.Seen.{Kept, IsTally, kept_of, tally_of, seen_in}
use Rattle.tally.proofs.Passed.{stopped}
use Rattle.steps.proofs.Given.{scannable}
use Rattle.ordering.specs.Lone.{from_at, Lone, EndsAlone, RowsUnder, Ordered}
use Rattle.ordering.proofs.Branches.{SeenPart, seen_none, seen_more, seen_each, lowest_least}
use Rattle.ordering.proofs.Lone.{alone_refl, alone_trans, from_same, lone_alone, stored_alone, stored_lone}
use Rattle.ordering.proofs.Rows.{lone_rows, last_rows, whole_rows}

-- The members of `rest` are still to come.
pub record Going (t b : List ℕ) (left free latest : ℕ) (k : Kept) (w₀ w cells area : List ℕ) (rest : ℕ) : Type 0 where
  pub tally : IsTally cells
  pub beside : EndsAlone left w₀ w
  pub inside : rest < 2 ^ most
  pub within : (j : ℕ) → has rest j ≡ true → has left j ≡ true
  pub seen : (F : ℕ → Bool) (S : Starts) → Lone t left free latest w₀ F S
      → SeenPart (project_in t) mark
      (λ j. Under (project_in t) (own_of t) (adding F j) (moved S j (from_at w₀ free j))) left rest (seen_in t b) k
      (kept_of cells area)

module _ (t b : List ℕ) (given : Instance t) (left free latest : ℕ) where
  pub going_first : {w cells area : List ℕ} → Timed w → IsTally cells → left < 2 ^ most
      → Going t b left free latest (kept_of cells area) w w cells area left
  going_first {w} {cells} {area} timed tally low =
      record {
        tally = tally;
        beside = alone_refl left w timed;
        inside = low;
        within = λ j y. y;
        seen =
            λ F S lone.
            seen_none (project_in t) mark
            (λ j. Under (project_in t) (own_of t) (adding F j) (moved S j (from_at w free j))) left (seen_in t b)
            (kept_of cells area);
      }

  module _ {k : Kept} {w₀ w cells area : List ℕ} {rest : ℕ}
      (so_far : Going t b left free latest k w₀ w cells area rest) where
    -- One has been frozen, and all orders of the others seen.
    pub going_on : {rest' j fewer stop last : ℕ} {w' cells' area' : List ℕ}
        → (0 < rest) × (j ≡ lowest_of rest) × (rest' ≡ after_lowest rest)
        → Turn left fewer j
        → stop ≡ from_at w free j + duration_at t j
        → last ≡ max latest stop
        → Ordered t b fewer stop last (kept_of cells area) (set w j stop) w' cells' area'
        → Going t b left free latest k w₀ w' cells' area' rest'
    going_on {rest'} {j} {fewer} {stop} (more, at, next) one ends two done =
        let turn : Turn rest rest' j = turned rest rest' j so_far.inside (omega (arith, more)) at next in
        record {
          tally = done.tally;
          beside = alone_trans so_far.beside (stored_alone w j stop one done.beside);
          inside = turn.low;
          within = λ i y. so_far.within i (turn_has turn i y);
          seen =
              λ F S lone.
              let found =
              done.seen (adding F j) (moved S j (from_at w free j))
              (stored_lone t given (lone_alone so_far.beside lone) j one.there ends one two) in
              seen_more (project_in t) mark
              (λ i. Under (project_in t) (own_of t) (adding F i) (moved S i (from_at w₀ free i))) left (seen_in t b) k turn
              (lowest_least rest j so_far.inside (omega (arith, more)) at) one.there found.rows
              (subst
              (λ (x : ℕ). RowsUnder t (adding F j) (moved S j x) found.rows)
              (from_same so_far.beside free j) found.all)
              found.kept (so_far.seen F S lone);
        }

    pub going_last : rest ≡ 0 → left < 2 ^ most → 0 < after_lowest left
        → Ordered t b left free latest k w₀ w cells area
    going_last none low two =
        let some : left ≢ 0 = λ e. omega (arith, after_none left e, two) in
        record {
          beside = so_far.beside;
          tally = so_far.tally;
          seen =
              λ F S lone.
              let part = so_far.seen F S lone in
              record {
                rows = gather most part.below;
                all =
                    lone_rows t given lone (lowest_of left) (lowest_has left (lowest_of left) low some refl) part.below
                    (seen_each (project_in t) mark
                    (λ j. Under (project_in t) (own_of t) (adding F j) (moved S j (from_at w₀ free j))) left (seen_in t b) k
                    none part)
                    part.other;
                kept = part.kept;
              };
        }

  -- Above the cap nothing is done.
  pub passed : {w cells area : List ℕ} → Timed w → IsTally cells → cap_of t < (tally_of cells).count
      → Ordered t b left free latest (kept_of cells area) w w cells area
  passed {w} {cells} {area} timed tally over =
      record {
        beside = alone_refl left w timed;
        tally = tally;
        seen =
            λ F S lone.
            let (rows, all) = some_rows (project_in t) (own_of t) F S mark (scannable t given).sound in
            record { rows = rows; all = all; kept = sym (stopped t b (kept_of cells area) rows over) };
      }

  -- The last one is frozen.
  pub finished : (k : Kept) {w cells area : List ℕ} {i stop last : ℕ} → Turn left 0 i
      → stop ≡ from_at w free i + duration_at t i
      → last ≡ max latest stop
      → Timed (set w i stop)
      → IsTally cells
      → kept_of cells area ≡ seen_in t b k (row_in t (set w i stop))
      → Ordered t b left free latest k w (set w i stop) cells area
  finished k {w} {i = i} {stop = stop} turn ends two timed tally kept =
      record {
        beside = stored_alone w i stop turn (alone_refl 0 (set w i stop) timed);
        tally = tally;
        seen =
            λ F S lone.
            record {
              rows = row_in t (set w i stop) ∷ [];
              all =
                  last_rows t given lone i turn.there (one_member turn refl) (row_in t (set w i stop) ∷ [])
                  (whole_rows t given (stored_lone t given lone i turn.there ends turn two));
              kept = kept;
            };
      }
