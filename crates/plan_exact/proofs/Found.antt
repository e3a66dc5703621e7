-- The sessions of one variant of a valid plan: there is one at least, and the scan of document 000 finds them, each
-- once. The latest end of a session is its makespan.
use Prim.Native.Nat.{ℕ, ◌≤◌, ◌<◌}
use native.Mathlib.Omega.{arith}
use mathlib.Core.Path.{◌≡◌, sym}
use mathlib.Core.List.{List, Memᴰ, Perm}
use Rattle.plan.specs.Limits.{latest_possible}
use Rattle.plan.specs.Plan.{Plan}
use Rattle.term.specs.Term.{Term}
use Rattle.term.specs.Valid.{HasVariant}
use Rattle.timetable.specs.Mark.{mark}
use Rattle.schedule.specs.Project.{Project}
use Rattle.schedule.specs.Schedule.{latest_end, makespan}
use Rattle.schedule.specs.Sessions.{starts_of, sessions}
use Rattle.schedule.proofs.Load.{Has}
use Rattle.schedule.proofs.Bounds.{latest_by_work}
use Rattle.schedule.proofs.Box.{row_of, row_of_session, session_is, session_mem}
use Rattle.schedule.proofs.Compact.{makespan_latest}
use Rattle.branching.proofs.Rank.{before}
use Rattle.scan.specs.Components.{component_of}
use Rattle.scan.specs.Scan.{schedules}
use Rattle.scan_exact.proofs.Schedules.{none_begun, scan_sessions}
use Rattle.variant.specs.Project.{variant_at, project_of}
use Rattle.variant.proofs.Instance.{units_at_lem, sound, unfixed, from_zero, gapless}
use Rattle.variant.proofs.RoundTrip.{variant_below}
use Rattle.plan_exact.proofs.Variant.{short_project, ranked}
use Rattle.plan_exact.proofs.Existing.{some_active}

module _ (p : Plan) (t : Term) (v : ℕ) (c : HasVariant p t v) where
  abbrev w : Term
  w = variant_at t v

  abbrev P : Project
  P = project_of p w

  alone : (i : ℕ) → Has P i → (r : ℕ) → r < P.resources → P.units i r ≤ P.capacity r
  unfolding project_of
  alone i h r l = units_at_lem p c.valid.ranges i r h.below l

  pub variant_scan : Perm (schedules P (component_of P) mark) (sessions P mark)
  unfolding project_of
  variant_scan =
      scan_sessions P (sound p c.valid.ranges w) (λ i y. variant_below p t v c i y) alone
      (none_begun P (unfixed p w)) (before P) (ranked p t v c) mark

  pub variant_some : (row : List ℕ) × Memᴰ row (sessions P mark)
  variant_some =
      let (S, is_active) = some_active P (before P) (ranked p t v c) alone (unfixed p w) in
      let row = row_of P mark S in
      (row, session_mem P mark row (sound p c.valid.ranges w) (row_of_session P mark S is_active))

  module _ (row : List ℕ) (m : Memᴰ row (sessions P mark)) where
    pub variant_span : latest_end P (starts_of row) ≡ makespan P (starts_of row)
    variant_span =
        sym
        (makespan_latest P (starts_of row) (sound p c.valid.ranges w) (unfixed p w) (from_zero p w)
        (session_is P mark row m).is_active)

    -- It ends by the sum of the durations.
    pub variant_latest : latest_end P (starts_of row) ≤ latest_possible
    variant_latest =
        omega (
          arith,
          latest_by_work P (starts_of row) (sound p c.valid.ranges w) (unfixed p w) (gapless p w)
              (session_is P mark row m).is_active,
          from_zero p w,
          short_project p w c.valid.ranges,
        )
