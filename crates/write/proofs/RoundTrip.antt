-- A variant written out and read back: an accepted plan file with one variant, which has the same activities, the
-- same precedence and the same schedules, and which is written out as the same bytes.
use Prim.Native.Nat.{ℕ, ◌<◌}
use native.Mathlib.Omega.{arith}
use mathlib.Core.Bool.{Bool, true, false}
use mathlib.Core.List.{List}
use mathlib.Core.Path.{◌≡◌, refl, sym, ap, ◌∙◌, subst}
use borrow.Author.Tests.{lt-ltb, ltb-true}
use lib.Dec.{leb, ltb}
use lib.ListN.{length, take, drop}
use lib.Seq.{take_at}
use Rattle.plan.specs.Outcome.{Outcome}
use Rattle.plan.specs.Plan.{Plan}
use Rattle.plan.specs.declared.Refusal.{Refusal}
use Rattle.term.specs.Term.{Term}
use Rattle.term.specs.Variants.{variant_count, activities}
use Rattle.schedule.specs.Project.{Project}
use Rattle.schedule.specs.Schedule.{Starts, feasible}
use Rattle.variant.specs.Precedence.{precedes}
use Rattle.variant.specs.Project.{variant_at, project_of}
use Rattle.variant.specs.Written.{dissolved, variant_plan, written}
use Rattle.variant.proofs.Dissolve.{dissolved_activities, dissolved_precedes}
use Rattle.term.specs.Valid.{HasVariant}
use Rattle.variant.proofs.RoundTrip.{same_project, written_again, reads_dissolved, variant_plan_lem, variant_once_again}
use Rattle.variant.proofs.RoundTrip.{variant_count_lem, variant_only}
use Rattle.judge.specs.Judge.{Verdict, accepts, refuses, judge}
use Rattle.judge.proofs.Accepts.{accepted_valid, valid_accepted}
use Rattle.write.specs.Answer.{placed_by, write_variant, write_by, write_of}
use Rattle.write.specs.RoundTrip.{RoundTrip}
use Rattle.write.specs.Steps.{placed_in}
use Rattle.std.specs.Prelude.{Result, Ok, Err}

-- Variant v of a term with its nested groups dissolved, the plan of it, and the bytes that it is written out as.
abbrev pub term_back : Term → ℕ → Term
term_back t v = dissolved (variant_at t v)

abbrev pub plan_back : Plan → Term → ℕ → Plan
plan_back p t v = variant_plan p (variant_at t v)

abbrev pub bytes_of : Plan → Term → ℕ → List ℕ
bytes_of p t v = written p (variant_at t v)

-- The bytes of variant v of an accepted file s
module _ (s : List ℕ) (p : Plan) (t : Term) (v : ℕ) (e : judge s ≡ accepts p t) (l : v < variant_count t) where
  chosen : HasVariant p t v
  chosen =
      let h = (accepted_valid s p t e).0 in
      record { valid = h; below = l }

  -- are accepted, as the plan of the variant;
  pub written_accepted : judge (bytes_of p t v) ≡ accepts (plan_back p t v) (term_back t v)
  unfolding written
  written_accepted =
      valid_accepted (plan_back p t v) (term_back t v) (record {
        ranges = variant_plan_lem p t v chosen;
        term = reads_dissolved p (variant_at t v);
        once = variant_once_again p t v chosen;
        few = omega (arith, variant_count_lem p t v chosen);
      })

  -- which has the edition and the capacities of p;
  written_edition : (plan_back p t v).edition ≡ p.edition
  unfolding variant_plan
  written_edition = refl

  written_capacities : (plan_back p t v).capacities ≡ p.capacities
  unfolding variant_plan
  written_capacities = refl

  -- it has one variant,
  pub written_count : variant_count (term_back t v) ≡ 1
  written_count = variant_count_lem p t v chosen

  only : variant_at (term_back t v) 0 ≡ term_back t v
  only = variant_only p t v chosen

  -- with the activities and the precedence of variant v of s,
  pub written_activities : activities (variant_at (term_back t v) 0) ≡ activities (variant_at t v)
  written_activities = ap activities only ∙ dissolved_activities (variant_at t v)

  pub written_precedes : (i j : ℕ) → precedes (variant_at (term_back t v) 0) i j ≡ precedes (variant_at t v) i j
  written_precedes i j = ap (λ (w : Term). precedes w i j) only ∙ dissolved_precedes (variant_at t v) i j

  -- and with its project, so with its schedules: the feasible ones, the active ones and their makespans.
  pub written_project : project_of (plan_back p t v) (variant_at (term_back t v) 0) ≡ project_of p (variant_at t v)
  written_project = ap (project_of (plan_back p t v)) only ∙ same_project p (variant_at t v)

  pub written_feasible : (S : Starts)
      → feasible (project_of (plan_back p t v) (variant_at (term_back t v) 0)) S ≡ feasible (project_of p (variant_at t v))
      S
  written_feasible S = ap (λ (q : Project). feasible q S) written_project

  -- WRITE places the bytes in an area,
  writes : (area : List ℕ) → write_of s v area ≡ placed_in area (bytes_of p t v)
  unfolding write_of
  writes area = rw (e, lt-ltb v (variant_count t) l)

  bytes_again : bytes_of (plan_back p t v) (term_back t v) 0 ≡ bytes_of p t v
  bytes_again = ap (written (plan_back p t v)) only ∙ written_again p (variant_at t v)

  -- and the same bytes for variant 0 of them, whatever the area is and what it holds.
  pub writes_again : (area : List ℕ) → write_of (bytes_of p t v) 0 area ≡ write_of s v area
  unfolding write_of
  writes_again area =
      let one : 0 < variant_count (term_back t v) = omega (arith, written_count) in
      rw (written_accepted, lt-ltb 0 (variant_count (term_back t v)) one, bytes_again) (sym (writes area))

-- The same said of WRITE's outcome alone.
refused_not_written : {A : Type 0} {r : Refusal} {n : ℕ} → ◌≡◌ {A = Result ℕ Refusal} (Err r) (Ok n) → A
refused_not_written e = absurd (let z : ◌≡◌ {A = ℕ} 0 1 = cc in omega arith)

same_size : {m n : ℕ} → ◌≡◌ {A = Result ℕ Refusal} (Ok m) (Ok n) → m ≡ n
same_size e = cc

module _ (s : List ℕ) (v : ℕ) (area : List ℕ) (n : ℕ) (after : List ℕ) where
  abbrev Left : Outcome (Result ℕ Refusal) → Type 0
  Left o = o ≡ record { answer = Ok n; area = after }

  bytes_placed : (fits : Bool) (bytes : List ℕ) → Left (placed_by fits bytes area) → bytes ≡ take n after
  bytes_placed true bytes h =
      let size = same_size (ap (λ (o : Outcome (Result ℕ Refusal)). o.answer) h) in
      sym (take_at bytes (drop (length bytes) area) n size) ∙ ap (λ (o : Outcome (Result ℕ Refusal)). take n o.area) h
  bytes_placed false bytes h = refused_not_written (ap (λ (o : Outcome (Result ℕ Refusal)). o.answer) h)

  variant_written :
      (b : Bool) (p : Plan) (t : Term) → ltb v (variant_count t) ≡ b → judge s ≡ accepts p t → Left
      (write_variant b p t v area)
      → RoundTrip s v (take n after)
  variant_written false p t eb e h = refused_not_written (ap (λ (o : Outcome (Result ℕ Refusal)). o.answer) h)
  variant_written true p t eb e h =
      let l = ltb-true v (variant_count t) eb in
      subst (RoundTrip s v) (bytes_placed (leb (length (bytes_of p t v)) (length area)) (bytes_of p t v) h) (record {
        plan = p;
        term = t;
        accepted = e;
        below = l;
        plan_read = plan_back p t v;
        term_read = term_back t v;
        accepted_back = written_accepted s p t v e l;
        same_edition = written_edition s p t v e l;
        same_capacities = written_capacities s p t v e l;
        one_variant = written_count s p t v e l;
        same_activities = written_activities s p t v e l;
        same_precedence = written_precedes s p t v e l;
        same_project = written_project s p t v e l;
        same_schedules = written_feasible s p t v e l;
        same_bytes = writes_again s p t v e l;
      })

  verdict_written : (o : Verdict) → judge s ≡ o → Left (write_by o v area) → RoundTrip s v (take n after)
  verdict_written (accepts p t) e h = variant_written (ltb v (variant_count t)) p t refl e h
  verdict_written (refuses r) e h = refused_not_written (ap (λ (o : Outcome (Result ℕ Refusal)). o.answer) h)

  pub round_trip : write_of s v area ≡ record { answer = Ok n; area = after } → RoundTrip s v (take n after)
  unfolding write_of
  round_trip h = verdict_written (judge s) refl h
