-- The sessions of several variants: a session tells which activities it has, so that variants that have it have
-- the same activities.
use Prim.Native.Nat.{ℕ, zero, suc, ◌≤◌, ◌<◌}
use native.Mathlib.Nat.{not-suc-le-zero}
use native.Mathlib.Omega.{arith}
use mathlib.Core.Bool.{Bool, true, false, not}
use mathlib.Core.List.{List, Memᴰ}
use mathlib.Core.Path.{◌≡◌, refl, sym, ap, ◌∙◌}
use lib.ListN.{length}
use Rattle.base.proofs.Below.{every_fails}
use Rattle.base.proofs.Bools.{by_bool, true_not_false, same_bool}
use Rattle.base.specs.Lists.{is_one_of}
use Rattle.base.proofs.Lists.{one_of_is}
use Rattle.plan.specs.Plan.{Plan}
use Rattle.term.specs.Term.{Term}
use Rattle.term.specs.Valid.{HasVariant, Valid}
use Rattle.term.specs.Variants.{variant_count, activities, member}
use Rattle.term.proofs.Twice.{member_found, member_is}
use Rattle.timetable.specs.Mark.{mark}
use Rattle.schedule.specs.Project.{Project}
use Rattle.schedule.specs.Schedule.{Starts, active, makespan}
use Rattle.schedule.specs.Sessions.{starts_of}
use Rattle.schedule.proofs.Reflect.{active_is}
use Rattle.schedule.proofs.Makespan.{makespan_same}
use Rattle.schedule.proofs.Box as box
use Rattle.variant.specs.Project.{variant_at, project_of}
use Rattle.variant.specs.Pairs.{sessions_of, is_new}
use Rattle.variant.specs.Words.{MarksAbsent}
use Rattle.variant.proofs.Instance.{sound, has_of}
use Rattle.variant.proofs.RoundTrip.{variant_below}
use Rattle.variant.proofs.Words.{absent}
use Rattle.plan_exact.proofs.Variant.{chosen, box_unmarked}

-- The box has no start as late as the mark, so a session has the mark exactly at the absent activities.
pub session_marks : (p : Plan) (t : Term) (v : ℕ) → HasVariant p t v → (row : List ℕ)
    → Memᴰ row (sessions_of p t v) → MarksAbsent (variant_at t v) (length p.activities) row
unfolding project_of
session_marks p t v c row m i l =
    let w = variant_at t v in
    let P : Project = project_of p w in (
      λ e there.
          omega (
            arith,
            e,
            box.session_unmarked P mark row m (box_unmarked p w c.valid.ranges) i
                (has_of p w i l (member_is there)),
          ),
      λ gone. (box.session_is P mark row m).marked i l ((absent w i).1 gone),
    )

module _ (p : Plan) (t : Term) (valid : Valid p t) where
  abbrev N : ℕ
  N = length p.activities

  -- Two variants with one session.
  module _ (u v : ℕ) (lu : u < variant_count t) (lv : v < variant_count t) (row : List ℕ)
      (mu : Memᴰ row (sessions_of p t u)) (mv : Memᴰ row (sessions_of p t v)) where
    some_member : (a b : ℕ) (la : a < variant_count t) (lb : b < variant_count t)
        → Memᴰ row (sessions_of p t a) → Memᴰ row (sessions_of p t b) → (i : ℕ)
        → member i (activities (variant_at t a)) ≡ true → member i (activities (variant_at t b)) ≡ true
    some_member a b la lb ma mb i y =
        let l : i < N = variant_below p t a (chosen p t a valid la) i y in
        by_bool
        (member i (activities (variant_at t b)))
        (λ there. there)
        (λ gone.
        let e : starts_of row i ≡ mark =
        (session_marks p t b (chosen p t b valid lb) row mb i l).1 ((absent (variant_at t b) i).0 gone) in
        absurd ((session_marks p t a (chosen p t a valid la) row ma i l).0 e
        (member_found i (activities (variant_at t a)) y)))

    pub same_members : (i : ℕ) → member i (activities (variant_at t u)) ≡ member i (activities (variant_at t v))
    same_members i =
        same_bool (member i (activities (variant_at t u))) (member i (activities (variant_at t v)))
        (some_member u v lu lv mu mv i)
        (some_member v u lv lu mv mu i)

    pub same_span : (S : Starts) → makespan (project_of p (variant_at t u)) S ≡ makespan (project_of p (variant_at t v)) S
    unfolding project_of
    same_span S =
        makespan_same (project_of p (variant_at t u)) (project_of p (variant_at t v)) S refl same_members (λ i. refl)

  -- The lowest variant that has a session of variant v.
  pub record Lowest (v : ℕ) (row : List ℕ) : Type 0 where
    pub variant : ℕ
    pub low : variant ≤ v
    pub session : Memᴰ row (sessions_of p t variant)
    pub new : is_new p t variant row ≡ true

  lowest_below : (n v : ℕ) (row : List ℕ) → v < n → Memᴰ row (sessions_of p t v) → Lowest v row
  unfolding is_new
  lowest_below zero v row l m = absurd (not-suc-le-zero l)
  lowest_below (suc n) v row l m =
      let test : ℕ → Bool = λ u. not (is_one u) in
      by_bool
      (is_new p t v row)
      (λ y. record { variant = v; low = omega arith; session = m; new = y })
      (λ z.
      let (u, b, f) = every_fails v test z in
      let found : Lowest u row = lowest_below n u row (omega arith) (one_of_is row (sessions_of p t u) (turned u f)) in
      record {
        variant = found.variant;
        low = omega (arith, found.low);
        session = found.session;
        new = found.new;
      })
    where
      is_one : ℕ → Bool
      is_one u = is_one_of row (sessions_of p t u)

      turned : (u : ℕ) → not (is_one u) ≡ false → is_one u ≡ true
      turned u f = by_bool (is_one u) (λ y. y) (λ z. true_not_false (ap not z) f)

  pub lowest : (v : ℕ) (row : List ℕ) → Memᴰ row (sessions_of p t v) → Lowest v row
  lowest v row m = lowest_below (suc v) v row (omega arith) m

  -- A session of variant v that is active for another with the same activities is one of that.
  pub session_there : (u v : ℕ) (row : List ℕ) → Memᴰ row (sessions_of p t v)
      → ((i : ℕ) → member i (activities (variant_at t u)) ≡ member i (activities (variant_at t v)))
      → active (project_of p (variant_at t u)) (starts_of row) ≡ true
      → Memᴰ row (sessions_of p t u)
  unfolding project_of
  session_there u v row m same y =
      let here = box.session_is (project_of p (variant_at t v)) mark row m in
      let there : Project = project_of p (variant_at t u) in
      box.session_mem there mark row (sound p valid.ranges (variant_at t u))
      (record {
        long = here.long;
        marked = λ i l z. here.marked i l (sym (same i) ∙ z);
        is_active = active_is there (starts_of row) y;
      })
