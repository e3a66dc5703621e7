-- The pairs of a valid plan: each is a variant and a session of it, to which CHECK says yes.
use Prim.Native.Nat.{ℕ, ◌-◌, ◌≤◌, ◌<◌}
use native.Mathlib.Decide.{dec_lt}
use native.Mathlib.Omega.{arith}
use mathlib.Core.Bool.{true, false, not, beq}
use mathlib.Core.Logic.{by_cases}
use mathlib.Core.Path.{◌≡◌, sym, ap, ◌∙◌, subst}
use mathlib.Core.List.Memᴰ
use mathlib.Core.List.{List, ◌∷◌, ◌++◌, map, Memᴰ, head-eq_of_cons-eq, tail-eq_of_cons-eq}
use lib.Dec.{eqb}
use lib.ListN.{length, replicate, get_or-replicate, get_or-append}
use lib.Seq.{get_or-append-add}
use borrow.Author.Tests.{eq-eqb, ne_eqb}
use Rattle.plan.specs.Plan.{Plan}
use Rattle.term.specs.Term.{Term}
use Rattle.term.specs.Variants.{variant_count, activities, member}
use Rattle.timetable.specs.Mark.{mark, places}
use Rattle.schedule.specs.Project.{Project}
use Rattle.schedule.specs.Schedule.{makespan}
use Rattle.schedule.specs.Sessions.{starts_of, sessions}
use Rattle.base.proofs.Bools.{by_bool, both}
use Rattle.base.proofs.Below.{every_of}
use Rattle.schedule.proofs.Load.{Has}
use Rattle.schedule.proofs.Reflect.{feasible_of}
use Rattle.schedule.proofs.Agree.{Agree, Feasible-agree, makespan_agree}
use Rattle.base.specs.Lists.{keep}
use Rattle.base.proofs.Lists.{keep_is, keep_mem, gather_is, gather_mem}
use Rattle.schedule.proofs.Box.{SessionRow, session_is, session_unmarked}
use Rattle.variant.specs.Project.{variant_at, project_of}
use Rattle.term.specs.Valid.{HasVariant, Valid}
use Rattle.variant.proofs.RoundTrip.{variant_below}
use Rattle.variant.proofs.Instance.{has_of, has_below}
use Rattle.variant.specs.Pairs.{sessions_of, is_new, pairs}
use Rattle.variant.specs.Timetable.{timetable_of, is_marked, is_session}
use Rattle.plan_exact.proofs.Variant.{chosen, box_unmarked}

-- A variant of the plan and a session of it that no lower one has.
pub record Pair (p : Plan) (t : Term) (v : ℕ) (ss : List ℕ) : Type 0 where
  pub below : v < variant_count t
  pub session : Memᴰ ss (sessions_of p t v)
  pub new : is_new p t v ss ≡ true

module _ (p : Plan) (t : Term) where
  abbrev listed : ℕ → List (List ℕ)
  listed v = map (v ∷◌) (keep (is_new p t v) (sessions_of p t v))

  -- Each of the pairs is a variant and its session.
  pub row_pair : (row : List ℕ) → Memᴰ row (pairs p t)
      → (v : ℕ) × (ss : List ℕ) × (v ∷ ss ≡ row) × Pair p t v ss
  unfolding pairs
  row_pair row m =
      let (v, l, k) = gather_is (variant_count t) listed m in
      let (ss, n, e) = Memᴰ.of_map (v ∷◌) (keep (is_new p t v) (sessions_of p t v)) k in
      let (session, new) = keep_is (is_new p t v) (sessions_of p t v) n in
      (v, ss, e, record { below = l; session = session; new = new })

  pub pair_is : (v : ℕ) (ss : List ℕ) → Memᴰ (v ∷ ss) (pairs p t) → Pair p t v ss
  pair_is v ss m =
      let (u, rest, e, pair) = row_pair (v ∷ ss) m in
      subst (λ (x : ℕ). Pair p t x ss) (head-eq_of_cons-eq e) (subst (Pair p t u) (tail-eq_of_cons-eq e) pair)

  pub pair_mem : (v : ℕ) (ss : List ℕ) → Pair p t v ss → Memᴰ (v ∷ ss) (pairs p t)
  unfolding pairs
  pair_mem v ss pair =
      gather_mem (variant_count t) listed v pair.below
      (Memᴰ.map (v ∷◌) (keep_mem (is_new p t v) (sessions_of p t v) pair.session pair.new))

module _ (p : Plan) (t : Term) (v : ℕ) (c : HasVariant p t v) (ss : List ℕ)
    (m : Memᴰ ss (sessions (project_of p (variant_at t v)) mark)) where
  abbrev w : Term
  w = variant_at t v

  abbrev P : Project
  P = project_of p w

  abbrev N : ℕ
  N = length p.activities

  is : SessionRow P mark ss
  is = session_is P mark ss m

  long : length ss ≡ N
  unfolding project_of
  long = is.long

  front : (i : ℕ) → i < N → starts_of (timetable_of p ss) i ≡ starts_of ss i
  front i l = get_or-append ss (replicate (places - N) mark) 0 i (omega (arith, long))

  behind : (i : ℕ) → N ≤ i → i < places → starts_of (timetable_of p ss) i ≡ mark
  behind i g l =
      let k : ℕ = i - N in
      let marks : List ℕ = replicate (places - N) mark in
      ap (starts_of (ss ++ marks)) (omega (arith, long))
      ∙ get_or-append-add ss marks k 0
      ∙ get_or-replicate (places - N) k mark 0 (omega arith)

  -- The mark exactly at the absent activities.
  there : (i : ℕ) → member i (activities w) ≡ true → eqb (starts_of (timetable_of p ss) i) mark ≡ false
  there i y =
      let l : i < N = variant_below p t v c i y in
      let h : Has P i = has_of p w i l y in
      ne_eqb (starts_of (timetable_of p ss) i) mark
      (omega (arith, front i l, session_unmarked P mark ss m (box_unmarked p w c.valid.ranges) i h))

  away : (i : ℕ) → i < places → member i (activities w) ≡ false → eqb (starts_of (timetable_of p ss) i) mark ≡ true
  away i l z =
      eq-eqb (starts_of (timetable_of p ss) i) mark
      (by_cases
      (dec_lt i N)
      (λ b. front i b ∙ is.marked i (unfold project_of in b) (unfold project_of in z))
      (λ g. behind i (omega arith) l))

  agrees : Agree P (starts_of ss) (starts_of (timetable_of p ss))
  agrees i h = sym (front i (has_below p w i h))

  pub session_span : makespan P (starts_of ss) ≡ makespan P (starts_of (timetable_of p ss))
  session_span = makespan_agree P (starts_of ss) (starts_of (timetable_of p ss)) agrees

  pub session_timetable : is_session p w (timetable_of p ss) ≡ true
  unfolding is_session is_marked
  session_timetable =
      both
      (every_of places (λ i. beq (eqb (starts_of (timetable_of p ss) i) mark) (not (member i (activities w))))
      (λ i l.
      by_bool
      (member i (activities w))
      (λ y. rw (y, there i y))
      (λ z. rw (z, away i l z))))
      (feasible_of P (starts_of (timetable_of p ss))
      (Feasible-agree P (starts_of ss) (starts_of (timetable_of p ss)) agrees is.is_active.is_feasible))

-- CHECK says yes to every row of the pairs.
pub pair_checks : (p : Plan) (t : Term) → Valid p t → (v : ℕ) (ss : List ℕ) → Memᴰ (v ∷ ss) (pairs p t)
    → is_session p (variant_at t v) (timetable_of p ss) ≡ true
pair_checks p t valid v ss m =
    let pair : Pair p t v ss = pair_is p t v ss m in
    session_timetable p t v (chosen p t v valid pair.below) ss pair.session

-- The timetable of a pair has its makespan.
pub pair_span : (p : Plan) (t : Term) → Valid p t → (v : ℕ) (ss : List ℕ) → Memᴰ (v ∷ ss) (pairs p t)
    → makespan (project_of p (variant_at t v)) (starts_of ss)
    ≡ makespan (project_of p (variant_at t v)) (starts_of (timetable_of p ss))
pair_span p t valid v ss m =
    let pair : Pair p t v ss = pair_is p t v ss m in
    session_span p t v (chosen p t v valid pair.below) ss pair.session
