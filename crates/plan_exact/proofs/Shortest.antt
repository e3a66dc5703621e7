-- The first shortest pair of a valid plan: none of the pairs is shorter, those that are as short are not before it, and
-- no feasible session of any variant is shorter.
use Prim.Native.Nat.{ℕ, ◌≤◌, ◌<◌}
use native.Mathlib.Nat.{le_antisymm, not-suc-le-zero}
use native.Mathlib.Omega.{arith}
use mathlib.Core.Bool.{Bool, true}
use mathlib.Core.Logic.{⊎_elim}
use mathlib.Core.Path.{◌≡◌, sym, subst, ◌∙◌}
use mathlib.Core.List.Memᴰ
use mathlib.Core.List.{List, [], ◌∷◌, map, Memᴰ}
use lib.Dec.{eqb}
use lib.ListN.{length}
use borrow.Author.Tests.{eq-eqb, eqb-true}
use Rattle.base.specs.Lists.{least_of}
use Rattle.base.specs.Order.{NotAfter}
use Rattle.base.proofs.Lists.{keep_is, keep_mem, keep_pairwise, first_mem, first_to, least_below, least_mem}
use Rattle.base.proofs.Order.{not_self, before_not_after, not_after_antisym}
use Rattle.plan.specs.Plan.{Plan}
use Rattle.term.specs.Term.{Term}
use Rattle.term.specs.Valid.{Valid}
use Rattle.term.specs.Variants.{variant_count}
use Rattle.timetable.specs.Mark.{mark}
use Rattle.schedule.specs.Bounds.{Chain, chain_length, load_of, work}
use Rattle.schedule.specs.Project.{Project}
use Rattle.schedule.specs.Schedule.{Starts, makespan}
use Rattle.schedule.specs.Sessions.{starts_of}
use Rattle.schedule.proofs.Reflect.{Feasible, Active}
use Rattle.schedule.proofs.Lower.{chain_bound, load_bound, work_bound}
use Rattle.schedule.proofs.Box.{no_longer_session, session_is, session_mem}
use Rattle.variant.specs.Project.{variant_at, project_of}
use Rattle.variant.specs.Pairs.{pairs, pair_count}
use Rattle.variant.proofs.Instance.{capacity_between, sound, unfixed, gapless}
use Rattle.answers.specs.Shortest.{makespan_in, row_span, shortest_pairs, first_shortest}
use Rattle.plan_exact.proofs.Union.{Lowest, lowest, same_span}
use Rattle.plan_exact.proofs.Pairs.{Pair, pair_is, pair_mem}
use Rattle.plan_exact.proofs.Rows.{pairs_ordered, pairs_some}

pub record First (p : Plan) (t : Term) (row : List ℕ) : Type 0 where
  pub one_of : Memᴰ row (pairs p t)
  pub least : (other : List ℕ) → Memᴰ other (pairs p t) → row_span p t row ≤ row_span p t other
  pub first : (other : List ℕ) → Memᴰ other (pairs p t) → row_span p t other ≡ row_span p t row
      → NotAfter row other

-- There is one such row.
pub first_unique : (p : Plan) (t : Term) (a b : List ℕ) → First p t a → First p t b → a ≡ b
first_unique p t a b f g =
    let same : row_span p t a ≡ row_span p t b = le_antisymm (f.least b g.one_of) (g.least a f.one_of) in
    not_after_antisym a b (f.first b g.one_of (sym same)) (g.first a f.one_of same)

module _ (p : Plan) (t : Term) where
  abbrev pub spans : List ℕ
  spans = map (row_span p t) (pairs p t)

  abbrev pub is_shortest : List ℕ → Bool
  is_shortest row = eqb (row_span p t row) (least_of spans)

module _ (p : Plan) (t : Term) (valid : Valid p t) where
  -- One of the pairs has the least makespan.
  a_shortest : (row : List ℕ) × Memᴰ row (pairs p t) × (row_span p t row ≡ least_of (spans p t))
  unfolding pair_count
  a_shortest = of_some (pairs p t) (pairs_some p t valid)
    where
      of_some : (l : List (List ℕ)) → 1 ≤ length l
          → (row : List ℕ) × Memᴰ row l × (row_span p t row ≡ least_of (map (row_span p t) l))
      of_some [] some = absurd (not-suc-le-zero some)
      of_some (x ∷ xs) some =
          Memᴰ.of_map (row_span p t) (x ∷ xs) (least_mem (row_span p t x) (map (row_span p t) xs))

  -- The first of those that have it.
  first_there : Memᴰ (first_shortest p t) (pairs p t) × (is_shortest p t (first_shortest p t) ≡ true)
  unfolding first_shortest shortest_pairs
  first_there =
      let (row, m, e) = a_shortest in
      let kept = keep_mem (is_shortest p t) (pairs p t) m (eq-eqb (row_span p t row) (least_of (spans p t)) e) in
      keep_is (is_shortest p t) (pairs p t) (first_mem (shortest_pairs p t) [] kept)

  pub first_span : row_span p t (first_shortest p t) ≡ least_of (spans p t)
  first_span = eqb-true _ _ first_there.1

  pub first_shortest_lem : First p t (first_shortest p t)
  unfolding first_shortest shortest_pairs
  first_shortest_lem =
      record {
        one_of = first_there.0;
        least = λ other n. omega (arith, first_span, least_below (spans p t) _ (Memᴰ.map (row_span p t) n));
        first =
            λ other n same.
            ⊎_elim
            (λ q. subst (NotAfter (first_shortest p t)) (sym q) (not_self (first_shortest p t)))
            (before_not_after (first_shortest p t) other)
            (first_to (shortest_pairs p t) [] (keep_pairwise (is_shortest p t) (pairs p t) (pairs_ordered p t))
            (keep_mem (is_shortest p t) (pairs p t) n
            (eq-eqb (row_span p t other) (least_of (spans p t)) (same ∙ first_span))));
      }

  -- It is a session that no feasible one undercuts, starts being any whole ticks.
  module _ (v : ℕ) (ss : List ℕ) (first : First p t (v ∷ ss)) where
    abbrev P : Project
    P = project_of p (variant_at t v)

    pair : Pair p t v ss
    pair = pair_is p t v ss first.one_of

    pub first_active : Active P (starts_of ss)
    first_active = (session_is P mark ss pair.session).is_active

    pub first_least : (u : ℕ) (S : Starts) → u < variant_count t → Feasible (project_of p (variant_at t u)) S
        → makespan P (starts_of ss) ≤ makespan_in p t u S
    first_least u S l f =
        let Q : Project = project_of p (variant_at t u) in
        let (row, s, e) = no_longer_session Q mark S (unfixed p (variant_at t u)) f in
        let listed = session_mem Q mark row (sound p valid.ranges (variant_at t u)) s in
        let low : Lowest p t valid u row = lowest p t valid u row listed in
        let below : low.variant < variant_count t = omega (arith, low.low) in
        omega (
          arith,
          first.least (low.variant ∷ row)
              (pair_mem p t low.variant row (record { below = below; session = low.session; new = low.new })),
          same_span p t valid low.variant u below l row low.session listed (starts_of row),
        )

    -- It is between its variant's chains and loads and the sum of its durations.
    pub first_chains : (i : ℕ) (js : List ℕ) → Chain P i js → chain_length P i js ≤ makespan P (starts_of ss)
    first_chains i js chain = chain_bound P (starts_of ss) first_active.is_feasible i js chain

    pub first_loads : (r : ℕ) → r < length p.capacities → load_of P r ≤ makespan P (starts_of ss)
    unfolding project_of
    first_loads r l =
        load_bound P (starts_of ss) first_active.is_feasible r l (capacity_between p valid.ranges r l).0

    pub first_at_most : makespan P (starts_of ss) ≤ work P
    first_at_most =
        work_bound P (starts_of ss) (sound p valid.ranges (variant_at t v)) (unfixed p (variant_at t v))
        (gapless p (variant_at t v)) first_active
