-- What BEST answers, in the words of the mission.
use Prim.Native.Nat.{ℕ, ◌≤◌, ◌<◌}
use native.Mathlib.Omega.{arith}
use mathlib.Core.Bool.{Bool}
use mathlib.Core.List.{List, ◌∷◌, map, perm_ext_iff_of_Nodup}
use mathlib.Core.Logic.{◌↔◌, ∥∥₁_map}
use mathlib.Core.Path.{◌≡◌, refl, sym, ap, ◌∙◌, subst}
use borrow.Author.Tests.{le-leb, lt-leb}
use lib.ListN.{length-map}
use Rattle.base.proofs.Lists.{perm_length}
use Rattle.plan.specs.Plan.{Plan}
use Rattle.plan.specs.declared.Refusal.TheVariants.{OverCap}
use Rattle.term.specs.Term.{Term}
use Rattle.term.specs.Valid.{Valid, HasVariant}
use Rattle.term.specs.Variants.{variant_count}
use Rattle.schedule.specs.Schedule.{Starts}
use Rattle.schedule.specs.Sessions.{starts_of}
use Rattle.schedule.proofs.Reflect.{Feasible}
use Rattle.variant.specs.Pairs.{pairs, pair_count}
use Rattle.variant.specs.Project.{variant_at, project_of}
use Rattle.variant.specs.Timetable.{timetable_of}
use Rattle.variant.specs.Words.{Keeps, Makespan}
use Rattle.variant.proofs.Words.{variant_inside, keeps_means, session_means}
use Rattle.judge.specs.Judge.{accepts}
use Rattle.std.specs.Prelude.{Ok, Err}
use Rattle.answers.specs.Shortest.{makespan_in, row_starts, first_shortest, best_row, best_within, best_by}
use Rattle.plan_exact.proofs.Meaning.{makespan_words, pairs_listing, best_first}
use Rattle.plan_exact.proofs.Pairs.{pair_is, pair_checks, pair_span}
use Rattle.plan_exact.proofs.Shortest.{First, first_shortest_lem, first_active, first_least, first_chains, first_loads}
use Rattle.plan_exact.proofs.Shortest.{first_at_most}
use Rattle.theorems.specs.Shortest.{ActiveSessions, SessionOfVariant, ShortestSession, Between}

module _ (p : Plan) (t : Term) (valid : Valid p t) where
  -- The number of active sessions is that of the pairs.
  pub active_count : (n : ℕ) → ActiveSessions p t n → n ≡ pair_count p t
  unfolding pair_count
  active_count n a =
      let all = pairs_listing p t valid in
      let perm =
      (perm_ext_iff_of_Nodup a.once all.once).1
      (λ starts. (
        λ k. ∥∥₁_map k (λ m. (all.union starts).1 ((a.exactly starts).0 m)),
        λ k. ∥∥₁_map k (λ m. (a.exactly starts).1 ((all.union starts).0 m)),
      ))
      in
      sym a.count
      ∙ perm_length a.sessions (map row_starts (pairs p t)) perm
      ∙ length-map (pairs p t) row_starts

  -- There is such a number.
  pub active_sessions : ActiveSessions p t (pair_count p t)
  unfolding pair_count
  active_sessions =
      let all = pairs_listing p t valid in
      record {
        sessions = map row_starts (pairs p t);
        exactly = all.union;
        once = all.once;
        count = length-map (pairs p t) row_starts;
      }

  -- Feasible by the test and in words.
  module _ (v : ℕ) (below : v < variant_count t) where
    here : HasVariant p t v
    here = record { valid = valid; below = below }

    means : (S : Starts) → Feasible (project_of p (variant_at t v)) S ↔ Keeps p (variant_at t v) S
    means = keeps_means p (variant_at t v) (variant_inside p t v here)

    spans : (S : Starts) (n : ℕ) → (n ≡ makespan_in p t v S) ↔ Makespan p (variant_at t v) S n
    spans = makespan_words p t v here

  -- The first shortest pair is a shortest session,
  module _ (v : ℕ) (ss : List ℕ) (first : First p t (v ∷ ss)) where
    abbrev span : ℕ
    span = makespan_in p t v (starts_of ss)

    below : v < variant_count t
    below = (pair_is p t v ss first.one_of).below

    own : SessionOfVariant p t v (starts_of ss)
    own =
        record {
          below = below;
          keeps = (means v below (starts_of ss)).0 (first_active p t valid v ss first).is_feasible;
        }

    least : (u : ℕ) (S : Starts) (n : ℕ) → SessionOfVariant p t u S → Makespan p (variant_at t u) S n → span ≤ n
    least u S n f m =
        omega (
          arith,
          (spans u f.below S n).1 m,
          first_least p t valid v ss first u S f.below ((means u f.below S).1 f.keeps),
        )

    pub shortest_words : ShortestSession p t v span (timetable_of p ss)
    shortest_words =
        record {
          below = below;
          session =
              (session_means p (variant_at t v) (variant_inside p t v (here v below)) (timetable_of p ss)).0
              (pair_checks p t valid v ss first.one_of);
          own = (spans v below (starts_of (timetable_of p ss)) span).0 (pair_span p t valid v ss first.one_of);
          least = least;
          exactly = λ u S n f m. (
            λ e x R k g r l. absurd (omega (arith, least x R k g r)),
            λ none.
                omega (
                  arith,
                  least u S n f m,
                  none v (starts_of ss) span own ((spans v below (starts_of ss) span).0 refl),
                ),
          );
        }

    pub shortest_between : Between p t v span
    shortest_between =
        record {
          chains = first_chains p t valid v ss first;
          loads = first_loads p t valid v ss first;
          at_most = first_at_most p t valid v ss first;
        }

  -- and BEST answers it.
  pub row_first : (v : ℕ) × (ss : List ℕ) × (first_shortest p t ≡ v ∷ ss) × First p t (v ∷ ss)
  row_first =
      let r = (best_first p t valid).one_of in
      (r.variant, r.starts, r.whole, subst (First p t) r.whole (first_shortest_lem p t valid))

  pub over : (cap : ℕ) → cap < pair_count p t → best_by (accepts p t) cap ≡ Err OverCap
  over cap l = ap (λ (b : Bool). best_within b p t) (lt-leb (pair_count p t) cap l)

  pub within : (cap : ℕ) → pair_count p t ≤ cap → best_by (accepts p t) cap ≡ Ok (best_row p t (first_shortest p t))
  within cap l = ap (λ (b : Bool). best_within b p t) (le-leb (pair_count p t) cap l)
