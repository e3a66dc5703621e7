-- The pair that ranks first is the first shortest, and so what BEST answers.
use Prim.Native.Nat.{ℕ, suc, ◌-◌}
use native.Mathlib.Omega.{arith}
use mathlib.Core.Path.{◌≡◌, sym, ap, ap₂, ◌∙◌}
use mathlib.Core.List.{List, ◌∷◌, Memᴰ}
use lib.Dec.{eqb}
use lib.ListN.{length, take, replicate}
use lib.Seq.{take_at}
use Rattle.base.specs.Lists.{keep}
use Rattle.base.specs.Order.{is_before, NotAfter}
use Rattle.base.proofs.Order.{first_low, rest_after, not_after_front}
use Rattle.plan.specs.Plan.{Plan}
use Rattle.term.specs.Term.{Term}
use Rattle.term.specs.Valid.{Valid}
use Rattle.timetable.specs.Mark.{mark, places}
use Rattle.schedule.specs.Schedule.{latest_end}
use Rattle.schedule.specs.Sessions.{starts_of}
use Rattle.schedule.proofs.Box.{session_is}
use Rattle.variant.specs.Project.{variant_at, project_of}
use Rattle.variant.specs.Pairs.{sessions_of, pairs, pair_count}
use Rattle.variant.specs.Timetable.{timetable_of}
use Rattle.answers.specs.Shortest.{row_span, shortest_pairs, shortest_count, first_shortest, best_row}
use Rattle.answers.specs.declared.Best.{Best}
use Rattle.plan_exact.proofs.Variant.{chosen}
use Rattle.plan_exact.proofs.Found.{variant_span}
use Rattle.plan_exact.proofs.Pairs.{Pair, row_pair, pair_mem}
use Rattle.plan_exact.proofs.Shortest.{First, first_unique, first_shortest_lem, first_span}

-- BEST's answer by its numbers and starts.
abbrev pub found : ℕ → ℕ → ℕ → ℕ → List ℕ → Best
found v span n shortest starts =
    record { variant = v; makespan = span; count = n; shortest = shortest; timetable = record { starts = starts } }

-- The latest end of a session of variant v.
abbrev pub end_at : Plan → Term → ℕ → List ℕ → ℕ
end_at p t v ss = latest_end (project_of p (variant_at t v)) (starts_of ss)

-- A pair's latest end, its variant and its timetable.
abbrev pub ranked : Plan → Term → ℕ → List ℕ → List ℕ
ranked p t v ss = end_at p t v ss ∷ v ∷ timetable_of p ss

-- A pair that no other ranks before.
pub record Earliest (p : Plan) (t : Term) (v : ℕ) (ss : List ℕ) : Type 0 where
  pub pair : Pair p t v ss
  pub first : (u : ℕ) (other : List ℕ) → Pair p t u other → NotAfter (ranked p t v ss) (ranked p t u other)

pub session_long : (p : Plan) (t : Term) (v : ℕ) (ss : List ℕ) → Memᴰ ss (sessions_of p t v)
    → length ss ≡ length p.activities
unfolding project_of
session_long p t v ss m = (session_is (project_of p (variant_at t v)) mark ss m).long

module _ (p : Plan) (t : Term) (valid : Valid p t) where
  abbrev N : ℕ
  N = length p.activities

  module _ (v : ℕ) (ss : List ℕ) (pair : Pair p t v ss) where
    pub span_is : end_at p t v ss ≡ row_span p t (v ∷ ss)
    span_is = variant_span p t v (chosen p t v valid pair.below) ss pair.session

    front : take (suc N) (v ∷ timetable_of p ss) ≡ v ∷ ss
    front = ap (v ∷◌) (take_at ss (replicate (places - N) mark) N (session_long p t v ss pair.session))

  module _ (v : ℕ) (ss : List ℕ) (earliest : Earliest p t v ss) where
    own : end_at p t v ss ≡ row_span p t (v ∷ ss)
    own = span_is v ss earliest.pair

    earliest_first : First p t (v ∷ ss)
    earliest_first =
        record {
          one_of = pair_mem p t v ss earliest.pair;
          least =
              λ row m.
              let (u, other, e, pair) = row_pair p t row m in
              omega (
                arith,
                own,
                span_is u other pair,
                ap (row_span p t) e,
                first_low (end_at p t v ss) (end_at p t u other) (v ∷ timetable_of p ss) (u ∷ timetable_of p other)
                    (earliest.first u other pair),
              );
          first =
              λ row m same.
              let (u, other, e, pair) = row_pair p t row m in
              let level : end_at p t v ss ≡ end_at p t u other =
              own ∙ sym same ∙ ap (row_span p t) (sym e) ∙ sym (span_is u other pair) in
              let whole : NotAfter (v ∷ timetable_of p ss) (u ∷ timetable_of p other) =
              rest_after (end_at p t v ss) (end_at p t u other) (v ∷ timetable_of p ss) (u ∷ timetable_of p other)
              (earliest.first u other pair) level
              in
              ap₂ is_before (sym e ∙ sym (front u other pair)) (sym (front v ss earliest.pair))
              ∙ not_after_front (suc N) (v ∷ timetable_of p ss) (u ∷ timetable_of p other) whole;
        }

    same : v ∷ ss ≡ first_shortest p t
    same = first_unique p t (v ∷ ss) (first_shortest p t) earliest_first (first_shortest_lem p t valid)

    -- As many are shortest as end on the same tick.
    pub earliest_ties : length (keep (λ row. eqb (row_span p t row) (end_at p t v ss)) (pairs p t)) ≡ shortest_count p t
    unfolding shortest_count shortest_pairs
    earliest_ties =
        ap (λ (end : ℕ). length (keep (λ row. eqb (row_span p t row) end) (pairs p t)))
        (own ∙ ap (row_span p t) same ∙ first_span p t valid)

    -- So it is what BEST answers.
    pub earliest_best : (best : Best)
        → best ≡ found v (end_at p t v ss) (pair_count p t) (shortest_count p t) (timetable_of p ss)
        → best ≡ best_row p t (first_shortest p t)
    earliest_best best answer =
        answer
        ∙ ap (λ (n : ℕ). found v n (pair_count p t) (shortest_count p t) (timetable_of p ss)) own
        ∙ ap (best_row p t) same
