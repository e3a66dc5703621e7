-- How many of the schedules seen end as soon as the one kept.
use Prim.Native.Nat.{ℕ, suc, ◌+◌, ◌≤◌, min}
use native.Mathlib.Decide.{ℕ_discrete, dec_lt}
use native.Mathlib.Nat.{le_refl}
use native.Mathlib.Omega.{arith}
use mathlib.Core.Bool.{cond}
use mathlib.Core.Logic.{by_cases}
use mathlib.Core.Path.{◌≡◌, refl, sym, ap, ap₂, ◌∙◌}
use mathlib.Core.List.{List, [], ◌∷◌}
use lib.Dec.{eqb, ltb}
use lib.ListN.{length}
use borrow.Author.Tests.{lt-ltb, le-ltb, eq-eqb, ne_eqb}
use Rattle.base.specs.Lists.{keep}
use Rattle.base.specs.Order.{is_before}
use Rattle.base.proofs.Bools.{by_bool, cond_true, cond_false}
use Rattle.base.proofs.Lists.{keep_length}
use Rattle.base.proofs.Order.{first_low, before_not_after}
use Rattle.schedule.specs.Schedule.{latest_end}
use Rattle.schedule.specs.Sessions.{starts_of}
use Rattle.tally.specs.declared.Tally.{Tally}
use Rattle.tally.specs.Seen.{Kept, timetable_of, rank_kept, ties_with, better, counted}
use Rattle.tally.specs.Entries.{Entry, step, run}
use Rattle.tally.proofs.Entries.{step_counts}
use Rattle.tally.proofs.Count.{step_count}
use Rattle.tally.proofs.Best.{rank_entry}

abbrev pub end_entry : Entry → ℕ
end_entry e = latest_end e.project (starts_of e.row)

-- How many end on a tick.
abbrev pub ending_on : ℕ → List Entry → ℕ
ending_on end es = length (keep (λ e. eqb (end_entry e) end) es)

-- Where n so far end on tick `least` and none sooner, and now one more ends on tick `own`: how many of these end on a
-- tick `end` that is no later than either.
ties_more : (own least n end : ℕ) → end ≤ min own least
    → cond (eqb end (min own least)) (cond (ltb own least) 1 (cond (eqb own least) (n + 1) n)) 0
    ≡ cond (eqb own end) 1 0 + cond (eqb end least) n 0
ties_more own least n end low =
    by_cases
    (dec_lt own least)
    (λ l.
    let first : min own least ≡ own = omega arith in
    rw (first, lt-ltb own least l, ne_eqb end least (λ e. omega arith))
    (by_cases
    (ℕ_discrete own end)
    (λ e. rw (eq-eqb own end e, eq-eqb end own (sym e)) refl)
    (λ ne. rw (ne_eqb own end ne, ne_eqb end own (λ e. ne (sym e))) refl)))
    (λ g.
    let first : min own least ≡ least = omega arith in
    rw (first, le-ltb own least (omega arith))
    (by_cases
    (ℕ_discrete own least)
    (λ e.
    rw (eq-eqb own least e)
    (by_cases
    (ℕ_discrete own end)
    (λ f. rw (eq-eqb own end f, eq-eqb end least (sym f ∙ e)) (omega arith))
    (λ ne. rw (ne_eqb own end ne, ne_eqb end least (λ f. ne (e ∙ sym f))) refl)))
    (λ ne. rw (ne_eqb own least ne, ne_eqb own end (λ f. omega arith)) (omega arith))))

module _ (acts cap : ℕ) where
  module _ (k : Kept) (e : Entry) (c : k.tally.count ≤ cap) where
    abbrev next : Tally
    next = (step acts cap k e).tally

    step_end : next.best_end ≡ min (end_entry e) k.tally.best_end
    unfolding counted better
    step_end =
        let t : Tally = k.tally in
        let ours : List ℕ = e.variant ∷ timetable_of e.row in
        let theirs : List ℕ = t.best_variant ∷ t.best.starts in
        let is = ap (λ (x : Kept). x.tally.best_end) (step_counts acts cap k e c) in
        by_bool
        (is_before (rank_entry e) (rank_kept t))
        (λ y.
        omega (
          arith,
          is ∙ cond_true (end_entry e) t.best_end y,
          first_low (end_entry e) t.best_end ours theirs (before_not_after (rank_entry e) (rank_kept t) y),
        ))
        (λ n.
        omega (
          arith,
          is ∙ cond_false (end_entry e) t.best_end n,
          first_low t.best_end (end_entry e) theirs ours n,
        ))

    step_ties : next.ties ≡ ties_with k.tally (end_entry e)
    unfolding counted better
    step_ties = ap (λ (x : Kept). x.tally.ties) (step_counts acts cap k e c)

  run_low : (k : Kept) (es : List Entry) → k.tally.count + length es ≤ suc cap
      → (run acts cap k es).tally.best_end ≤ k.tally.best_end
  run_low k [] c = le_refl k.tally.best_end
  run_low k (e ∷ es) c =
      let one = step_count acts cap k e (omega arith) in
      omega (arith, step_end k e (omega arith), run_low (step acts cap k e) es (omega arith))

  run_ties : (k : Kept) (es : List Entry) → k.tally.count + length es ≤ suc cap
      → let last = (run acts cap k es).tally in
      last.ties
      ≡ ending_on last.best_end es + cond (eqb last.best_end k.tally.best_end) k.tally.ties 0
  unfolding keep
  run_ties k [] c =
      let end : ℕ = k.tally.best_end in omega (arith, cond_true k.tally.ties 0 (eq-eqb end end refl))
  run_ties k (e ∷ es) c =
      let next : Kept = step acts cap k e in
      let few : k.tally.count ≤ cap = omega arith in
      let one = step_count acts cap k e few in
      let end : ℕ = (run acts cap next es).tally.best_end in
      let first = step_end k e few in
      let rest = run_ties next es (omega arith) in
      let here : cond (eqb end next.tally.best_end) next.tally.ties 0
      ≡ cond (eqb (end_entry e) end) 1 0 + cond (eqb end k.tally.best_end) k.tally.ties 0 =
      ap₂ (λ (b n : ℕ). cond (eqb end b) n 0) first (step_ties k e few)
      ∙ ties_more (end_entry e) k.tally.best_end k.tally.ties end
      (omega (arith, first, run_low next es (omega arith))) in
      omega (arith, rest, here, keep_length (λ e. eqb (end_entry e) end) e es)

  -- From a tally with no ties.
  pub ties_are : (k : Kept) (es : List Entry) → k.tally.ties ≡ 0 → k.tally.count + length es ≤ suc cap
      → (run acts cap k es).tally.ties ≡ ending_on (run acts cap k es).tally.best_end es
  ties_are k es none c =
      let end : ℕ = (run acts cap k es).tally.best_end in
      run_ties k es c
      ∙ by_bool
      (eqb end k.tally.best_end)
      (λ y. rw (y, none) (omega arith))
      (λ n. rw n (omega arith))
