-- What a sweep over the variants of an accepted plan has kept: the number of its pairs, their rows in some order, the
-- first shortest of them, and how many are shortest.
use Prim.Native.Nat.{ℕ, suc, ◌-◌, ◌*◌, ◌≤◌, ◌<◌}
use native.Mathlib.Decide.{ℕ_discrete}
use native.Mathlib.Omega.{arith}
use mathlib.Core.Bool.{Bool, true, false}
use mathlib.Core.Path.{◌≡◌, refl, sym, ap, ap₂, subst, ◌∙◌}
use mathlib.Core.List.{List, ◌∷◌, ◌++◌, map, Memᴰ, List-discrete, head-eq_of_cons-eq, tail-eq_of_cons-eq}
use mathlib.Core.List.Perm
use mathlib.Core.List.{Perm}
use lib.Dec.{eqb, leb}
use lib.ListN.{length, drop, replicate, length-map}
use lib.Seq.{drop_at}
use borrow.Author.Tests.{le-leb, lt-leb, leb-true}
use Rattle.plan.specs.Limits.{latest_possible}
use Rattle.plan.specs.Plan.{Plan, plan_of}
use Rattle.term.specs.Term.{Term}
use Rattle.term.specs.Variants.{variant_count}
use Rattle.base.specs.Lists.{keep, cells_of}
use Rattle.base.specs.Order.{NotAfter, sorted}
use Rattle.base.proofs.Lists.{mem_found, keep_is, keep_mem, keep_same, keep_map, keep_perm, gather_perm, cells_length}
use Rattle.base.proofs.Lists.{perm_length}
use Rattle.timetable.specs.Mark.{mark, places}
use Rattle.schedule.specs.Schedule.{latest_end}
use Rattle.schedule.specs.Sessions.{starts_of}
use Rattle.tally.specs.Seen.{Kept, timetable_of, rank_kept}
use Rattle.tally.specs.Entries.{Entry, entry_of, entries_below, run}
use Rattle.tally.proofs.Entries.{entry_is, entry_in}
use Rattle.tally.proofs.Count.{count_within, count_tells}
use Rattle.tally.proofs.Best.{rank_entry, FirstFound, best}
use Rattle.tally.proofs.Ties.{end_entry, ending_on, ties_are}
use Rattle.tally.specs.declared.Tally.{Tally}
use Rattle.tally.proofs.Area.{line, lines, lines_below, area_is}
use Rattle.variant.specs.Pairs.{sessions_of, is_new, pairs, pair_count}
use Rattle.judge.specs.Campaign.{HoldsPlan}
use Rattle.judge.specs.declared.Campaign.{Campaign}
use Rattle.judge.proofs.Ranges.{acts_are}
use Rattle.answers.specs.Listed.{cells_needed}
use Rattle.answers.specs.Shortest.{row_span, shortest_count, first_shortest, best_row}
use Rattle.answers.specs.declared.Best.{Best}
use Rattle.plan_exact.proofs.Variant.{chosen}
use Rattle.plan_exact.proofs.Found.{variant_latest}
use Rattle.plan_exact.proofs.Pairs.{Pair, row_pair}
use Rattle.plan_exact.proofs.Rows.{rows_sorted, rows_count, pairs_some}
use Rattle.plan_exact.proofs.Answers.{found, end_at, ranked, Earliest, session_long, span_is, earliest_ties, earliest_best}
use Rattle.sorting.specs.Rows.{rows_in}
use Rattle.sorting.proofs.Rows.{rows_in_cells}
use Rattle.sweep.specs.Swept.{project_at, new_at, Swept}

module _ (c : Campaign) (t : Term) (holds : HoldsPlan c t) where
  abbrev p : Plan
  p = plan_of c.tables

  abbrev acts : ℕ
  acts = c.tables.acts

  same_acts : length p.activities ≡ acts
  same_acts = acts_are c.tables holds.ranged

  -- The rows of a sweep: the pairs in some order.
  module _ (x : ℕ → List (List ℕ)) (each : (v : ℕ) → v < variant_count t → Perm (x v) (new_at c t v)) where
    abbrev all : List Entry
    all = entries_below (project_at c t) x (variant_count t)

    lines_perm : Perm (lines all) (pairs p t)
    unfolding pairs
    lines_perm =
        subst (λ (l : List (List ℕ)). Perm l (pairs p t)) (sym (lines_below (project_at c t) x (variant_count t)))
        (gather_perm (variant_count t) (λ v. map (v ∷◌) (x v)) (λ v. map (v ∷◌) (new_at c t v))
        (λ v l. Perm.map (v ∷◌) (each v l)))

    entries_count : length all ≡ pair_count p t
    entries_count = sym (length-map all line) ∙ rows_count p t (lines all) lines_perm

    row_pair_of : (v : ℕ) → v < variant_count t → (row : List ℕ) → Memᴰ row (x v) → Pair p t v row
    row_pair_of v l row m =
        let found =
        mem_found (List-discrete ℕ_discrete) row (new_at c t v) ((Perm.mem_iff (each v l)).0 ∣ m ∣₁) in
        let (session, new) = keep_is (is_new p t v) (sessions_of p t v) found in
        record { below = l; session = session; new = new }

    pair_row_of : (v : ℕ) (row : List ℕ) → Pair p t v row → Memᴰ row (x v)
    pair_row_of v row pair =
        let kept = keep_mem (is_new p t v) (sessions_of p t v) pair.session pair.new in
        mem_found (List-discrete ℕ_discrete) row (x v) ((Perm.mem_iff (each v pair.below)).1 ∣ kept ∣₁)

    entry_long : (e : Entry) → Memᴰ e all → length e.row ≡ acts
    entry_long e m =
        let (v, l, row, n, is) = entry_is (project_at c t) x (variant_count t) e m in
        sym (ap (λ (y : Entry). length y.row) is)
        ∙ session_long p t v row (row_pair_of v l row n).session
        ∙ same_acts

    -- Sorted where they lie, they are the pairs.
    row_wide : (r : List ℕ) → Memᴰ r (lines all) → length r ≡ suc (length p.activities)
    row_wide r m =
        let found = mem_found (List-discrete ℕ_discrete) r (pairs p t) ((Perm.mem_iff lines_perm).0 ∣ m ∣₁) in
        let (v, ss, e, pair) = row_pair p t r found in
        sym (ap length e) ∙ ap suc (session_long p t v ss pair.session)

    placed_rows : (rest : List ℕ)
        → cells_of (sorted (rows_in (suc (length p.activities)) (pair_count p t) (cells_of (lines all) ++ rest)))
        ++ drop (cells_needed p t) (cells_of (lines all) ++ rest)
        ≡ cells_of (pairs p t) ++ rest
    placed_rows rest =
        let wide : ℕ = suc (length p.activities) in
        let cells : List ℕ = cells_of (lines all) in
        let count : length (lines all) ≡ pair_count p t = rows_count p t (lines all) lines_perm in
        ap₂ ◌++◌
        (ap cells_of
        (ap sorted
        (ap (λ (n : ℕ). rows_in wide n (cells ++ rest)) (sym count) ∙ rows_in_cells wide (lines all) rest row_wide)
        ∙ rows_sorted p t (lines all) lines_perm))
        (drop_at cells rest (cells_needed p t) (cells_length wide (lines all) row_wide ∙ ap (◌* wide) count))

    rank_is : (v : ℕ) (row : List ℕ) → Pair p t v row → rank_entry (entry_of (project_at c t v) v row) ≡ ranked p t v row
    unfolding timetable_of
    rank_is v row pair =
        ap (λ (n : ℕ). latest_end (project_at c t v) (starts_of row) ∷ v ∷ (row ++ replicate (places - n) mark))
        (session_long p t v row pair.session)

    -- A row's makespan is the latest end of its entry.
    entry_span : (e : Entry) → Memᴰ e all → end_entry e ≡ row_span p t (line e)
    entry_span e m =
        let (v, l, row, n, is) = entry_is (project_at c t) x (variant_count t) e m in
        sym (ap end_entry is)
        ∙ span_is p t holds.valid v row (row_pair_of v l row n)
        ∙ ap (λ (y : Entry). row_span p t (line y)) is

    ending_pairs : (end : ℕ) → ending_on end all ≡ length (keep (λ row. eqb (row_span p t row) end) (pairs p t))
    ending_pairs end =
        let test : List ℕ → Bool = λ row. eqb (row_span p t row) end in
        let own : List Entry = keep (λ e. test (line e)) all in
        ap length
        (keep_same (λ e. eqb (end_entry e) end) (λ e. test (line e)) all
        (λ e m. ap (λ (n : ℕ). eqb n end) (entry_span e m)))
        ∙ sym (length-map own line)
        ∙ ap length (sym (keep_map test line all))
        ∙ perm_length (keep test (lines all)) (keep test (pairs p t)) (keep_perm test lines_perm)

  -- A sweep that starts with a count of 0; for BEST also with an end that is later than any.
  module _ (cap : ℕ) (k after : Kept) (fresh : k.tally.count ≡ 0) (s : Swept c t cap (variant_count t) k after) where
    abbrev es : List Entry
    es = all s.rows s.all

    number : length es ≡ pair_count p t
    number = entries_count s.rows s.all

    count_is : after.tally.count ≡ (run acts cap k es).tally.count
    count_is = ap (λ (x : Kept). x.tally.count) s.kept

    tells : leb after.tally.count cap ≡ leb (pair_count p t) cap
    tells =
        ap (λ (n : ℕ). leb n cap) count_is
        ∙ count_tells acts cap k es fresh
        ∙ ap (λ (n : ℕ). leb n cap) number

    -- The count tells whether the cap allows the pairs, and is their number then.
    pub allowed : after.tally.count ≤ cap → (pair_count p t ≡ after.tally.count) × (leb (pair_count p t) cap ≡ true)
    allowed l =
        let yes : leb (pair_count p t) cap ≡ true = sym tells ∙ le-leb after.tally.count cap l in
        let few : length es ≤ cap = omega (arith, number, leb-true (pair_count p t) cap yes) in
        (sym (count_is ∙ count_within acts cap k es fresh few ∙ number), yes)

    pub too_many : cap < after.tally.count → leb (pair_count p t) cap ≡ false
    too_many l = sym tells ∙ lt-leb after.tally.count cap l

    -- An area that holds the rows is given them; sorted, they are the pairs.
    pub all_rows_lem : pair_count p t ≤ cap → cells_needed p t ≤ length k.area
        → cells_of (sorted (rows_in (suc (length p.activities)) (pair_count p t) after.area))
        ++ drop (cells_needed p t) after.area
        ≡ cells_of (pairs p t) ++ drop (cells_needed p t) k.area
    unfolding cells_of
    all_rows_lem few room =
        let wide : length es * suc acts ≡ cells_needed p t =
        ap₂ (λ (n w : ℕ). n * suc w) number (sym same_acts) in
        let filled : after.area ≡ cells_of (lines es) ++ drop (cells_needed p t) k.area =
        ap (λ (x : Kept). x.area) s.kept
        ∙ area_is acts cap cells_of refl (λ r rs. refl) k es (entry_long s.rows s.all) fresh
        (omega (arith, number)) (omega arith)
        ∙ ap (λ (n : ℕ). cells_of (lines es) ++ drop n k.area) wide in
        ap
        (λ (cells : List ℕ).
        cells_of (sorted (rows_in (suc (length p.activities)) (pair_count p t) cells)) ++ drop (cells_needed p t) cells)
        filled
        ∙ placed_rows s.rows s.all (drop (cells_needed p t) k.area)

    first : latest_possible < k.tally.best_end → pair_count p t ≤ cap → FirstFound (run acts cap k es).tally es
    first above few =
        best acts cap k es
        (omega (arith, number, pairs_some p t holds.valid))
        (omega (arith, number))
        (λ e m.
        let (v, l, row, n, is) = entry_is (project_at c t) s.rows (variant_count t) e m in
        omega (
          arith,
          ap (λ (y : Entry). latest_end y.project (starts_of y.row)) is,
          variant_latest p t v (chosen p t v holds.valid l) row (row_pair_of s.rows s.all v l row n).session,
        ))

    -- The schedule that is kept is what BEST answers, with as many ties as are shortest.
    pub kept_best : k.tally.ties ≡ 0 → latest_possible < k.tally.best_end → pair_count p t ≤ cap → (b : Best)
        → b
        ≡ found after.tally.best_variant after.tally.best_end (pair_count p t) after.tally.ties after.tally.best.starts
        → b ≡ best_row p t (first_shortest p t)
    kept_best untied above few b answer =
        let last : Tally = (run acts cap k es).tally in
        let f : FirstFound last es = first above few in
        let (v, l, row, m, is) = entry_is (project_at c t) s.rows (variant_count t) f.entry f.one_of in
        let pair : Pair p t v row = row_pair_of s.rows s.all v l row m in
        let kept : rank_kept last ≡ ranked p t v row =
        f.keeps ∙ ap rank_entry (sym is) ∙ rank_is s.rows s.all v row pair in
        let rank : rank_kept after.tally ≡ ranked p t v row =
        ap (λ (x : Kept). rank_kept x.tally) s.kept ∙ kept in
        let end = head-eq_of_cons-eq rank in
        let variant = head-eq_of_cons-eq (tail-eq_of_cons-eq rank) in
        let earliest : Earliest p t v row =
        record {
          pair = pair;
          first =
              λ u other else.
              let n = pair_row_of s.rows s.all u other else in
              subst (NotAfter (ranked p t v row)) (rank_is s.rows s.all u other else)
              (subst (λ (a : List ℕ). NotAfter a (rank_entry (entry_of (project_at c t u) u other))) kept
              (f.first (entry_of (project_at c t u) u other)
              (entry_in (project_at c t) s.rows (variant_count t) u other else.below n)));
        } in
        let ties : after.tally.ties ≡ shortest_count p t =
        ap (λ (x : Kept). x.tally.ties) s.kept
        ∙ ties_are acts cap k es untied (omega (arith, number))
        ∙ ap (λ (n : ℕ). ending_on n es) (head-eq_of_cons-eq kept)
        ∙ ending_pairs s.rows s.all (end_at p t v row)
        ∙ earliest_ties p t holds.valid v row earliest in
        earliest_best p t holds.valid v row earliest b
        (answer
        ∙ ap₂ (λ (n x : ℕ). found n x (pair_count p t) after.tally.ties after.tally.best.starts) variant end
        ∙ ap₂ (found v (end_at p t v row) (pair_count p t)) ties (tail-eq_of_cons-eq (tail-eq_of_cons-eq rank)))
