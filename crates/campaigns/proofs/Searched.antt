-- LIST, BEST and the makespans of a variant, as the scan computes them: the rows that it finds are the pairs, once they
-- are sorted.
use Prim.Native.Nat.{ℕ, suc, ◌*◌, ◌<◌}
use native.Mathlib.Decide.{ℕ_discrete}
use native.Mathlib.Omega.{arith}
use mathlib.Core.Bool.{Bool, true, false, not, false≢true}
use mathlib.Core.List.Perm
use mathlib.Core.List.Pairwise
use mathlib.Core.List.{List, [], ◌∷◌, ◌++◌, map, Mem, Memᴰ, List-discrete, Perm}
use mathlib.Core.Path.{◌≡◌, refl, sym, ap, subst, ◌∙◌}
use borrow.Author.Tests.{ltb-true}
use lib.Dec.{eqb, leb, ltb}
use lib.ListN.{length, get_or, drop}
use Rattle.base.specs.Below.{every_below}
use Rattle.base.specs.Lists.{keep, gather, is_one_of, least_of, cells_of}
use Rattle.base.proofs.Below.{every_same}
use Rattle.base.proofs.Bools.{same_bool}
use Rattle.base.proofs.Lists.{mem_found, one_of_is, one_of, keep_same, keep_perm, gather_perm}
use Rattle.base.specs.Order.{sorted}
use Rattle.base.proofs.Order.{before_not_after, sorted_is}
use Rattle.plan.specs.Outcome.{Outcome}
use Rattle.plan.specs.Plan.{Plan}
use Rattle.plan.specs.declared.Refusal.TheVariants.{OverCap, AreaTooShort}
use Rattle.term.specs.Term.{Term}
use Rattle.term.specs.Valid.{Valid}
use Rattle.term.specs.Variants.{variant_count}
use Rattle.schedule.specs.Project.{Project}
use Rattle.schedule.specs.Schedule.{makespan}
use Rattle.schedule.specs.Sessions.{sessions, starts_of}
use Rattle.schedule.proofs.Box.{sessions_ordered}
use Rattle.timetable.specs.Mark.{mark}
use Rattle.scan.specs.Components.{component_of}
use Rattle.variant.specs.Project.{project_of, variant_at}
use Rattle.variant.specs.Pairs.{sessions_of, is_new, pairs, pair_count}
use Rattle.variant.specs.Timetable.{timetable_of}
use Rattle.judge.specs.Judge.{Verdict, accepts, refuses, judge}
use Rattle.judge.proofs.Accepts.{accepted_valid}
use Rattle.answers.specs.Listed.{list_within, list_by, list_of}
use Rattle.answers.specs.Shortest.{row_variant, row_starts, row_span, shortest_pairs, shortest_count, first_shortest}
use Rattle.answers.specs.Shortest.{best_within, best_by, best_of}
use Rattle.answers.specs.declared.Best.{Best}
use Rattle.std.specs.Prelude.{Result, Ok, Err}
use Rattle.plan.specs.declared.Refusal.{Refusal}
use Rattle.plan_exact.proofs.Rows.{rows_sorted}
use Rattle.plan_exact.proofs.Variant.{chosen}
use Rattle.plan_exact.proofs.Found.{variant_scan}
use Rattle.campaigns.specs.Table.{Spans}
use Rattle.campaigns.proofs.Quick.{quick_schedules, schedules_quick}

-- What the scan finds for variant v, and whether it finds a row for no lower one.
abbrev scanned : Plan → Term → ℕ → List (List ℕ)
scanned p t v =
    let P : Project = project_of p (variant_at t v) in quick_schedules P (component_of P) mark

unfoldable pub is_first : Plan → Term → ℕ → List ℕ → Bool
is_first p t v row = every_below v λ u. not (is_one_of row (scanned p t u))

-- The rows of all variants.
abbrev all_rows : Plan → Term → List (List ℕ)
all_rows p t = gather (variant_count t) λ v. map (v ∷◌) (keep (is_first p t v) (scanned p t v))

unfoldable pub found : Plan → Term → List (List ℕ)
found p t = sorted (all_rows p t)

module _ (p : Plan) (t : Term) (valid : Valid p t) where
  scan_perm : (v : ℕ) → v < variant_count t → Perm (scanned p t v) (sessions_of p t v)
  scan_perm v l =
      let P : Project = project_of p (variant_at t v) in
      subst (λ (rows : List (List ℕ)). Perm rows (sessions_of p t v)) (sym (schedules_quick P (component_of P) mark))
      (variant_scan p t v (chosen p t v valid l))

  one_same : (v : ℕ) → v < variant_count t → (row : List ℕ)
      → is_one_of row (scanned p t v) ≡ is_one_of row (sessions_of p t v)
  one_same v l row =
      let found_in : (rows : List (List ℕ)) → Mem row rows → Memᴰ row rows =
      mem_found (List-discrete ℕ_discrete) row in
      same_bool (is_one_of row (scanned p t v)) (is_one_of row (sessions_of p t v))
      (λ y.
      one_of row (sessions_of p t v)
      (found_in (sessions_of p t v) ((Perm.mem_iff (scan_perm v l)).0 ∣ one_of_is row (scanned p t v) y ∣₁)))
      (λ y.
      one_of row (scanned p t v)
      (found_in (scanned p t v) ((Perm.mem_iff (scan_perm v l)).1 ∣ one_of_is row (sessions_of p t v) y ∣₁)))

  first_same : (v : ℕ) → v < variant_count t → (row : List ℕ) → is_first p t v row ≡ is_new p t v row
  unfolding is_first is_new
  first_same v l row =
      every_same v (λ u. not (is_one_of row (scanned p t u))) (λ u. not (is_one_of row (sessions_of p t u)))
      (λ u b. ap not (one_same u (omega arith) row))

  all_perm : Perm (all_rows p t) (pairs p t)
  unfolding pairs
  all_perm =
      gather_perm (variant_count t) (λ v. map (v ∷◌) (keep (is_first p t v) (scanned p t v)))
      (λ v. map (v ∷◌) (keep (is_new p t v) (sessions_of p t v)))
      (λ v l.
      Perm.map (v ∷◌)
      (subst (λ (rows : List (List ℕ)). Perm rows (keep (is_new p t v) (sessions_of p t v)))
      (sym (keep_same (is_first p t v) (is_new p t v) (scanned p t v) (λ row m. first_same v l row)))
      (keep_perm (is_new p t v) (scan_perm v l))))

found_is : (s : List ℕ) (p : Plan) (t : Term) → judge s ≡ accepts p t → pairs p t ≡ found p t
unfolding found
found_is s p t e =
    let valid : Valid p t = (accepted_valid s p t e).0 in
    sym (rows_sorted p t (all_rows p t) (all_perm p t valid))

-- LIST, by rows of so many cells.
abbrev list_rows : Bool → Bool → List (List ℕ) → ℕ → List ℕ → Outcome (Result ℕ Refusal)
list_rows false fits rows width area = record { answer = Err OverCap; area = area }
list_rows true false rows width area = record { answer = Err (AreaTooShort (length rows * width)); area = area }
list_rows true true rows width area =
    record { answer = Ok (length rows); area = cells_of rows ++ drop (length rows * width) area }

abbrev listed : Plan → ℕ → List ℕ → List (List ℕ) → Outcome (Result ℕ Refusal)
listed p cap area rows =
    let width : ℕ = suc (length p.activities) in
    list_rows (leb (length rows) cap) (leb (length rows * width) (length area)) rows width area

abbrev list_verdict : Verdict → ℕ → List ℕ → Outcome (Result ℕ Refusal)
list_verdict (accepts p t) cap area = listed p cap area (found p t)
list_verdict (refuses r) cap area = record { answer = Err r; area = area }

unfoldable pub list_model : List ℕ → ℕ → List ℕ → Outcome (Result ℕ Refusal)
list_model s cap area = list_verdict (judge s) cap area

list_rows_lem : (a b : Bool) (p : Plan) (t : Term) (area : List ℕ)
    → list_within a b p t area ≡ list_rows a b (pairs p t) (suc (length p.activities)) area
unfolding pair_count
list_rows_lem false b p t area = refl
list_rows_lem true false p t area = refl
list_rows_lem true true p t area = refl

list_verdict_lem : (s : List ℕ) (cap : ℕ) (area : List ℕ) (o : Verdict) → judge s ≡ o
    → list_by o cap area ≡ list_verdict o cap area
unfolding pair_count
list_verdict_lem s cap area (accepts p t) e =
    list_rows_lem (leb (length (pairs p t)) cap) (leb (length (pairs p t) * suc (length p.activities)) (length area))
    p t area
    ∙ ap (listed p cap area) (found_is s p t e)
list_verdict_lem s cap area (refuses r) e = refl

pub list_is : (s : List ℕ) (cap : ℕ) (area : List ℕ) → list_of s cap area ≡ list_model s cap area
unfolding list_of list_model
list_is s cap area = list_verdict_lem s cap area (judge s) refl

-- BEST, by the rows.
abbrev shortest_of : Plan → Term → List (List ℕ) → List (List ℕ)
shortest_of p t rows = keep (λ row. eqb (row_span p t row) (least_of (map (row_span p t) rows))) rows

abbrev best_rows : Bool → Plan → Term → List (List ℕ) → Result Best Refusal
best_rows true p t rows =
    let row : List ℕ = get_or (shortest_of p t rows) 0 [] in
    Ok
    (record {
      variant = row_variant row;
      makespan = row_span p t row;
      count = length rows;
      shortest = length (shortest_of p t rows);
      timetable = record { starts = timetable_of p (row_starts row) };
    })
best_rows false p t rows = Err OverCap

abbrev best_verdict : Verdict → ℕ → Result Best Refusal
best_verdict (accepts p t) cap = best_rows (leb (length (found p t)) cap) p t (found p t)
best_verdict (refuses r) cap = Err r

unfoldable pub best_model : List ℕ → ℕ → Result Best Refusal
best_model s cap = best_verdict (judge s) cap

best_rows_lem : (a : Bool) (p : Plan) (t : Term) → best_within a p t ≡ best_rows a p t (pairs p t)
unfolding pair_count shortest_count first_shortest shortest_pairs
best_rows_lem true p t = refl
best_rows_lem false p t = refl

best_verdict_lem : (s : List ℕ) (cap : ℕ) (o : Verdict) → judge s ≡ o → best_by o cap ≡ best_verdict o cap
unfolding pair_count
best_verdict_lem s cap (accepts p t) e =
    best_rows_lem (leb (length (pairs p t)) cap) p t
    ∙ ap (λ (rows : List (List ℕ)). best_rows (leb (length rows) cap) p t rows) (found_is s p t e)
best_verdict_lem s cap (refuses r) e = refl

pub best_is : (s : List ℕ) (cap : ℕ) → best_of s cap ≡ best_model s cap
unfolding best_of best_model
best_is s cap = best_verdict_lem s cap (judge s) refl

-- The makespans of variant v, and whether the file is accepted and has it.
abbrev variant_rows : Plan → Term → ℕ → List (List ℕ)
variant_rows p t v = sorted (scanned p t v)

abbrev spans_verdict : Verdict → ℕ → List ℕ
spans_verdict (accepts p t) v =
    map (λ row. makespan (project_of p (variant_at t v)) (starts_of row)) (variant_rows p t v)
spans_verdict (refuses r) v = []

unfoldable pub spans_model : List ℕ → ℕ → List ℕ
spans_model s v = spans_verdict (judge s) v

abbrev has_verdict : Verdict → ℕ → Bool
has_verdict (accepts p t) v = ltb v (variant_count t)
has_verdict (refuses r) v = false

unfoldable pub has_model : List ℕ → ℕ → Bool
has_model s v = has_verdict (judge s) v

variant_rows_lem : (p : Plan) (t : Term) → Valid p t → (v : ℕ) → v < variant_count t
    → sessions (project_of p (variant_at t v)) mark ≡ variant_rows p t v
variant_rows_lem p t valid v l =
    let P : Project = project_of p (variant_at t v) in
    sorted_is (sessions P mark) (scanned p t v) (Pairwise.imp before_not_after (sessions_ordered P mark))
    (Perm.symm (scan_perm p t valid v l))

spans_verdict_lem : (s : List ℕ) (v : ℕ) (ms : List ℕ) (o : Verdict) → judge s ≡ o → has_verdict o v ≡ true
    → spans_verdict o v ≡ ms → Spans s v ms
spans_verdict_lem s v ms (accepts p t) e h m =
    let l = ltb-true v (variant_count t) h in
    record {
      plan = p;
      term = t;
      accepted = e;
      within = l;
      same =
          ap (map (λ row. makespan (project_of p (variant_at t v)) (starts_of row)))
          (variant_rows_lem p t (accepted_valid s p t e).0 v l)
          ∙ m;
    }
spans_verdict_lem s v ms (refuses r) e h m = absurd (false≢true h)

pub spans_is : (s : List ℕ) (v : ℕ) (ms : List ℕ) → has_model s v ≡ true → spans_model s v ≡ ms → Spans s v ms
unfolding has_model spans_model
spans_is s v ms h m = spans_verdict_lem s v ms (judge s) refl h m
