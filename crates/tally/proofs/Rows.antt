-- The starts of a schedule as the program writes them: one store at a time, as a row in its stretch of the area, and
-- in the cells of the tally. Its rank beside the one kept, as the program compares them.
use Prim.Native.Nat.{ℕ, suc, ◌+◌, ◌-◌, ◌*◌, ◌≤◌, ◌<◌}
use native.Mathlib.Nat.{not-suc-le-zero, le_antisymm}
use native.Mathlib.Decide.{ℕ_discrete, dec_lt}
use native.Mathlib.Numerals.{add-one, one-add}
use native.Mathlib.Omega.{arith}
use mathlib.Core.Bool.{Bool, true, false, cond}
use mathlib.Core.List.{List, [], ◌∷◌, ◌++◌, append_assoc, append-nil}
use mathlib.Core.Logic.{by_cases}
use mathlib.Core.Path.{◌≡◌, refl, sym, ap, ap₂, ◌∙◌, subst}
use lib.Dec.{eqb, ltb}
use lib.ListN.{length, get_or, set, take, drop, replicate, length-append, length-drop, length-set, drop_of_length-le}
use lib.ListN.{length-replicate, get_or-replicate, get_or-append}
use lib.Seq.{paste, paste-suc, take-suc, take-suc-set, take_all, drop-drop, get_or-set_same, get_or-set_other}
use lib.Seq.{drop-cons, get_or-drop, get_or-append-add, length-take-le}
use borrow.Author.Tests.{le-leb, lt-leb, eq-eqb, ne_eqb}
use Rattle.base.specs.Order.{is_before}
use Rattle.base.proofs.Bools.{by_bool, cond_true, cond_false}
use Rattle.base.proofs.Order.{same_first, other_first}
use Rattle.base.proofs.Below.{max_term, max_least}
use Rattle.plan.specs.Limits.{word_values}
use Rattle.sets.specs.Sets.{most, has}
use Rattle.timetable.specs.Mark.{mark, places}
use Rattle.schedule.specs.Project.{Project}
use Rattle.schedule.specs.Schedule.{latest_end}
use Rattle.schedule.specs.Sessions.{starts_of}
use Rattle.schedule.proofs.Load.{end_le, ends_least}
use Rattle.instance.specs.Table.{variant_of, acts_of, present_of, duration_at, project_in}
use Rattle.instance.specs.Instance.{Instance}
use Rattle.profile.specs.Work.{end_at, start_at, latest_of}
use Rattle.soonest.specs.Row.{Ended, row_in}
use Rattle.soonest.proofs.Row.{row_length, row_at, end_is, present_below}
use Rattle.tally.specs.Seen.{Setting, row_placed, timetable_of, IsTally, tally_of, kept_of, better, seen, counted}
use Rattle.tally.specs.Seen.{count_cell, ties_cell, best_end_cell, best_variant_cell, starts_from, tally_cells}
use Rattle.tally.specs.Seen.{line_in, rank_in, rank_of, rank_kept, ties_with}
use Rattle.tally.specs.declared.Tally.{Tally}
use Rattle.tally.specs.Leaf.{start_of}

-- ---- starts

start_below : (end d : ℕ) → end < word_values → start_of end d < word_values
unfolding start_of
start_below end d h =
    by_cases
    (ℕ_discrete end 0)
    (λ e. rw (eq-eqb end 0 e) (omega arith))
    (λ ne. rw (ne_eqb end 0 ne) (omega arith))

-- The schedule in the working array.
module _ (t w : List ℕ) (whole : Instance t) (ended : Ended t w) where
  abbrev few : acts_of t ≤ places
  few = whole.laid.acts

  start_present : (i : ℕ) → has (present_of t) i ≡ true → start_of (end_at w i) (duration_at t i) ≡ start_at t w i
  unfolding start_of
  start_present i y =
      cond_false mark (start_at t w i)
      (ne_eqb (end_at w i) 0 (λ e. omega (arith, ended.ran i y, whole.laid.long i (whole.present i y))))

  start_absent : (i : ℕ) → i < places → has (present_of t) i ≡ false → start_of (end_at w i) (duration_at t i) ≡ mark
  unfolding start_of
  start_absent i l z = cond_true mark (start_at t w i) (eq-eqb (end_at w i) 0 (ended.idle i l z))

  -- What the code stores is the start that is due.
  pub row_start : (i x : ℕ) → i < acts_of t → x ≡ start_of (end_at w i) (duration_at t i) → x ≡ get_or (row_in t w) i 0
  row_start i x l e =
      by_bool
      (has (present_of t) i)
      (λ y. e ∙ start_present i y ∙ sym (row_at t w i l ∙ cond_true (start_at t w i) mark y))
      (λ z.
      e ∙ start_absent i (omega (arith, few)) z ∙ sym (row_at t w i l ∙ cond_false (start_at t w i) mark z))

  pub timetable_length : length (timetable_of (row_in t w)) ≡ places
  unfolding timetable_of
  timetable_length =
      length-append (row_in t w) (replicate (places - length (row_in t w)) mark)
      ∙ omega (arith, length-replicate (places - length (row_in t w)) mark, row_length t w, few)

  pub timetable_start : (i x : ℕ) → i < places → x ≡ start_of (end_at w i) (duration_at t i)
      → x ≡ get_or (timetable_of (row_in t w)) i 0
  unfolding timetable_of
  timetable_start i x l e =
      by_cases
      (dec_lt i (acts_of t))
      (λ b.
      row_start i x b e
      ∙ sym (get_or-append (row_in t w) (replicate (places - length (row_in t w)) mark) 0 i
      (omega (arith, row_length t w))))
      (λ n.
      let row : List ℕ = row_in t w in
      let rest : List ℕ = replicate (places - length row) mark in
      let past : ℕ = i - length row in
      let at : length row + past ≡ i = omega (arith, row_length t w) in
      let absent : has (present_of t) i ≡ false =
      by_bool (has (present_of t) i) (λ y. absurd (n (whole.present i y))) (λ z. z) in
      e
      ∙ start_absent i l absent
      ∙ sym (get_or-replicate (places - length row) past mark 0 (omega (arith, row_length t w)))
      ∙ sym (get_or-append-add row rest past 0)
      ∙ ap (λ (k : ℕ). get_or (row ++ rest) k 0) at)

  pub timetable_below : (i : ℕ) → i < places → get_or (timetable_of (row_in t w)) i 0 < word_values
  timetable_below i l =
      omega (
        arith,
        timetable_start i (start_of (end_at w i) (duration_at t i)) l refl,
        start_below (end_at w i) (duration_at t i) (omega (arith, ended.timed.times i)),
      )

  pub line_length : length (line_in t w) ≡ acts_of t + 1
  line_length = ap suc (row_length t w) ∙ sym (add-one (acts_of t))

  -- The latest end.
  pub last_is : latest_of w (present_of t) ≡ latest_end (project_in t) (starts_of (row_in t w))
  unfolding project_in
  last_is =
      le_antisymm
      (max_least most (λ i. cond (has (present_of t) i) (end_at w i) 0) (latest_end (project_in t) (starts_of (row_in t w)))
      (λ i l.
      by_bool
      (has (present_of t) i)
      (λ y.
      omega (
        arith,
        cond_true (end_at w i) 0 y,
        end_is t w whole ended i y,
        end_le (project_in t) (starts_of (row_in t w)) i (record { below = whole.present i y; there = y }),
      ))
      (λ z. omega (arith, cond_false (end_at w i) 0 z))))
      (ends_least (project_in t) (starts_of (row_in t w)) (latest_of w (present_of t))
      (λ i h.
      omega (
        arith,
        end_is t w whole ended i h.there,
        cond_true (end_at w i) 0 h.there,
        max_term most (λ i. cond (has (present_of t) i) (end_at w i) 0) i (present_below t i whole h.there),
      )))

-- One more start is copied to its place.
pub one_more : (l₀ s l : List ℕ) (at i x : ℕ) → at + i < length l₀ → i < length s → x ≡ get_or s i 0
    → l ≡ paste l₀ at s i
    → set l (at + i) x ≡ paste l₀ at s (i + 1)
one_more l₀ s l at i x h k new so_far =
    ap₂ (λ (r : List ℕ) (y : ℕ). set r (at + i) y) so_far new ∙ paste-suc l₀ at s i 0 h k
    ∙ ap (paste l₀ at s) (sym (add-one i))

-- ---- rows

-- The first cell is stored, then n starts are copied behind it.
row_written : (row s : List ℕ) (x n : ℕ) → 0 < length row
    → paste (set row 0 x) 1 s n ≡ (x ∷ take n s) ++ drop (n + 1) row
row_written [] s x n h = absurd (not-suc-le-zero h)
row_written (y ∷ ys) s x n h = rw (one-add, add-one)

pub row_done : (t w row : List ℕ) → 0 < length row
    → paste (set row 0 (variant_of t)) 1 (row_in t w) (acts_of t) ≡ line_in t w ++ drop (acts_of t + 1) row
row_done t w row h =
    row_written row (row_in t w) (variant_of t) (acts_of t) h
    ∙ ap (λ (l : List ℕ). (variant_of t ∷ l) ++ drop (acts_of t + 1) row)
    (take_all (acts_of t) (row_in t w) (omega (arith, row_length t w)))

placed_fits : (area row rest : List ℕ) (at : ℕ) → at + length row ≤ length area
    → rest ≡ row ++ drop (length row) (drop at area)
    → take at area ++ rest ≡ row_placed area at row
unfolding row_placed
placed_fits area row rest at h e =
    ap (take at area ++◌) e
    ∙ ap (λ (xs : List ℕ). take at area ++ (row ++ xs)) (drop-drop (length row) at area)
    ∙ sym (append_assoc (take at area) row (drop (at + length row) area))
    ∙ sym (rw (le-leb (at + length row) (length area) h) refl)

pub placed_not : (area row : List ℕ) (at : ℕ) → length area < at + length row → area ≡ row_placed area at row
unfolding row_placed
placed_not area row at h = rw (lt-leb (at + length row) (length area) h)

-- A part of the area from `at` on came back as `part`: the row, and what lay behind it.
pub row_placed_lem : (area row part : List ℕ) (at n : ℕ) → at + n ≤ length area → length row ≡ n
    → part ≡ row ++ drop n (take (length area - at) (drop at area))
    → take at area ++ (part ++ drop (length area - at) (drop at area)) ≡ row_placed area at row
row_placed_lem area row part at n h e back =
    let whole : take (length area - at) (drop at area) ≡ drop at area =
    take_all (length area - at) (drop at area) (omega (arith, length-drop at area)) in
    let none : drop (length area - at) (drop at area) ≡ [] =
    drop_of_length-le (drop at area) {i = length area - at} (omega (arith, length-drop at area)) in
    placed_fits area row (part ++ drop (length area - at) (drop at area)) at (omega arith)
    (ap (part ++◌) none ∙ append-nil part ∙ back ∙ ap₂ (λ (k : ℕ) (xs : List ℕ). row ++ drop k xs) (sym e) whole)

-- ---- the tally

-- There is at most one more that ends as soon.
ties_most : (t : Tally) (end : ℕ) → ties_with t end ≤ t.ties + 1
ties_most t end =
    by_bool
    (ltb end t.best_end)
    (λ y. rw y (omega arith))
    (λ n. rw n (by_bool (eqb end t.best_end) (λ y. rw y (omega arith)) (λ n. rw n (omega arith))))

four : (P : List ℕ → Type 0) → ((w x y z : ℕ) (l : List ℕ) → P (w ∷ x ∷ y ∷ z ∷ l)) → (cells : List ℕ)
    → starts_from ≤ length cells → P cells
four P f [] h = absurd (omega arith)
four P f (a ∷ []) h = absurd (omega arith)
four P f (a ∷ b ∷ []) h = absurd (omega arith)
four P f (a ∷ b ∷ c ∷ []) h = absurd (omega arith)
four P f (a ∷ b ∷ c ∷ d ∷ l) h = f a b c d l

-- A store in one of the cells before the starts, where the ties are still no more than the count.
front_set : (cells : List ℕ) (k x : ℕ) → k < starts_from → IsTally cells
    → get_or (set cells k x) ties_cell 0 ≤ get_or (set cells k x) count_cell 0
    → IsTally (set cells k x)
front_set cells k x h t few =
    record {
      size = length-set cells k x ∙ t.size;
      few = few;
      starts = λ i l. omega (arith, get_or-set_other cells k (starts_from + i) x 0 (λ e. omega arith), t.starts i l);
    }

pub tally_set : (cells : List ℕ) (k x : ℕ) → ties_cell < k → k < starts_from → IsTally cells → IsTally (set cells k x)
tally_set cells k x g h t =
    front_set cells k x h t
    (omega (
      arith,
      get_or-set_other cells k ties_cell x 0 (λ e. omega arith),
      get_or-set_other cells k count_cell x 0 (λ e. omega arith),
      t.few,
    ))

-- The starts s behind the first four cells.
pub all_stored : (cells s cells' : List ℕ) (n : ℕ) → n ≡ places → length cells ≡ tally_cells → length s ≡ places
    → cells' ≡ paste cells starts_from s n → cells' ≡ take starts_from cells ++ s
all_stored cells s cells' n all e f back =
    back
    ∙ ap (paste cells starts_from s) all
    ∙ ap₂ (λ (x y : List ℕ). take starts_from cells ++ x ++ y) (take_all places s (omega arith))
    (drop_of_length-le cells {i = tally_cells} (omega arith))
    ∙ append-nil (take starts_from cells ++ s)

pub tally_stored : (cells s cells' : List ℕ) → IsTally cells → length s ≡ places
    → ((i : ℕ) → i < places → get_or s i 0 < word_values)
    → cells' ≡ take starts_from cells ++ s → IsTally cells'
tally_stored cells s cells' t f low back =
    let front : length (take starts_from cells) ≡ starts_from =
    length-take-le starts_from cells (omega (arith, t.size)) in
    record {
      size = omega (arith, ap length back, length-append (take starts_from cells) s, front);
      few =
          subst (λ (l : List ℕ). get_or l ties_cell 0 ≤ get_or l count_cell 0) (sym back)
          (four
          (λ l. get_or l ties_cell 0 ≤ get_or l count_cell 0
          → get_or (take starts_from l ++ s) ties_cell 0 ≤ get_or (take starts_from l ++ s) count_cell 0)
          (λ w x y z l h. h)
          cells
          (omega (arith, t.size))
          t.few);
      starts = λ i l.
          let at : get_or cells' (starts_from + i) 0 ≡ get_or s i 0 =
          ap₂ (λ (x : List ℕ) (k : ℕ). get_or x (k + i) 0) back (sym front)
          ∙ get_or-append-add (take starts_from cells) s i 0 in
          omega (arith, at, low i l);
    }

-- One more of the list s is copied.
pub one_copied : (l s : List ℕ) (i x : ℕ) → i < length l → i < length s → x ≡ get_or s i 0 → take i l ≡ take i s
    → take (i + 1) (set l i x) ≡ take (i + 1) s
one_copied l s i x h k new so_far =
    ap (λ (n : ℕ). take n (set l i x)) (add-one i)
    ∙ take-suc-set l i x h
    ∙ ap₂ (λ (xs : List ℕ) (y : ℕ). xs ++ (y ∷ [])) so_far new
    ∙ sym (take-suc s i 0 k)
    ∙ ap (λ (n : ℕ). take n s) (sym (add-one i))

-- ---- the rank

-- The schedule's starts, and those kept.
module _ (t w cells : List ℕ) where
  abbrev ours : List ℕ
  ours = timetable_of (row_in t w)

  abbrev theirs : List ℕ
  theirs = drop starts_from cells

  -- From the place i on.
  module _ (whole : Instance t) (ended : Ended t w) (i : ℕ) (tally : IsTally cells) where
    ours_size : length ours ≡ places
    ours_size = timetable_length t w whole ended

    theirs_size : length theirs ≡ places
    theirs_size = length-drop starts_from cells ∙ omega (arith, tally.size)

    pub starts_passed : places ≤ i → is_before (drop i ours) (drop i theirs) ≡ false
    starts_passed l =
        ap₂ is_before (drop_of_length-le ours {i = i} (omega (arith, ours_size)))
        (drop_of_length-le theirs {i = i} (omega (arith, theirs_size)))

    module _ (x : ℕ) (low : i < places) (is : x ≡ start_of (end_at w i) (duration_at t i)) where
      abbrev there : ℕ
      there = get_or cells (starts_from + i) 0

      both_there : is_before (drop i ours) (drop i theirs)
          ≡ is_before (x ∷ drop (suc i) ours) (there ∷ drop (suc i) theirs)
      both_there =
          ap₂ is_before (drop-cons ours i 0 (omega (arith, ours_size)))
          (drop-cons theirs i 0 (omega (arith, theirs_size)))
          ∙ ap₂ (λ (m n : ℕ). is_before (m ∷ drop (suc i) ours) (n ∷ drop (suc i) theirs))
          (sym (timetable_start t w whole ended i x low is)) (get_or-drop starts_from cells i 0)

      pub start_same : x ≡ there
          → is_before (drop i ours) (drop i theirs) ≡ is_before (drop (i + 1) ours) (drop (i + 1) theirs)
      start_same e =
          both_there
          ∙ same_first x there (drop (suc i) ours) (drop (suc i) theirs) e
          ∙ ap (λ (k : ℕ). is_before (drop k ours) (drop k theirs)) (sym (add-one i))

      pub start_other : (x ≡ there → ⊥) → is_before (drop i ours) (drop i theirs) ≡ ltb x there
      start_other ne = both_there ∙ other_first x there (drop (suc i) ours) (drop (suc i) theirs) ne

  -- The latest end decides, or the variant does, or the starts do.
  abbrev their_end : ℕ
  their_end = get_or cells best_end_cell 0

  abbrev their_variant : ℕ
  their_variant = get_or cells best_variant_cell 0

  abbrev our_end : ℕ
  our_end = latest_end (project_in t) (starts_of (row_in t w))

  pub by_end : (end : ℕ) → end ≡ our_end → (end ≡ their_end → ⊥)
      → ltb end their_end ≡ is_before (rank_in t w) (rank_kept (tally_of cells))
  by_end end is ne =
      sym (other_first end their_end (variant_of t ∷ ours) (their_variant ∷ theirs) ne)
      ∙ ap (λ (n : ℕ). is_before (n ∷ variant_of t ∷ ours) (rank_kept (tally_of cells))) is

  module _ (same : our_end ≡ their_end) where
    same_end : is_before (rank_in t w) (rank_kept (tally_of cells))
        ≡ is_before (variant_of t ∷ ours) (their_variant ∷ theirs)
    same_end = same_first our_end their_end (variant_of t ∷ ours) (their_variant ∷ theirs) same

    pub by_variant : (variant_of t ≡ their_variant → ⊥)
        → ltb (variant_of t) their_variant ≡ is_before (rank_in t w) (rank_kept (tally_of cells))
    by_variant ne = sym (same_end ∙ other_first (variant_of t) their_variant ours theirs ne)

    pub by_starts : variant_of t ≡ their_variant
        → is_before ours theirs ≡ is_before (rank_in t w) (rank_kept (tally_of cells))
    by_starts e = sym (same_end ∙ same_first (variant_of t) their_variant ours theirs e)

-- One more is counted, and then x are as short, which does not change the rank kept.
abbrev pub more : List ℕ → List ℕ
more cells = set cells count_cell (get_or cells count_cell 0 + 1)

abbrev pub tied : List ℕ → ℕ → List ℕ
tied cells x = set (more cells) ties_cell x

module _ (cells : List ℕ) (t : IsTally cells) where
  counted_more : get_or (more cells) count_cell 0 ≡ get_or cells count_cell 0 + 1
  counted_more = get_or-set_same cells count_cell (get_or cells count_cell 0 + 1) 0 (omega (arith, t.size))

  ties_there : get_or (more cells) ties_cell 0 ≡ get_or cells ties_cell 0
  ties_there = get_or-set_other cells count_cell ties_cell (get_or cells count_cell 0 + 1) 0 (λ e. omega arith)

  more_tally : IsTally (more cells)
  more_tally =
      front_set cells count_cell (get_or cells count_cell 0 + 1) (omega arith) t
      (omega (arith, counted_more, ties_there, t.few))

  pub tied_tally : (x end : ℕ) → x ≡ ties_with (tally_of (more cells)) end → IsTally (tied cells x)
  tied_tally x end e =
      front_set (more cells) ties_cell x (omega arith) more_tally
      (omega (
        arith,
        get_or-set_same (more cells) ties_cell x 0 (omega (arith, more_tally.size)),
        get_or-set_other (more cells) ties_cell count_cell x 0 (λ q. omega arith),
        counted_more,
        ties_there,
        t.few,
        e,
        ties_most (tally_of (more cells)) end,
      ))

module _ (p : Project) (q : Setting) (row : List ℕ) where
  abbrev ahead : List ℕ → Bool
  ahead cells = is_before (rank_of p q.variant row) (rank_kept (tally_of cells))

  -- The cells with the end, the variant and the starts stored too.
  abbrev ranked : List ℕ → ℕ → ℕ → List ℕ
  ranked cells x end =
      take starts_from (set (set (tied cells x) best_end_cell end) best_variant_cell q.variant) ++ timetable_of row

  module _ (cells : List ℕ) (x end : ℕ) (t : IsTally cells) (last : end ≡ latest_end p (starts_of row))
      (ties : x ≡ ties_with (tally_of (more cells)) end) where
    pub rank_before : (cells' : List ℕ) → ahead (tied cells x) ≡ true → cells' ≡ ranked cells x end
        → tally_of cells' ≡ better p q (tally_of cells) row
    unfolding better
    rank_before cells' h back =
        ap tally_of back
        ∙ four
        (λ l. x ≡ ties_with (tally_of (more l)) end → ahead (tied l x) ≡ true
        → tally_of (ranked l x end) ≡ better p q (tally_of l) row)
        (λ a b y z r ties h.
        (λ i.
        record {
          count = a + 1;
          ties = (ties ∙ ap (ties_with (tally_of (a ∷ b ∷ y ∷ z ∷ r))) last) i;
          best_end = last i;
          best_variant = q.variant;
          best = record { starts = timetable_of row };
        })
        ∙ rw h refl)
        cells
        (omega (arith, t.size))
        ties
        h

    pub rank_after : ahead (tied cells x) ≡ false → tally_of (tied cells x) ≡ better p q (tally_of cells) row
    unfolding better
    rank_after h =
        four
        (λ l. x ≡ ties_with (tally_of (more l)) end → ahead (tied l x) ≡ false
        → tally_of (tied l x) ≡ better p q (tally_of l) row)
        (λ a b y z r ties h.
        (λ i.
        record {
          count = a + 1;
          ties = (ties ∙ ap (ties_with (tally_of (a ∷ b ∷ y ∷ z ∷ r))) last) i;
          best_end = y;
          best_variant = z;
          best = record { starts = r };
        })
        ∙ rw h refl)
        cells
        (omega (arith, t.size))
        ties
        h

  pub seen_counted : (cells cells' area area' : List ℕ) → get_or cells count_cell 0 ≤ q.cap
      → tally_of cells' ≡ better p q (tally_of cells) row
      → area' ≡ row_placed area (get_or cells count_cell 0 * (q.acts + 1)) (q.variant ∷ row)
      → kept_of cells' area' ≡ seen p q (kept_of cells area) row
  unfolding seen counted
  seen_counted cells cells' area area' l e f =
      (λ i. record { tally = e i; area = f i }) ∙ sym (rw (le-leb (get_or cells count_cell 0) q.cap l) refl)

  pub seen_enough : (cells area : List ℕ) → q.cap < get_or cells count_cell 0
      → kept_of cells area ≡ seen p q (kept_of cells area) row
  unfolding seen
  seen_enough cells area l = sym (rw (lt-leb (get_or cells count_cell 0) q.cap l) refl)
