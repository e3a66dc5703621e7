-- What becomes of each schedule that the search finds: it is counted, kept if it comes before the one kept, and
-- written as a row where the area has room for it.
use Rattle.std.specs.Prelude.{ℕ, ◌+◌, ◌-◌, ◌*◌, ◌≤◌, ◌<◌, Bool, cond, List, ◌∷◌, ◌++◌, ◌≡◌, eqb, leb, ltb, length, get_or, take, drop, replicate}
use Rattle.base.specs.Order.{is_before}
use Rattle.plan.specs.Limits.{word_values}
use Rattle.timetable.specs.Mark.{mark, places, no_starts}
use Rattle.schedule.specs.Project.{Project}
use Rattle.schedule.specs.Schedule.{latest_end}
use Rattle.schedule.specs.Sessions.{starts_of}
use Rattle.instance.specs.Table.{project_in, cap_of, variant_of, acts_of, link_of}
use Rattle.soonest.specs.Row.{row_in}
use Rattle.orders.specs.Book.{is_new_by}
use Rattle.tally.specs.declared.Tally.{Tally}

-- The variant's number, the number of the plan's activities, and the cap.
pub record Setting : Type 0 where
  pub variant : ℕ
  pub acts : ℕ
  pub cap : ℕ

abbrev pub setting_of : ℕ → ℕ → ℕ → Setting
setting_of variant acts cap = record { variant = variant; acts = acts; cap = cap }

-- Nothing found yet; only a schedule that ends by `end` is to be kept.
abbrev pub no_tally : ℕ → Tally
no_tally end =
    record { count = 0; ties = 0; best_end = end; best_variant = 0; best = record { starts = no_starts } }

pub record Kept : Type 0 where
  pub tally : Tally
  pub area : List ℕ

abbrev pub kept : Tally → List ℕ → Kept
kept tally area = record { tally = tally; area = area }

-- The working cells hold how many schedules were found, how many of them end as soon as any, the latest end of those,
-- and the variant and the starts of the first of those.
abbrev pub count_cell : ℕ
count_cell = 0

abbrev pub ties_cell : ℕ
ties_cell = 1

abbrev pub best_end_cell : ℕ
best_end_cell = 2

abbrev pub best_variant_cell : ℕ
best_variant_cell = 3

abbrev pub starts_from : ℕ
starts_from = 4

abbrev pub tally_cells : ℕ
tally_cells = starts_from + places

pub record IsTally (cells : List ℕ) : Type 0 where
  pub size : length cells ≡ tally_cells
  pub few : get_or cells ties_cell 0 ≤ get_or cells count_cell 0
  pub starts : (i : ℕ) → i < places → get_or cells (starts_from + i) 0 < word_values

abbrev pub tally_of : List ℕ → Tally
tally_of cells =
    record {
      count = get_or cells count_cell 0;
      ties = get_or cells ties_cell 0;
      best_end = get_or cells best_end_cell 0;
      best_variant = get_or cells best_variant_cell 0;
      best = record { starts = drop starts_from cells };
    }

abbrev pub kept_of : List ℕ → List ℕ → Kept
kept_of cells area = record { tally = tally_of cells; area = area }

-- The setting that stands in the search's table.
abbrev pub setting_in : List ℕ → Setting
setting_in t = setting_of (variant_of t) (acts_of t) (cap_of t)

-- The area with a row in its own stretch, or unchanged where that does not fit.
unfoldable pub row_placed : List ℕ → ℕ → List ℕ → List ℕ
row_placed area at row =
    cond (leb (at + length row) (length area)) (take at area ++ row ++ drop (at + length row) area) area

-- The timetable of a row: the mark also stands for each activity number that the plan has not.
unfoldable pub timetable_of : List ℕ → List ℕ
timetable_of row = row ++ replicate (places - length row) mark

-- Schedules are ranked by their latest end, then by their variant, then by their starts.
abbrev pub rank_of : Project → ℕ → List ℕ → List ℕ
rank_of p variant row = latest_end p (starts_of row) ∷ variant ∷ timetable_of row

abbrev pub rank_kept : Tally → List ℕ
rank_kept t = t.best_end ∷ t.best_variant ∷ t.best.starts

-- How many end as soon as the one kept, after one more that ends on tick `end`.
abbrev pub ties_with : Tally → ℕ → ℕ
ties_with t end = cond (ltb end t.best_end) 1 (cond (eqb end t.best_end) (t.ties + 1) t.ties)

-- One more schedule: it is kept if it comes before the one kept.
unfoldable pub better : Project → Setting → Tally → List ℕ → Tally
better p q t row =
    let ahead : Bool = is_before (rank_of p q.variant row) (rank_kept t) in
    record {
      count = t.count + 1;
      ties = ties_with t (latest_end p (starts_of row));
      best_end = cond ahead (latest_end p (starts_of row)) t.best_end;
      best_variant = cond ahead q.variant t.best_variant;
      best = cond ahead (record { starts = timetable_of row }) t.best;
    }

unfoldable pub counted : Project → Setting → Kept → List ℕ → Kept
counted p q k row =
    record {
      tally = better p q k.tally row;
      area = row_placed k.area (k.tally.count * (q.acts + 1)) (q.variant ∷ row);
    }

-- Once the count is above the cap nothing more is done.
unfoldable pub seen : Project → Setting → Kept → List ℕ → Kept
seen p q k row = cond (leb k.tally.count q.cap) (counted p q k row) k

-- The same by the search's table.
abbrev pub line_in : List ℕ → List ℕ → List ℕ
line_in t w = variant_of t ∷ row_in t w

abbrev pub rank_in : List ℕ → List ℕ → List ℕ
rank_in t w = rank_of (project_in t) (variant_of t) (row_in t w)

-- One that is not new is passed over; b is the book of the orders searched so far.
abbrev pub is_new_in : List ℕ → List ℕ → List ℕ → Bool
is_new_in t b = is_new_by (project_in t) (link_of t) b

abbrev pub seen_in : List ℕ → List ℕ → Kept → List ℕ → Kept
seen_in t b k row = cond (is_new_in t b row) (seen (project_in t) (setting_in t) k row) k
