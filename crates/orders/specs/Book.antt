-- The book of the orders searched so far: an entry of cells for each. Entries are numbered from 0 as they are made; a
-- link is 0, or one more than the number of an entry.
use Rattle.std.specs.Prelude.{ℕ, ◌+◌, ◌-◌, ◌*◌, ◌%◌, ◌^◌, ◌≤◌, ◌<◌, Bool, true, false, not, ◌&&◌, List, ◌≢◌, ◌≡◌, eqb, length, get_or}
use Rattle.base.specs.Below.{every_below}
use Rattle.sets.specs.Sets.{most, has}
use Rattle.schedule.specs.Project.{Project}
use Rattle.schedule.specs.Schedule.{active}
use Rattle.schedule.specs.Sessions.{starts_of}
use Rattle.instance.specs.Table.{preds_at, present_of, link_of}

-- The cells of an entry: its activities, the link to the entry before it in its bucket, the link to the one before it
-- with the same activities, where its order differs from the one compared last, and the sets of those before each
-- activity.
abbrev pub present_cell : ℕ
present_cell = 0

abbrev pub bucket_cell : ℕ
bucket_cell = 1

abbrev pub same_cell : ℕ
same_cell = 2

abbrev pub differs_cell : ℕ
differs_cell = 3

abbrev pub order_from : ℕ
order_from = 4

abbrev pub entry_cells : ℕ
entry_cells = order_from + most

abbrev pub cell_at : List ℕ → ℕ → ℕ → ℕ
cell_at b e c = get_or b (entry_cells * e + c) 0

abbrev pub present_at : List ℕ → ℕ → ℕ
present_at b e = cell_at b e present_cell

abbrev pub bucket_at : List ℕ → ℕ → ℕ
bucket_at b e = cell_at b e bucket_cell

abbrev pub same_at : List ℕ → ℕ → ℕ
same_at b e = cell_at b e same_cell

abbrev pub differs_at : List ℕ → ℕ → ℕ
differs_at b e = cell_at b e differs_cell

abbrev pub order_at : List ℕ → ℕ → ℕ → ℕ
order_at b e j = cell_at b e (order_from + j)

-- A set of activities has its bucket; each bucket has a link to its last entry, and behind these stands the number of
-- entries.
abbrev pub buckets : ℕ
buckets = 1021

abbrev pub heads_cells : ℕ
heads_cells = buckets + 1

abbrev pub entries_of : List ℕ → ℕ
entries_of heads = get_or heads buckets 0

-- Of the first n entries, those from the link k on have not the activities s, and the one that k leads to is like one
-- that has them.
pub record Nearest (like : ℕ → ℕ) (b : List ℕ) (n s k : ℕ) : Type 0 where
  pub upto : k ≤ n
  pub alike : 0 < k → like (present_at b (k - 1)) ≡ like s
  pub none : (e : ℕ) → k ≤ e → e < n → present_at b e ≢ s

abbrev pub bucket_of : ℕ → ℕ
bucket_of s = s % buckets

abbrev pub itself : ℕ → ℕ
itself s = s

-- The links lead to all entries.
pub record Book (heads b : List ℕ) : Type 0 where
  pub size : length heads ≡ heads_cells
  pub room : entry_cells * entries_of heads ≤ length b
  pub head : (s : ℕ) → Nearest bucket_of b (entries_of heads) s (get_or heads (bucket_of s) 0)
  pub next : (e s : ℕ) → e < entries_of heads → bucket_of (present_at b e) ≡ bucket_of s
      → Nearest bucket_of b e s (bucket_at b e)
  pub same : (e : ℕ) → e < entries_of heads → Nearest itself b e (present_at b e) (same_at b e)
  pub low : (e j : ℕ) → e < entries_of heads → j < most → order_at b e j < 2 ^ most

-- The entries up to the link k, those alike having the same activities as the last.
abbrev pub is_alike : List ℕ → ℕ → ℕ → Bool
is_alike b k e = eqb (present_at b e) (present_at b (k - 1))

-- The entries up to the link k with the same activities are linked.
pub record Chain (k : ℕ) (b : List ℕ) : Type 0 where
  pub room : entry_cells * k ≤ length b
  pub same : (e : ℕ) → e < k → present_at b e ≡ present_at b (k - 1) → Nearest itself b e (present_at b e) (same_at b e)
  pub low : (e j : ℕ) → e < k → j < most → order_at b e j < 2 ^ most

-- The activities before which two orders have not the same.
pub record Differ (order preds : ℕ → ℕ) (set : ℕ) : Type 0 where
  pub low : set < 2 ^ most
  pub where_not : (j : ℕ) → j < most → has set j ≡ not (eqb (order j) (preds j))

-- What the test of a schedule needs: it is also known where each of them differs from the order of the schedule's own
-- variant.
pub record Rivals (preds : ℕ → ℕ) (k : ℕ) (b : List ℕ) : Type 0 where
  pub chain : Chain k b
  pub differ : (e : ℕ) → e < k → present_at b e ≡ present_at b (k - 1) → Differ (order_at b e) preds (differs_at b e)

-- The same of the orders up to the table's link, each an order of the present activities.
pub record Prior (t b : List ℕ) : Type 0 where
  pub rivals : Rivals (preds_at t) (link_of t) b
  pub within : (e i j : ℕ) → e < link_of t → present_at b e ≡ present_at b (link_of t - 1) → j < most
      → has (order_at b e j) i ≡ true → (has (present_of t) i ≡ true) × (has (present_of t) j ≡ true)

-- The project with another order.
abbrev pub under_order : Project → (ℕ → ℕ) → Project
under_order p order =
    record {
      size = p.size;
      present = p.present;
      duration = p.duration;
      precedes = λ i j. has (order j) i;
      gap = p.gap;
      resources = p.resources;
      capacity = p.capacity;
      units = p.units;
      free = p.free;
      floor = p.floor;
      begun = p.begun;
    }

-- No entry up to the link k with the same activities has an order under which the schedule is active.
unfoldable pub is_new_by : Project → ℕ → List ℕ → List ℕ → Bool
is_new_by p k b row =
    every_below k λ e. not (is_alike b k e && active (under_order p (order_at b e)) (starts_of row))

-- The book with other cells for where orders differ, and no other change.
pub record Beside (b b' : List ℕ) : Type 0 where
  pub size : length b' ≡ length b
  pub cells : (e c : ℕ) → c < entry_cells → c ≢ differs_cell → cell_at b' e c ≡ cell_at b e c

-- What the comparison of an order with those up to the link k finds: it is new, or one of them.
pub record Compared (preds : List ℕ) (k : ℕ) (b b' : List ℕ) (r : Bool) : Type 0 where
  pub beside : Beside b b'
  pub new : r ≡ true → Rivals (λ j. get_or preds j 0) k b'
  pub other : r ≡ true → (e : ℕ) → e < k → present_at b e ≡ present_at b (k - 1)
      → ((j : ℕ) → j < most → order_at b e j ≡ get_or preds j 0) → ⊥
  pub known : r ≡ false → (e : ℕ) × (e < k) × (present_at b e ≡ present_at b (k - 1))
      × ((j : ℕ) → j < most → order_at b e j ≡ get_or preds j 0)

-- An entry as it is written.
pub record Written (s head link : ℕ) (preds entry entry' : List ℕ) : Type 0 where
  pub size : length entry' ≡ length entry
  pub present : get_or entry' present_cell 0 ≡ s
  pub bucket : get_or entry' bucket_cell 0 ≡ head
  pub same : get_or entry' same_cell 0 ≡ link
  pub order : (j : ℕ) → j < most → get_or entry' (order_from + j) 0 ≡ get_or preds j 0
  pub behind : (c : ℕ) → entry_cells ≤ c → get_or entry' c 0 ≡ get_or entry c 0

-- The book with one more entry.
pub record Entered (s : ℕ) (preds heads b heads' b' : List ℕ) : Type 0 where
  pub book : Book heads' b'
  pub size : length b' ≡ length b
  pub one_more : entries_of heads' ≡ entries_of heads + 1
  pub present : present_at b' (entries_of heads) ≡ s
  pub order : (j : ℕ) → j < most → order_at b' (entries_of heads) j ≡ get_or preds j 0
  pub before : (e c : ℕ) → e < entries_of heads → c < entry_cells → cell_at b' e c ≡ cell_at b e c
