-- The listing and a shortest session in the words of the paper, with no tests and no box.
use Rattle.std.specs.Prelude.{ℕ, ◌≤◌, ◌<◌, ◌↔◌, ◌≢◌, ◌⊎◌, ◌≡◌, length, drop}
use mathlib.Core.List.{List, ◌∷◌, ◌++◌, map, Memᴰ, Nodup, Pairwise}
use Rattle.plan.specs.Plan.{Plan}
use Rattle.term.specs.Term.{Term}
use Rattle.term.specs.Variants.{variant_count}
use Rattle.schedule.specs.Sessions.{starts_of}
use Rattle.variant.specs.Project.{variant_at}
use Rattle.variant.specs.Words.{ActiveSession, Makespan, Sooner}
use Rattle.judge.specs.Judge.{judge, accepts}
use Rattle.base.specs.Lists.{cells_of}
use Rattle.answers.specs.Shortest.{row_variant, row_starts}

-- Active for some variant: the union over the variants, of document 000.
pub record ActiveForSome (p : Plan) (t : Term) (starts : List ℕ) : Type 0 where
  pub variant : ℕ
  pub below : variant < variant_count t
  pub session : ActiveSession p (variant_at t variant) starts

-- A row is v and then N starts: v is the lowest variant for which the starts are an active session.
pub record IsRow (p : Plan) (t : Term) (row : List ℕ) : Type 0 where
  pub variant : ℕ
  pub starts : List ℕ
  pub whole : row ≡ variant ∷ starts
  pub below : variant < variant_count t
  pub session : ActiveSession p (variant_at t variant) starts
  pub lowest : (u : ℕ) → u < variant → ActiveSession p (variant_at t u) starts → ⊥

-- By variant number, then by the start of activity 0, then of activity 1 and so on through the present ones.
abbrev pub StandsBefore : Term → List ℕ → List ℕ → Type 0
StandsBefore t a b =
    (row_variant a < row_variant b)
    ⊎ ((row_variant a ≡ row_variant b) × Sooner (variant_at t (row_variant a)) (row_starts a) (row_starts b))

-- Exactly these rows, each standing before all that follow it. Their sessions are the union, none of them twice: starts
-- that are equal have the mark at the same activities, so that they are the same session.
pub record Listing (p : Plan) (t : Term) (rows : List (List ℕ)) : Type 0 where
  pub exactly : (row : List ℕ) → Memᴰ row rows ↔ IsRow p t row
  pub ordered : Pairwise (StandsBefore t) rows
  pub union : (starts : List ℕ) → Memᴰ starts (map row_starts rows) ↔ ActiveForSome p t starts
  pub once : Nodup (map row_starts rows)

-- What LIST leaves in the area when it answers n: n such rows from the front with no gap, and what stood behind them.
pub record ListingOf (s : List ℕ) (n : ℕ) (before after : List ℕ) : Type 0 where
  pub plan : Plan
  pub term : Term
  pub accepted : judge s ≡ accepts plan term
  pub rows : List (List ℕ)
  pub count : length rows ≡ n
  pub cells : after ≡ cells_of rows ++ drop (length (cells_of rows)) before
  pub listing : Listing plan term rows

-- The makespan of a row, and that it is no greater than another's.
abbrev pub SpanOf : Plan → Term → List ℕ → ℕ → Type 0
SpanOf p t row n = Makespan p (variant_at t (row_variant row)) (starts_of (row_starts row)) n

abbrev pub NoLonger : Plan → Term → List ℕ → List ℕ → Type 0
NoLonger p t row other = (m n : ℕ) → SpanOf p t row m → SpanOf p t other n → m ≤ n

-- BEST's row: none of the rows is shorter, and it stands before every other that is as short.
pub record FirstShortest (p : Plan) (t : Term) (row : List ℕ) : Type 0 where
  pub one_of : IsRow p t row
  pub least : (other : List ℕ) → IsRow p t other → NoLonger p t row other
  pub first : (other : List ℕ) → IsRow p t other → NoLonger p t other row → other ≢ row → StandsBefore t row other

-- n of the rows are shortest: exactly those than which no row is shorter, each once.
pub record ShortestRows (p : Plan) (t : Term) (n : ℕ) : Type 0 where
  pub rows : List (List ℕ)
  pub exactly : (row : List ℕ) → Memᴰ row rows
      ↔ (IsRow p t row × ((other : List ℕ) → IsRow p t other → NoLonger p t row other))
  pub once : Nodup rows
  pub count : length rows ≡ n
