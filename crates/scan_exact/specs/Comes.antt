-- The search goes by the steps of document 000, section 4.2: move, resolve, delete, attach. It resolves the contested
-- components one after the other, and where nothing waits it passes over the stops at which only frozen activities end.
use Rattle.std.specs.Prelude.{ℕ, ◌≤◌, ◌<◌, Bool, true, false, not, ◌&&◌, ◌≡◌, eqb}
use mathlib.Core.List.{List, Memᴰ}
use Rattle.schedule.specs.Project.{Project}
use Rattle.schedule.specs.Bounds.{Has}
use Rattle.scan.specs.Scan.{Diagram}
use Rattle.scan.specs.Scan.{right_end, is_loose, is_contested, in_conflict, combinations_from, combinations}
use Rattle.scan.specs.Scan.{move, select, resolve, delete, attach, begun, start}

-- Steps 4, 5 and 2: from a stop that is resolved to the next.
abbrev pub onward : (p : Project) (comp : ℕ → ℕ) → Diagram → Diagram
onward p comp d = move p comp (attach p comp (delete p comp d))

-- With the scan-line at another tick.
abbrev pub at_tick : Diagram → ℕ → Diagram
at_tick d x =
    record {
      tick = x;
      placed = d.placed;
      starts = d.starts;
      frozen = d.frozen;
      term = d.term;
    }

-- The diagrams that the scan comes to, at a stop before Step 3.
pub data Scanned (p : Project) (comp : ℕ → ℕ) : Diagram → Type 0 where
  scanned_first : Scanned p comp (move p comp (start p comp))
  scanned_next : {d : Diagram} {c : List ℕ} → Scanned p comp d → Memᴰ c (combinations p comp d)
      → Scanned p comp (onward p comp (resolve p comp c d))

abbrev pub NoneDue : (ℕ → Bool) → Type 0
NoneDue due = (c : ℕ) → due c ≡ false

-- How the search comes to a diagram, where `due` are the components that are still to be resolved at its stop.
pub data Comes (p : Project) (comp : ℕ → ℕ) : Diagram → (ℕ → Bool) → Type 0 where
  begins : {due : ℕ → Bool} → NoneDue due → Comes p comp (begun p comp) due
  moves : {d : Diagram} {due due' : ℕ → Bool} → Comes p comp d due → NoneDue due
      → ((c : ℕ) → due' c ≡ is_contested p comp (onward p comp d) c)
      → Comes p comp (onward p comp d) due'
  -- an activity of the first component that is due
  selects : {d : Diagram} {due due' : ℕ → Bool} (c j : ℕ) → Comes p comp d due → due c ≡ true
      → ((b : ℕ) → b < c → due b ≡ false)
      → in_conflict p comp d c j ≡ true
      → ((b : ℕ) → due' b ≡ (due b && not (eqb b c)))
      → Comes p comp (select p comp d j) due'
  -- nothing waits: to the first end of what is not frozen
  jumps : {d : Diagram} {due due' : ℕ → Bool} (x : ℕ) → Comes p comp d due → NoneDue due
      → ((i : ℕ) → Has p i → d.placed i ≡ true)
      → ((i : ℕ) → is_loose p comp d i ≡ true → x ≤ right_end p comp d i)
      → (i : ℕ) × Has p i × (is_loose p comp d i ≡ true) × (right_end p comp d i ≡ x)
      → ((c : ℕ) → due' c ≡ is_contested p comp (at_tick d x) c)
      → Comes p comp (at_tick d x) due'

-- A diagram within a whole move: at a stop of the scan the components below `upto` are resolved, by `chosen`.
pub record Within (p : Project) (comp : ℕ → ℕ) (d : Diagram) (due : ℕ → Bool) : Type 0 where
  pub stop : Diagram
  pub scanned : Scanned p comp stop
  pub upto : ℕ
  pub chosen : List ℕ
  pub part : Memᴰ chosen (combinations_from p comp stop 0 upto)
  pub done : (c : ℕ) → c < upto → due c ≡ false
  pub left : (c : ℕ) → upto ≤ c → due c ≡ is_contested p comp stop c
  -- it is a combination of the stop once nothing is due
  pub whole : NoneDue due → Memᴰ chosen (combinations p comp stop)
  -- the diagram is what comes of it; once nothing waits, but for what Step 4 takes out of T
  pub full : (i : ℕ) → Has p i → d.placed i ≡ false → d ≡ resolve p comp chosen stop
  pub same : delete p comp d ≡ delete p comp (resolve p comp chosen stop)

-- Where the search is: at the beginning, or within a whole move.
pub data Whole (p : Project) (comp : ℕ → ℕ) (d : Diagram) (due : ℕ → Bool) : Type 0 where
  at_first : d ≡ begun p comp → NoneDue due → Whole p comp d due
  at_stop : Within p comp d due → Whole p comp d due
