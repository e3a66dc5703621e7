-- The scan of document 000, section 4.2, over any project: with several units of a resource, several resources to an
-- activity or none, gaps, a floor and begun activities. A component takes the place that a resource has in the paper.
use Rattle.std.specs.Prelude.{ℕ, zero, suc, ◌+◌, ◌*◌, max, Bool, true, false, not, cond, ◌&&◌, ◌||◌, leb, ltb, eqb}
use mathlib.Core.List.{List, [], ◌∷◌, ◌++◌, map, foldl}
use Rattle.base.specs.Below.{every_below, sum_below, max_below, ◌implies◌}
use Rattle.base.specs.Lists.{gather, least_of}
use Rattle.schedule.specs.Project.{Project}
use Rattle.schedule.specs.Schedule.{end_of}

-- The diagram: the tick of its scan-line, which activities are placed and where they start (LE), which of them are
-- frozen, and T.
pub record Diagram : Type 0 where
  pub tick : ℕ
  pub placed : ℕ → Bool
  pub starts : ℕ → ℕ
  pub frozen : ℕ → Bool
  pub term : ℕ → Bool

-- What `below` gives for each combination, one after the other.
abbrev pub for_each : (List ℕ → List Diagram) → List (List ℕ) → List Diagram
for_each below [] = []
for_each below (c ∷ cs) = below c ++ for_each below cs

-- The first of the n ticks from x on that passes, or the one after them.
unfoldable pub first_from : (ℕ → Bool) → ℕ → ℕ → ℕ
first_from test zero x = x
first_from test (suc n) x = elim (test x) [ true ↦ x | false ↦ first_from test n (suc x) ]

-- `comp` tells what is contested together: it is the same for two activities that hold units of one resource.
module _ (p : Project) (comp : ℕ → ℕ) where
  abbrev pub some : (ℕ → Bool) → Bool
  some test = not (every_below p.size λ i. not (test i))

  -- RE
  abbrev pub right_end : Diagram → ℕ → ℕ
  right_end d i = end_of p d.starts i

  -- The tick from which i is ready.
  unfoldable pub ready_tick : Diagram → ℕ → ℕ
  ready_tick d i =
      max p.floor
      (max_below p.size λ k. cond (p.present k && p.precedes k i) (right_end d k + p.gap k i) 0)

  -- The units of r that the frozen activities hold on tick x.
  unfoldable pub held : Diagram → ℕ → ℕ → ℕ
  held d x r =
      sum_below p.size λ k.
      cond (d.frozen k && leb (d.starts k) x && ltb x (right_end d k)) (p.units k r) 0

  -- The units that i needs are left on tick x; they are while it would run.
  unfoldable pub has_room : Diagram → ℕ → ℕ → Bool
  has_room d i x = every_below p.resources λ r. leb (held d x r + p.units i r) (p.capacity r)

  unfoldable pub fits : Diagram → ℕ → ℕ → Bool
  fits d i x = every_below (p.duration i) λ y. has_room d i (x + y)

  -- Its next fit from x on: it fits when everything frozen has ended.
  unfoldable pub next_fit : Diagram → ℕ → ℕ → ℕ
  next_fit d i x = first_from (fits d i) (max_below p.size λ k. cond (d.frozen k) (right_end d k) 0) x

  -- Definition 6: what is placed and not frozen, and of it what ends on the scan-line.
  abbrev pub is_loose : Diagram → ℕ → Bool
  is_loose d i = d.placed i && not (d.frozen i)

  abbrev pub is_direct : Diagram → ℕ → Bool
  is_direct d i = is_loose d i && eqb (right_end d i) d.tick

  -- Definition 7: the contested components, and the conflict activities of one. By start and then number they come
  -- after all of the component that is frozen, so that each schedule is found by one order alone.
  abbrev pub is_contested : Diagram → ℕ → Bool
  is_contested d c = some λ i. is_direct d i && eqb (comp i) c

  abbrev pub is_ahead : ℕ → ℕ → ℕ → ℕ → Bool
  is_ahead a i b j = ltb a b || (eqb a b && ltb i j)

  abbrev pub is_next : Diagram → ℕ → Bool
  is_next d j =
      every_below p.size λ k.
      (d.frozen k && p.free k && eqb (comp k) (comp j)) implies is_ahead (d.starts k) k (d.starts j) j

  abbrev pub in_conflict : Diagram → ℕ → ℕ → Bool
  in_conflict d c j = is_loose d j && eqb (comp j) c && ltb (d.starts j) d.tick && is_next d j

  -- Definition 8: the conflict combinations, one conflict activity for each contested component of the n from c on.
  unfoldable pub combinations_from : Diagram → ℕ → ℕ → List (List ℕ)
  combinations_from d c zero = [] ∷ []
  combinations_from d c (suc n) =
      elim (is_contested d c) [
        | true ↦
            gather p.size λ i.
            elim (in_conflict d c i) [ true ↦ map (i ∷◌) (combinations_from d (suc c) n) | false ↦ [] ]
        | false ↦ combinations_from d (suc c) n
      ]

  abbrev pub combinations : Diagram → List (List ℕ)
  combinations d = combinations_from d 0 p.size

  -- In T, not in the diagram, and without a predecessor in T.
  abbrev pub is_waiting : Diagram → ℕ → Bool
  is_waiting d i = d.term i && not (d.placed i) && not (some λ k. d.term k && p.precedes k i)

  -- Step 2: the scan-line jumps to the next stopping time: the least right end of what is placed and in T, and tick
  -- from which something that waits is ready. It stays while something that is not frozen ends on it.
  abbrev pub stop_of : Diagram → ℕ → List ℕ
  stop_of d i =
      elim (d.placed i && d.term i) [
        | true ↦ right_end d i ∷ []
        | false ↦ elim (is_waiting d i && ltb d.tick (ready_tick d i)) [ true ↦ ready_tick d i ∷ [] | false ↦ [] ]
      ]

  unfoldable pub move : Diagram → Diagram
  move d =
      record {
        tick = least_of (gather p.size (stop_of d));
        placed = d.placed;
        starts = d.starts;
        frozen = d.frozen;
        term = d.term;
      }

  -- Step 3: the selected activity is frozen, and what else is placed and not frozen in its component is shifted to its
  -- next fit.
  unfoldable pub freeze : Diagram → ℕ → Diagram
  freeze d j =
      record {
        tick = d.tick;
        placed = d.placed;
        starts = d.starts;
        frozen = λ i. eqb i j || d.frozen i;
        term = d.term;
      }

  unfoldable pub shift : Diagram → ℕ → Diagram
  shift d c =
      record {
        tick = d.tick;
        placed = d.placed;
        starts = λ k. cond (is_loose d k && eqb (comp k) c) (next_fit d k (d.starts k)) (d.starts k);
        frozen = d.frozen;
        term = d.term;
      }

  abbrev pub select : Diagram → ℕ → Diagram
  select d j = shift (freeze d j) (comp j)

  unfoldable pub resolve : List ℕ → Diagram → Diagram
  resolve c d = foldl select d c

  -- Step 4: T loses the frozen activities that have ended.
  unfoldable pub delete : Diagram → Diagram
  delete d =
      record {
        tick = d.tick;
        placed = d.placed;
        starts = d.starts;
        frozen = d.frozen;
        term = λ i. d.term i && not (d.frozen i && leb (right_end d i) d.tick);
      }

  -- Step 5: what waits, is ready and has room starts at the scan-line.
  abbrev pub can_attach : Diagram → ℕ → Bool
  can_attach d i = is_waiting d i && leb (ready_tick d i) d.tick && has_room d i d.tick

  unfoldable pub attach : Diagram → Diagram
  attach d =
      record {
        tick = d.tick;
        placed = λ i. d.placed i || can_attach d i;
        starts = λ i. cond (can_attach d i) d.tick (d.starts i);
        frozen = d.frozen;
        term = d.term;
      }

  -- The four in this order, with a combination of the stopping time.
  abbrev pub after : Diagram → List ℕ → Diagram
  after d c = attach (delete (resolve c (move d)))

  -- At the floor, with what has begun.
  unfoldable pub begun : Diagram
  begun =
      record {
        tick = p.floor;
        placed = λ i. p.present i && not (p.free i);
        starts = p.begun;
        frozen = λ i. p.present i && not (p.free i);
        term = p.present;
      }

  -- Step 1: what can start there is attached.
  abbrev pub start : Diagram
  start = attach (delete begun)

  -- Everything has been placed and frozen.
  abbrev pub is_complete : Diagram → Bool
  is_complete d = every_below p.size λ i. d.term i implies d.frozen i

  -- The completed diagrams that come of one, where `fuel` is above the number of moves: each freezes or deletes, or
  -- something becomes ready.
  unfoldable pub completed : ℕ → Diagram → List Diagram
  completed zero d = []
  completed (suc fuel) d =
      elim (is_complete d) [
        | true ↦ d ∷ []
        | false ↦ for_each (λ c. completed fuel (after d c)) (combinations (move d))
      ]

  -- The schedule of a completed diagram, with a mark for an absent activity.
  abbrev pub schedule_of : ℕ → Diagram → List ℕ
  schedule_of mark d = gather p.size λ i. cond (p.present i) (d.starts i) mark ∷ []

  unfoldable pub schedules : ℕ → List (List ℕ)
  schedules mark = map (schedule_of mark) (completed (suc (3 * p.size)) start)
