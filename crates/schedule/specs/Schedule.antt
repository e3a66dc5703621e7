-- A schedule (a session in the paper's words) gives each activity a start, any whole number of ticks. Document 000,
-- Definition 2, with units, gaps, and activities that have begun.
use Rattle.std.specs.Prelude.{ℕ, zero, suc, ◌+◌, ◌-◌, min, Bool, not, cond, ◌&&◌, leb, ltb, eqb}
use Rattle.base.specs.Below.{every_below, sum_below, max_below, ◌implies◌}
use Rattle.schedule.specs.Project.{Project}

abbrev pub Starts : Type 0
Starts = ℕ → ℕ

abbrev pub end_of : Project → Starts → ℕ → ℕ
end_of p S i = S i + p.duration i

abbrev pub runs : Project → Starts → ℕ → ℕ → Bool
runs p S t i = p.present i && leb (S i) t && ltb t (end_of p S i)

-- The units of r that are held on tick t.
unfoldable pub load : Project → Starts → ℕ → ℕ → ℕ
load p S t r = sum_below p.size λ i. cond (runs p S t i) (p.units i r) 0

unfoldable pub latest_end : Project → Starts → ℕ
latest_end p S = max_below p.size λ i. cond (p.present i) (end_of p S i) 0

unfoldable pub placed : Project → Starts → Bool
placed p S =
    every_below p.size λ i. p.present i implies cond (p.free i) (leb p.floor (S i)) (eqb (S i) (p.begun i))

unfoldable pub in_order : Project → Starts → Bool
in_order p S =
    every_below p.size λ j. every_below p.size λ i.
    (p.present i && p.present j && p.precedes i j) implies leb (end_of p S i + p.gap i j) (S j)

unfoldable pub within_capacity : Project → Starts → Bool
within_capacity p S = every_below (latest_end p S) λ t. every_below p.resources λ r. leb (load p S t r) (p.capacity r)

unfoldable pub feasible : Project → Starts → Bool
feasible p S = placed p S && in_order p S && within_capacity p S

abbrev pub moved : Starts → ℕ → ℕ → Starts
moved S j t i = cond (eqb i j) t (S i)

-- Feasible, and no single start of a free activity can be made smaller, the others unchanged, so that it remains
-- feasible.
unfoldable pub active : Project → Starts → Bool
active p S =
    feasible p S
    && every_below p.size λ j.
    (p.present j && p.free j) implies every_below (S j) λ t. not (feasible p (moved S j t))

-- Of the activities below n.
unfoldable pub earliest_start : Project → Starts → ℕ → ℕ
earliest_start p S zero = latest_end p S
earliest_start p S (suc n) = cond (p.present n) (min (earliest_start p S n) (S n)) (earliest_start p S n)

-- From the earliest start to the latest end.
unfoldable pub makespan : Project → Starts → ℕ
makespan p S = latest_end p S - earliest_start p S p.size
