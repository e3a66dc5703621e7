use Prim.Native.Nat.{ℕ, ◌-◌, ◌<◌}
use mathlib.Core.Path.{◌≡◌}
use Rattle.sets.specs.Sets.{most}
use Rattle.instance.specs.Table.{link_of, project_in}
use Rattle.soonest.specs.Row.{row_in}
use Rattle.orders.specs.Book.{present_at, order_at}
use Rattle.orders.proofs.Links.{Passed}
use Rattle.orders.proofs.Newness.{Inactive}
use Rattle.orders.proofs.is_new.Given as goal

-- `is_new` meets its contract. The loop's invariant: under the orders from the link on the schedule is not active, nor
-- under any that has `before` before activity j.
abbrev pub invariant-loop-link : goal.invariant-loop-link
invariant-loop-link l =
    Passed (link_of l.table) l.book (Inactive (project_in l.table) l.book (row_in l.table l.work)) l.link
    × (l.j < most)
    × ((e : ℕ) → e < link_of l.table → present_at l.book e ≡ present_at l.book (link_of l.table - 1) → order_at l.book e l.j ≡ l.before
    → Inactive (project_in l.table) l.book (row_in l.table l.work) e)

abbrev pub decreases-loop-link : goal.decreases-loop-link
decreases-loop-link l = l.link
