use mathlib.Core.Bool.{Bool, not, ◌||◌}
use mathlib.Core.Path.{◌≡◌, ap, ◌∙◌}
use Prim.Native.Nat.{ℕ, ◌+◌, ◌<◌}
use native.Mathlib.Omega.{arith}
use Rattle.sets.specs.Sets.{has}
use Rattle.sets.proofs.Members.{lowest_is}
use Rattle.sets.proofs.Turns.{taken, none_left}
use Rattle.instance.specs.Table.{acts_of, tight_of}
use Rattle.steps.proofs.Loops.{own_below}
use Rattle.instance.proofs.Own.{own_is}
use Rattle.crowding.proofs.Counting.{counting, counting_more, counted, counted_few}
use Rattle.crowding.proofs.Crowd.{one}
use Rattle.crowding.proofs.crowding.Goals as goal
use Rattle.crowding.proofs.crowding.Goals.{In-Some, then-is_extra, else-is_extra}

-- The member that has been taken off is an activity.
own : (l : In-Some) → l.in-Some.i < acts_of l.args.table.now
own l =
    l.requires.1.below _ (l.loop-i.invariant.inside _ (taken l.loop-i.invariant.low l.in-Some.ensures.steps).there)

pub loop-i-init : goal.loop-i-init
loop-i-init c =
    rw (c.into_iter-i-iterator.ensures.into_iter_gives, c.activities-i-items.ensures)
    (counting c.args.table.now _ c.requires.1.low)

pub overflow_add-i : goal.overflow_add-i
overflow_add-i c = omega (arith, (taken c.loop-i.invariant.low c.in-Some.ensures.steps).below)

pub offset_bounds-table-i : goal.offset_bounds-table-i
offset_bounds-table-i c = omega (arith, (taken c.loop-i.invariant.low c.in-Some.ensures.steps).below)

pub bounds-table-i : goal.bounds-table-i
bounds-table-i c = omega (arith, (taken c.loop-i.invariant.low c.in-Some.ensures.steps).below)

pub is_extra-requires : goal.is_extra-requires
is_extra-requires c = (
  (taken c.loop-i.invariant.low c.in-Some.ensures.steps).below,
  omega (arith, c.lowest-own.ensures, own_below _ c.requires.0 _ (own (goal.at.is_extra-requires c).In-Some)),
)

pub single-requires : goal.single-requires
single-requires c =
    omega (arith, c.lowest-own.ensures, own_below _ c.requires.0 _ (own (goal.at.single-requires c).In-Some))

pub overflow_add-many : goal.overflow_add-many
overflow_add-many c = omega (arith, counted_few _ _ c.loop-i.invariant)

pub loop-i-preserved : goal.loop-i-preserved
loop-i-preserved c =
    let i = c.in-Some.i in
    let step = c.in-Some.ensures.steps in
    let on = c.lowest-own.ensures ∙ own_is _ c.requires.0 i (own (goal.at.loop-i-preserved c).In-Some) in
    let count : c.if-is_extra.many ≡ c.loop-i.many + one c.is_extra.result =
    elim c.if-is_extra.branch [
      | then-is_extra w ↦ omega (arith, ap one w.if-is_extra.true)
      | else-is_extra w ↦ omega (arith, ap one w.if-is_extra.false)
    ] in
    rw (c.union-seen.ensures, c.single.ensures, on)
    (counting_more _ _ c.loop-i.invariant (taken c.loop-i.invariant.low step)
    (λ k lower.
    (lowest_is _ c.loop-i.invariant.low (omega (arith, step.0))).none k (omega (arith, lower, step.1)))
    _
    (count
    ∙ ap (λ (b : Bool). c.loop-i.many + one b)
    (c.is_extra.ensures ∙ ap (λ (x : ℕ). not (has (tight_of c.args.table.now) i) || has c.loop-i.seen x) on)))

pub returns : goal.returns
returns c = counted _ _ c.loop-i.invariant (none_left c.in-None.ensures.steps)
