use Prim.Native.Nat.{◌-◌, ◌<◌, max}
use mathlib.Core.Path.{◌≡◌, refl, sym, ap, ◌∙◌}
use native.Mathlib.Omega.{arith}
use Rattle.sets.specs.Sets.{most}
use Rattle.sets.specs.Lowest.{lowest_of}
use Rattle.crowding.specs.Crowd.{Fewer}
use Rattle.steps.specs.declared.Line.{Line}
use Rattle.unbranched.specs.Advance.{both_in, here_in}
use Rattle.unbranched.proofs.Advancing.{alone_line, advancing, here_now, some_left, advance_on, less_on}
use Rattle.unbranched.proofs.Advancing.{due_c, below_c, here_low, here_some, advance_rivals, less_rivals, below_j, left_j, acts_j}
use Rattle.unbranched.proofs.Advancing.{fewer_fits, alone_is, advance_frozen, less_frozen}
use Rattle.unbranched.proofs.advance.Goals as goal
use Rattle.unbranched.proofs.advance.Goals.{After-lowest-c, After-fewer-many, After-freeze-line, else-after_lowest-eq0-via-then-after_lowest-eq0+else-not-meets, else-after_lowest-eq0-via-else-after_lowest-eq0}

frozen : (c : After-freeze-line) → c.freeze-line.result ≡ alone_line c.args.table.now c.loop-rivals.line
frozen c =
    alone_is c.args.table.now c.loop-rivals.line c.freeze-line.result c.lowest.result c.lowest-c.result
    c.freeze-line.ensures.0 (cc) c.lowest-c.ensures

gone : (c : After-fewer-many)
    → let t = c.args.table.now in
    Fewer t (lowest_of (here_in t c.loop-rivals.line)) (both_in t c.loop-rivals.line) c.fewer-many.result
gone c =
    let t = c.args.table.now in
    let here : c.common-here.result ≡ here_in t c.loop-rivals.line = cc in
    let both : c.common-both.result ≡ both_in t c.loop-rivals.line = cc in
    rw (here, both) at c.fewer-many.ensures

pub loop-rivals-init : goal.loop-rivals-init
loop-rivals-init c =
    let a = c.args in
    advancing a.table.now a.from a.work.now a.latest a.contests c.requires.1 c.requires.2 c.requires.3

pub move_on-line-requires : goal.move_on-line-requires
move_on-line-requires c =
    let given = c.requires.0 in
    let none = c.loop-rivals-test.true in (
      given,
      c.if-line-eq0.true,
      some_left given c.loop-rivals.invariant none (omega arith),
      here_now given c.loop-rivals.invariant none,
    )

pub loop-rivals-smaller-then-line-eq0 : goal.loop-rivals-smaller-then-line-eq0
loop-rivals-smaller-then-line-eq0 c =
    less_on c.requires.0 c.loop-rivals.invariant c.loop-rivals-test.true c.move_on-line.new.work c.move_on-line.result
    c.move_on-line.ensures c.if-line-eq0.true

pub loop-rivals-preserved-then-line-eq0 : goal.loop-rivals-preserved-then-line-eq0
loop-rivals-preserved-then-line-eq0 c =
    advance_on c.requires.0 c.loop-rivals.invariant c.loop-rivals-test.true c.move_on-line.new.work
    c.move_on-line.result c.move_on-line.ensures

low : (c : After-lowest-c) → c.lowest-c.result < most
low c =
    omega (
      arith,
      c.lowest-c.ensures,
      below_c c.requires.0 c.loop-rivals.invariant c.loop-rivals-test.true (omega arith),
    )

pub overflow_add-c : goal.overflow_add-c
overflow_add-c c = record { fits = omega (arith, low (goal.at.overflow_add-c c).After-lowest-c) }

pub offset_bounds-table-c : goal.offset_bounds-table-c
offset_bounds-table-c c = record { fits = omega (arith, low (goal.at.offset_bounds-table-c c).After-lowest-c) }

pub bounds-table-c : goal.bounds-table-c
bounds-table-c c = omega (arith, low (goal.at.bounds-table-c c).After-lowest-c)

pub after_lowest-requires : goal.after_lowest-requires
after_lowest-requires c =
    let here : c.common-here.result ≡ here_in c.args.table.now c.loop-rivals.line = cc in
    omega (arith, here, here_some c.requires.0 c.loop-rivals.invariant c.loop-rivals-test.true (omega arith))

pub freeze-line-requires : goal.freeze-line-requires
freeze-line-requires c =
    let given = c.requires.0 in
    let so_far = c.loop-rivals.invariant in
    let none = c.loop-rivals-test.true in
    let only : c.lowest.result ≡ lowest_of (here_in c.args.table.now c.loop-rivals.line) = cc in (
      omega (arith, only, below_j given so_far none (omega arith) (cc) (cc)),
      cc (left_j given so_far none (omega arith) (cc) (cc)),
      omega (arith, c.lowest-c.ensures, below_c given so_far none (omega arith)),
      cc (due_c given so_far none (omega arith)),
    )

pub fewer-many-requires : goal.fewer-many-requires
fewer-many-requires c =
    let given = c.requires.0 in
    let so_far = c.loop-rivals.invariant in
    let none = c.loop-rivals-test.true in
    let line = c.loop-rivals.line in
    let here : c.common-here.result ≡ here_in c.args.table.now line = cc in (
      given.laid,
      omega (arith, here, here_some given so_far none (omega arith)),
      omega (arith, here, here_low c.args.table.now given.laid line (below_c given so_far none (omega arith))),
      cc,
      omega (arith, ap lowest_of here, acts_j given so_far none (omega arith) (cc) (cc)),
    )

pub overflow_sub-many : goal.overflow_sub-many
overflow_sub-many c =
    fewer_fits c.requires.0 c.loop-rivals.invariant c.loop-rivals-test.true (omega arith) (cc) (cc)
    c.freeze-line.new.work (cc) c.fewer-many.result (gone (goal.at.overflow_sub-many c).After-fewer-many)

pub loop-rivals-smaller-then-not-meets : goal.loop-rivals-smaller-then-not-meets
loop-rivals-smaller-then-not-meets c =
    rw (frozen (goal.at.loop-rivals-smaller-then-not-meets c).After-freeze-line)
    (less_frozen c.requires.0 c.loop-rivals.invariant c.loop-rivals-test.true (omega arith) (cc) (cc)
    c.freeze-line.new.work (cc))

pub loop-rivals-preserved-then-not-meets : goal.loop-rivals-preserved-then-not-meets
loop-rivals-preserved-then-not-meets c =
    let at = goal.at.loop-rivals-preserved-then-not-meets c in
    rw (frozen at.After-freeze-line)
    (advance_frozen c.requires.0 c.loop-rivals.invariant c.loop-rivals-test.true (omega arith) (cc) (cc)
    c.freeze-line.new.work (cc) c.fewer-many.result (c.loop-rivals.many - c.fewer-many.result) c.max-last.result
    (gone at.After-fewer-many) refl
    (c.max-last.ensures ∙ ap (λ (r : Line). max c.loop-rivals.last r.tick) (frozen at.After-freeze-line)))

pub loop-rivals-smaller : goal.loop-rivals-smaller
loop-rivals-smaller c =
    less_rivals c.requires.0 c.loop-rivals.invariant c.loop-rivals-test.true (omega arith) c.common-here.result (cc)

pub loop-rivals-preserved : goal.loop-rivals-preserved
loop-rivals-preserved c =
    advance_rivals c.requires.0 c.loop-rivals.invariant c.loop-rivals-test.true (omega arith) c.common-here.result
    (cc)
    (λ one.
    elim c.else-after_lowest-eq0.branch [
      | else-after_lowest-eq0-via-then-after_lowest-eq0+else-not-meets w ↦ sym w.meets.ensures ∙ w.if-not-meets.false
      | else-after_lowest-eq0-via-else-after_lowest-eq0 w ↦ absurd (w.if-after_lowest-eq0.false (c.after_lowest.ensures ∙ one))
    ])
