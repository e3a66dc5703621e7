use Prim.Native.Nat.{◌-◌, ◌<◌}
use native.Mathlib.Omega.{arith}
use mathlib.Core.Path.{sym, subst, ◌∙◌}
use Rattle.orders.specs.Book.{Nearest, bucket_of, entries_of, bucket_at, present_cell, bucket_cell}
use Rattle.orders.proofs.Links.{cell, further}
use Rattle.orders.proofs.find.Goals as goal
use Rattle.orders.proofs.find.Goals.{At-loop-link}

rest : (c : At-loop-link) → 0 < c.loop-link.link
    → let a = c.args in
    Nearest bucket_of a.book.now (c.loop-link.link - 1) a.present (bucket_at a.book.now (c.loop-link.link - 1))
rest c some =
    let a = c.args in
    c.requires.next (c.loop-link.link - 1) a.present (omega (arith, c.loop-link.invariant.upto))
    (c.loop-link.invariant.alike some)

pub loop-link-smaller : goal.loop-link-smaller
loop-link-smaller c =
    let p = goal.at.loop-link-smaller c in
    omega (
      arith,
      cell c.args.book.now (c.loop-link.link - 1) bucket_cell,
      (rest p.At-loop-link (omega arith)).upto,
    )

pub loop-link-preserved : goal.loop-link-preserved
loop-link-preserved c =
    let p = goal.at.loop-link-preserved c in
    let a = c.args in
    let b = a.book.now in
    let k = c.loop-link.link in
    subst (Nearest bucket_of b (entries_of a.heads.now) a.present) (sym (cell b (k - 1) bucket_cell))
    (further bucket_of b (entries_of a.heads.now) a.present k (bucket_at b (k - 1)) (omega arith) c.loop-link.invariant
    (λ e. c.if-book-at.false (cell b (k - 1) present_cell ∙ e)) (rest p.At-loop-link (omega arith)))
