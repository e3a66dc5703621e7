use Prim.Native.Nat.{◌-◌}
use native.Mathlib.Omega.{arith}
use lib.ListN.{get_or}
use Rattle.orders.specs.Book.{Differ, order_at}
use Rattle.orders.proofs.Comparing.{comparing_more, compared_at, compared_known}
use Rattle.orders.proofs.Comparing.{compared_new}
use Rattle.orders.proofs.compare.Goals as goal
use Rattle.orders.proofs.compare.Goals.{After-differences-set}

-- what the comparison with one entry found
found : (c : After-differences-set)
    → let a = c.args in
    Differ (order_at a.book.now (c.loop-to.to - 1)) (λ j. get_or a.preds.now j 0) c.differences-set.result
found c =
    let a = c.args in
    compared_at a.preds.now a.link a.book.now c.requires c.loop-to.to c.loop-to.book c.loop-to.invariant
    c.differences-set.result c.differences-set.ensures

pub returns-then-set-eq0 : goal.returns-then-set-eq0
returns-then-set-eq0 c =
    let a = c.args in
    compared_known a.preds.now a.link a.book.now c.requires c.loop-to.to c.loop-to.book c.loop-to.invariant
    c.differences-set.result (omega arith) c.if-set-eq0.true (found (goal.at.returns-then-set-eq0 c).After-differences-set)

pub loop-to-preserved : goal.loop-to-preserved
loop-to-preserved c =
    let a = c.args in
    comparing_more a.preds.now a.link a.book.now c.requires c.loop-to.to c.loop-to.book c.loop-to.invariant
    c.differences-set.result (omega arith) (found (goal.at.loop-to-preserved c).After-differences-set, omega arith)

pub returns : goal.returns
returns c =
    let a = c.args in
    compared_new a.preds.now a.link a.book.now c.requires c.loop-to.to c.loop-to.book
    c.loop-to.invariant c.loop-to-test.false
