use mathlib.Core.Path.{sym, ◌∙◌}
use native.Mathlib.Omega.{arith}
use Rattle.arguments.proofs.Words.{walked_none, walked_more, walked_stop, walked_over, walked_end}
use Rattle.arguments.proofs.value_of.Goals as goal

pub loop-b-init : goal.loop-b-init
loop-b-init c = walked_none c.args.word.now

pub returns-in_err-d : goal.returns-in_err-d
returns-in_err-d c =
    c.from_residual.ensures
    ∙ walked_stop c.loop-b.invariant c.loop-b-test.true (sym c.digit.ensures ∙ c.in_err-d.was)

pub returns-in_err-checked_mul : goal.returns-in_err-checked_mul
returns-in_err-checked_mul c =
    let large = c.in_err-checked_mul.ensures in
    c.from_residual-in_err-checked_mul.ensures
    ∙ walked_over c.loop-b.invariant c.loop-b-test.true (sym c.digit.ensures ∙ c.in_ok-d.was) (omega (arith, large))

pub returns-in_err-value : goal.returns-in_err-value
returns-in_err-value c =
    let product = c.in_ok-checked_mul.ensures in
    let large = c.in_err-value.ensures in
    c.from_residual-in_err-value.ensures
    ∙ walked_over c.loop-b.invariant c.loop-b-test.true (sym c.digit.ensures ∙ c.in_ok-d.was)
    (omega (arith, product, large))

pub loop-b-preserved : goal.loop-b-preserved
loop-b-preserved c =
    let product = c.in_ok-checked_mul.ensures in
    let sum = c.in_ok-value.ensures in
    walked_more c.loop-b.invariant c.loop-b-test.true (sym c.digit.ensures ∙ c.in_ok-d.was)
    (omega (arith, product, sum)) (omega (arith, sum))

pub returns : goal.returns
returns c = walked_end c.loop-b.invariant c.loop-b-test.false
