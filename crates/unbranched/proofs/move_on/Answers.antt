use native.Mathlib.Omega.{arith}
use mathlib.Core.Path.{sym, ◌∙◌}
use Rattle.unbranched.proofs.Onward.{sets₁, runs₁, sets₂, onward}
use Rattle.unbranched.proofs.Jumped.{jumped}
use Rattle.unbranched.proofs.move_on.Goals as goal

pub returns-then-waiting-eq0 : goal.returns-then-waiting-eq0
returns-then-waiting-eq0 c =
    let (d, here) = c.requires.3 in
    jumped c.args.table.now c.requires.0 c.args.line c.args.work.now c.jump.result
    c.jump.ensures c.requires.1 (sym c.waiting.ensures ∙ c.if-waiting-eq0.true)
    (λ e. omega (arith, c.requires.2, e)) d here

pub attach-placed-requires : goal.attach-placed-requires
attach-placed-requires c =
    let (d, here) = c.requires.3 in (
      sets₁ c.args.table.now c.requires.0 c.args.line c.args.work.now d here
          c.expire-expired.result.term c.expire-expired.ensures.0,
      runs₁ c.args.table.now c.requires.0 c.args.line c.args.work.now d here
          c.expire-expired.result.term c.expire-expired.ensures.0,
      omega (arith, here.bounded.passed c.requires.1),
    )

pub move_line-requires : goal.move_line-requires
move_line-requires c =
    let (d, here) = c.requires.3 in
    sets₂ c.args.table.now c.requires.0 c.args.line c.args.work.now d here
    c.expire-expired.result.term c.expire-expired.ensures.0 c.attach-placed.new.work
    c.attach-placed.result c.attach-placed.ensures

pub returns : goal.returns
returns c =
    let (d, here) = c.requires.3 in
    onward c.args.table.now c.requires.0 c.args.line c.args.work.now c.attach-placed.new.work
    c.expire-expired.result.term c.attach-placed.result c.expire-expired.result.first c.move_line.result
    c.requires.1 (λ e. omega (arith, c.requires.2, e)) c.expire-expired.ensures.0 c.expire-expired.ensures.1
    c.attach-placed.ensures c.move_line.ensures d here
