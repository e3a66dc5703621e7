use Prim.Native.Nat.{◌+◌}
use native.Mathlib.Omega.{arith}
use mathlib.Core.List.{[], ◌∷◌}
use Rattle.calls.proofs.Answers.{lists_refused, lists_short, lists_rows}
use Rattle.calls.proofs.Judged.{cells_fit}
use Rattle.calls.proofs.listed.Goals as goal

pub returns-then-cap-rows : goal.returns-then-cap-rows
returns-then-cap-rows c =
    let a = c.args in
    let r = c.tallied-tally in
    λ t holds.
    lists_refused a.campaign.now t holds a.cap 0 (0 ∷ []) r.result (r.new.area, r.ensures t holds)
    a.area.now
    (omega arith)

pub overflow_mul-needed : goal.overflow_mul-needed
overflow_mul-needed c =
    record {
      fits = cells_fit c.tallied-tally.result.count (c.args.campaign.now.tables.acts + 1) (omega arith)
          (omega (arith, c.args.campaign.now.tables.acts_held));
    }

pub returns-then-area-needed : goal.returns-then-area-needed
returns-then-area-needed c =
    let a = c.args in
    let r = c.tallied-tally in
    λ t holds.
    lists_short a.campaign.now t holds a.cap 0 (0 ∷ []) r.result (r.new.area, r.ensures t holds)
    a.area.now
    (omega arith)
    (omega arith)

pub returns : goal.returns
returns c =
    let a = c.args in
    let r = c.tallied-tally in
    λ t holds.
    lists_rows a.campaign.now t holds a.cap 0 (0 ∷ []) r.result (r.new.area, r.ensures t holds)
    a.area.now
    (omega arith)
    (omega arith)
    c.tallied.result
    c.tallied.new.area
    c.sort_rows.new.area
    (c.tallied.ensures t holds)
    c.sort_rows.ensures
