use native.Mathlib.Omega.{arith}
use mathlib.Core.Path.{refl}
use mathlib.Core.List.{[], ◌∷◌}
use Rattle.calls.proofs.Answers.{best_refused, best_found}
use Rattle.calls.proofs.shortest.Goals as goal

pub returns-then-cap-tally : goal.returns-then-cap-tally
returns-then-cap-tally c =
    let a = c.args in
    let r = c.tallied-tally in
    λ t holds.
    best_refused a.campaign.now t holds a.cap _ (0 ∷ []) r.result (r.new.area, r.ensures t holds) (omega arith)

pub returns : goal.returns
returns c =
    let a = c.args in
    let r = c.tallied-tally in
    λ t holds.
    best_found a.campaign.now t holds a.cap _ (0 ∷ []) r.result (r.new.area, r.ensures t holds)
    (omega arith) (omega arith) _ refl
