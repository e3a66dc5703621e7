use mathlib.Core.Path.{sym, subst}
use Rattle.term.specs.Variants.{variant_count}
use Rattle.tally.specs.Seen.{kept, kept_of}
use Rattle.tally.specs.declared.Tally.{Tally}
use Rattle.sweep.specs.Swept.{Swept}
use Rattle.calls.proofs.tallied.Goals as goal

pub tally_of-requires : goal.tally_of-requires
tally_of-requires c = c.sweep.ensures.tally

pub returns : goal.returns
returns c =
    let a = c.args in
    let found = c.sweep.new.area in
    λ t holds.
    subst
    (λ (x : Tally). Swept a.campaign.now t a.cap (variant_count t) (kept x a.area.now)
    (kept c.tally_of.result found))
    c.none-cells.ensures.1
    (subst
    (λ (x : Tally). Swept a.campaign.now t a.cap (variant_count t) (kept_of c.none-cells.result a.area.now)
    (kept x found))
    (sym c.tally_of.ensures) (c.sweep.ensures.swept t holds))
