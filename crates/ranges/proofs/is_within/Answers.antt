use Rattle.std.proofs.Common.{◌∙◌, ℕ, leb, rules, tests}
use Rattle.std.proofs.lemmas.Iterator.{YieldsList-from_slice, YieldsList-from_zip}
use Rattle.std.proofs.lemmas.Iterator.Search.{all_from_yields_List}
use Rattle.ranges.proofs.Units.{within_pairs}
use Rattle.ranges.proofs.is_within.Goals as goal

pub returns : goal.returns
returns c =
    all_from_yields_List (λ (p : ℕ × ℕ). leb p.1 p.0) c.all.new.self _ _ c.all.ensures.ran
    (YieldsList-from_zip (YieldsList-from_slice c.args.capacities.now cc) (YieldsList-from_slice c.args.units.now cc))
    (λ x b q k. search (rules, tests))
    ∙ within_pairs c.args.capacities.now c.args.units.now
