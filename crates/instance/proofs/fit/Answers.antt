use native.Mathlib.Omega.{arith}
use Rattle.std.proofs.Common.{rules, tests, refl}
use Rattle.std.proofs.lemmas.Iterator.{cases_from_all, YieldsList-from_range}
use Rattle.instance.proofs.Clashes.{Fits, Exceeds, fit_all, fit_apart}
use Rattle.instance.proofs.fit.Goals as goal

pub returns-then-not-contains : goal.returns-then-not-contains
returns-then-not-contains c = cc (fit_apart c.requires.0 c.requires.1 c.requires.2 (cc c.contains.ensures))

pub returns-else-not-contains : goal.returns-else-not-contains
returns-else-not-contains c =
    let t = c.args.table.now in
    let i = c.args.i in
    let k = c.args.k in
    let resources = c.args.resources in
    fit_all t i k (omega (arith, c.requires.0.counted.resources_are)) c.all.result
    (cases_from_all _ _ _ (Fits t i k) (Exceeds t i k) c.all.ensures.ran
    (YieldsList-from_range 0 resources resources refl (omega arith)) (λ r q h. search (rules, tests))
    (λ r q h. search (rules, tests)))
