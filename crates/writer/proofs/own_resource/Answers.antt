use Rattle.std.proofs.Common.{not, eqb, rules, ◌∙◌}
use borrow.Author.Tests.{tests}
use Rattle.std.proofs.lemmas.Iterator.{YieldsList-from_slice}
use Rattle.std.proofs.lemmas.Iterator.Search.{position_from_yields_List}
use Rattle.writer.proofs.Pieces.{own_found}
use Rattle.writer.proofs.own_resource.Goals as goal

pub returns : goal.returns
returns c =
    c.unwrap_or.ensures
    ∙ own_found c.args.units.now
    (position_from_yields_List (λ u. not (eqb u 0)) _ _ c.position.result c.position.ensures.ran
    (YieldsList-from_slice c.args.units.now cc) (λ x b q k. search (rules, tests)))
