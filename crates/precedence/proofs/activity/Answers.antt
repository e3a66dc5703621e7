use Rattle.precedence.proofs.Joined.{one}
use Rattle.precedence.proofs.activity.Goals as goal

pub returns : goal.returns
returns c =
    let a = c.args in
    one a.i a.next a.before c.single.result c.union.result a.preds.now c.requires.0 c.requires.1
    c.single.ensures c.union.ensures
