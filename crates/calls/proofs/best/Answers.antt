use Rattle.std.proofs.Common.{rules}
use Rattle.calls.proofs.Judged.{best_of_lem}
use Rattle.calls.proofs.best.Goals as goal

pub returns-in_err-judge : goal.returns-in_err-judge
returns-in_err-judge c =
    let k = c.from_residual.ensures in
    best_of_lem c.args.file.now _ c.in_err-judge.ensures c.args.cap _ (search (rules, k))

pub shortest-requires : goal.shortest-requires
shortest-requires c =
    let (t, is, h) = c.in_ok-judge.ensures in
    (t, h)

pub returns : goal.returns
returns c =
    let s = c.args.file.now in
    let (t, is, h) = c.in_ok-judge.ensures in
    best_of_lem s _ is c.args.cap c.shortest.result (c.shortest.ensures t h)
