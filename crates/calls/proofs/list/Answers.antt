use Rattle.std.proofs.Common.{rules}
use Rattle.calls.proofs.Judged.{list_of_lem}
use Rattle.calls.proofs.list.Goals as goal

pub returns-in_err-judge : goal.returns-in_err-judge
returns-in_err-judge c =
    let a = c.args in
    let k = c.from_residual.ensures in
    list_of_lem a.file.now _ c.in_err-judge.ensures a.cap a.area.now _ (search (rules, k))

pub listed-requires : goal.listed-requires
listed-requires c =
    let (t, is, h) = c.in_ok-judge.ensures in
    (t, h)

pub returns : goal.returns
returns c =
    let g = c.args in
    let (t, is, h) = c.in_ok-judge.ensures in
    list_of_lem g.file.now _ is g.cap g.area.now _ (c.listed.ensures t h)
