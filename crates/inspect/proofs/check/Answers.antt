-- `check` meets its contract: the judgement of the file, and for an accepted plan the test of variant v.
use Rattle.std.proofs.Common.{rules, sym}
use Rattle.judge.proofs.Holding.{has_variant}
use Rattle.inspect.proofs.Checking.{checked, no_such, check_refused}
use Rattle.inspect.proofs.check.Goals as goal

pub returns-in_err-campaign : goal.returns-in_err-campaign
returns-in_err-campaign c =
    let a = c.args in
    let e = sym (check_refused a.file.now a.v a.timetable.starts _ c.in_err-campaign.ensures) in
    let k = c.from_residual.ensures in
    search (rules, e, k)

pub check_variant-requires : goal.check_variant-requires
check_variant-requires c =
    let (t, is, h) = c.in_ok-campaign.ensures in
    (t, has_variant h _ c.if-v-campaign.true)

pub returns-then-v-campaign : goal.returns-then-v-campaign
returns-then-v-campaign c =
    let a = c.args in
    let (t, is, h) = c.in_ok-campaign.ensures in
    checked a.file.now a.v a.timetable.starts c.in_ok-campaign.campaign t is h
    c.check_variant.result
    c.if-v-campaign.true
    (c.check_variant.ensures t (has_variant h a.v c.if-v-campaign.true))

pub returns-else-v-campaign : goal.returns-else-v-campaign
returns-else-v-campaign c =
    let a = c.args in
    let (t, is, h) = c.in_ok-campaign.ensures in
    no_such a.file.now a.v a.timetable.starts c.in_ok-campaign.campaign t is h c.if-v-campaign.false
