-- `write` meets its contract, by the judgement of the file and the steps of an accepted one.
use Rattle.std.proofs.Common.{rules}
use Rattle.judge.proofs.Holding.{has_variant}
use Rattle.write.proofs.Writing.{writes_variant, writes_no_variant, writes_refusal}
use Rattle.write.proofs.write.Goals as goal

pub returns-in_err-campaign : goal.returns-in_err-campaign
returns-in_err-campaign c =
    let a = c.args in
    let e = writes_refusal a.file.now a.v _ a.area.now c.in_err-campaign.ensures in
    let k = c.from_residual.ensures in
    search (rules, e, k)

pub variant_of-requires : goal.variant_of-requires
variant_of-requires c =
    let (t, is, h) = c.in_ok-campaign.ensures in (t, has_variant h _ c.if-v-campaign.true)

pub returns-then-v-campaign : goal.returns-then-v-campaign
returns-then-v-campaign c =
    let a = c.args in
    let (t, is, h) = c.in_ok-campaign.ensures in
    writes_variant a.file.now a.v c.in_ok-campaign.campaign t is h c.variant_of.result
    c.if-v-campaign.true
    (c.variant_of.ensures t (has_variant h a.v c.if-v-campaign.true)) a.area.now _
    c.write_plan.ensures

pub returns-else-v-campaign : goal.returns-else-v-campaign
returns-else-v-campaign c =
    let a = c.args in
    let (t, is, h) = c.in_ok-campaign.ensures in
    writes_no_variant a.file.now a.v c.in_ok-campaign.campaign t is h a.area.now c.if-v-campaign.false
