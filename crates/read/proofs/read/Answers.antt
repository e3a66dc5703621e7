-- `read::read` meets its contract: the judgement says what READ answers.
use Rattle.std.proofs.Common.{rules}
use Rattle.read.proofs.Reading.{reads_plan, reads_refusal}
use Rattle.read.proofs.read.Goals as goal

pub returns-in_err-campaign : goal.returns-in_err-campaign
returns-in_err-campaign c =
    let e = reads_refusal c.args.file.now _ c.in_err-campaign.ensures in
    let k = c.from_residual.ensures in
    search (rules, e, k)

pub returns : goal.returns
returns c =
    let (t, is, holds) = c.in_ok-campaign.ensures in
    reads_plan c.args.file.now c.in_ok-campaign.campaign t is holds
