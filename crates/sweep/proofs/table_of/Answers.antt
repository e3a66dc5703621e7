use Rattle.sweep.proofs.Held.{given}
use Rattle.sweep.proofs.table_of.Goals as goal

-- `table_of` meets its contract: the values of the plan are in range.
pub laid-requires : goal.laid-requires
laid-requires c = given c.args.campaign.now c.requires.0 c.requires.1
