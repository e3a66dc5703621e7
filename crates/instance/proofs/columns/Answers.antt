use Rattle.instance.proofs.Given.{columns_are}
use Rattle.instance.proofs.columns.Goals as goal

pub returns : goal.returns
returns c = columns_are c.fill_durations.ensures c.fill_units.ensures c.fill_capacities.ensures
