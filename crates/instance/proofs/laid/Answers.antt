use Rattle.instance.proofs.Whole.{grouped, apart, laid_from}
use Rattle.instance.proofs.laid.Goals as goal

-- `laid` meets its contract.
pub clash_all-requires : goal.clash_all-requires
clash_all-requires c = grouped c.requires c.columns-table.ensures c.part.ensures c.merge_all.ensures

pub tight-requires : goal.tight-requires
tight-requires c = apart c.requires c.columns-table.ensures c.part.ensures c.merge_all.ensures c.clash_all.ensures

pub returns : goal.returns
returns c =
    laid_from c.requires c.columns-table.ensures c.part.ensures c.merge_all.ensures c.clash_all.ensures c.tight.ensures
