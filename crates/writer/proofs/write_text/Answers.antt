use Rattle.writer.proofs.Laws.{wrote_whole}
use Rattle.writer.proofs.write_text.Goals as goal

pub returns : goal.returns
returns c = wrote_whole c.put_text.ensures c.requires
