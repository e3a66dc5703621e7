use Rattle.orders.proofs.Entering.{enters}
use Rattle.orders.proofs.enter.Goals as goal

pub returns : goal.returns
returns c =
    let a = c.args in
    enters a.present a.link a.preds.now a.heads.now a.book.now
    c.write_entry.new.entry
    c.requires.0 c.requires.1 c.requires.3 c.requires.4 c.write_entry.ensures
