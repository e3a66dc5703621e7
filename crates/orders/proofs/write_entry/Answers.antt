use native.Mathlib.Omega.{arith}
use Rattle.orders.proofs.Writing.{written}
use Rattle.orders.proofs.write_entry.Goals as goal

pub returns : goal.returns
returns c =
    let a = c.args in
    rw c.copy_from_slice.ensures.after
    (written a.present a.bucket a.same a.preds.now a.entry.now c.requires (omega arith))
