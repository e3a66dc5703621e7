-- `pick` starts with the first node and no nodes written.
use Rattle.std.proofs.Common.{arith, refl}
use Rattle.pick.proofs.Picking.{start_ready, picks}
use Rattle.pick.proofs.pick.Goals as goal

pub term-requires : goal.term-requires
term-requires c =
    let (fits, spanned, one) = c.requires in
    let (t, reads, below) = one in
    start_ready _ fits spanned t reads below (omega arith) refl

pub returns : goal.returns
returns c =
    let (fits, spanned, one) = c.requires in
    let (t, reads, below) = one in
    picks _ fits spanned t reads below refl c.term.ensures
