use Rattle.profile.proofs.Room.{others}
use Rattle.steps.proofs.Ready.{running_among, free_roomy}
use Rattle.steps.proofs.is_free.Goals as goal

pub has_left-requires : goal.has_left-requires
has_left-requires c =
    let t = c.args.table.now in
    let w = c.args.work.now in
    let i = c.args.i in
    rw (c.common-among.ensures, c.running.ensures)
    (others t w _ i (running_among t c.args.line w c.requires.0 _ i c.requires.2))

pub returns : goal.returns
returns c =
    let a = c.args in
    free_roomy a.table.now a.work.now a.line a.i c.contains.ensures
    c.if-contains.false
    (cc)
    c.requires.0 c.requires.1 c.has_left.ensures
