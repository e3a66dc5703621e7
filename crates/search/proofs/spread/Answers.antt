use Rattle.search.proofs.Choosing.{live_given, shift_given}
use Rattle.search.proofs.spread.Goals as goal

pub still_live-live-requires : goal.still_live-live-requires
still_live-live-requires c =
    live_given c.requires.choosing c.settle-next.ensures

pub shift-passed-requires : goal.shift-passed-requires
shift-passed-requires c =
    let given = c.requires in
    shift_given given.choosing c.settle-next.ensures c.still_live-live.ensures given.last
