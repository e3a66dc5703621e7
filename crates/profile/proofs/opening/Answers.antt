use Rattle.std.proofs.Common.{rules}
use Rattle.profile.proofs.Room.{others, left_some}
use Rattle.profile.proofs.Beside.{opens_clash, opens_least}
use Rattle.profile.proofs.opening.Goals as goal

pub returns-then-clash-ne0 : goal.returns-then-clash-ne0
returns-then-clash-ne0 c = search (rules, opens_clash)

pub least-requires : goal.least-requires
least-requires c = search (rules, left_some, others)

pub returns : goal.returns
returns c = search (rules, opens_least)
