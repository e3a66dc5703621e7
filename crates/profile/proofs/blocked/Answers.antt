use Rattle.std.proofs.Common.{rules}
use Rattle.profile.proofs.Room.{among_running}
use Rattle.profile.proofs.Over.{over_soon, over_clash, over_few, over_blocked}
use Rattle.profile.proofs.blocked.Goals as goal

pub returns-then-clash-ne0 : goal.returns-then-clash-ne0
returns-then-clash-ne0 c = search (rules, over_clash)

pub returns-then-is_few : goal.returns-then-is_few
returns-then-is_few c = search (rules, over_few)

pub crowded-requires : goal.crowded-requires
crowded-requires c = search (rules, among_running, over_soon)

pub returns : goal.returns
returns c = search (rules, over_blocked)
