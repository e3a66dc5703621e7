use Rattle.std.proofs.Common.{rules}
use Rattle.profile.proofs.Room.{left_clash, left_apart}
use Rattle.profile.proofs.has_left.Goals as goal

pub returns-then-meets : goal.returns-then-meets
returns-then-meets c = search (rules, left_clash)

pub returns-then-is_few : goal.returns-then-is_few
returns-then-is_few c = search (rules, left_apart)
