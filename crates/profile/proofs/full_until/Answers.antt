use Rattle.std.proofs.Common.{rules}
use mathlib.Core.Path.{sym, ◌∙◌}
use Rattle.profile.proofs.Room.{others, among_running, left_some}
use Rattle.profile.proofs.Fits.{full_none, full_least}
use Rattle.profile.proofs.full_until.Goals as goal

pub returns-then-is_left : goal.returns-then-is_left
returns-then-is_left c = search (rules, full_none)

pub least-requires : goal.least-requires
least-requires c =
    let among = among_running _ _ _ _ c.requires.0 c.running-on.ensures in
    (left_some _ _ _ (others _ _ _ _ among) (sym c.is_left.ensures ∙ c.if-is_left.false), c.running-on.ensures.low)

pub returns : goal.returns
returns c = search (rules, full_least)
