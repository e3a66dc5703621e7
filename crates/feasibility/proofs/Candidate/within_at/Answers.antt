use Rattle.std.proofs.Common.{rules}
use borrow.Author.Tests.{tests}
use lib.Dec.{leb}
use lib.ListN.{get_or}
use Rattle.feasibility.specs.Model.{held_at, within_at}
use Rattle.feasibility.proofs.Right.{every_by_all}
use Rattle.feasibility.proofs.Candidate.within_at.Goals as goal

pub returns : goal.returns
unfolding within_at
returns c =
    let s = c.args.self.now in
    every_by_all s.tables.now.resources (λ k. leb (held_at s c.args.tick k) (get_or s.tables.now.capacity k 0)) _ _ _ c.all.ensures.ran (λ x b q k. search (rules, tests))
