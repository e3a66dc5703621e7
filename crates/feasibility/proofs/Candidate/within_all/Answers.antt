use Rattle.std.proofs.Common.{rules}
use borrow.Author.Tests.{tests}
use Rattle.feasibility.specs.Model.{start, within_at, within_all}
use Rattle.feasibility.proofs.Right.{every_by_all}
use Rattle.feasibility.proofs.Candidate.within_all.Goals as goal

pub returns : goal.returns
unfolding within_all
returns c =
    let s = c.args.self.now in
    every_by_all s.tables.now.acts (λ k. within_at s (start s k)) _ _ _ c.all.ensures.ran (λ x b q k. search (rules, tests))
