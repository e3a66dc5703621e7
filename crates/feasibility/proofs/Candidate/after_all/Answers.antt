use Rattle.std.proofs.Common.{rules}
use borrow.Author.Tests.{tests}
use Rattle.feasibility.specs.Model.{ends_before, after_all}
use Rattle.feasibility.proofs.Right.{every_by_all}
use Rattle.feasibility.proofs.Candidate.after_all.Goals as goal

pub returns : goal.returns
unfolding after_all
returns c =
    let s = c.args.self.now in
    every_by_all s.tables.now.acts (λ k. ends_before s k c.args.j) _ _ _ c.all.ensures.ran (λ x b q k. search (rules, tests))
