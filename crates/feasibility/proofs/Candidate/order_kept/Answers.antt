use Rattle.std.proofs.Common.{rules}
use borrow.Author.Tests.{tests}
use Rattle.feasibility.specs.Model.{after_all, order_kept}
use Rattle.feasibility.proofs.Right.{every_by_all}
use Rattle.feasibility.proofs.Candidate.order_kept.Goals as goal

pub returns : goal.returns
unfolding order_kept
returns c =
    let s = c.args.self.now in
    every_by_all s.tables.now.acts (λ k. after_all s k) _ _ _ c.all.ensures.ran (λ x b q k. search (rules, tests))
