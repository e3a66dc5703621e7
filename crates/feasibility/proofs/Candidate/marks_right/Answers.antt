use Rattle.std.proofs.Common.{rules}
use borrow.Author.Tests.{tests}
use Rattle.timetable.specs.Mark.{places}
use Rattle.feasibility.specs.Model.{is_present, start, mark_right, marks_right}
use Rattle.feasibility.proofs.Right.{every_by_all}
use Rattle.feasibility.proofs.Candidate.marks_right.Goals as goal

pub returns : goal.returns
unfolding marks_right
returns c =
    let s = c.args.self.now in
    every_by_all places (λ k. mark_right (is_present s k) (start s k)) _ _ _ c.all.ensures.ran (λ x b q k. search (rules, tests))
