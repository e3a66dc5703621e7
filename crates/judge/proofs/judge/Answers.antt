-- `judge` meets its contract: the parser's answer, and for a plan the judgement of its term.
use Rattle.std.proofs.Common.{rules}
use Rattle.judge.proofs.Parsing.{holds_plan, is_refused, is_ranged}
use Rattle.judge.proofs.Judging.{judges_plan, judges_refusal}
use Rattle.judge.proofs.judge.Goals as goal

pub returns-in_err-parse_file : goal.returns-in_err-parse_file
returns-in_err-parse_file c =
    let e = judges_refusal c.args.file.now c.in_err-parse_file.field-0.0 (is_refused c.args.file.now c.in_err-parse_file.field-0.0 c.in_err-parse_file.ensures) in
    let k = c.from_residual.ensures in
    search (rules, e, k)

pub judge_term-requires : goal.judge_term-requires
judge_term-requires c = is_ranged c.args.file.now c.in_ok-parse_file.field-0 c.in_ok-parse_file.ensures

pub returns : goal.returns
returns c =
    judges_plan c.args.file.now c.in_ok-parse_file.field-0 c.judge_term.result
    (holds_plan c.args.file.now c.in_ok-parse_file.field-0 c.in_ok-parse_file.ensures) c.judge_term.ensures
