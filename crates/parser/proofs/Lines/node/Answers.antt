use Rattle.std.proofs.Common.{◌≡◌, ◌∙◌, ap, sym, refl}
use Rattle.plan.specs.Limits.{node_form}
use Rattle.plan.specs.Plan.{node_of}
use Rattle.plan.specs.declared.Refusal.TheVariants.{Range, GroupOfOne}
use Rattle.format.specs.Parse.{a_line, tested, read, stop, is_ranged, is_plural, node_from}
use Rattle.parser.proofs.Readers.{two_taken, not_taken, passed, failed, untested, refused, in_range, out_of_range}
use Rattle.parser.proofs.Lines.node.Goals as goal
use Rattle.parser.proofs.Lines.node.Goals.{In_ok-node}

-- The line of a node whose number is in its range.
ranged : (c : In_ok-node) → tested (is_ranged c.args.acts) Range (a_line node_form node_from) c.args.self.now.number c.args.self.now.rest.now
    ≡ read c.in_ok-node.node c.line.new.self.number c.line.new.self.rest.now
ranged c =
    let line = c.in_ok-line.line in
    let after = c.line.new.self in
    let found = in_range (is_ranged c.args.acts (node_of line.first line.second)) c.node_in_range.ensures
    c.in_ok-node.ensures.ok_part in
    passed (is_ranged c.args.acts) Range (a_line node_form node_from) (two_taken node_from c.in_ok-line.ensures refl)
    found.0
    ∙ ap (λ n. read n after.number after.rest.now) found.1

pub returns-in_err-line : goal.returns-in_err-line
returns-in_err-line c =
    refused _ c.from_residual.result c.from_residual.ensures.1
    (untested is_plural GroupOfOne (tested (is_ranged c.args.acts) Range (a_line node_form node_from))
    (untested (is_ranged c.args.acts) Range (a_line node_form node_from) (not_taken node_from c.in_err-line.ensures)))

pub returns-in_err-node : goal.returns-in_err-node
returns-in_err-node c =
    let line = c.in_ok-line.line in
    let lost = out_of_range (is_ranged c.args.acts (node_of line.first line.second)) _ c.node_in_range.ensures
    c.in_err-node.ensures.value in
    refused _ c.from_residual-in_err-node.result c.from_residual-in_err-node.ensures.1
    (untested is_plural GroupOfOne (tested (is_ranged c.args.acts) Range (a_line node_form node_from))
    (failed (is_ranged c.args.acts) Range (a_line node_form node_from)
    (two_taken node_from c.in_ok-line.ensures refl) lost.0
    ∙ ap stop (sym lost.1)))

pub returns-then-is_plural : goal.returns-then-is_plural
returns-then-is_plural c =
    passed is_plural GroupOfOne (tested (is_ranged c.args.acts) Range (a_line node_form node_from))
    (ranged (goal.at.returns-then-is_plural c).In_ok-node)
    (sym c.is_plural.ensures ∙ c.if-is_plural.true)

pub returns-else-is_plural : goal.returns-else-is_plural
returns-else-is_plural c =
    failed is_plural GroupOfOne (tested (is_ranged c.args.acts) Range (a_line node_form node_from))
    (ranged (goal.at.returns-else-is_plural c).In_ok-node)
    (sym c.is_plural.ensures ∙ c.if-is_plural.false)
