use mathlib.Core.Bool.{◌&&◌}
use mathlib.Core.Path.{ap₂}
use lib.Seq.{length-take-le}
use Rattle.std.proofs.Common.{◌≡◌, ◌+◌, ◌∙◌, ap, sym, refl, ℕ, List, true, length, take, arith}
use Rattle.base.specs.Lists.{every}
use Rattle.plan.specs.Limits.{act_form, is_unit_count}
use Rattle.format.specs.Parse.{read}
use Rattle.parser.specs.Counts.{Counted}
use Rattle.parser.proofs.Matching.{matched_shorter}
use Rattle.parser.proofs.Readers.{refused, missing}
use Rattle.parser.proofs.Counted.{no_activity, out_of_ranges, in_ranges}
use Rattle.parser.proofs.Lines.counted.Goals as goal
use Rattle.parser.proofs.Lines.counted.Goals.{In_ok-line}

line : (c : In_ok-line) → Counted c.args.resources c.args.self.now.rest.now c.in_ok-line.line
line c = rw c.in_ok-line.ensures.ok_part at c.read_counted.ensures

count : (c : In_ok-line) → length (take c.args.resources c.in_ok-line.line.counts) ≡ c.args.resources
count c = length-take-le c.args.resources c.in_ok-line.line.counts (omega (arith, (line c).size))

pub go_on-requires : goal.go_on-requires
go_on-requires c =
    matched_shorter (act_form 2 c.args.resources) c.args.self.now.rest.now _
    (line (goal.at.go_on-requires c).In_ok-line).matches
    (omega arith)

pub returns-in_err-line : goal.returns-in_err-line
returns-in_err-line c =
    let lines = c.args.self.now in
    refused _ c.from_residual.result c.from_residual.ensures.1
    (no_activity c.args.resources lines.number lines.rest.now
    (rw c.in_err-line.ensures.ok_part at c.read_counted.ensures)
    (missing c.read_counted.result c.in_err-line.ensures.ok_part c.in_err-line.ensures.value))

pub returns-then-not-is_duration : goal.returns-then-not-is_duration
returns-then-not-is_duration c =
    let lines = c.args.self.now in
    let at = (goal.at.returns-then-not-is_duration c).In_ok-line in
    out_of_ranges c.args.resources lines.number lines.rest.now _ _ _ (count at) (line at).matches
    (ap (λ t. t && every (is_unit_count 2) (take c.args.resources c.in_ok-line.line.counts))
    (sym c.is_duration.ensures ∙ c.if-not-is_duration.true))
    refl

pub returns-in_err-units : goal.returns-in_err-units
returns-in_err-units c =
    let lines = c.args.self.now in
    let at = (goal.at.returns-in_err-units c).In_ok-line in
    refused _ c.from_residual-in_err-units.result c.from_residual-in_err-units.ensures.1
    (out_of_ranges c.args.resources lines.number lines.rest.now _ _ _ (count at) (line at).matches
    (ap₂ ◌&&◌ (sym c.is_duration.ensures ∙ c.if-not-is_duration.false)
    (rw c.in_err-units.ensures.ok_part at c.units_of.ensures))
    (missing c.units_of.result c.in_err-units.ensures.ok_part c.in_err-units.ensures.value))

pub returns : goal.returns
returns c =
    let lines = c.args.self.now in
    let at = (goal.at.returns c).In_ok-line in
    let line_read = c.in_ok-line.line in
    let counts = take c.args.resources line_read.counts in
    let kept : (every (is_unit_count 2) counts ≡ true) × (take (length counts) c.in_ok-units.units ≡ counts)
    =
    rw c.in_ok-units.ensures.ok_part at c.units_of.ensures in
    rw (c.go_on.ensures.0, c.go_on.ensures.1)
    (in_ranges c.args.resources lines.number lines.rest.now line_read.duration _ _ (count at) (line at).matches
    (ap₂ ◌&&◌ (sym c.is_duration.ensures ∙ c.if-not-is_duration.false) kept.0)
    ∙ ap (λ (us : List ℕ). read (record { duration = line_read.duration; units = us }) (lines.number + 1) line_read.rest.now)
    (sym kept.1 ∙ ap (λ (k : ℕ). take k c.in_ok-units.units) (count at)))
