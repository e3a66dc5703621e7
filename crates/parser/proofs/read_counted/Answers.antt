use Rattle.std.proofs.Common.{◌≡◌, ◌∙◌, refl, [], ◌∷◌, arith}
use mathlib.Core.Option.{some}
use lib.ListN.{length-set, length-append, length-drop}
use lib.Seq.{length-take-le}
use Rattle.plan.specs.Limits.{bytes}
use Rattle.format.specs.Lines.{matched}
use Rattle.line_reader.specs.Seen.{said}
use Rattle.parser.proofs.Matching.{fields, one_value, no_value, not_matched}
use Rattle.parser.proofs.Readers.{grown, filled}
use Rattle.parser.proofs.Counted.{none_counted, count_read, count_lost, all_counted, no_front, no_counts, no_end, whole}
use Rattle.parser.proofs.read_counted.Goals as goal
use Rattle.parser.proofs.read_counted.Goals.{In_ok-front}

-- The duration.
front : (c : In_ok-front) → matched (bytes "act=#") c.args.text.now
    ≡ some (fields (c.in_ok-front.front.second ∷ []) c.in_ok-front.front.rest.now)
front c = one_value (bytes "act=#") c.args.text.now (said c.in_ok-front.front) c.in_ok-front.ensures refl

pub returns-in_err-front : goal.returns-in_err-front
returns-in_err-front c =
    rw c.from_residual.ensures
    (no_front c.args.resources c.args.text.now (not_matched (bytes "act=#") c.args.text.now c.in_err-front.ensures))

pub loop-count-init : goal.loop-count-init
loop-count-init c = (length-take-le c.args.resources _ (omega arith), none_counted c.args.resources c.in_ok-front.front.rest.now)

pub returns-in_err-line : goal.returns-in_err-line
returns-in_err-line c =
    rw c.from_residual-in_err-line.ensures
    (no_counts c.args.resources c.args.text.now (front (goal.at.returns-in_err-line c).In_ok-front)
    (count_lost c.loop-count.invariant.1 (omega arith) c.in_err-line.ensures))

pub loop-count-preserved : goal.loop-count-preserved
loop-count-preserved c =
    let loop = c.loop-count in
    let line = c.in_ok-line.line in (
      length-set loop.count-items loop.count-index line.second ∙ loop.invariant.0,
      count_read loop.invariant.1 (said line) (omega arith) c.in_ok-line.ensures
          (grown loop.count-items loop.count-index line.second (omega arith)),
    )

pub returns-in_err-end : goal.returns-in_err-end
returns-in_err-end c =
    let loop = c.loop-count in
    rw c.from_residual-in_err-end.ensures
    (no_end c.args.resources c.args.text.now (front (goal.at.returns-in_err-end c).In_ok-front)
    (all_counted loop.invariant.1 (omega arith) (filled loop.count-items [] c.args.resources loop.count-index loop.invariant.0))
    (not_matched (bytes "\n") loop.rest.now c.in_err-end.ensures))

pub returns : goal.returns
returns c =
    let loop = c.loop-count in
    record {
      size = simp (length-append, length-drop) (omega (arith, loop.invariant.0));
      matches =
          whole c.args.resources c.args.text.now (front (goal.at.returns c).In_ok-front)
          (all_counted loop.invariant.1 (omega arith) (filled loop.count-items _ c.args.resources loop.count-index loop.invariant.0))
          (no_value (bytes "\n") loop.rest.now (said c.in_ok-end.end) c.in_ok-end.ensures refl);
    }
