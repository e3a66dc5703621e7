use Rattle.std.proofs.Common.{◌∙◌, arith}
use lib.ListN.{length-set}
use Rattle.parser.proofs.Readers.{one_read, none_more, all_read, grown, filled, refused}
use Rattle.parser.proofs.Lines.capacity_lines.Goals as goal

pub returns-in_err-capacity : goal.returns-in_err-capacity
returns-in_err-capacity c =
    refused _ c.from_residual.result c.from_residual.ensures.1
    (none_more c.loop-capacity.invariant.1 (omega arith) c.in_err-capacity.ensures.read)

pub loop-capacity-preserved : goal.loop-capacity-preserved
loop-capacity-preserved c =
    let loop = c.loop-capacity in (
      length-set loop.capacity-items loop.capacity-index c.in_ok-capacity.field-0 ∙ loop.invariant.0,
      one_read loop.invariant.1 (omega arith) c.in_ok-capacity.ensures.read
          (grown loop.capacity-items loop.capacity-index c.in_ok-capacity.field-0 (omega arith)),
    )

pub returns : goal.returns
returns c =
    let loop = c.loop-capacity in
    all_read loop.invariant.1 (omega arith)
    (filled loop.capacity-items _ c.args.resources loop.capacity-index loop.invariant.0)
