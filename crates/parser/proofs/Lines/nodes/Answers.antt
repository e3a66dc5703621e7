use Rattle.std.proofs.Common.{◌∙◌, arith}
use lib.ListN.{length-set}
use Rattle.parser.proofs.Readers.{one_read, none_more, all_read, grown, filled, refused}
use Rattle.parser.proofs.Lines.nodes.Goals as goal

pub returns-in_err-node : goal.returns-in_err-node
returns-in_err-node c =
    refused _ c.from_residual.result c.from_residual.ensures.1
    (none_more c.loop-node.invariant.1 (omega arith) c.in_err-node.ensures)

pub loop-node-preserved : goal.loop-node-preserved
loop-node-preserved c =
    let loop = c.loop-node in (
      length-set loop.node-items loop.node-index c.in_ok-node.field-0 ∙ loop.invariant.0,
      one_read loop.invariant.1 (omega arith) c.in_ok-node.ensures
          (grown loop.node-items loop.node-index c.in_ok-node.field-0 (omega arith)),
    )

pub returns : goal.returns
returns c =
    let loop = c.loop-node in
    all_read loop.invariant.1 (omega arith)
    (filled loop.node-items _ c.args.nodes loop.node-index loop.invariant.0)
