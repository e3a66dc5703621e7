use native.Mathlib.Omega.{arith}
use Rattle.writer.proofs.Laws.{piece_then, line_end}
use Rattle.writer.proofs.put_line.Goals as goal

pub loop-b-preserved : goal.loop-b-preserved
loop-b-preserved c =
    let piece = c.put_piece-line in (
      omega (arith, piece.ensures.short),
      λ h. piece.ensures.bytes (c.loop-b.invariant.1 h),
      λ next last w.
          c.loop-b.invariant.2 next last
          (piece_then c.args.form.now c.loop-b.b-index (omega arith) piece.ensures next last w),
    )

pub returns : goal.returns
returns c =
    c.loop-b.invariant.2 c.loop-b.line.at c.loop-b.area
    (line_end c.args.form.now c.loop-b.b-index (omega arith) c.loop-b.line c.loop-b.area)
