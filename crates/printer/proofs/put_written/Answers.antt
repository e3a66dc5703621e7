-- What was written fits the area.
use Rattle.std.proofs.Common.{sym, ap, ◌∙◌, arith, length-take-le}
use Rattle.printer.proofs.Areas.{written_fits}
use Rattle.printer.proofs.put_written.Goals as goal

pub slice_bounds-write_all-end : goal.slice_bounds-write_all-end
slice_bounds-write_all-end g c =
    omega (arith, written_fits _ _ _ c.in-Ok.length (sym (ap (λ o. o.answer) c.write.ensures) ∙ c.in-Ok.is))

pub slice_bounds-write_all-end-in-Ok : goal.slice_bounds-write_all-end-in-Ok
slice_bounds-write_all-end-in-Ok g c = sym (length-take-le _ _ (slice_bounds-write_all-end g c))
