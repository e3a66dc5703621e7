use mathlib.Core.List.{[], ◌∷◌}
use mathlib.Core.Path.{◌≡◌, refl, sym, ◌∙◌}
use native.Mathlib.Omega.{arith}
use lib.ListN.{length, take}
use lib.Seq.{length-take-le}
use Rattle.plan.specs.Limits.{bytes}
use Rattle.writer.proofs.Laws.{wrote_short, letters_fit}
use Rattle.writer.proofs.Pieces.{counts_near, counted_wrote}
use Rattle.writer.proofs.put_activity.Goals as goal
use Rattle.writer.proofs.put_activity.Goals.{Start}

-- As many counts as there are resources.
size : (c : Start) → length (take c.args.resources c.args.activity.now.units) ≡ c.args.resources
size c = length-take-le c.args.resources c.args.activity.now.units (omega arith)

pub put_counts-next-requires : goal.put_counts-next-requires
put_counts-next-requires c = (
  omega (arith, wrote_short (bytes "act=#") (c.args.activity.now.duration ∷ 0 ∷ []) c.put_line-front.ensures),
  omega (arith, size (goal.at.put_counts-next-requires c).Start),
)

pub put_line-requires : goal.put_line-requires
put_line-requires c = (
  omega (
    arith,
    wrote_short (bytes "act=#") (c.args.activity.now.duration ∷ 0 ∷ []) c.put_line-front.ensures,
    counts_near (take c.args.resources c.args.activity.now.units) c.put_counts-next.ensures,
    size (goal.at.put_line-requires c).Start,
  ),
  omega arith,
  letters_fit (bytes "\n") refl _ _,
)

pub returns-then-says_units : goal.returns-then-says_units
returns-then-says_units c =
    counted_wrote c.args.edition c.args.resources c.args.activity.now.duration
    (take c.args.resources c.args.activity.now.units) (size (goal.at.returns-then-says_units c).Start)
    (sym c.says_units.ensures ∙ c.if-says_units.true) c.put_line-front.ensures
    c.put_counts-next.ensures c.put_line.ensures
