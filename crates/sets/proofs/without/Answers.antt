use mathlib.Core.Path.{ap, ◌∙◌}
use lib.Bits.{bit_xor}
use Rattle.sets.proofs.Laws.{xor_single}
use Rattle.sets.proofs.without.Goals as goal

pub returns : goal.returns
returns c =
    ap (bit_xor c.args.set) c.single.ensures ∙ xor_single c.args.set c.args.i
    c.requires.1
