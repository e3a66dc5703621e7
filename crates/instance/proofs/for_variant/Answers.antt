use native.Mathlib.Omega.{arith}
use Rattle.instance.proofs.Variants.{blank, placed}
use Rattle.instance.proofs.for_variant.Goals as goal

pub link_all-requires : goal.link_all-requires
link_all-requires c = blank _ _ _ c.requires c.fill_preds.ensures c.unlink.ensures

pub returns : goal.returns
returns c =
    placed _ _ _ c.requires c.fill_preds.ensures c.unlink.ensures c.link_all.ensures (omega arith) (omega arith)
