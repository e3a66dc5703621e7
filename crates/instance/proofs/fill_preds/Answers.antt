use native.Mathlib.Omega.{arith}
use Rattle.instance.proofs.Fill.{filled_part}
use Rattle.instance.proofs.fill_preds.Goals as goal

pub returns : goal.returns
returns c = filled_part _ _ _ _ _ (omega arith) (omega arith) (λ i b. cc)
