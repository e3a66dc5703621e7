use native.Mathlib.Omega.{arith}
use Rattle.std.proofs.Common.{rules}
use Rattle.std.proofs.lemmas.List.{places}
use Rattle.instance.proofs.Fill.{filled_part}
use Rattle.instance.proofs.unlink.Goals as goal

pub returns : goal.returns
returns c = filled_part _ _ _ _ _ (omega arith) (omega arith) (λ i b. search (rules, places))
