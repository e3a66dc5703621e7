use Rattle.std.proofs.Common.{◌/◌}
use Rattle.plan.specs.Limits.{most_digits}
use native.Mathlib.Omega.{arith}
use Prim.Native.Nat.{◌/◌}
use Rattle.plan.specs.Limits.{most_digits}
use Rattle.format.proofs.Values.{written_most}
use Rattle.writer.proofs.Laws.{only_digit, last_digit}
use Rattle.writer.proofs.+put_value.Goals as goal

-- src/lib.rt:47:9
pub returns-then-n-lt10 : goal.returns-then-n-lt10
returns-then-n-lt10 t c = only_digit c.args.n (omega arith) c.digit_of.ensures c.put_byte.ensures

-- src/lib.rt:50:5
pub put_byte-requires-2 : goal.put_byte-requires-2
put_byte-requires-2 t c = omega (arith, c.put_value-next.ensures.place, written_most most_digits (c.args.n / 10))

-- src/lib.rt:42:1
pub returns : goal.returns
returns t c =
    last_digit c.args.n (omega arith) (omega (arith, c.ranges.n)) c.digit_of-2.ensures c.put_value-next.ensures
    c.put_byte-2.ensures
