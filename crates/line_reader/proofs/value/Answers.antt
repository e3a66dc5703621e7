use Rattle.std.proofs.Common.{◌≡◌, ◌+◌, ◌≤◌, ◌∙◌, ap, sym, true, length, take, arith}
use Rattle.plan.specs.Limits.{most_digits}
use Rattle.format.specs.Lines.{is_value}
use Rattle.line_reader.specs.Seen.{said}
use Rattle.line_reader.proofs.Values.{all_digits, value_size, front_digits, front_size, front_taken, front_value, no_front_value}
use Rattle.line_reader.proofs.Forms.{value_read, no_value}
use Rattle.line_reader.proofs.value.Goals as goal
use Rattle.line_reader.proofs.value.Goals.{After-split_at}

-- The digits that are split off.
front : (c : After-split_at) → c.split_at.result.0.now ≡ front_digits c.args.line.rest.now
front c = rw c.digit_count.ensures at c.split_at.ensures.front ∙ front_taken c.args.line.rest.now

pub split_at-requires : goal.split_at-requires
split_at-requires c = omega (arith, front_size c.args.line.rest.now)

pub decimal-requires : goal.decimal-requires
decimal-requires c =
    let e = front (goal.at.decimal-requires c).After-split_at in
    let size : length c.split_at.result.0.now ≤ most_digits
    =
    value_size c.split_at.result.0.now (sym c.is_value.ensures ∙ c.if-is_value.true) in
    (rw e (all_digits (take (most_digits + 1) c.args.line.rest.now)), size)

pub returns-then-is_value : goal.returns-then-is_value
returns-then-is_value c =
    let e = front (goal.at.returns-then-is_value c).After-split_at in
    let v : is_value (front_digits c.args.line.rest.now) ≡ true
    =
    ap is_value (sym e) ∙ sym c.is_value.ensures ∙ c.if-is_value.true in
    let whole = front_value c.args.line.rest.now v in
    rw (c.decimal.ensures, e, c.split_at.ensures.back, c.digit_count.ensures, whole)
    (value_read (said c.args.line) (ap is_value (sym whole) ∙ v))

pub returns-else-is_value : goal.returns-else-is_value
returns-else-is_value c =
    let e = front (goal.at.returns-else-is_value c).After-split_at in
    no_value (said c.args.line)
    (no_front_value c.args.line.rest.now (ap is_value (sym e) ∙ sym c.is_value.ensures ∙ c.if-is_value.false))
