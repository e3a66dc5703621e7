-- What has been read is within the area, and each turn reads on.
use Rattle.std.proofs.Common.{◌-◌, ◌≤◌, length}
use Rattle.console.proofs.read_input.Given as goal

abbrev pub invariant-loop-length : goal.invariant-loop-length
invariant-loop-length g l = l.length ≤ length l.area

abbrev pub decreases-loop-length : goal.decreases-loop-length
decreases-loop-length g l = length l.area - l.length
