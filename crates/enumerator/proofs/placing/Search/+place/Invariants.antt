-- Each call of itself is for the next of the 24 activities.
use Rattle.std.proofs.Common.{◌-◌}
use Rattle.enumerator.proofs.placing.Search.+place.Given as goal

abbrev pub decreases-place : goal.decreases-place
decreases-place l = 24 - l.i
