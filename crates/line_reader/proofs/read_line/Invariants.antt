use Rattle.std.proofs.Common.{◌≡◌, drop}
use Rattle.line_reader.specs.Seen.{said, started, advance}
use Rattle.line_reader.proofs.read_line.Given as goal

-- What is left of the form matches what the whole form matches.
abbrev pub invariant-loop-b : goal.invariant-loop-b
invariant-loop-b l = advance (drop l.b-index l.form) (said l.line) ≡ advance l.form (started l.text)
