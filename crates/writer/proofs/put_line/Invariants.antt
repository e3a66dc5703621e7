use Prim.Native.Nat.{ℕ, ◌+◌, ◌*◌, ◌≤◌, ◌<◌}
use mathlib.Core.List.{List, [], ◌∷◌}
use lib.ListN.{drop}
use Rattle.format.specs.Lines.{filled}
use Rattle.writer.specs.Wrote.{Wrote, WroteLine}
use Rattle.writer.proofs.put_line.Given as goal

-- The invariant: whatever writes the rest of the line from here on has written the line.
abbrev pub invariant-loop-b : goal.invariant-loop-b
invariant-loop-b l =
    (l.line.at ≤ l.at + 5 * l.b-index)
    × ((l.first < 256) × (l.second < 256) → (l.line.first < 256) × (l.line.second < 256))
    × ((next : ℕ) (last : List ℕ) → WroteLine l.area l.line (drop l.b-index l.form) next last
    → Wrote l.initial.area l.at (filled l.form (l.first ∷ l.second ∷ [])) next last)
