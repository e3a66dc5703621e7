-- Wherever the search stands, it is within a whole move of the scan.
use Prim.Native.Nat.{ℕ}
use mathlib.Core.List.{List}
use Rattle.sets.specs.Sets.{has}
use Rattle.scan.specs.Scan.{Diagram}
use Rattle.scan_exact.specs.Comes.{Whole}
use Rattle.scan_exact.proofs.Comes.{whole_moves}
use Rattle.instance.specs.Instance.{own_of, Instance}
use Rattle.instance.specs.Table.{project_in}
use Rattle.steps.specs.declared.Line.{Line}
use Rattle.steps.proofs.Given.{scannable}
use Rattle.unbranched.specs.Position.{Position}

pub position_whole : (t : List ℕ) → Instance t → (l : Line) (w : List ℕ) (d : Diagram) → Position t l w d
    → Whole (project_in t) (own_of t) d λ c. has l.due c
position_whole t given l w d at =
    whole_moves (project_in t) (own_of t) (scannable t given).beyond (scannable t given).few at.comes
