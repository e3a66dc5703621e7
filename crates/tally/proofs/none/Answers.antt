use Prim.Native.Nat.{ℕ, ◌+◌, ◌<◌}
use native.Mathlib.Omega.{arith}
use mathlib.Core.List.{[], ◌∷◌}
use mathlib.Core.Path.{refl}
use lib.ListN.{get_or, get_or-replicate}
use lib.Seq.{get_or-append-add}
use Rattle.plan.specs.Limits.{word_values}
use Rattle.timetable.specs.Mark.{mark, places, no_starts}
use Rattle.tally.specs.Seen.{starts_from}
use Rattle.tally.proofs.none.Goals as goal

-- The starts are marks, whatever stands before them.
marked : (count ties end variant i : ℕ) → i < places
    → get_or (count ∷ ties ∷ end ∷ variant ∷ no_starts) (starts_from + i) 0 < word_values
marked count ties end variant i l =
    omega (
      arith,
      get_or-append-add (count ∷ ties ∷ end ∷ variant ∷ []) no_starts i 0,
      get_or-replicate places i mark 0 l,
    )

pub returns : goal.returns
returns c = (record { size = refl; few = omega arith; starts = marked _ _ _ _ }, refl)
