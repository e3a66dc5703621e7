use mathlib.Core.Path.{◌≡◌}
use mathlib.Core.List.{foldl}
use Prim.Native.Nat.{◌<◌, ◌^◌, max}
use Rattle.sets.specs.Sets.{most}
use Rattle.sets.proofs.Members.{members}
use Rattle.profile.specs.Work.{end_at, latest_of}
use Rattle.profile.proofs.latest.Given as goal

-- `latest` meets its contract. The loop's invariant: the fold over the members still to come, from the latest end so
-- far, gives the latest of all.
abbrev pub invariant-loop-i : goal.invariant-loop-i
invariant-loop-i l =
    (l.i-iterator.left < 2 ^ most) × (foldl (λ a i. max a (end_at l.work i)) l.last (members l.i-iterator.left) ≡ latest_of l.work l.set)
