-- Where more is frozen, but nothing more in the component of an activity, that one fits as before.
use Prim.Native.Nat.{ℕ, ◌+◌, ◌≤◌}
use native.Mathlib.Decide.{ℕ_discrete}
use native.Mathlib.Omega.{arith}
use mathlib.Core.Bool.{Bool, true, false}
use mathlib.Core.Logic.{◌≢◌, by_cases}
use mathlib.Core.Path.{◌≡◌}
use Rattle.base.proofs.Bools.{by_bool}
use Rattle.schedule.specs.Project.{Project}
use Rattle.schedule.specs.Schedule.{Starts, end_of}
use Rattle.schedule.proofs.Load.{Has, among, load_mono}
use Rattle.schedule.proofs.Agree.{Agree}
use Rattle.branching.proofs.Room.{Frozen, Room}
use Rattle.branching.proofs.Node.{Node, frozen_has}
use Rattle.branching.proofs.Under.{Components}

module _ (p : Project) (F G : ℕ → Bool) (S T : Starts) (more : (k : ℕ) → Frozen p F k → G k ≡ true)
    (agrees : Agree (among p F) S T) (i x : ℕ) where
  pub room_less : Room p G T i x → Room p F S i x
  room_less room =
      record {
        from_floor = room.from_floor;
        ready =
            λ k f o.
            omega (arith, agrees k f, room.ready k (record { below = f.below; there = more k f }) o);
        fits =
            λ u r l from to.
            omega (
              arith,
              room.fits u r l from to,
              load_mono p F G S T u u r
                  (λ k b w y runs.
                  let f : Frozen p F k = record { below = b; there = y } in
                  let e : S k ≡ T k = agrees k f in (more k f, omega arith)),
            );
      }

  pub room_more : (comp : ℕ → ℕ) → Components p comp → Node p G T → Has p i
      → ((k : ℕ) → Frozen p G k → F k ≡ false → comp k ≢ comp i)
      → ((k : ℕ) → Frozen p G k → p.precedes k i ≡ true → end_of p T k + p.gap k i ≤ x)
      → Room p F S i x
      → Room p G T i x
  room_more comp joint node h off ready room =
      record {
        from_floor = room.from_floor;
        ready = ready;
        fits =
            λ u r l from to.
            by_cases (ℕ_discrete (p.units i r) 0)
            (λ none. omega (arith, none, node.is_active.is_feasible.fits u r l))
            (λ some.
            omega (
              arith,
              room.fits u r l from to,
              load_mono p G F T S u u r
                  (λ k b w y runs.
                  let g : Frozen p G k = record { below = b; there = y } in
                  by_bool (F k)
                  (λ f. let e : S k ≡ T k = agrees k (record { below = b; there = f }) in (f, omega arith))
                  (λ z.
                  absurd (off k g z (joint k i r (frozen_has p G T node k g) h l w (omega (arith, some)))))),
            ));
      }
