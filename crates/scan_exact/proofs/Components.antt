-- Components are numbered within the size of the project, and two that hold units of one resource are of one component.
use Prim.Native.Nat.{ℕ, ◌<◌}
use native.Mathlib.Omega.{arith}
use borrow.Author.Tests.{lt-ltb}
use Rattle.schedule.specs.Project.{Project}
use Rattle.branching.proofs.Under.{Components}
use Rattle.scan.specs.Components.{component_below, component_of}
use Rattle.scan.proofs.Components.{component_low, component_joint}

pub components_few : (p : Project) (n i : ℕ) → i < p.size → component_below p n i < p.size
components_few p n i l = omega (arith, component_low p n i)

pub components_joint : (p : Project) → Components p (component_of p)
components_joint p i k r hi hk l ui uk =
    component_joint p p.resources i k r hi.below hk.below l (lt-ltb 0 (p.units i r) ui)
    (lt-ltb 0 (p.units k r) uk)
