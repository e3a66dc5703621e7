-- What rests on the plan is kept when another variant is put into the table.
use Prim.Native.Nat.{ℕ, ◌+◌, ◌<◌}
use native.Mathlib.Omega.{arith}
use mathlib.Core.List.{List}
use mathlib.Core.Path.{◌≡◌, sym, ap, ◌∙◌}
use Rattle.plan.specs.Limits.{most_resources}
use Rattle.plan.specs.declared.Tables.{Tables}
use Rattle.sets.specs.Sets.{most, has}
use Rattle.instance.specs.Table.{component_from, clash_from, resources_cell, tight_cell, duration_at, component_at}
use Rattle.instance.specs.Table.{clash_at, units_at, capacity_at, acts_of, resources_of}
use Rattle.instance.specs.Instance.{Laid, LaidFrom, SamePlan}
use Rattle.instance.proofs.Same.{SameUnits, units_same, capacity_same, component_test, clash_test, tight_test}

module _ (t r : List ℕ) (s : SamePlan t r) where
  duration_kept : (i : ℕ) → i < most → duration_at r i ≡ duration_at t i
  duration_kept i b = s.durations i (omega arith)

  component_kept : (i : ℕ) → i < most → component_at r i ≡ component_at t i
  component_kept i b = s.behind (component_from + i) (omega arith) (omega arith)

  clash_kept : (i : ℕ) → i < most → clash_at r i ≡ clash_at t i
  clash_kept i b = s.behind (clash_from + i) (omega arith) (omega arith)

  module _ (h : Laid t) where
    same : SameUnits t r
    same =
        record {
          acts_few = h.acts;
          resources_few = h.resources;
          acts = s.acts;
          resources = s.behind resources_cell (omega arith) (omega arith);
          held = λ at b d. s.behind at (omega arith) (omega arith);
        }

    units_kept : (i q : ℕ) → i < most → q < most_resources → units_at r i q ≡ units_at t i q
    units_kept = units_same same

    capacity_kept : (q : ℕ) → q < most_resources → capacity_at r q ≡ capacity_at t q
    capacity_kept = capacity_same same

    pub laid_kept : Laid r
    laid_kept =
        record {
          size = s.long ∙ h.size;
          acts = omega (arith, s.acts);
          resources = omega (arith, same.resources);
          long = λ i b.
              let l : i < acts_of t = omega (arith, s.acts) in
              omega (arith, duration_kept i (omega arith), h.long i l);
          short = λ i b. omega (arith, duration_kept i b, h.short i b);
          units = λ i q b d. omega (arith, units_kept i q b d, h.units i q b d);
          capacities = λ q d. omega (arith, capacity_kept q d, h.capacities q d);
          alone = λ i q b d.
              let l : i < acts_of t = omega (arith, s.acts) in
              let m : q < resources_of t = omega (arith, same.resources) in
              omega (
                arith,
                units_kept i q (omega arith) (omega arith),
                capacity_kept q (omega arith),
                h.alone i q l m,
              );
          component_low = λ i b. omega (arith, component_kept i b, h.component_low i b);
          component = λ i k b.
              let l : i < acts_of t = omega (arith, s.acts) in
              ap (λ (x : ℕ). has x k) (component_kept i (omega arith))
              ∙ h.component i k l
              ∙ sym (component_test same i k);
          clash_low = λ i b. omega (arith, clash_kept i b, h.clash_low i b);
          clash = λ i k b.
              let l : i < acts_of t = omega (arith, s.acts) in
              ap (λ (x : ℕ). has x k) (clash_kept i (omega arith))
              ∙ h.clash i k l
              ∙ sym (clash_test same i k (omega arith));
          tight_low = omega (arith, s.behind tight_cell (omega arith) (omega arith), h.tight_low);
          tight = λ i.
              ap (λ (x : ℕ). has x i) (s.behind tight_cell (omega arith) (omega arith))
              ∙ h.tight i
              ∙ sym (tight_test same i);
        }

  pub laid_from_kept : (tables : Tables) → LaidFrom tables t → LaidFrom tables r
  laid_from_kept tables h =
      record {
        laid = laid_kept h.laid;
        acts_are = s.acts ∙ h.acts_are;
        resources_are = (same h.laid).resources ∙ h.resources_are;
        durations = λ i b. duration_kept i (omega (arith, tables.acts_held)) ∙ h.durations i b;
        idle = λ i b d. duration_kept i d ∙ h.idle i b d;
        held = λ i q b d.
            units_kept h.laid i q (omega (arith, tables.acts_held)) (omega (arith, tables.resources_held))
            ∙ h.held i q b d;
        capacity_is = λ q d. capacity_kept h.laid q (omega (arith, tables.resources_held)) ∙ h.capacity_is q d;
      }
