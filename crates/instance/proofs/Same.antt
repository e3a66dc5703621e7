-- Two tables with the same units have the same components and clashes.
use Prim.Native.Nat.{ℕ, ◌+◌, ◌*◌, ◌≤◌, ◌<◌}
use native.Mathlib.Omega.{arith}
use mathlib.Core.Bool.{Bool, not, ◌&&◌}
use mathlib.Core.List.{List}
use mathlib.Core.Path.{◌≡◌, sym, ap, ap₂, ◌∙◌}
use lib.Dec.{leb, ltb, eqb}
use lib.ListN.{length, get_or}
use borrow.Author.Tests.{ltb-true}
use Rattle.base.specs.Below.{every_below, ◌implies◌}
use Rattle.base.proofs.Below.{every_same}
use Rattle.base.proofs.Bools.{by_bool}
use Rattle.plan.specs.Limits.{most_resources}
use Rattle.sets.specs.Sets.{most, has}
use Rattle.scan.specs.Components.{component_below}
use Rattle.instance.specs.Table.{units_from, capacity_from, resources_cell, acts_cell, component_at, units_at}
use Rattle.instance.specs.Table.{capacity_at, resources_of, acts_of, project_in}
use Rattle.instance.specs.Instance.{own_of, fit_together, is_tight}
use Rattle.instance.specs.Steps.{Filled, Counted, Grouped, IsClash}
use Rattle.instance.proofs.Components.{component_same}

pub record SameUnits (t r : List ℕ) : Type 0 where
  pub acts_few : acts_of t ≤ most
  pub resources_few : resources_of t ≤ most_resources
  pub acts : acts_of r ≡ acts_of t
  pub resources : resources_of r ≡ resources_of t
  pub held : (at : ℕ) → units_from ≤ at → at < resources_cell → get_or r at 0 ≡ get_or t at 0

module _ {t r : List ℕ} (s : SameUnits t r) where
  pub units_same : (i q : ℕ) → i < most → q < most_resources → units_at r i q ≡ units_at t i q
  units_same i q b d = s.held (units_from + most_resources * i + q) (omega arith) (omega arith)

  pub capacity_same : (q : ℕ) → q < most_resources → capacity_at r q ≡ capacity_at t q
  capacity_same q d = s.held (capacity_from + q) (omega arith) (omega arith)

  own_same : (i : ℕ) → own_of r i ≡ own_of t i
  unfolding project_in
  own_same i =
      ap (λ (n : ℕ). component_below (project_in r) n i) s.resources
      ∙ component_same (project_in t) (project_in r) s.acts (resources_of t)
      (λ k q b d. units_same k q (omega (arith, s.acts_few)) (omega (arith, s.resources_few)))
      i

  fit_same : (i k : ℕ) → i < most → k < most → fit_together r i k ≡ fit_together t i k
  unfolding fit_together
  fit_same i k b d =
      ap (λ (n : ℕ). every_below n λ q. leb (units_at r i q + units_at r k q) (capacity_at r q)) s.resources
      ∙ every_same (resources_of t) (λ q. leb (units_at r i q + units_at r k q) (capacity_at r q))
      (λ q. leb (units_at t i q + units_at t k q) (capacity_at t q))
      (λ q l.
      let few : q < most_resources = omega (arith, s.resources_few) in
      ap₂ leb (ap₂ ◌+◌ (units_same i q b few) (units_same k q d few)) (capacity_same q few))

  pub component_test : (i k : ℕ)
      → (ltb k (acts_of r) && eqb (own_of r k) (own_of r i)) ≡ (ltb k (acts_of t) && eqb (own_of t k) (own_of t i))
  component_test i k =
      ap₂ (λ (n : ℕ) (b : Bool). ltb k n && b) s.acts (ap₂ eqb (own_same k) (own_same i))

  pub clash_test : (i k : ℕ) → i < most
      → (ltb k (acts_of r) && not (eqb i k) && not (fit_together r i k))
      ≡ (ltb k (acts_of t) && not (eqb i k) && not (fit_together t i k))
  clash_test i k b =
      ap (λ (n : ℕ). ltb k n && not (eqb i k) && not (fit_together r i k)) s.acts
      ∙ by_bool (ltb k (acts_of t))
      (λ y.
      ap (λ (f : Bool). ltb k (acts_of t) && not (eqb i k) && not f)
      (fit_same i k b (omega (arith, s.acts_few, ltb-true k (acts_of t) y))))
      (λ z.
      ap (λ (l : Bool). l && not (eqb i k) && not (fit_together r i k)) z
      ∙ sym (ap (λ (l : Bool). l && not (eqb i k) && not (fit_together t i k)) z))

  pub clash_same : {i x : ℕ} → i < most → IsClash r i x → IsClash t i x
  clash_same {i} {x} b h = record { low = h.low; member = λ k. h.member k ∙ clash_test i k b }

  abbrev apart : List ℕ → ℕ → ℕ → ℕ → Bool
  apart u c j k = (eqb (own_of u j) c && eqb (own_of u k) c && not (eqb j k)) implies not (fit_together u j k)

  apart_same : (c j k : ℕ) → j < acts_of t → k < acts_of t → apart r c j k ≡ apart t c j k
  apart_same c j k b d =
      ap₂ ◌implies◌
      (ap₂ (λ (x y : ℕ). eqb x c && eqb y c && not (eqb j k)) (own_same j) (own_same k))
      (ap not (fit_same j k (omega (arith, s.acts_few)) (omega (arith, s.acts_few))))

  tight_same : (c : ℕ) → is_tight r c ≡ is_tight t c
  unfolding is_tight
  tight_same c =
      ap (λ (n : ℕ). every_below n λ j. every_below n (apart r c j)) s.acts
      ∙ every_same (acts_of t) (λ j. every_below (acts_of t) (apart r c j)) (λ j. every_below (acts_of t) (apart t c j))
      (λ j b. every_same (acts_of t) (apart r c j) (apart t c j) (λ k d. apart_same c j k b d))

  pub tight_test : (i : ℕ)
      → (ltb i (acts_of r) && is_tight r (own_of r i)) ≡ (ltb i (acts_of t) && is_tight t (own_of t i))
  tight_test i =
      ap₂ (λ (n : ℕ) (b : Bool). ltb i n && b) s.acts (ap (is_tight r) (own_same i) ∙ tight_same (own_of t i))

  pub counted_same : {acts resources : ℕ} → length r ≡ length t → Counted acts resources t → Counted acts resources r
  counted_same {acts} {resources} long h =
      record {
        size = long ∙ h.size;
        acts_are = s.acts ∙ h.acts_are;
        resources_are = s.resources ∙ h.resources_are;
        acts_few = h.acts_few;
        resources_few = h.resources_few;
        units_few = λ i q b d. omega (arith, units_same i q b d, h.units_few i q b d);
      }

  pub grouped_same : {acts resources : ℕ} → length r ≡ length t
      → ((i : ℕ) → i < most → component_at r i ≡ component_at t i) → Grouped acts resources t → Grouped acts resources r
  grouped_same {acts} {resources} long column h =
      let counted = h.counted in
      record {
        counted = counted_same long counted;
        alone = λ i q b d.
            omega (
              arith,
              units_same i q (omega (arith, counted.acts_few)) (omega (arith, counted.resources_few)),
              capacity_same q (omega (arith, counted.resources_few)),
              h.alone i q b d,
            );
        component = λ i b.
            record {
              low = omega (arith, column i b, (h.component i b).low);
              member = λ k l.
                  ap (λ (x : ℕ). has x k) (column i b)
                  ∙ (h.component i b).member k (omega (arith, s.acts))
                  ∙ sym (component_test i k);
            };
      }

pub filled_same : {acts resources : ℕ} {t : List ℕ} {from n : ℕ} {P : ℕ → ℕ → Type 0} {r : List ℕ}
    → Counted acts resources t → Filled t from n P r → from + n ≤ units_from → SameUnits t r
filled_same {acts} {resources} {t} {from} {n} {P} {r} counted filled h =
    record {
      acts_few = omega (arith, counted.acts_are, counted.acts_few);
      resources_few = omega (arith, counted.resources_are, counted.resources_few);
      acts = filled.behind acts_cell (omega arith);
      resources = filled.behind resources_cell (omega arith);
      held = λ at b d. filled.behind at (omega arith);
    }

pub same_joined : {t u r : List ℕ} → SameUnits t u → SameUnits u r → SameUnits t r
same_joined first last =
    record {
      acts_few = first.acts_few;
      resources_few = first.resources_few;
      acts = last.acts ∙ first.acts;
      resources = last.resources ∙ first.resources;
      held = λ at b d. last.held at b d ∙ first.held at b d;
    }
