-- The schedules under a diagram, seen choice by choice.
use Prim.Native.Nat.{ℕ, zero, suc, ◌≤◌}
use native.Mathlib.Decide.{ℕ_discrete}
use native.Mathlib.Omega.{arith}
use mathlib.Core.Bool.{true}
use mathlib.Core.List.Memᴰ
use mathlib.Core.List.{List, [], ◌++◌, append-nil, Memᴰ}
use mathlib.Core.Logic.{by_cases}
use mathlib.Core.Path.{◌≡◌, sym, ap, ◌∙◌, subst}
use Rattle.base.specs.Lists.{gather}
use Rattle.base.proofs.Bools.{by_bool}
use Rattle.sets.specs.Sets.{most, has}
use Rattle.timetable.specs.Mark.{mark}
use Rattle.schedule.specs.Schedule.{Starts}
use Rattle.branching.proofs.Under.{Under}
use Rattle.branching.proofs.Rows.{Rows}
use Rattle.scan.specs.Scan.{Diagram}
use Rattle.scan.specs.Scan.{select}
use Rattle.scan_exact.proofs.Choices.{Conflict, branched}
use Rattle.instance.specs.Instance.{own_of, Instance}
use Rattle.instance.specs.Table.{project_in}
use Rattle.tally.specs.Seen.{Kept, kept_of, seen_in}
use Rattle.steps.specs.declared.Line.{Line}
use Rattle.steps.proofs.Given.{scannable}
use Rattle.unbranched.specs.Position.{Position, Seen}
use Rattle.ordering.proofs.Branches.{SeenPart, seen_each}

-- Lists joined, of which those from n on are empty.
gather_stops : {A : Type 0} (n m : ℕ) (f : ℕ → List A) → n ≤ m → ((i : ℕ) → n ≤ i → f i ≡ []) → gather m f ≡ gather n f
unfolding gather
gather_stops n zero f h none = let e : zero ≡ n = omega (arith, h) in ap (λ (x : ℕ). gather x f) e
gather_stops n (suc m) f h none =
    by_cases (ℕ_discrete n (suc m)) (λ e. ap (λ (x : ℕ). gather x f) (sym e))
    (λ ne.
    ap (λ xs. gather m f ++ xs) (none m (omega (arith, h, ne)))
    ∙ append-nil (gather m f)
    ∙ gather_stops n m f (omega (arith, h, ne)) none)

-- The schedules under it with j chosen; those of `set` that are not in `rest` have been seen.
abbrev pub UnderChoice : List ℕ → Diagram → ℕ → Starts → Type 0
UnderChoice t d j =
    let then = select (project_in t) (own_of t) d j in
    Under (project_in t) (own_of t) then.frozen then.starts

abbrev pub Going : List ℕ → List ℕ → Diagram → ℕ → Kept → List ℕ → List ℕ → ℕ → Type 0
Going t b d set k cells area rest =
    SeenPart (project_in t) mark (UnderChoice t d) set rest (seen_in t b) k (kept_of cells area)

-- All of them: these are the schedules under the diagram.
pub going_last : (t b : List ℕ) (given : Instance t) (l : Line) (w : List ℕ) (d : Diagram)
    (at : Position t l w d) (c : ℕ)
    → has l.due c ≡ true
    → (set : ℕ)
    → ((j : ℕ) → Conflict (project_in t) (own_of t) (scannable t given) d at.stands c j → has set j ≡ true)
    → ((j : ℕ) → has set j ≡ true → Conflict (project_in t) (own_of t) (scannable t given) d at.stands c j)
    → {k : Kept} {cells area : List ℕ} {rest : ℕ}
    → Going t b d set k cells area rest
    → rest ≡ 0
    → Seen t b d k cells area
unfolding project_in
going_last t b given l w d at c due set to of {k} so_far none =
    let below : ℕ → List (List ℕ) = so_far.below in
    let empty : (j : ℕ) → (project_in t).size ≤ j → below j ≡ [] =
    λ j b.
    so_far.other j
    (by_bool (has set j) (λ y. absurd (omega (arith, b, (at.stands.inside j (of j y).there).below))) (λ z. z)) in
    record {
      rows = gather most below;
      all =
          subst (Rows (project_in t) mark (Under (project_in t) (own_of t) d.frozen d.starts))
          (sym (gather_stops (project_in t).size most below given.laid.acts empty))
          (branched (project_in t) (own_of t) (scannable t given) d at.stands c mark below (at.contested c due)
          (λ j x.
          seen_each (project_in t) mark (UnderChoice t d) set (seen_in t b) k none so_far j (to j x))
          (λ j row m.
          by_bool (has set j) (of j)
          (λ z. absurd (Memᴰ.not-nil (subst (Memᴰ row) (so_far.other j z) m)))));
      kept = so_far.kept;
    }
