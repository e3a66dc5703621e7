-- Step 3, the contested components one after the other: the schedules of all conflict combinations joined are those of
-- the diagram.
use Prim.Native.Nat.{ℕ, zero, suc, ◌+◌, ◌≤◌, ◌<◌}
use native.Mathlib.Decide.{ℕ_discrete}
use native.Mathlib.Omega.{arith}
use mathlib.Core.Bool.{Bool, true, false, ◌&&◌, and-false}
use mathlib.Core.List.Memᴰ
use mathlib.Core.List.{List, [], ◌∷◌, map, foldl, append-nil, Memᴰ}
use mathlib.Core.Logic.{◌≢◌, by_cases}
use mathlib.Core.Path.{◌≡◌, refl, sym, ap, ap₂, ◌∙◌, fun_ext, subst}
use lib.Dec.{eqb}
use borrow.Author.Tests.{eqb-true, ne_eqb}
use Rattle.base.specs.Below.{◌implies◌}
use Rattle.base.specs.Lists.{gather}
use Rattle.base.proofs.Bools.{by_bool, true_not_false, and_right, elim_true, elim_false}
use Rattle.base.proofs.Below.{every_same, implies_intro}
use Rattle.schedule.specs.Project.{Project}
use Rattle.schedule.proofs.Load.{Has}
use Rattle.branching.proofs.Room.{adding, adding_new, adding_old, adding_other}
use Rattle.branching.proofs.Under.{Under}
use Rattle.branching.proofs.Rows.{Rows}
use Rattle.scan.specs.Scan.{Diagram}
use Rattle.scan.proofs.Joined.{joined, joined_gather, joined_if}
use Rattle.scan.specs.Scan.{is_direct, is_contested, is_ahead, is_next, in_conflict, combinations_from, combinations}
use Rattle.scan.specs.Scan.{freeze, shift, select, resolve}
use Rattle.scan_exact.proofs.Standing.{Scannable, Standing}
use Rattle.scan_exact.proofs.Selected.{select_kept, select_off, select_standing}
use Rattle.scan_exact.proofs.Attached.{some_is, some_of}
use Rattle.scan_exact.proofs.Choices.{Conflict, conflict_parts, parts_conflict, branched}

module _ (p : Project) (comp : ℕ → ℕ) (given : Scannable p comp) (mark : ℕ) (d : Diagram)
    (standing : Standing p d d.tick) where
  -- A diagram that comes of d when the conflicts of the components below r are resolved.
  pub record Resolved (e : Diagram) (r : ℕ) : Type 0 where
    pub stands : Standing p e e.tick
    pub tick : e.tick ≡ d.tick
    pub placed : (i : ℕ) → e.placed i ≡ d.placed i
    pub term : (i : ℕ) → e.term i ≡ d.term i
    pub more : (i : ℕ) → d.frozen i ≡ true → (e.frozen i ≡ true) × (e.starts i ≡ d.starts i)
    pub same : (i : ℕ) → r ≤ comp i → (e.frozen i ≡ d.frozen i) × (e.starts i ≡ d.starts i)
    -- one is frozen for each that was contested
    pub fewer : (c : ℕ) → c < r → is_contested p comp d c ≡ true
        → (j : ℕ) × Has p j × (d.frozen j ≡ false) × (e.frozen j ≡ true)

  abbrev after_all_lem : Diagram → ℕ → ℕ → Bool
  after_all_lem x j k =
      (x.frozen k && p.free k && eqb (comp k) (comp j)) implies is_ahead p comp (x.starts k) k (x.starts j) j

  apart : (x : Diagram) (j k : ℕ) → comp k ≢ comp j → after_all_lem x j k ≡ true
  apart x j k ne =
      implies_intro (x.frozen k && p.free k && eqb (comp k) (comp j)) (is_ahead p comp (x.starts k) k (x.starts j) j)
      (λ y.
      absurd (ne (eqb-true (comp k) (comp j) (and_right (x.frozen k && p.free k) (eqb (comp k) (comp j)) y))))

  elsewhere : (x : Diagram) (r j : ℕ) → comp j ≢ r → in_conflict p comp x r j ≡ false
  elsewhere x r j off = rw (ne_eqb (comp j) r off, and-false)

  module _ (e : Diagram) (r : ℕ) (now : Resolved e r) where
    -- The component r is as it was.
    conflict_same : (j : ℕ) → in_conflict p comp e r j ≡ in_conflict p comp d r j
    conflict_same j =
        by_cases (ℕ_discrete (comp j) r)
        (λ on.
        let (frozen, starts) = now.same j (omega (arith, on)) in
        let next : is_next p comp e j ≡ is_next p comp d j =
        every_same p.size (after_all_lem e j) (after_all_lem d j)
        (λ k l.
        by_cases (ℕ_discrete (comp k) (comp j))
        (λ same.
        let (frozen-k, starts-k) = now.same k (omega (arith, on, same)) in
        ap₂
        (λ (f : Bool) (a : ℕ). (f && p.free k && eqb (comp k) (comp j)) implies is_ahead p comp a k (e.starts j) j)
        frozen-k starts-k
        ∙ ap
        (λ (b : ℕ).
        (d.frozen k && p.free k && eqb (comp k) (comp j)) implies is_ahead p comp (d.starts k) k b j)
        starts)
        (λ ne. apart e j k ne ∙ sym (apart d j k ne))) in
        rw (next, now.placed j, frozen, starts, now.tick))
        (λ off. elsewhere e r j off ∙ sym (elsewhere d r j off))

    contested_same : is_contested p comp d r ≡ true → is_contested p comp e r ≡ true
    contested_same some =
        let (i, l, y) = some_is p comp (λ i. is_direct p comp d i && eqb (comp i) r) some in
        let on : comp i ≡ r = eqb-true (comp i) r (and_right (is_direct p comp d i) (eqb (comp i) r) y) in
        let (frozen, starts) = now.same i (omega (arith, on)) in
        some_of p comp (λ i. is_direct p comp e i && eqb (comp i) r) i l
        (rw (now.placed i, frozen, starts, now.tick) y)

    skip : is_contested p comp d r ≡ false → Resolved e (suc r)
    skip none =
        record {
          stands = now.stands;
          tick = now.tick;
          placed = now.placed;
          term = now.term;
          more = now.more;
          same = λ i l. now.same i (omega (arith, l));
          fewer =
              λ c l y.
              by_cases (ℕ_discrete c r) (λ z. true_not_false y (ap (is_contested p comp d) z ∙ none))
              (λ ne. now.fewer c (omega (arith, l, ne)) y);
        }

    selected : (j : ℕ) → Conflict p comp given e now.stands r j → Resolved (select p comp e j) (suc r)
    unfolding freeze shift
    selected j x =
        let kept = select_kept p comp given e now.stands j x.there x.waits x.early in
        let (frozen_j, _) = now.same j (omega (arith, x.on)) in
        record {
          stands = select_standing p comp given e now.stands j x.there x.waits x.early;
          tick = now.tick;
          placed = now.placed;
          term = now.term;
          more =
              λ i f.
              let (frozen, starts) = now.more i f in
              let y : adding e.frozen j i ≡ true = adding_old e.frozen j i frozen in
              (y, kept i y ∙ starts);
          same =
              λ i l.
              let (frozen, starts) = now.same i (omega (arith, l)) in
              let off : comp i ≢ comp j = λ z. omega (arith, l, z, x.on) in (
                adding_other e.frozen j i (λ z. off (ap comp z)) ∙ frozen,
                select_off p comp given e now.stands j x.there x.waits x.early i off ∙ starts,
              );
          fewer =
              λ c l y. (
                j,
                now.stands.inside j x.there,
                sym frozen_j ∙ x.waits,
                adding_new e.frozen j,
              );
        }

  module _ (rows : Diagram → List (List ℕ))
      (each : (e : Diagram) → Resolved e p.size
      → Rows p mark (Under p comp e.frozen e.starts) (rows e)) where
    -- The schedules from component r on, where n are left.
    abbrev schedules_from : Diagram → ℕ → ℕ → List (List ℕ)
    schedules_from e r n = joined (λ c. rows (foldl (select p comp) e c)) (combinations_from p comp d r n)

    abbrev choice : Diagram → ℕ → ℕ → ℕ → List (List ℕ)
    choice e r n i =
        elim (in_conflict p comp d r i) [ true ↦ schedules_from (select p comp e i) (suc r) n | false ↦ [] ]

    at_contested : (e : Diagram) (r n : ℕ) → is_contested p comp d r ≡ true
        → schedules_from e r (suc n) ≡ gather p.size (λ i. choice e r n i)
    unfolding combinations_from
    at_contested e r n y =
        let rest : List (List ℕ) = combinations_from p comp d (suc r) n in
        let below : List ℕ → List (List ℕ) = λ c. rows (foldl (select p comp) e c) in
        let part : ℕ → List (List ℕ) =
        λ i. elim (in_conflict p comp d r i) [ true ↦ map (i ∷◌) rest | false ↦ [] ] in
        ap (joined below) (elim_true (is_contested p comp d r) (gather p.size part) rest y)
        ∙ joined_gather below p.size part
        ∙ ap (gather p.size) (fun_ext (λ i. joined_if below (in_conflict p comp d r i) i rest))

    at_other : (e : Diagram) (r n : ℕ) → is_contested p comp d r ≡ false
        → schedules_from e r (suc n) ≡ schedules_from e (suc r) n
    unfolding combinations_from
    at_other e r n z =
        let rest : List (List ℕ) = combinations_from p comp d (suc r) n in
        let part : ℕ → List (List ℕ) =
        λ i. elim (in_conflict p comp d r i) [ true ↦ map (i ∷◌) rest | false ↦ [] ] in
        ap (joined (λ c. rows (foldl (select p comp) e c)))
        (elim_false (is_contested p comp d r) (gather p.size part) rest z)

    walk : (n r : ℕ) (e : Diagram) → r + n ≡ p.size → Resolved e r
        → Rows p mark (Under p comp e.frozen e.starts) (schedules_from e r n)
    unfolding combinations_from
    walk zero r e all now = rw (append-nil (rows e)) (each e (subst (Resolved e) (omega (arith, all)) now))
    walk (suc n) r e all now =
        by_bool (is_contested p comp d r)
        (λ y.
        subst (Rows p mark (Under p comp e.frozen e.starts)) (sym (at_contested e r n y))
        (branched p comp given e now.stands r mark (λ i. choice e r n i) (contested_same e r now y)
        (λ j x.
        subst (Rows p mark (Under p comp (select p comp e j).frozen (select p comp e j).starts))
        (sym
        (elim_true (in_conflict p comp d r j) (schedules_from (select p comp e j) (suc r) n) []
        (sym (conflict_same e r now j) ∙ parts_conflict p comp given e now.stands r j x)))
        (walk n (suc r) (select p comp e j) (omega (arith, all)) (selected e r now j x)))
        (λ j row m.
        conflict_parts p comp given e now.stands r j
        (by_bool (in_conflict p comp d r j) (λ c. conflict_same e r now j ∙ c)
        (λ z.
        absurd
        (Memᴰ.not-nil
        (subst (Memᴰ row)
        (elim_false (in_conflict p comp d r j) (schedules_from (select p comp e j) (suc r) n) [] z) m)))))))
        (λ z.
        subst (Rows p mark (Under p comp e.frozen e.starts)) (sym (at_other e r n z))
        (walk n (suc r) e (omega (arith, all)) (skip e r now z)))

    -- The schedules of all combinations.
    pub combined : Rows p mark (Under p comp d.frozen d.starts)
        (joined (λ c. rows (resolve p comp c d)) (combinations p comp d))
    unfolding resolve
    combined =
        walk p.size 0 d (omega arith)
        (record {
          stands = standing;
          tick = refl;
          placed = λ i. refl;
          term = λ i. refl;
          more = λ i f. (f, refl);
          same = λ i l. (refl, refl);
          fewer = λ c l y. absurd (omega (arith, l));
        })
