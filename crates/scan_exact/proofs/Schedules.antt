-- The theorem of document 000, section 4.2, over any project: the scan finds the active schedules, each once.
use Prim.Native.Nat.{ℕ, zero, suc, ◌*◌, ◌≤◌, ◌<◌}
use native.Mathlib.Nat.{not-suc-le-zero}
use native.Mathlib.Omega.{arith}
use mathlib.Core.Bool.{true, false, cond}
use mathlib.Core.List.{List, [], ◌∷◌, map, Perm}
use mathlib.Core.Path.{◌≡◌, refl, sym, ap, ◌∙◌, subst}
use lib.ListN.{length}
use lib.Seq.{ext_get_or}
use Rattle.base.specs.Below.{◌implies◌}
use Rattle.base.specs.Lists.{gather}
use Rattle.base.proofs.Bools.{by_bool, true_not_false, elim_true, elim_false}
use Rattle.base.proofs.Below.{implies_elim, every_at}
use Rattle.base.proofs.Lists.{singles_length, singles_at}
use Rattle.schedule.specs.Project.{Project}
use Rattle.schedule.specs.Sessions.{sessions}
use Rattle.schedule.proofs.Load.{Has, Sound, Unfixed, among, load_none}
use Rattle.schedule.proofs.Box.{row_of, row_of_at, row_of_session}
use Rattle.branching.proofs.Room.{Frozen, Ranked}
use Rattle.branching.proofs.Node.{leaf_active, begun_of, begun_has, begun_fixed}
use Rattle.branching.proofs.Under.{Under}
use Rattle.branching.proofs.Rows.{Rows, leaf_rows, root_rows}
use Rattle.scan.specs.Scan.{Diagram, for_each}
use Rattle.scan.proofs.Joined.{joined, map_joined}
use Rattle.scan.specs.Components.{component_of}
use Rattle.scan.specs.Scan.{combinations, move, delete, attach, after, begun, start, is_complete, completed}
use Rattle.scan.specs.Scan.{schedule_of, schedules}
use Rattle.scan_exact.proofs.Standing.{Scannable, Begun, Standing, begun_standing}
use Rattle.scan_exact.proofs.Attached.{Gone, delete_standing, delete_gone, attach_standing, attach_gone}
use Rattle.scan_exact.proofs.Attached.{attach_rows}
use Rattle.scan_exact.proofs.Moved.{move_stops, move_later, move_standing}
use Rattle.scan_exact.proofs.Components.{components_few, components_joint}
use Rattle.scan_exact.proofs.Combinations.{combined}
use Rattle.scan_exact.proofs.Fewer.{to_go, to_go_most, falls}

module _ (p : Project) (comp : ℕ → ℕ) (given : Scannable p comp) (mark : ℕ) where
  abbrev Below : Diagram → List (List ℕ) → Type 0
  Below d = Rows p mark (Under p comp d.frozen d.starts)

  -- A completed diagram.
  module _ (d : Diagram) (line : ℕ) (standing : Standing p d line) (complete : is_complete p comp d ≡ true) where
    all_frozen : (i : ℕ) → Has p i → d.frozen i ≡ true
    all_frozen i h =
        by_bool (d.frozen i) (λ y. y)
        (λ z.
        implies_elim (d.term i) (d.frozen i)
        (every_at p.size (λ i. d.term i implies d.frozen i) complete i h.below)
        (standing.waiting i h z))

    row_is : schedule_of p comp mark d ≡ row_of p mark d.starts
    row_is =
        let start_of : ℕ → ℕ = λ i. cond (p.present i) (d.starts i) mark in
        let long : length (gather p.size λ i. start_of i ∷ []) ≡ p.size = singles_length start_of p.size in
        ext_get_or 0 (gather p.size λ i. start_of i ∷ []) (row_of p mark d.starts)
        (long
        ∙ sym
        (row_of_session p mark d.starts
        (leaf_active p d.frozen d.starts standing.node all_frozen)).long)
        (λ i l.
        let b : i < p.size = omega (arith, l, long) in
        singles_at start_of p.size i 0 b ∙ sym (row_of_at p mark d.starts i b))

    complete_rows : Below d (schedule_of p comp mark d ∷ [])
    complete_rows = rw row_is (leaf_rows p comp mark d.frozen d.starts standing.node all_frozen)

  -- Steps 4 and 5 once the conflicts are resolved.
  module _ (e : Diagram) (standing : Standing p e e.tick) where
    abbrev next : Diagram
    next = attach p comp (delete p comp e)

    deleted : Standing p (delete p comp e) (delete p comp e).tick
    deleted = delete_standing p comp given e standing

    gone : Gone p (delete p comp e)
    gone = delete_gone p comp given e standing

    tick_same : (delete p comp e).tick ≡ next.tick
    unfolding attach
    tick_same = refl

    next_standing : Standing p next (suc next.tick)
    next_standing =
        subst (λ (x : ℕ). Standing p next (suc x)) tick_same
        (attach_standing p comp given (delete p comp e) deleted gone)

    next_gone : Gone p next
    next_gone = attach_gone p comp given (delete p comp e) deleted gone

    next_rows : (rows : List (List ℕ)) → Below next rows → Below e rows
    unfolding delete
    next_rows rows = attach_rows p comp given (delete p comp e) deleted gone mark rows

  module _ (rank : ℕ → ℕ) (ranked : Ranked p rank) where
    abbrev rows_of : ℕ → Diagram → List (List ℕ)
    rows_of fuel d = map (schedule_of p comp mark) (completed p comp fuel d)

    rows_complete : (fuel : ℕ) (d : Diagram) → is_complete p comp d ≡ true
        → rows_of (suc fuel) d ≡ schedule_of p comp mark d ∷ []
    unfolding completed
    rows_complete fuel d y =
        ap (map (schedule_of p comp mark))
        (elim_true (is_complete p comp d) (d ∷ [])
        (for_each (λ c. completed p comp fuel (after p comp d c)) (combinations p comp (move p comp d))) y)

    rows_joined : (fuel : ℕ) (d : Diagram) → is_complete p comp d ≡ false
        → rows_of (suc fuel) d
        ≡ joined (λ c. rows_of fuel (after p comp d c)) (combinations p comp (move p comp d))
    unfolding completed
    rows_joined fuel d z =
        ap (map (schedule_of p comp mark))
        (elim_false (is_complete p comp d) (d ∷ [])
        (for_each (λ c. completed p comp fuel (after p comp d c)) (combinations p comp (move p comp d))) z)
        ∙ map_joined (schedule_of p comp mark) (λ c. completed p comp fuel (after p comp d c))
        (combinations p comp (move p comp d))

    rows_are : (fuel : ℕ) (d : Diagram) → Standing p d (suc d.tick) → Gone p d → to_go p comp d < fuel
        → Below d (rows_of fuel d)
    unfolding move
    rows_are zero d standing gone-d l = absurd (not-suc-le-zero l)
    rows_are (suc fuel) d standing gone-d l =
        by_bool (is_complete p comp d)
        (λ y. rw (rows_complete fuel d y) (complete_rows d (suc d.tick) standing y))
        (λ z.
        let at = move_standing p comp given rank ranked d standing gone-d z in
        rw (rows_joined fuel d z)
        (combined p comp given mark (move p comp d) at (λ e. rows_of fuel (attach p comp (delete p comp e)))
        (λ e now.
        next_rows e now.stands (rows_of fuel (attach p comp (delete p comp e)))
        (rows_are fuel (attach p comp (delete p comp e)) (next_standing e now.stands) (next_gone e now.stands)
        (omega (
          arith,
          l,
          falls p comp given mark d standing (move_later p comp given rank ranked d standing gone-d z) at
              (move_stops p comp given rank ranked d standing gone-d z) e now,
        ))))))

    module _ (b : Begun p) where
      first : Standing p (begun p comp) (begun p comp).tick
      first = begun_standing p comp given b

      pub schedules_perm : Perm (schedules p comp mark) (sessions p mark)
      unfolding schedules begun
      schedules_perm =
          root_rows p comp mark p.begun (schedules p comp mark) given.sound b.fits
          (next_rows (begun p comp) first (schedules p comp mark)
          (rows_are (suc (3 * p.size)) (start p comp) (next_standing (begun p comp) first)
          (next_gone (begun p comp) first)
          (omega (arith, to_go_most p comp (start p comp)))))

-- Nothing has begun.
pub none_begun : (p : Project) → Unfixed p → Begun p
none_begun p unfixed =
    let none : (i : ℕ) → Has p i → p.free i ≡ false → ⊥ = λ i h z. true_not_false (unfixed.all_free i h) z in
    let fixed : (i : ℕ) → Frozen p (begun_of p) i → ⊥ = λ i f. none i (begun_has p i f) (begun_fixed p i f) in
    record {
      closed = λ i j hi hj o z. absurd (none j hj z);
      fits =
          record {
            from_floor = λ i f y. absurd (fixed i f);
            as_begun = λ i f z. absurd (fixed i f);
            ordered = λ i j f g o. absurd (fixed i f);
            fits =
                λ t r l. omega (arith, load_none (among p (begun_of p)) p.begun t r (λ i f u k. fixed i f));
          };
      early = λ i h z. absurd (none i h z);
    }

-- By the components of the project.
pub scan_sessions : (p : Project) → Sound p → ((i : ℕ) → p.present i ≡ true → i < p.size)
    → ((i : ℕ) → Has p i → (r : ℕ) → r < p.resources → p.units i r ≤ p.capacity r)
    → Begun p
    → (rank : ℕ → ℕ)
    → Ranked p rank
    → (mark : ℕ)
    → Perm (schedules p (component_of p) mark) (sessions p mark)
scan_sessions p sound beyond alone b rank ranked mark =
    schedules_perm p (component_of p)
    (record {
      sound = sound;
      joint = components_joint p;
      few = λ i h. components_few p p.resources i h.below;
      beyond = beyond;
      alone = alone;
    })
    mark rank ranked b
