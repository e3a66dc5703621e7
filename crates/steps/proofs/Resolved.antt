-- The three ways in which the code freezes an activity: alone in its component, where no two of the component can run
-- together, and where the others are shifted one by one.
use Prim.Native.Nat.{ℕ, ◌+◌, ◌^◌, ◌≤◌, ◌<◌, max}
use native.Mathlib.Decide.{ℕ_discrete, dec_le, dec_lt}
use native.Mathlib.Nat.{le_antisymm}
use native.Mathlib.Omega.{arith}
use mathlib.Core.Bool.{Bool, true, false, not, ◌&&◌, ◌||◌, and-true, and-false, or-true}
use mathlib.Core.List.{List}
use mathlib.Core.Logic.{◌≢◌, ◌⊎◌, ⊎_elim, inl, inr, by_cases}
use mathlib.Core.Path.{◌≡◌, sym, ap, ap₂, ◌∙◌}
use lib.Bits.{bit_and, bit_or}
use lib.Dec.{ltb, eqb}
use lib.ListN.{get_or, set, length-set}
use lib.Seq.{get_or-set_same, get_or-set_other}
use borrow.Author.Tests.{eqb-true, eq-eqb, ne_eqb, ltb-true, lt-ltb, le-ltb}
use Rattle.base.proofs.Bools.{by_bool, true_not_false, both, and_left, and_right, cond_true, cond_false}
use Rattle.sets.specs.Sets.{most, has}
use Rattle.sets.proofs.Laws.{has_and, has_with, has_above}
use Rattle.schedule.proofs.Load.{Has}
use Rattle.branching.proofs.Room.{Room, Soonest, adding, adding_new, adding_old, adding_other}
use Rattle.scan.specs.Scan.{Diagram, is_ahead, is_next, freeze, shift, select}
use Rattle.scan_exact.proofs.Standing.{Standing, ends_late}
use Rattle.scan_exact.proofs.Selected.{select_kept, select_off, select_frozen, room_back}
use Rattle.instance.specs.Instance.{own_of, is_tight, Instance}
use Rattle.instance.proofs.Own.{own_is}
use Rattle.instance.specs.Table.{acts_of, duration_at, component_at, own_at, tight_of, project_in}
use Rattle.profile.specs.Work.{end_at, ready_at, free_at, start_at, free_from}
use Rattle.profile.specs.Room.{NextFit}
use Rattle.steps.specs.Steps.{Sets, Lives, Shifts, frozen_in, loose_in, finish_at, is_shifted, selected_line}
use Rattle.steps.specs.Steps as steps
use Rattle.steps.specs.Shown.{Shows}
use Rattle.steps.specs.declared.Line.{Line}
use Rattle.steps.proofs.Own.{component_has, component_is, tight_with}
use Rattle.steps.proofs.Given.{scannable}
use Rattle.steps.proofs.Free.{Covers, room_fits, fits_room, alone_fits, tight_alone, tight_after, tight_next}
use Rattle.steps.proofs.Sets.{loose_is, loose_shown}
use Rattle.steps.proofs.Live.{lives_own, lives_off, lives_behind, lives_is}
use Rattle.steps.proofs.Selected.{after, next_same, next_is, Freezes, frozen_now, loose_now, loose_still}

both_false : (a b : Bool) → a ≡ false → b ≡ false → (a || b) ≡ false
both_false a b x y = ap₂ (λ (p q : Bool). p || q) x y

module _ (t : List ℕ) (given : Instance t) (l : Line) (w : List ℕ) (d : Diagram) (shows : Shows t l w d)
    (standing : Standing (project_in t) d d.tick) (sets : Sets t w l)
    (j : ℕ) (loose_j : has (loose_in l) j ≡ true) (early : d.starts j < d.tick)
    (next : is_next (project_in t) (own_of t) d j ≡ true) (due : ℕ) where
  abbrev comp : ℕ → ℕ
  comp = own_of t

  abbrev then : Diagram
  then = select (project_in t) comp d j

  abbrev end : ℕ
  end = finish_at t w j

  there : d.placed j ≡ true
  there = (loose_shown t given l w d shows d.tick standing j loose_j).0

  waits : d.frozen j ≡ false
  waits = (loose_shown t given l w d shows d.tick standing j loose_j).1

  off : (k : ℕ) → comp k ≢ comp j → then.starts k ≡ d.starts k
  off = select_off (project_in t) comp (scannable t given) d standing j there waits early

  kept : (k : ℕ) → adding d.frozen j k ≡ true → then.starts k ≡ d.starts k
  kept = select_kept (project_in t) comp (scannable t given) d standing j there waits early

  frozen_then : (k : ℕ) → then.frozen k ≡ adding d.frozen j k
  frozen_then = select_frozen (project_in t) comp (scannable t given) d standing j there waits early

  stands : Standing (project_in t) then then.tick
  stands = after t given l w d shows standing sets j loose_j early next

  acts_of_lem : (k : ℕ) → Has (project_in t) k → k < acts_of t
  unfolding project_in
  acts_of_lem k h = h.below

  loose_acts : (k : ℕ) → has (loose_in l) k ≡ true → k < acts_of t
  loose_acts k y = sets.left k (loose_is l k y).1

  frozen_acts : (k : ℕ) → d.frozen k ≡ true → k < acts_of t
  frozen_acts k f = acts_of_lem k (standing.inside k (standing.within k f))

  few : acts_of t ≤ most
  few = given.laid.acts

  frozen_not : (k : ℕ) → d.frozen k ≡ true → k ≢ j
  frozen_not k f e = true_not_false f (ap d.frozen e ∙ waits)

  old_of : (k : ℕ) → k ≢ j → adding d.frozen j k ≡ true → d.frozen k ≡ true
  old_of k ne g = sym (adding_other d.frozen j k ne) ∙ g

  shown_end : (k : ℕ) → d.frozen k ≡ true → d.starts k + duration_at t k ≡ end_at w k
  shown_end k f = shows.ended k (sym (shows.frozen k) ∙ f)

  end_is : d.starts j + duration_at t j ≡ end
  end_is = omega (arith, shows.loose j loose_j)

  late_end : l.tick ≤ end
  unfolding project_in
  late_end = omega (arith, ends_late (project_in t) d d.tick standing j there waits, end_is, shows.tick)

  -- The number of a component tells it.
  own_same : (i k : ℕ) → i < acts_of t → k < acts_of t → comp i ≡ comp k → own_at t i ≡ own_at t k
  own_same i k li lk e = own_is t given.laid i li ∙ e ∙ sym (own_is t given.laid k lk)

  own_other : (i k : ℕ) → i < acts_of t → k < acts_of t → comp i ≢ comp k → own_at t i ≢ own_at t k
  own_other i k li lk ne e = ne (sym (own_is t given.laid i li) ∙ e ∙ own_is t given.laid k lk)

  tight_acts : (i : ℕ) → has (tight_of t) i ≡ true → i < acts_of t
  tight_acts i y =
      ltb-true i (acts_of t) (and_left (ltb i (acts_of t)) (is_tight t (own_of t i)) (sym (given.laid.tight i) ∙ y))

  -- Where the working array only gains the end of j.
  module _ (w' : List ℕ) (own_end : end_at w' j ≡ finish_at t w j)
      (ends : (i : ℕ) → i < most → i ≢ j → end_at w' i ≡ end_at w i)
      (frees : (c : ℕ) → free_at w' c ≡ free_at w c) where
    same_free : (i : ℕ) → has (tight_of t) i ≡ true
        → (free_at w' (own_at t i) ≡ 0)
        ⊎ ((k : ℕ) × (adding d.frozen j k ≡ true) × (own_at t k ≡ own_at t i) × (end_at w' k ≡ free_at w' (own_at t i)))
    same_free i y =
        ⊎_elim (λ none. inl (frees (own_at t i) ∙ none))
        (λ (k, f, own, e).
        let fk : d.frozen k ≡ true = shows.frozen k ∙ f in
        inr (
          k,
          adding_old d.frozen j k fk,
          own,
          ends k (omega (arith, frozen_acts k fk, few)) (frozen_not k fk) ∙ e ∙ sym (frees (own_at t i)),
        ))
        (shows.freed i y)

    same_tight : (i : ℕ) → i ≢ j → adding d.frozen j i ≡ true → has (tight_of t) i ≡ true
        → (end_at w' i ≤ free_at w' (own_at t i)) ⊎ (end_at w' i ≤ l.tick)
    same_tight i ne g y =
        let f : d.frozen i ≡ true = old_of i ne g in
        let e : end_at w' i ≡ end_at w i = ends i (omega (arith, frozen_acts i f, few)) ne in
        ⊎_elim (λ le. inl (omega (arith, le, e, frees (own_at t i)))) (λ le. inr (omega (arith, le, e)))
        (shows.tight i (sym (shows.frozen i) ∙ f) y)

  -- What was live, where the working array gains the end of j.
  abbrev Stays : List ℕ → ℕ → ℕ → Type 0
  Stays w' live k =
      (has live k ≡ true)
      ⊎ ((i : ℕ) × (adding d.frozen j i ≡ true) × (own_at t i ≡ own_at t k) × (end_at w' k ≤ start_at t w' i))

  same_live : (w' : List ℕ) → ((i : ℕ) → i < most → i ≢ j → end_at w' i ≡ end_at w i) → (live k : ℕ)
      → adding d.frozen j k ≡ true
      → has (tight_of t) k ≡ false
      → (k ≡ j → Stays w' live k)
      → (d.frozen k ≡ true → has l.live k ≡ true → Stays w' live k)
      → Stays w' live k
  same_live w' ends live k g z own-live still =
      by_cases (ℕ_discrete k j) own-live
      (λ ne.
      let f : d.frozen k ≡ true = old_of k ne g in
      let same : (i : ℕ) → d.frozen i ≡ true → end_at w' i ≡ end_at w i =
      λ i fi. ends i (omega (arith, frozen_acts i fi, few)) (frozen_not i fi) in
      ⊎_elim (still f)
      (λ (i, y, own, le).
      let fi : d.frozen i ≡ true = shows.frozen i ∙ y in
      inr (i, adding_old d.frozen j i fi, own, omega (arith, le, same k f, same i fi)))
      (shows.live k (sym (shows.frozen k) ∙ f) z))

  live_old : (k : ℕ) → has l.live k ≡ true → adding d.frozen j k ≡ true
  live_old k y = adding_old d.frozen j k (shows.frozen k ∙ shows.live_frozen k y)

  -- Alone in its component, and it ends on the scan-line.
  module _ (alone : (i : ℕ) → has (loose_in l) i ≡ true → i ≢ j → own_of t i ≢ own_of t j)
      (direct : finish_at t w j ≡ l.tick) (w' : List ℕ) (stored : w' ≡ set w j l.tick) where
    cell_j : end_at w' j ≡ finish_at t w j
    cell_j =
        ap (λ (x : List ℕ). get_or x j 0) stored
        ∙ get_or-set_same w j l.tick 0 (omega (arith, loose_acts j loose_j, few, sets.timed.size))
        ∙ sym direct

    cells : (c : ℕ) → c ≢ j → get_or w' c 0 ≡ get_or w c 0
    cells c ne = ap (λ (x : List ℕ). get_or x c 0) stored ∙ get_or-set_other w j c l.tick 0 ne

    cell_free : (c : ℕ) → free_at w' c ≡ free_at w c
    cell_free c = cells (free_from + c) (λ e. omega (arith, e, loose_acts j loose_j, few))

    cell_ready : (i : ℕ) → ready_at w' i ≡ ready_at w i
    cell_ready i = cells (32 + i) (λ e. omega (arith, e, loose_acts j loose_j, few))

    pub freezes_alone :
        Freezes t given l w d shows standing sets j loose_j early next due l.passed (bit_or l.live (2 ^ j)) w'
    freezes_alone =
        record {
          end = cell_j;
          ends = λ i b ne. cells i ne;
          loose =
              λ i y ne.
              off i (alone i y ne) ∙ shows.loose i y
              ∙ ap₂ (λ (a b : ℕ). max a b) (sym (cell_ready i)) (sym (cell_free (own_at t i)));
          passes =
              λ i y ne.
              shows.passed i y
              ∙ ap not (sym (next_same t given l w d shows standing sets j loose_j early next i (alone i y ne)));
          passed_placed = shows.passed_placed;
          tight =
              λ i g y.
              by_cases (ℕ_discrete i j) (λ e. inr (omega (arith, ap (end_at w') e, cell_j, direct)))
              (λ ne. same_tight w' cell_j (λ i b ne. cells i ne) cell_free i ne g y);
          freed = same_free w' cell_j (λ i b ne. cells i ne) cell_free;
          readied = λ i y ne tight. omega (arith, cell_ready i, shows.readied i y tight);
          roomy = λ i b z. cell_free (own_at t i) ∙ shows.roomy i b z;
          lives =
              λ k g z.
              same_live w' (λ i b ne. cells i ne) (bit_or l.live (2 ^ j)) k g z
              (λ e.
              inl
              (has_with l.live j k ∙ ap (λ (x : Bool). has l.live k || x) (eq-eqb k j e)
              ∙ or-true (has l.live k)))
              (λ f y. inl (has_with l.live j k ∙ ap (λ (x : Bool). x || eqb k j) y));
          live_frozen =
              λ k y.
              by_bool (has l.live k) (live_old k)
              (λ z.
              ap (adding d.frozen j)
              (eqb-true k j (sym (ap (λ (x : Bool). x || eqb k j) z) ∙ sym (has_with l.live j k) ∙ y))
              ∙ adding_new d.frozen j);
        }

  -- No two of the component can run together.
  module _ (tight_j : has (tight_of t) j ≡ true) where
    has_j : Has (project_in t) j
    has_j = standing.inside j there

    -- What was frozen before has ended.
    ends_before_lem : (k : ℕ) → d.frozen k ≡ true → comp k ≡ comp j → end_at w k ≤ d.starts j
    ends_before_lem k f on =
        omega (arith, shown_end k f, tight_after t given d d.tick standing j there waits tight_j k f on)

    module _ (i : ℕ) (loose_i : has (loose_in l) i ≡ true) (ne : i ≢ j) (on : own_of t i ≡ own_of t j) where
      there_i : d.placed i ≡ true
      there_i = (loose_shown t given l w d shows d.tick standing i loose_i).0

      waits_i : d.frozen i ≡ false
      waits_i = (loose_shown t given l w d shows d.tick standing i loose_i).1

      has_i : Has (project_in t) i
      has_i = standing.inside i there_i

      tight_i : has (tight_of t) i ≡ true
      tight_i =
          tight_with t given.laid j i (loose_acts j loose_j) (loose_acts i loose_i) on tight_j

      -- It stood before the end of j, and starts there now.
      before_end : d.starts i ≤ end
      before_end =
          ⊎_elim
          (λ none.
          omega (arith, shows.loose i loose_i, none, shows.readied i loose_i tight_i, late_end))
          (λ (k, f, own, e).
          let fk : d.frozen k ≡ true = shows.frozen k ∙ f in
          let same : comp k ≡ comp j =
          sym (own_is t given.laid k (frozen_acts k fk)) ∙ own ∙ own_is t given.laid i (loose_acts i loose_i)
          ∙ on in
          omega (
            arith,
            shows.loose i loose_i,
            e,
            ends_before_lem k fk same,
            end_is,
            shows.readied i loose_i tight_i,
            late_end,
          ))
          (shows.freed i tight_i)

      soon_then : Soonest (project_in t) then.frozen then.starts i (then.starts i)
      unfolding freeze shift
      soon_then = stands.at i there_i (adding_other d.frozen j i ne ∙ waits_i)

      starts_low : end ≤ then.starts i
      unfolding project_in freeze shift
      starts_low =
          by_cases (dec_le end (then.starts i)) (λ y. y)
          (λ lt.
          let x : ℕ = max (d.starts j) (then.starts i) in
          let from : d.starts i ≤ then.starts i =
          (standing.at i there_i waits_i).least (then.starts i)
          (room_back (project_in t) comp (scannable t given) d standing j there waits early i (then.starts i)
          soon_then.room) in
          let starts_j : then.starts j ≡ d.starts j = kept j (adding_new d.frozen j) in
          absurd
          (tight_alone t given then then.tick stands i has_i x tight_i j
          (frozen_then j ∙ adding_new d.frozen j) (sym on) (λ e. ne (sym e))
          (record {
            begins = omega (arith, starts_j);
            ends = omega (arith, starts_j, end_is, lt, given.laid.long j (loose_acts j loose_j));
          })
          (λ r b.
          soon_then.room.fits x r b (omega arith)
          (omega (
            arith,
            from,
            early,
            ends_late (project_in t) d d.tick standing i there_i waits_i,
            given.laid.long i (loose_acts i loose_i),
          )))))

      room_end : Room (project_in t) then.frozen then.starts i end
      unfolding project_in
      room_end =
          record {
            from_floor = omega arith;
            ready =
                λ k f o.
                let g : adding d.frozen j k ≡ true = sym (frozen_then k) ∙ f.there in
                let hk : Has (project_in t) k = stands.inside k (stands.within k f.there) in
                let fk : d.frozen k ≡ true = standing.behind i k there_i hk o in
                omega (
                  arith,
                  kept k g,
                  (standing.at i there_i waits_i).room.ready k (record { below = f.below; there = fk }) o,
                  before_end,
                );
            fits =
                λ u r b from to.
                alone_fits t given then then.tick stands i has_i u
                (λ k f same runs.
                let g : adding d.frozen j k ≡ true = sym (frozen_then k) ∙ f in
                by_cases (ℕ_discrete k j)
                (λ e.
                let sk : then.starts k ≡ d.starts j = kept k g ∙ ap d.starts e in
                let dk : duration_at t k ≡ duration_at t j = ap (duration_at t) e in
                omega (arith, runs.ends, sk, dk, end_is, from))
                (λ other.
                let fk : d.frozen k ≡ true = old_of k other g in
                omega (
                  arith,
                  runs.ends,
                  kept k g,
                  shown_end k fk,
                  ends_before_lem k fk (same ∙ on),
                  end_is,
                  from,
                )))
                r b;
          }

      pub tight_starts : then.starts i ≡ finish_at t w j
      tight_starts = le_antisymm (soon_then.least end room_end) starts_low

    module _ (w' : List ℕ) (stored : w' ≡ set (set w j (finish_at t w j)) (free_from + own_at t j) (finish_at t w j)) where
      acts_j : j < acts_of t
      acts_j = loose_acts j loose_j

      -- The number of a component is one of its activities.
      own_low : own_at t j < most
      unfolding project_in
      own_low = omega (arith, own_is t given.laid j acts_j, (scannable t given).few j has_j, few)

      cells_but : (c : ℕ) → c ≢ j → c ≢ free_from + own_at t j → get_or w' c 0 ≡ get_or w c 0
      cells_but c ne nf =
          ap (λ (x : List ℕ). get_or x c 0) stored
          ∙ get_or-set_other (set w j end) (free_from + own_at t j) c end 0 nf
          ∙ get_or-set_other w j c end 0 ne

      end_cell : end_at w' j ≡ finish_at t w j
      end_cell =
          ap (λ (x : List ℕ). get_or x j 0) stored
          ∙ get_or-set_other (set w j end) (free_from + own_at t j) j end 0 (λ e. omega (arith, e, acts_j, few))
          ∙ get_or-set_same w j end 0 (omega (arith, acts_j, few, sets.timed.size))

      free_cell : free_at w' (own_at t j) ≡ finish_at t w j
      free_cell =
          ap (λ (x : List ℕ). get_or x (free_from + own_at t j) 0) stored
          ∙ get_or-set_same (set w j end) (free_from + own_at t j) end 0
          (omega (arith, own_low, length-set w j end, sets.timed.size))

      free_other : (i : ℕ) → i < acts_of t → comp i ≢ comp j → free_at w' (own_at t i) ≡ free_at w (own_at t i)
      free_other i li ne =
          cells_but (free_from + own_at t i) (λ e. omega (arith, e, acts_j, few))
          (λ e. own_other i j li acts_j ne (omega (arith, e)))

      ready_cell : (i : ℕ) → i < most → ready_at w' i ≡ ready_at w i
      ready_cell i b =
          cells_but (32 + i) (λ e. omega (arith, e, acts_j, few)) (λ e. omega (arith, e, b))

      end_other : (i : ℕ) → i < most → i ≢ j → end_at w' i ≡ end_at w i
      end_other i b ne = cells_but i ne (λ e. omega (arith, e, b))

      pub freezes_tight : Freezes t given l w d shows standing sets j loose_j early next due l.passed l.live w'
      freezes_tight =
          record {
            end = end_cell;
            ends = end_other;
            loose =
                λ i y ne.
                let li : i < acts_of t = loose_acts i y in
                by_cases (ℕ_discrete (comp i) (comp j))
                (λ on.
                omega (
                  arith,
                  tight_starts i y ne on,
                  ap (free_at w') (own_same i j li acts_j on),
                  free_cell,
                  ready_cell i (omega (arith, li, few)),
                  shows.readied i y (tight_with t given.laid j i acts_j li on tight_j),
                  late_end,
                ))
                (λ other.
                off i other ∙ shows.loose i y
                ∙ ap₂ (λ (a b : ℕ). max a b) (sym (ready_cell i (omega (arith, li, few))))
                (sym (free_other i li other)));
            passes =
                λ i y ne.
                by_cases (ℕ_discrete (comp i) (comp j))
                (λ on.
                shows.passed i y
                ∙ ap not
                (tight_next t given d d.tick standing i (there_i i y ne on) (waits_i i y ne on) (tight_i i y ne on))
                ∙ ap not
                (sym
                (next_is t given l w d shows standing sets j loose_j early next i on
                ∙ ap (λ (x : Bool). x || (eqb (d.starts j) (then.starts i) && ltb j i))
                (lt-ltb (d.starts j) (then.starts i)
                (omega (arith, tight_starts i y ne on, end_is, given.laid.long j acts_j))))))
                (λ other.
                shows.passed i y
                ∙ ap not (sym (next_same t given l w d shows standing sets j loose_j early next i other)));
            passed_placed = shows.passed_placed;
            tight =
                λ i g y.
                by_cases (ℕ_discrete i j)
                (λ e.
                inl
                (omega (arith, ap (end_at w') e, end_cell, ap (λ (x : ℕ). free_at w' (own_at t x)) e, free_cell)))
                (λ ne.
                let f : d.frozen i ≡ true = old_of i ne g in
                let li : i < acts_of t = frozen_acts i f in
                let e : end_at w' i ≡ end_at w i = end_other i (omega (arith, li, few)) ne in
                by_cases (ℕ_discrete (comp i) (comp j))
                (λ on.
                inl
                (omega (
                  arith,
                  e,
                  ends_before_lem i f on,
                  end_is,
                  ap (free_at w') (own_same i j li acts_j on),
                  free_cell,
                )))
                (λ other.
                ⊎_elim (λ le. inl (omega (arith, le, e, free_other i li other))) (λ le. inr (omega (arith, le, e)))
                (shows.tight i (sym (shows.frozen i) ∙ f) y)));
            freed =
                λ i y.
                let li : i < acts_of t = tight_acts i y in
                by_cases (ℕ_discrete (comp i) (comp j))
                (λ on.
                inr (
                  j,
                  adding_new d.frozen j,
                  sym (own_same i j li acts_j on),
                  end_cell ∙ sym (ap (free_at w') (own_same i j li acts_j on) ∙ free_cell),
                ))
                (λ other.
                ⊎_elim (λ none. inl (free_other i li other ∙ none))
                (λ (k, f, own, e).
                let fk : d.frozen k ≡ true = shows.frozen k ∙ f in
                inr (
                  k,
                  adding_old d.frozen j k fk,
                  own,
                  end_other k (omega (arith, frozen_acts k fk, few)) (frozen_not k fk) ∙ e
                      ∙ sym (free_other i li other),
                ))
                (shows.freed i y));
            readied =
                λ i y ne tight.
                omega (arith, ready_cell i (omega (arith, loose_acts i y, few)), shows.readied i y tight);
            roomy =
                λ i li z.
                by_cases (ℕ_discrete (comp i) (comp j))
                (λ on. true_not_false (tight_with t given.laid j i acts_j li on tight_j) z)
                (λ other. free_other i li other ∙ shows.roomy i li z);
            lives =
                λ k g z.
                same_live w' end_other l.live k g z
                (λ e. true_not_false tight_j (sym (ap (has (tight_of t)) e) ∙ z)) (λ f y. inl y);
            live_frozen = live_old;
          }

  -- The others of the component are shifted one by one.
  module _ (roomy_j : has (tight_of t) j ≡ false) (w₁ w' : List ℕ) (stored : w₁ ≡ set w j (finish_at t w j)) (r live : ℕ)
      (lives : Lives t w₁ l.live j live) (shifts : Shifts t (selected_line l j due l.passed live) j w₁ w' r) where
    abbrev now : Line
    now = selected_line l j due l.passed live

    below_j : j < acts_of t
    below_j = loose_acts j loose_j

    set_now : (k : ℕ) → has (frozen_in now) k ≡ adding d.frozen j k
    set_now = frozen_now t given l w d shows standing sets j loose_j early next due l.passed live

    -- The working array once j is frozen.
    first_end : end_at w₁ j ≡ finish_at t w j
    first_end =
        ap (λ (x : List ℕ). get_or x j 0) stored
        ∙ get_or-set_same w j end 0 (omega (arith, below_j, few, sets.timed.size))

    first_cells : (c : ℕ) → c ≢ j → get_or w₁ c 0 ≡ get_or w c 0
    first_cells c ne = ap (λ (x : List ℕ). get_or x c 0) stored ∙ get_or-set_other w j c end 0 ne

    ended : (k : ℕ) → then.frozen k ≡ true → then.starts k + duration_at t k ≡ end_at w₁ k
    ended k f =
        let g : adding d.frozen j k ≡ true = sym (frozen_then k) ∙ f in
        by_cases (ℕ_discrete k j)
        (λ e. rw e (omega (arith, kept j (adding_new d.frozen j), end_is, first_end)))
        (λ ne. omega (arith, kept k g, shown_end k (old_of k ne g), first_cells k ne))

    -- And once the others are shifted.
    last_end : (i : ℕ) → i < most → end_at w' i ≡ end_at w₁ i
    last_end i b = shifts.same i (λ k lk y e. omega (arith, e, b))

    last_free : (c : ℕ) → free_at w' c ≡ free_at w c
    last_free c =
        shifts.same (free_from + c) (λ k lk y e. omega (arith, e, lk))
        ∙ first_cells (free_from + c) (λ e. omega (arith, e, below_j, few))

    first_ready : (i : ℕ) → ready_at w₁ i ≡ ready_at w i
    first_ready i = first_cells (32 + i) (λ e. omega (arith, e, below_j, few))

    -- What is shifted.
    shifted_of : (i : ℕ) → has (loose_in l) i ≡ true → i ≢ j → comp i ≡ comp j → is_shifted t now j i ≡ true
    shifted_of i y ne on =
        both (loose_still t given l w d shows standing sets j loose_j early next due l.passed live i y ne)
        (component_has t given.laid j i below_j (loose_acts i y) on)

    shifted_on : (i : ℕ) → is_shifted t now j i ≡ true → (has (loose_in l) i ≡ true) × (i ≢ j) × (comp i ≡ comp j)
    shifted_on i y =
        let (old, ne) =
        loose_now t given l w d shows standing sets j loose_j early next due l.passed live i
        (and_left (has (loose_in now) i) (has (component_at t j) i) y) in (
          old,
          ne,
          component_is t given.laid j i below_j
              (and_right (has (loose_in now) i) (has (component_at t j) i) y),
        )

    not_shifted : (i : ℕ) → comp i ≢ comp j → is_shifted t now j i ≡ false
    not_shifted i other =
        by_bool (is_shifted t now j i) (λ y. absurd (other (shifted_on i y).2)) (λ z. z)

    last_ready : (i : ℕ) → comp i ≢ comp j → ready_at w' i ≡ ready_at w i
    last_ready i other =
        shifts.same (32 + i)
        (λ k lk y e.
        let same : k ≡ i = omega (arith, e) in true_not_false y (ap (is_shifted t now j) same ∙ not_shifted i other))
        ∙ first_ready i

    roomy_with : (i : ℕ) → i < acts_of t → comp i ≡ comp j → has (tight_of t) i ≡ false
    roomy_with i li on =
        by_bool (has (tight_of t) i)
        (λ y. true_not_false (tight_with t given.laid i j li below_j (sym on) y) roomy_j) (λ z. z)

    -- Its next fit is its earliest start.
    module _ (i : ℕ) (loose_i : has (loose_in l) i ≡ true) (ne : i ≢ j) (on : own_of t i ≡ own_of t j) where
      li : i < acts_of t
      li = loose_acts i loose_i

      there_at : d.placed i ≡ true
      there_at = (loose_shown t given l w d shows d.tick standing i loose_i).0

      waits_at : d.frozen i ≡ false
      waits_at = (loose_shown t given l w d shows d.tick standing i loose_i).1

      has_at : Has (project_in t) i
      has_at = standing.inside i there_at

      abbrev among_set : ℕ
      among_set = bit_and (frozen_in now) (component_at t j)

      covers : (x : ℕ) → Covers t given then then.tick stands w₁ ended (bit_and (frozen_in now) (component_at t j)) i x
      covers x =
          record {
            inside =
                λ k y.
                frozen_then k ∙ sym (set_now k)
                ∙ and_left (has (frozen_in now) k) (has (component_at t j) k)
                (sym (has_and (frozen_in now) (component_at t j) k) ∙ y);
            all =
                λ k f same from to.
                has_and (frozen_in now) (component_at t j) k
                ∙ both (set_now k ∙ sym (frozen_then k) ∙ f)
                (component_has t given.laid j k below_j (acts_of_lem k (stands.inside k (stands.within k f)))
                (same ∙ on));
          }

      stood : d.starts i ≡ ready_at w i
      stood = omega (arith, shows.loose i loose_i, shows.roomy i li (roomy_with i li on))

      soon_now : Soonest (project_in t) then.frozen then.starts i (then.starts i)
      unfolding freeze shift
      soon_now = stands.at i there_at (adding_other d.frozen j i ne ∙ waits_at)

      from_old : (x : ℕ) → Room (project_in t) then.frozen then.starts i x → d.starts i ≤ x
      unfolding freeze shift
      from_old x room =
          (standing.at i there_at waits_at).least x
          (room_back (project_in t) comp (scannable t given) d standing j there waits early i x room)

      fit : NextFit t w₁ (bit_and (frozen_in now) (component_at t j)) i (ready_at w₁ i) (ready_at w' i)
      fit = shifts.fit i (omega (arith, li, few)) (shifted_of i loose_i ne on)

      room_next : Room (project_in t) then.frozen then.starts i (ready_at w' i)
      unfolding project_in
      room_next =
          record {
            from_floor = omega arith;
            ready =
                λ k f o.
                let g : adding d.frozen j k ≡ true = sym (frozen_then k) ∙ f.there in
                let hk : Has (project_in t) k = stands.inside k (stands.within k f.there) in
                let fk : d.frozen k ≡ true = standing.behind i k there_at hk o in
                omega (
                  arith,
                  kept k g,
                  (standing.at i there_at waits_at).room.ready k (record { below = f.below; there = fk }) o,
                  stood,
                  first_ready i,
                  fit.from,
                );
            fits =
                λ u r b from to.
                room_fits t given then then.tick stands w₁ ended among_set i u has_at (covers u)
                (fit.fits u from to) r b;
          }

      pub shift_starts : then.starts i ≡ ready_at w' i
      unfolding project_in
      shift_starts =
          le_antisymm (soon_now.least (ready_at w' i) room_next)
          (by_cases (dec_le (ready_at w' i) (then.starts i)) (λ y. y)
          (λ lt.
          absurd
          (fit.none (then.starts i) (omega (arith, from_old (then.starts i) soon_now.room, stood, first_ready i))
          (omega (arith, lt))
          (λ u from to.
          fits_room t given then then.tick stands w₁ ended among_set i u has_at (covers u)
          (λ r b. soon_now.room.fits u r b from to)))))

    -- The order: not after j is before it.
    ahead_not : (a i b : ℕ) → i ≢ j → not (is_ahead (project_in t) comp b j a i) ≡ is_ahead (project_in t) comp a i b j
    ahead_not a i b ne =
        by_cases (dec_lt b a)
        (λ lt.
        ap not (ap (λ (x : Bool). x || (eqb b a && ltb j i)) (lt-ltb b a lt))
        ∙ sym (both_false (ltb a b) (eqb a b && ltb i j) (le-ltb a b (omega (arith, lt)))
        (ap (λ (x : Bool). x && ltb i j) (ne_eqb a b (λ e. omega (arith, e, lt))))))
        (λ ge.
        by_cases (dec_lt a b)
        (λ lt.
        ap not
        (both_false (ltb b a) (eqb b a && ltb j i) (le-ltb b a (omega (arith, lt)))
        (ap (λ (x : Bool). x && ltb j i) (ne_eqb b a (λ e. omega (arith, e, lt)))))
        ∙ sym (ap (λ (x : Bool). x || (eqb a b && ltb i j)) (lt-ltb a b lt)))
        (λ ge'.
        let e : a ≡ b = omega (arith, ge, ge') in
        by_cases (dec_lt i j)
        (λ lt.
        ap not
        (both_false (ltb b a) (eqb b a && ltb j i) (le-ltb b a (omega (arith, e)))
        (ap (λ (x : Bool). eqb b a && x) (le-ltb j i (omega (arith, lt))) ∙ and-false (eqb b a)))
        ∙ sym (ap₂ (λ (x y : Bool). ltb a b || (x && y)) (eq-eqb a b e) (lt-ltb i j lt) ∙ or-true (ltb a b)))
        (λ le.
        ap not
        (ap₂ (λ (x y : Bool). ltb b a || (x && y)) (eq-eqb b a (sym e)) (lt-ltb j i (omega (arith, le, ne)))
        ∙ or-true (ltb b a))
        ∙ sym
        (both_false (ltb a b) (eqb a b && ltb i j) (le-ltb a b (omega (arith, e)))
        (ap (λ (x : Bool). eqb a b && x) (le-ltb i j (omega (arith, le))) ∙ and-false (eqb a b))))))

    pub freezes_shift : Freezes t given l w d shows standing sets j loose_j early next due r live w'
    freezes_shift =
        record {
          end = last_end j (omega (arith, below_j, few)) ∙ first_end;
          ends = λ i b ne. last_end i b ∙ first_cells i ne;
          loose =
              λ i y ne.
              by_cases (ℕ_discrete (comp i) (comp j))
              (λ on.
              omega (
                arith,
                shift_starts i y ne on,
                last_free (own_at t i),
                shows.roomy i (loose_acts i y) (roomy_with i (loose_acts i y) on),
              ))
              (λ other.
              off i other ∙ shows.loose i y
              ∙ ap₂ (λ (a b : ℕ). max a b) (sym (last_ready i other)) (sym (last_free (own_at t i))));
          passes =
              λ i y ne.
              let b : i < most = omega (arith, loose_acts i y, few) in
              by_cases (ℕ_discrete (comp i) (comp j))
              (λ on.
              shifts.passed i b
              ∙ cond_true (steps.is_ahead (ready_at w' i) i (start_at t w₁ j) j)
              (has l.passed i && not (has (component_at t j) i)) (shifted_of i y ne on)
              ∙ ap₂ (λ (a s : ℕ). steps.is_ahead a i s j) (sym (shift_starts i y ne on)) start_j
              ∙ sym (ahead_not (then.starts i) i (d.starts j) ne)
              ∙ ap not (sym (next_is t given l w d shows standing sets j loose_j early next i on)))
              (λ other.
              shifts.passed i b
              ∙ cond_false (steps.is_ahead (ready_at w' i) i (start_at t w₁ j) j)
              (has l.passed i && not (has (component_at t j) i)) (not_shifted i other)
              ∙ ap (λ (x : Bool). has l.passed i && not x) (component_not i other)
              ∙ and-true (has l.passed i)
              ∙ shows.passed i y
              ∙ ap not (sym (next_same t given l w d shows standing sets j loose_j early next i other)));
          passed_placed =
              λ i y.
              by_cases (dec_lt i most)
              (λ b.
              by_bool (is_shifted t now j i)
              (λ s. (loose_is l i (shifted_on i s).0).0)
              (λ z.
              shows.passed_placed i
              (and_left (has l.passed i) (not (has (component_at t j) i))
              (sym
              (shifts.passed i b
              ∙ cond_false (steps.is_ahead (ready_at w' i) i (start_at t w₁ j) j)
              (has l.passed i && not (has (component_at t j) i)) z)
              ∙ y))))
              (λ b. true_not_false y (has_above most r i shifts.low (omega (arith, b))));
          tight =
              λ i g y.
              by_cases (ℕ_discrete i j) (λ e. true_not_false y (ap (has (tight_of t)) e ∙ roomy_j))
              (λ ne.
              same_tight w' (last_end j (omega (arith, below_j, few)) ∙ first_end)
              (λ i b ne. last_end i b ∙ first_cells i ne) last_free i ne g y);
          freed =
              same_free w' (last_end j (omega (arith, below_j, few)) ∙ first_end)
              (λ i b ne. last_end i b ∙ first_cells i ne) last_free;
          readied =
              λ i y ne tight.
              let other : comp i ≢ comp j =
              λ on. true_not_false tight (roomy_with i (loose_acts i y) on) in
              omega (arith, last_ready i other, shows.readied i y tight);
          roomy = λ i li z. last_free (own_at t i) ∙ shows.roomy i li z;
          lives =
              λ k g z.
              same_live w' (λ i b ne. last_end i b ∙ first_cells i ne) live k g z
              (λ e. inl (ap (has live) e ∙ lives_own lives)) (stays k);
          live_frozen =
              λ k y.
              ⊎_elim (λ e. ap (adding d.frozen j) e ∙ adding_new d.frozen j) (live_old k) (lives_is lives k y);
        }
      where
        component_not : (i : ℕ) → comp i ≢ comp j → has (component_at t j) i ≡ false
        component_not i other =
            by_bool (has (component_at t j) i)
            (λ y. absurd (other (component_is t given.laid j i below_j y))) (λ z. z)

        stays : (k : ℕ) → d.frozen k ≡ true → has l.live k ≡ true → Stays w' live k
        stays k f y =
            let lk : k < acts_of t = frozen_acts k f in
            by_cases (ℕ_discrete (comp k) (comp j))
            (λ on.
            by_cases (dec_lt (start_at t w₁ j) (end_at w₁ k)) (λ lt. inl (lives_behind lives k y lt))
            (λ ge.
            inr (
              j,
              adding_new d.frozen j,
              own_same j k below_j lk (sym on),
              omega (
                arith,
                ge,
                last_end j (omega (arith, below_j, few)),
                last_end k (omega (arith, lk, few)),
              ),
            )))
            (λ other. inl (lives_off lives k y (component_not k other)))

        start_j : start_at t w₁ j ≡ d.starts j
        start_j = omega (arith, first_end, end_is)
