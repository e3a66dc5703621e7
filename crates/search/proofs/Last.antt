-- A choice, once it is frozen, is the last of its component.
use Prim.Native.Nat.{ℕ, ◌+◌, ◌-◌, ◌^◌, ◌≤◌, ◌<◌}
use native.Mathlib.Decide.{ℕ_discrete}
use native.Mathlib.Omega.{arith}
use mathlib.Core.Bool.{Bool, true, false, ◌&&◌}
use mathlib.Core.List.{List}
use mathlib.Core.Logic.{◌≢◌, ⊎_elim, by_cases}
use mathlib.Core.Path.{◌≡◌, sym, ap, ap₂, ◌∙◌}
use lib.Bits.{bit_and}
use lib.Dec.{leb, ltb}
use lib.ListN.{get_or, set}
use lib.Seq.{get_or-set_same, get_or-set_other}
use Rattle.base.proofs.Bools.{by_bool, true_not_false, both, and_left, and_right}
use Rattle.sets.specs.Sets.{most, has}
use Rattle.sets.proofs.Laws.{has_and}
use Rattle.schedule.proofs.Load.{Has}
use Rattle.branching.proofs.Room.{adding, adding_new, adding_old, adding_other}
use Rattle.scan.specs.Scan.{Diagram}
use Rattle.scan_exact.proofs.Choices.{Conflict}
use Rattle.instance.specs.Instance.{own_of, Instance}
use Rattle.instance.specs.Table.{acts_of, duration_at, component_at, tight_of, project_in}
use Rattle.instance.proofs.Own.{own_is}
use Rattle.profile.specs.Work.{end_at, ready_at, start_at}
use Rattle.profile.specs.Room.{runs_at, has_room_at}
use Rattle.profile.proofs.Room.{runs_is, runs_of}
use Rattle.steps.specs.Steps.{frozen_in, loose_in, finish_at, is_shifted, selected_line, Lives, Last}
use Rattle.steps.specs.declared.Line.{Line}
use Rattle.steps.proofs.Own.{component_has, component_is, tight_with}
use Rattle.steps.proofs.Given.{scannable}
use Rattle.steps.proofs.Free.{Covers, fits_room}
use Rattle.steps.proofs.Sets.{loose_is, loose_shown}
use Rattle.steps.proofs.Ready.{room_alike}
use Rattle.steps.proofs.Live.{lives_own, lives_behind, lives_is}
use Rattle.steps.proofs.Selected.{before_j, frozen_now, loose_now}
use Rattle.unbranched.specs.Position.{Position}
use Rattle.unbranched.proofs.Alone.{conflict_is}

module _ (t : List ℕ) (given : Instance t) (l : Line) (w : List ℕ) (d : Diagram) (at : Position t l w d) (c j : ℕ)
    (due : has l.due c ≡ true)
    (chosen : Conflict (project_in t) (own_of t) (scannable t given) d at.stands c j)
    (roomy : has (tight_of t) j ≡ false) (live : ℕ) (lives : Lives t (set w j (finish_at t w j)) l.live j live) where
  abbrev w₁ : List ℕ
  w₁ = set w j (finish_at t w j)

  abbrev now : Line
  now = selected_line l j (l.due - 2 ^ c) l.passed live

  loose_j : has (loose_in l) j ≡ true
  loose_j = (conflict_is t given l w d at c due j chosen).0

  acts_j : j < acts_of t
  acts_j = at.sets.left j (loose_is l j loose_j).1

  few : acts_of t ≤ most
  few = given.laid.acts

  -- The working array.
  own_end : end_at w₁ j ≡ finish_at t w j
  own_end = get_or-set_same w j (finish_at t w j) 0 (omega (arith, acts_j, few, at.sets.timed.size))

  other_cell : (k : ℕ) → k ≢ j → get_or w₁ k 0 ≡ get_or w k 0
  other_cell k ne = get_or-set_other w j k (finish_at t w j) 0 ne

  start_j : start_at t w₁ j ≡ d.starts j
  start_j = omega (arith, own_end, at.shows.loose j loose_j)

  -- What is frozen.
  set_now : (k : ℕ) → has (frozen_in now) k ≡ adding d.frozen j k
  set_now =
      frozen_now t given l w d at.shows at.stands at.sets j loose_j chosen.early chosen.next
      (l.due - 2 ^ c) l.passed live

  old_of : (k : ℕ) → k ≢ j → has (frozen_in now) k ≡ true → d.frozen k ≡ true
  old_of k ne y = sym (adding_other d.frozen j k ne) ∙ sym (set_now k) ∙ y

  shown : (k : ℕ) → d.frozen k ≡ true → has (frozen_in l) k ≡ true
  shown k f = sym (at.shows.frozen k) ∙ f

  ended : (k : ℕ) → d.frozen k ≡ true → d.starts k + duration_at t k ≡ end_at w k
  ended k f = at.shows.ended k (shown k f)

  acts_of_lem : (k : ℕ) → d.frozen k ≡ true → k < acts_of t
  acts_of_lem k f = at.sets.placed k (sym (at.shows.placed k) ∙ at.stands.within k f)

  by_frozen : {C : Type 0} (k : ℕ) → has (frozen_in now) k ≡ true → has (component_at t j) k ≡ true → (k ≡ j → C)
      → (k ≢ j → d.frozen k ≡ true → d.starts k ≤ d.starts j → C)
      → C
  by_frozen k y on same other =
      by_cases (ℕ_discrete k j) same
      (λ ne.
      let f : d.frozen k ≡ true = old_of k ne y in
      other ne f
      (before_j t given l w d at.shows at.stands at.sets j loose_j chosen.early chosen.next k f
      (component_is t given.laid j k acts_j on)).low)

  roomy_with : (k : ℕ) → k < acts_of t → own_of t k ≡ own_of t j → has (tight_of t) k ≡ false
  roomy_with k lk on =
      by_bool (has (tight_of t) k)
      (λ y. true_not_false (tight_with t given.laid k j lk acts_j (sym on) y) roomy) (λ z. z)

  -- What ends behind the start of j is live.
  live_now : (k : ℕ) → has (frozen_in now) k ≡ true → has (component_at t j) k ≡ true → start_at t w₁ j < end_at w₁ k
      → has live k ≡ true
  live_now k y on late =
      by_frozen k y on (λ e. ap (has live) e ∙ lives_own lives)
      (λ ne f _.
      let lk : k < acts_of t = acts_of_lem k f in
      ⊎_elim (λ old. lives_behind lives k old late)
      (λ (i, fi, own, le).
      let g : d.frozen i ≡ true = at.shows.frozen i ∙ fi in
      let on_i : own_of t i ≡ own_of t j =
      sym (own_is t given.laid i (acts_of_lem i g)) ∙ own ∙ own_is t given.laid k lk
      ∙ component_is t given.laid j k acts_j on in
      absurd
      (omega (
        arith,
        late,
        other_cell k ne,
        le,
        ended i g,
        (before_j t given l w d at.shows at.stands at.sets j loose_j chosen.early chosen.next i g on_i
            ).low,
        start_j,
      )))
      (at.shows.live k (shown k f) (roomy_with k lk (component_is t given.laid j k acts_j on))))

  -- One of the others has room where it stands, but for j.
  module _ (k : ℕ) (shifted : is_shifted t now j k ≡ true) where
    loose_k : has (loose_in l) k ≡ true
    loose_k =
        (loose_now t given l w d at.shows at.stands at.sets j loose_j chosen.early chosen.next
        (l.due - 2 ^ c) l.passed live k (and_left (has (loose_in now) k) (has (component_at t j) k) shifted)
        ).0

    on_k : own_of t k ≡ own_of t j
    on_k = component_is t given.laid j k acts_j (and_right (has (loose_in now) k) (has (component_at t j) k) shifted)

    acts_k : k < acts_of t
    acts_k = at.sets.left k (loose_is l k loose_k).1

    placed_k : d.placed k ≡ true
    placed_k = (loose_shown t given l w d at.shows d.tick at.stands k loose_k).0

    waits_k : d.frozen k ≡ false
    waits_k = (loose_shown t given l w d at.shows d.tick at.stands k loose_k).1

    has_k : Has (project_in t) k
    has_k = at.stands.inside k placed_k

    stood : d.starts k ≡ ready_at w₁ k
    stood =
        omega (
          arith,
          at.shows.loose k loose_k,
          at.shows.roomy k acts_k (roomy_with k acts_k on_k),
          other_cell (32 + k) (λ e. omega (arith, e, acts_j, few)),
        )

    abbrev old_set : ℕ
    old_set = bit_and (frozen_in l) (component_at t j)

    covers : (u : ℕ) → Covers t given d d.tick at.stands w ended old_set k u
    covers u =
        record {
          inside =
              λ i y.
              at.shows.frozen i
              ∙ and_left (has (frozen_in l) i) (has (component_at t j) i)
              (sym (has_and (frozen_in l) (component_at t j) i) ∙ y);
          all =
              λ i f on from to.
              has_and (frozen_in l) (component_at t j) i
              ∙ both (shown i f) (component_has t given.laid j i acts_j (acts_of_lem i f) (on ∙ on_k));
        }

    -- Where j does not run, the same run as before it was frozen.
    runs_same : (u : ℕ) → runs_at t w₁ (frozen_in now) u j ≡ false → (i : ℕ) → i < most
        → runs_at t w₁ (bit_and (frozen_in now) (component_at t j)) u i ≡ runs_at t w old_set u i
    runs_same u idle i b =
        by_cases (ℕ_discrete i j) (λ e. rw e (off_now ∙ sym off_old))
        (λ ne.
        ap₂ (λ (x : Bool) (end : ℕ). x && leb (end - duration_at t i) u && ltb u end) (among_same ne) (other_cell i ne))
      where
        off_now : runs_at t w₁ (bit_and (frozen_in now) (component_at t j)) u j ≡ false
        off_now =
            by_bool (runs_at t w₁ (bit_and (frozen_in now) (component_at t j)) u j)
            (λ y.
            let runs = runs_is t w₁ (bit_and (frozen_in now) (component_at t j)) u u j y in
            true_not_false
            (runs_of t w₁ (frozen_in now) u u j
            (record {
              there = set_now j ∙ adding_new d.frozen j;
              begins = runs.begins;
              ends = runs.ends;
            }))
            idle)
            (λ n. n)

        off_old : runs_at t w old_set u j ≡ false
        off_old =
            by_bool (runs_at t w old_set u j)
            (λ y.
            true_not_false ((covers u).inside j (runs_is t w old_set u u j y).there)
            (loose_shown t given l w d at.shows d.tick at.stands j loose_j).1)
            (λ n. n)

        among_same : i ≢ j → has (bit_and (frozen_in now) (component_at t j)) i ≡ has old_set i
        among_same ne =
            has_and (frozen_in now) (component_at t j) i
            ∙ ap (λ (x : Bool). x && has (component_at t j) i)
            (set_now i ∙ adding_other d.frozen j i ne ∙ at.shows.frozen i)
            ∙ sym (has_and (frozen_in l) (component_at t j) i)

    room_then : (u : ℕ) → ready_at w₁ k ≤ u → u < ready_at w₁ k + duration_at t k
        → runs_at t w₁ (frozen_in now) u j ≡ false
        → has_room_at t w₁ (bit_and (frozen_in now) (component_at t j)) k u ≡ true
    unfolding project_in
    room_then u from to idle =
        room_alike t w₁ w (bit_and (frozen_in now) (component_at t j)) old_set k u (runs_same u idle)
        ∙ fits_room t given d d.tick at.stands w ended old_set k u has_k (covers u)
        (λ r b.
        (at.stands.at k placed_k waits_k).room.fits u r b (omega (arith, from, stood)) (omega (arith, to, stood)))

  pub chosen_last : Last t (set w j (finish_at t w j)) (selected_line l j (l.due - 2 ^ c) l.passed live) j
  chosen_last =
      record {
        live = live_now;
        live_low = lives.low;
        frozen =
            λ k y.
            set_now k
            ∙ ⊎_elim (λ e. ap (adding d.frozen j) e ∙ adding_new d.frozen j)
            (λ old. adding_old d.frozen j k (at.shows.frozen k ∙ at.shows.live_frozen k old))
            (lives_is lives k y);
        behind =
            λ k y on.
            by_frozen k y on (λ e. rw e (omega arith))
            (λ ne f le. omega (arith, le, start_j, other_cell k ne, ended k f));
        room = room_then;
      }
