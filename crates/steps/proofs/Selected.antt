-- Step 3 of the code is that of the scan: an activity that is placed and not frozen and starts before the scan-line is
-- frozen where it stands, and what else is placed in its component starts at its next fit.
use Prim.Native.Nat.{ℕ, ◌+◌, ◌≤◌, ◌<◌}
use native.Mathlib.Decide.{ℕ_discrete}
use native.Mathlib.Omega.{arith}
use mathlib.Core.Bool.{Bool, true, false, not, ◌&&◌, and-true, and-false}
use mathlib.Core.List.{List}
use mathlib.Core.Logic.{◌≢◌, ◌⊎◌, ⊎_elim, inl, inr, by_cases}
use mathlib.Core.Path.{◌≡◌, refl, sym, ap, ap₂, ◌∙◌}
use lib.Dec.{eqb}
use borrow.Author.Tests.{eqb-true, eq-eqb, ne_eqb}
use Rattle.base.specs.Below.{◌implies◌}
use Rattle.base.proofs.Bools.{same_bool, true_not_false, both, and_left, and_right}
use Rattle.base.proofs.Below.{every_at, every_of, every_same, implies_elim, implies_intro}
use Rattle.sets.specs.Sets.{most, has}
use Rattle.sets.proofs.Laws.{has_minus, has_without}
use Rattle.schedule.proofs.Load.{Has}
use Rattle.branching.proofs.Room.{adding, adding_new, adding_other}
use Rattle.branching.proofs.Under.{Ahead, ahead_is, ahead_of}
use Rattle.scan.specs.Scan.{Diagram, is_ahead, is_next, freeze, shift, select}
use Rattle.scan_exact.proofs.Standing.{Standing}
use Rattle.scan_exact.proofs.Selected.{select_frozen, select_kept, select_off, select_standing}
use Rattle.instance.specs.Instance.{own_of, Instance}
use Rattle.instance.specs.Table.{acts_of, present_of, duration_at, own_at, tight_of, project_in}
use Rattle.profile.specs.Work.{end_at, ready_at, free_at, start_at, soon_at}
use Rattle.steps.specs.Steps.{Sets, frozen_in, loose_in, finish_at, selected_line}
use Rattle.steps.specs.Shown.{Shows}
use Rattle.steps.specs.declared.Line.{Line}
use Rattle.steps.proofs.Given.{scannable}
use Rattle.steps.proofs.Sets.{frozen_of, loose_of, loose_is, loose_shown}

module _ (t : List ℕ) (given : Instance t) (l : Line) (w : List ℕ) (d : Diagram) (shows : Shows t l w d)
    (standing : Standing (project_in t) d d.tick) (sets : Sets t w l)
    (j : ℕ) (loose_j : has (loose_in l) j ≡ true) (early : d.starts j < d.tick)
    (next : is_next (project_in t) (own_of t) d j ≡ true) where
  abbrev comp : ℕ → ℕ
  comp = own_of t

  abbrev then : Diagram
  then = select (project_in t) comp d j

  there : d.placed j ≡ true
  there = (loose_shown t given l w d shows d.tick standing j loose_j).0

  waits : d.frozen j ≡ false
  waits = (loose_shown t given l w d shows d.tick standing j loose_j).1

  has_j : Has (project_in t) j
  has_j = standing.inside j there

  pub after : Standing (project_in t) then then.tick
  after = select_standing (project_in t) comp (scannable t given) d standing j there waits early

  kept : (k : ℕ) → adding d.frozen j k ≡ true → then.starts k ≡ d.starts k
  kept = select_kept (project_in t) comp (scannable t given) d standing j there waits early

  off : (k : ℕ) → comp k ≢ comp j → then.starts k ≡ d.starts k
  off = select_off (project_in t) comp (scannable t given) d standing j there waits early

  frozen_then : (k : ℕ) → then.frozen k ≡ adding d.frozen j k
  frozen_then = select_frozen (project_in t) comp (scannable t given) d standing j there waits early

  starts_j : then.starts j ≡ d.starts j
  starts_j = kept j (adding_new d.frozen j)

  below_of : (k : ℕ) → Has (project_in t) k → k < acts_of t
  unfolding project_in
  below_of k h = h.below

  same_tick : then.tick ≡ d.tick
  unfolding freeze shift
  same_tick = refl

  same_placed : (k : ℕ) → then.placed k ≡ d.placed k
  unfolding freeze shift
  same_placed k = refl

  same_term : (k : ℕ) → then.term k ≡ d.term k
  unfolding freeze shift
  same_term k = refl

  -- The order of the component: j comes after what was frozen before.
  pub before_j : (k : ℕ) → d.frozen k ≡ true → own_of t k ≡ own_of t j → Ahead (d.starts k) k (d.starts j) j
  unfolding project_in
  before_j k f on =
      ahead_is (d.starts k) k (d.starts j) j
      (implies_elim (d.frozen k && true && eqb (comp k) (comp j))
      (is_ahead (project_in t) comp (d.starts k) k (d.starts j) j)
      (every_at (acts_of t)
      (λ m.
      (d.frozen m && true && eqb (comp m) (comp j))
      implies is_ahead (project_in t) comp (d.starts m) m (d.starts j) j)
      next k (below_of k (standing.inside k (standing.within k f))))
      (both (both f refl) (eq-eqb (comp k) (comp j) on)))

  -- So what is not frozen comes after all that is frozen now if it comes after j.
  abbrev after_all_lem : Diagram → ℕ → ℕ → Bool
  after_all_lem e i k =
      (e.frozen k && (project_in t).free k && eqb (comp k) (comp i))
      implies is_ahead (project_in t) comp (e.starts k) k (e.starts i) i

  pub next_same : (i : ℕ) → own_of t i ≢ own_of t j
      → is_next (project_in t) (own_of t) (select (project_in t) (own_of t) d j) i ≡ is_next (project_in t) (own_of t) d i
  unfolding freeze shift
  next_same i other =
      every_same (project_in t).size (after_all_lem then i) (after_all_lem d i)
      (λ k lk.
      by_cases (ℕ_discrete (comp k) (comp i))
      (λ on.
      let apart : comp k ≢ comp j = λ e. other (sym on ∙ e) in
      ap₂
      (λ (f : Bool) (a : ℕ).
      (f && (project_in t).free k && eqb (comp k) (comp i)) implies is_ahead (project_in t) comp a k (then.starts i) i)
      (adding_other d.frozen j k (λ e. apart (ap comp e))) (off k apart)
      ∙ ap
      (λ (b : ℕ).
      (d.frozen k && (project_in t).free k && eqb (comp k) (comp i))
      implies is_ahead (project_in t) comp (d.starts k) k b i)
      (off i other))
      (λ ne.
      let no : (e : Diagram) → after_all_lem e i k ≡ true =
      λ e.
      implies_intro (e.frozen k && (project_in t).free k && eqb (comp k) (comp i))
      (is_ahead (project_in t) comp (e.starts k) k (e.starts i) i)
      (λ y.
      absurd
      (ne
      (eqb-true (comp k) (comp i) (and_right (e.frozen k && (project_in t).free k) (eqb (comp k) (comp i)) y)))) in
      no then ∙ sym (no d)))

  pub next_is : (i : ℕ) → own_of t i ≡ own_of t j
      → is_next (project_in t) (own_of t) (select (project_in t) (own_of t) d j) i
      ≡ is_ahead (project_in t) (own_of t) (d.starts j) j ((select (project_in t) (own_of t) d j).starts i) i
  unfolding project_in freeze shift
  next_is i on =
      same_bool (is_next (project_in t) comp then i) (is_ahead (project_in t) comp (d.starts j) j (then.starts i) i)
      (λ y.
      ap (λ (a : ℕ). is_ahead (project_in t) comp a j (then.starts i) i) (sym starts_j)
      ∙ implies_elim (then.frozen j && true && eqb (comp j) (comp i))
      (is_ahead (project_in t) comp (then.starts j) j (then.starts i) i)
      (every_at (acts_of t) (after_all_lem then i) y j (below_of j has_j))
      (both (both (adding_new d.frozen j) refl) (eq-eqb (comp j) (comp i) (sym on))))
      (λ y.
      let a : Ahead (d.starts j) j (then.starts i) i = ahead_is (d.starts j) j (then.starts i) i y in
      every_of (acts_of t) (after_all_lem then i)
      (λ k lk.
      implies_intro (then.frozen k && true && eqb (comp k) (comp i))
      (is_ahead (project_in t) comp (then.starts k) k (then.starts i) i)
      (λ three.
      let g : adding d.frozen j k ≡ true =
      and_left (then.frozen k) true (and_left (then.frozen k && true) (eqb (comp k) (comp i)) three) in
      let onk : comp k ≡ comp j =
      eqb-true (comp k) (comp i) (and_right (then.frozen k && true) (eqb (comp k) (comp i)) three) ∙ on in
      ahead_of (then.starts k) k (then.starts i) i
      (by_cases (ℕ_discrete k j)
      (λ e. rw e (record { low = omega (arith, starts_j, a.low); tie = λ z. a.tie (omega (arith, z, starts_j)) }))
      (λ ne.
      let f : d.frozen k ≡ true = sym (adding_other d.frozen j k ne) ∙ g in
      let b : Ahead (d.starts k) k (d.starts j) j = before_j k f onk in
      record {
        low = omega (arith, kept k g, b.low, a.low);
        tie =
            λ z.
            let one : d.starts k ≡ d.starts j = omega (arith, z, kept k g, b.low, a.low) in
            let two : d.starts j ≡ then.starts i = omega (arith, z, kept k g, b.low, a.low) in
            omega (arith, b.tie one, a.tie two);
      })))))

  -- The line and the working array with j frozen.
  module _ (due passed live : ℕ) where
    abbrev now : Line
    now = selected_line l j due passed live

    left_j : has l.left j ≡ true
    left_j = (loose_is l j loose_j).1

    left_now : (i : ℕ) → has now.left i ≡ (has l.left i && not (eqb i j))
    left_now i = has_without l.left j i left_j

    left_other : (i : ℕ) → i ≢ j → has now.left i ≡ has l.left i
    left_other i ne =
        left_now i ∙ ap (λ (x : Bool). has l.left i && not x) (ne_eqb i j ne) ∙ and-true (has l.left i)

    left_gone : has now.left j ≡ false
    left_gone =
        left_now j ∙ ap (λ (x : Bool). has l.left j && not x) (eq-eqb j j refl) ∙ and-false (has l.left j)

    pub frozen_now : (i : ℕ) → has (frozen_in (selected_line l j due passed live)) i ≡ adding d.frozen j i
    frozen_now i =
        by_cases (ℕ_discrete i j)
        (λ e. rw e (frozen_of now j (loose_is l j loose_j).0 left_gone ∙ sym (adding_new d.frozen j)))
        (λ ne.
        has_minus l.placed now.left i
        ∙ ap (λ (x : Bool). has l.placed i && not x) (left_other i ne)
        ∙ sym (has_minus l.placed l.left i)
        ∙ sym (shows.frozen i)
        ∙ sym (adding_other d.frozen j i ne))

    pub loose_now : (i : ℕ) → has (loose_in (selected_line l j due passed live)) i ≡ true
        → (has (loose_in l) i ≡ true) × (i ≢ j)
    loose_now i y =
        let (placed, left) = loose_is now i y in
        let ne : i ≢ j = λ e. true_not_false left (ap (has now.left) e ∙ left_gone) in
        (loose_of l i placed (sym (left_other i ne) ∙ left), ne)

    pub loose_still : (i : ℕ) → has (loose_in l) i ≡ true → i ≢ j
        → has (loose_in (selected_line l j due passed live)) i ≡ true
    loose_still i y ne = let (placed, left) = loose_is l i y in loose_of now i placed (left_other i ne ∙ left)

    -- What the working array has to show.
    pub record Freezes (w' : List ℕ) : Type 0 where
      pub end : end_at w' j ≡ finish_at t w j
      pub ends : (i : ℕ) → i < most → i ≢ j → end_at w' i ≡ end_at w i
      pub loose : (i : ℕ) → has (loose_in l) i ≡ true → i ≢ j
          → (select (project_in t) (own_of t) d j).starts i ≡ soon_at t w' i
      pub passes : (i : ℕ) → has (loose_in l) i ≡ true → i ≢ j
          → has passed i ≡ not (is_next (project_in t) (own_of t) (select (project_in t) (own_of t) d j) i)
      pub passed_placed : (i : ℕ) → has passed i ≡ true → has l.placed i ≡ true
      pub tight : (i : ℕ) → adding d.frozen j i ≡ true → has (tight_of t) i ≡ true
          → (end_at w' i ≤ free_at w' (own_at t i)) ⊎ (end_at w' i ≤ l.tick)
      pub freed : (i : ℕ) → has (tight_of t) i ≡ true
          → (free_at w' (own_at t i) ≡ 0)
          ⊎ ((k : ℕ) × (adding d.frozen j k ≡ true) × (own_at t k ≡ own_at t i) × (end_at w' k ≡ free_at w' (own_at t i)))
      pub readied : (i : ℕ) → has (loose_in l) i ≡ true → i ≢ j → has (tight_of t) i ≡ true → ready_at w' i ≤ l.tick
      pub roomy : (i : ℕ) → i < acts_of t → has (tight_of t) i ≡ false → free_at w' (own_at t i) ≡ 0
      pub lives : (k : ℕ) → adding d.frozen j k ≡ true → has (tight_of t) k ≡ false
          → (has live k ≡ true)
          ⊎ ((i : ℕ) × (adding d.frozen j i ≡ true) × (own_at t i ≡ own_at t k) × (end_at w' k ≤ start_at t w' i))
      pub live_frozen : (k : ℕ) → has live k ≡ true → adding d.frozen j k ≡ true

    frozen_below : (i : ℕ) → d.frozen i ≡ true → i < most
    frozen_below i f =
        omega (arith, below_of i (standing.inside i (standing.within i f)), given.laid.acts)

    ended_now : (w' : List ℕ) → Freezes w' → (i : ℕ) → adding d.frozen j i ≡ true
        → then.starts i + duration_at t i ≡ end_at w' i
    ended_now w' freezes i g =
        by_cases (ℕ_discrete i j)
        (λ e. rw e (omega (arith, starts_j, shows.loose j loose_j, freezes.end)))
        (λ ne.
        let f : d.frozen i ≡ true = sym (adding_other d.frozen j i ne) ∙ g in
        omega (
          arith,
          kept i g,
          shows.ended i (sym (shows.frozen i) ∙ f),
          freezes.ends i (frozen_below i f) ne,
        ))

    pub shows_select : (w' : List ℕ) → Freezes w'
        → Shows t (selected_line l j due passed live) w' (select (project_in t) (own_of t) d j)
    shows_select w' freezes =
        record {
          tick = same_tick ∙ shows.tick;
          placed = λ i. same_placed i ∙ shows.placed i;
          frozen = λ i. frozen_then i ∙ sym (frozen_now i);
          term = λ i. same_term i ∙ shows.term i;
          left =
              λ i.
              by_cases (ℕ_discrete i j)
              (λ e.
              rw e
              (left_gone
              ∙ sym
              (ap (λ (x : Bool). has (present_of t) j && not x) (frozen_then j ∙ adding_new d.frozen j)
              ∙ and-false (has (present_of t) j))))
              (λ ne.
              left_other i ne ∙ shows.left i
              ∙ ap (λ (x : Bool). has (present_of t) i && not x)
              (sym (frozen_then i ∙ adding_other d.frozen j i ne)));
          loose = λ i y. let (old, ne) = loose_now i y in freezes.loose i old ne;
          ended = λ i y. ended_now w' freezes i (sym (frozen_now i) ∙ y);
          passed = λ i y. let (old, ne) = loose_now i y in freezes.passes i old ne;
          passed_placed = freezes.passed_placed;
          tight = λ i y. freezes.tight i (sym (frozen_now i) ∙ y);
          freed =
              λ i y.
              ⊎_elim (λ none. inl none) (λ (k, f, own, end). inr (k, frozen_now k ∙ f, own, end)) (freezes.freed i y);
          readied = λ i y. let (old, ne) = loose_now i y in freezes.readied i old ne;
          roomy = freezes.roomy;
          live =
              λ k y z.
              ⊎_elim (λ on. inl on) (λ (i, f, own, end). inr (i, frozen_now i ∙ f, own, end))
              (freezes.lives k (sym (frozen_now k) ∙ y) z);
          live_frozen = λ k y. frozen_now k ∙ freezes.live_frozen k y;
        }
