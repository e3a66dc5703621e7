-- What a turn of each loop of a move keeps that makes activities ready: what is attached, and what is shifted.
use Prim.Native.Nat.{ℕ, ◌+◌, ◌-◌, ◌^◌, ◌≤◌, ◌<◌}
use native.Mathlib.Decide.{ℕ_discrete}
use native.Mathlib.Omega.{arith}
use mathlib.Core.Bool.{Bool, true, false, cond, not, ◌&&◌, ◌||◌, and-false, and_assoc, or-false}
use mathlib.Core.List.{List}
use mathlib.Core.Logic.{◌⊎◌, ◌≢◌, inl, inr, ⊎_elim, by_cases}
use mathlib.Core.Path.{◌≡◌, refl, sym, ap, ap₂, ◌∙◌}
use borrow.Author.Tests.{ltb-true, ltb-false}
use lib.Bits.{bit_and, bit_or, bit_xor}
use lib.Dec.{leb, ltb}
use lib.ListN.{get_or, set, length, length-set}
use lib.Seq.{get_or-set_same, get_or-set_other}
use Rattle.base.specs.Below.{◌implies◌}
use Rattle.base.proofs.Below.{every_same, sum_eq}
use Rattle.base.proofs.Bools.{by_bool, true_not_false, both, and_left, and_right, cond_true, cond_false}
use Rattle.plan.specs.Limits.{latest_possible}
use Rattle.sets.specs.Sets.{most, has, meet}
use Rattle.sets.proofs.Laws.{has_none, has_and, has_minus, minus_low}
use Rattle.sets.proofs.Turns.{Turn, turn_has}
use Rattle.instance.specs.Table.{acts_of, duration_at, preds_at, component_at, own_at, units_at, capacity_at, resources_of}
use Rattle.instance.specs.Table.{tight_of}
use Rattle.profile.specs.Work.{end_at, ready_at, free_at, start_at, ready_from, free_from, Timed}
use Rattle.profile.specs.Room.{Among, runs_at, Running, is_left, held_at, has_room_at, NextFit, Late}
use Rattle.profile.proofs.Room.{runs_is, runs_of, room_left}
use Rattle.steps.specs.Steps.{Sets, Runs, frozen_in, running_in, waiting_in, loose_in}
use Rattle.steps.specs.Steps.{is_ahead, is_shifted, Last, Shifts, is_free, can_start, Attaches}
use Rattle.steps.specs.declared.Line.{Line}
use Rattle.steps.proofs.Loops.{common_low, minus_parts, common_parts, own_below}
use Rattle.steps.proofs.Loops.{Marking, marking, marked, mark_with, mark_kept}

-- ---- the frozen ones of a component, beside one that is not frozen

module _ (t : List ℕ) (l : Line) (w : List ℕ) (given : Sets t w l) where
  frozen_own : (k : ℕ) → has (frozen_in l) k ≡ true → k < acts_of t
  frozen_own k y = given.placed k (minus_parts l.placed l.left k y).0

  pub frozen_below : (k : ℕ) → has (frozen_in l) k ≡ true → k < most
  frozen_below k y = omega (arith, frozen_own k y, given.laid.acts)

  frozen_among : (all i : ℕ) → all < 2 ^ most → ((k : ℕ) → has all k ≡ true → has (frozen_in l) k ≡ true)
      → has l.left i ≡ true
      → Among t w all i
  frozen_among all i low inside left =
      record {
        laid = given.laid;
        timed = given.timed;
        low = low;
        acts = λ k y. frozen_own k (inside k y);
        started = λ k y. given.ran k (inside k y);
        own = given.left i left;
        other =
            by_bool
            (has all i)
            (λ y. true_not_false left (minus_parts l.placed l.left i (inside i y)).1)
            (λ n. n);
      }

  settled_among : (c i : ℕ) → has l.left i ≡ true → Among t w (bit_and (frozen_in l) c) i
  settled_among c i =
      frozen_among (bit_and (frozen_in l) c) i
      (common_low (frozen_in l) c (minus_low l.placed l.left given.placed_low))
      (λ k y. (common_parts (frozen_in l) c k y).0)

  -- What runs is frozen.
  pub running_among : (c i : ℕ) → has l.left i ≡ true → Among t w (bit_and (running_in l) c) i
  running_among c i =
      frozen_among (bit_and (running_in l) c) i
      (common_low (running_in l) c (minus_low l.term l.left given.term_low))
      (λ k y.
      let runs : has (running_in l) k ≡ true = (common_parts (running_in l) c k y).0 in
      has_minus l.placed l.left k
      ∙ both (given.term k runs) (ap not (minus_parts l.term l.left k runs).1))

  -- All of it does on the tick.
  running_now : Runs t w l → (c : ℕ)
      → Running t w (bit_and (running_in l) c) l.tick l.tick (bit_and (running_in l) c)
  running_now now c =
      let all : ℕ = bit_and (running_in l) c in
      record {
        low = common_low (running_in l) c (minus_low l.term l.left given.term_low);
        runs =
            λ k.
            by_bool
            (has all k)
            (λ y.
            let (begins, ends) = now.runs k (common_parts (running_in l) c k y).0 in
            y ∙ sym (runs_of t w all l.tick l.tick k (record { there = y; begins = begins; ends = ends })))
            (λ n.
            n
            ∙ sym (ap (λ (b : Bool). b && leb (start_at t w k) l.tick && ltb l.tick (end_at w k)) n));
      }

-- ---- a working array with the same ends

-- The same run on a tick, so there is the same room.
pub room_alike : (t w w' : List ℕ) (all all' i u : ℕ)
    → ((k : ℕ) → k < most → runs_at t w all u k ≡ runs_at t w' all' u k)
    → has_room_at t w all i u ≡ has_room_at t w' all' i u
unfolding has_room_at held_at
room_alike t w w' all all' i u same =
    every_same (resources_of t) (left w all) (left w' all')
    (λ r b.
    ap (λ (x : ℕ). ltb 0 (units_at t i r) implies leb (x + units_at t i r) (capacity_at t r))
    (sum_eq most (λ k. cond (runs_at t w all u k) (units_at t k r) 0)
    (λ k. cond (runs_at t w' all' u k) (units_at t k r) 0)
    (λ k l. ap (λ (x : Bool). cond x (units_at t k r) 0) (same k l))))
  where
    left : List ℕ → ℕ → ℕ → Bool
    left v set r = ltb 0 (units_at t i r) implies leb (held_at t v set u r + units_at t i r) (capacity_at t r)

module _ (t w w' : List ℕ) (ends : (k : ℕ) → k < most → end_at w' k ≡ end_at w k) where
  room_same : (all i u : ℕ) → has_room_at t w' all i u ≡ has_room_at t w all i u
  room_same all i u =
      room_alike t w' w all all i u
      (λ k l. ap (λ (x : ℕ). has all k && leb (x - duration_at t k) u && ltb u x) (ends k l))

  among_same : {all i : ℕ} → Timed w' → Among t w all i → Among t w' all i
  among_same {all} {i} timed given =
      record {
        laid = given.laid;
        timed = timed;
        low = given.low;
        acts = given.acts;
        started = λ k y. omega (arith, ends k (omega (arith, given.acts k y, given.laid.acts)), given.started k y);
        own = given.own;
        other = given.other;
      }

  fit_same : {all i x r : ℕ} → Among t w all i → NextFit t w' all i x r → NextFit t w all i x r
  fit_same {all} {i} {x} {r} given fit =
      record {
        fits = λ u a b. sym (room_same all i u) ∙ fit.fits u a b;
        from = fit.from;
        end =
            λ ne.
            let (k, y, e) = fit.end ne in
            (k, y, e ∙ ends k (omega (arith, given.acts k y, given.laid.acts)));
        none = λ z a b f. fit.none z a b (λ u c d. room_same all i u ∙ f u c d);
      }

  sets_same : {l : Line} → Timed w' → Sets t w l → Sets t w' l
  sets_same {l} timed given =
      record {
        laid = given.laid;
        timed = timed;
        placed_low = given.placed_low;
        left_low = given.left_low;
        term_low = given.term_low;
        due_low = given.due_low;
        passed_low = given.passed_low;
        live_low = given.live_low;
        placed = given.placed;
        left = given.left;
        term = given.term;
        ran = λ i y. omega (arith, ends i (frozen_below t l w given i y), given.ran i y);
      }

  runs_same : {l : Line} → Sets t w l → Runs t w l → Runs t w' l
  runs_same {l} given now =
      record {
        runs =
            λ i y.
            let (begins, behind) = now.runs i y in
            let same : end_at w' i ≡ end_at w i =
            ends i (omega (arith, given.placed i (given.term i y), given.laid.acts)) in
            (omega (arith, begins, same), omega (arith, behind, same));
      }

-- ---- a tick stored for an activity

module _ (w w' : List ℕ) (i x : ℕ) (timed : Timed w) (below : i < most) (wrote : w' ≡ set w (ready_from + i) x) where
  stored_there : ready_at w' i ≡ x
  stored_there =
      ap (λ (v : List ℕ). ready_at v i) wrote
      ∙ get_or-set_same w (ready_from + i) x 0 (omega (arith, timed.size, below))

  stored_other : (c : ℕ) → c ≢ ready_from + i → get_or w' c 0 ≡ get_or w c 0
  stored_other c ne = ap (λ (v : List ℕ). get_or v c 0) wrote ∙ get_or-set_other w (ready_from + i) c x 0 ne

  stored_timed : x ≤ latest_possible → Timed w'
  stored_timed h =
      record {
        times =
            λ c.
            by_cases
            (ℕ_discrete c (ready_from + i))
            (λ e. omega (arith, ap (λ (y : ℕ). get_or w' y 0) e, stored_there))
            (λ ne. omega (arith, stored_other c ne, timed.times c));
        size = ap length wrote ∙ length-set w (ready_from + i) x ∙ timed.size;
      }

-- ---- what can start is made ready

-- An activity that is not tight is free where it has room.
module _ (t w : List ℕ) (l : Line) (i : ℕ) {tight : Bool} (is : tight ≡ has (tight_of t) i) where
  pub free_roomy : {all : ℕ} {r : Bool} → tight ≡ false → all ≡ bit_and (running_in l) (component_at t i)
      → Sets t w l
      → Runs t w l
      → r ≡ is_left t all i
      → r ≡ is_free t w l i
  free_roomy n e given now left =
      left
      ∙ ap (λ (x : ℕ). is_left t x i) e
      ∙ room_left t w (bit_and (running_in l) (component_at t i)) i l.tick
      (running_now t l w given now (component_at t i))
      ∙ sym (cond_false (leb (free_at w (own_at t i)) l.tick)
      (has_room_at t w (bit_and (running_in l) (component_at t i)) i l.tick) (sym is ∙ n))

-- It has no predecessor in T, and is free.
abbrev unheld : List ℕ → List ℕ → Line → ℕ → Bool
unheld t w l i = not (meet (preds_at t i) l.term) && is_free t w l i

-- All but the members of `rest` have been looked at.
pub record Attaching (t : List ℕ) (l : Line) (w w' : List ℕ) (placed rest : ℕ) : Type 0 where
  pub sets : Sets t w' l
  pub runs : Runs t w' l
  pub marks : Marking (unheld t w l) l.placed (waiting_in l) placed rest
  pub started : (j : ℕ) → has rest j ≡ false → can_start t w l j ≡ true → ready_at w' j ≡ l.tick
  pub same : (c : ℕ) → ((j : ℕ) → j < most → can_start t w l j ≡ true → c ≡ ready_from + j → ⊥)
      → get_or w' c 0 ≡ get_or w c 0

module _ (t : List ℕ) (l : Line) (w : List ℕ) where
  abbrev waits : ℕ → Bool
  waits j = has (waiting_in l) j

  can_parts : (j : ℕ) → (waits j && unheld t w l j) ≡ can_start t w l j
  can_parts j = sym (and_assoc (waits j) (not (meet (preds_at t j) l.term)) (is_free t w l j))

  pub attaching : Sets t w l → Runs t w l → Attaching t l w w l.placed (waiting_in l)
  attaching given now =
      record {
        sets = given;
        runs = now;
        marks =
            marking (unheld t w l) l.placed (waiting_in l) given.placed_low
            (minus_low l.left l.placed given.left_low);
        started = λ j no h. true_not_false (and_left (waits j) (unheld t w l j) (can_parts j ∙ h)) no;
        same = λ c other. refl;
      }

  module _ {w' : List ℕ} {placed rest : ℕ} (so_far : Attaching t l w w' placed rest) where
    pub attached : rest ≡ 0 → Attaches t l w w' placed
    attached none =
        record {
          timed = so_far.sets.timed;
          low = so_far.marks.low;
          placed =
              λ j b.
              marked (unheld t w l) l.placed (waiting_in l) so_far.marks none j
              ∙ by_bool
              (waits j)
              (λ y.
              cond_true (unheld t w l j) (has l.placed j) y
              ∙ sym (ap₂ ◌||◌ (minus_parts l.left l.placed j y).1
              (sym (can_parts j) ∙ ap (◌&& unheld t w l j) y)))
              (λ n.
              cond_false (unheld t w l j) (has l.placed j) n
              ∙ sym (ap (has l.placed j ||◌) (sym (can_parts j) ∙ ap (◌&& unheld t w l j) n)
              ∙ or-false (has l.placed j)));
          start = λ j b. so_far.started j (ap (λ (x : ℕ). has x j) none ∙ has_none j);
          same = so_far.same;
        }

    -- What is free now was so before.
    pub free_now : {i : ℕ} {r b : Bool} → i < acts_of t → r ≡ is_free t w' l i → r ≡ b → is_free t w l i ≡ b
    free_now {i} {r} {b} own is e =
        sym
        (ap₂ (λ (x : ℕ) (y : Bool). cond (has (tight_of t) i) (leb x l.tick) y)
        (so_far.same (free_from + own_at t i) (λ j d y q. omega (arith, own_below t so_far.sets.laid i own)))
        (room_same t w w' (λ k d. so_far.same k (λ j f y q. omega arith)) (bit_and (running_in l) (component_at t i)) i
        l.tick))
        ∙ sym is
        ∙ e

    module _ {rest' i : ℕ} (turn : Turn rest rest' i) where
      abbrev mine : waits i ≡ true
      mine = so_far.marks.inside i turn.there

      pub attach_less : unheld t w l i ≡ false → Attaching t l w w' placed rest'
      attach_less n =
          record {
            sets = so_far.sets;
            runs = so_far.runs;
            marks =
                mark_kept (unheld t w l) l.placed (waiting_in l) so_far.marks turn (unheld t w l) (λ k ne. refl)
                ((minus_parts l.left l.placed i mine).1 ∙ sym n);
            started =
                λ j no h.
                by_cases
                (ℕ_discrete j i)
                (λ e. true_not_false (and_right (waits j) (unheld t w l j) (can_parts j ∙ h))
                (ap (unheld t w l) e ∙ n))
                (λ ne. so_far.started j (sym (turn.others j ne) ∙ no) h);
            same = so_far.same;
          }

      pub attach_more : (w'' : List ℕ) (placed' : ℕ) → unheld t w l i ≡ true → l.tick ≤ latest_possible
          → w'' ≡ set w' (ready_from + i) l.tick
          → placed' ≡ bit_or placed (2 ^ i)
          → Attaching t l w w'' placed' rest'
      attach_more w'' placed' y early wrote with-i =
          let timed = so_far.sets.timed in
          let other : (c : ℕ) → c ≢ ready_from + i → get_or w'' c 0 ≡ get_or w' c 0 =
          stored_other w' w'' i l.tick timed turn.below wrote in
          record {
            sets =
                sets_same t w' w'' (λ k b. other k (λ e. omega arith))
                (stored_timed w' w'' i l.tick timed turn.below wrote early) so_far.sets;
            runs = runs_same t w' w'' (λ k b. other k (λ e. omega arith)) so_far.sets so_far.runs;
            marks =
                mark_with (unheld t w l) l.placed (waiting_in l) so_far.marks turn (unheld t w l) (λ k ne. refl)
                placed' y with-i;
            started =
                λ j no h.
                by_cases
                (ℕ_discrete j i)
                (λ q. ap (ready_at w'') q ∙ stored_there w' w'' i l.tick timed turn.below wrote)
                (λ ne.
                other (ready_from + j) (λ q. ne (omega arith)) ∙ so_far.started j (sym (turn.others j ne) ∙ no) h);
            same =
                λ c ne. other c (λ q. ne i turn.below (sym (can_parts i) ∙ both mine y) q) ∙ so_far.same c ne;
          }

-- ---- the others of a component are shifted to their next fit among the frozen ones; `old` were passed before

abbrev passes : List ℕ → ℕ → ℕ → ℕ → Bool
passes w start j k = is_ahead (ready_at w k) k start j

-- The frozen ones of the component of j.
abbrev pub settled : List ℕ → Line → ℕ → ℕ
settled t l j = bit_and (frozen_in l) (component_at t j)

pub record Shifting (t : List ℕ) (l : Line) (j : ℕ) (w : List ℕ) (old all : ℕ) (w' : List ℕ) (passed rest : ℕ)
    : Type 0 where
  pub timed : Timed w'
  pub marks : Marking (passes w' (start_at t w j) j) old all passed rest
  pub fit : (k : ℕ) → has all k ≡ true → has rest k ≡ false
      → NextFit t w (settled t l j) k (ready_at w k) (ready_at w' k)
  pub same : (c : ℕ) → ((k : ℕ) → has all k ≡ true → has rest k ≡ false → c ≡ ready_from + k → ⊥)
      → get_or w' c 0 ≡ get_or w c 0

-- i alone has been shifted.
pub record Fitted (t : List ℕ) (l : Line) (j : ℕ) (w w' w'' : List ℕ) (i : ℕ) : Type 0 where
  pub timed : Timed w''
  pub fit : NextFit t w (settled t l j) i (ready_at w i) (ready_at w'' i)
  pub other : (c : ℕ) → c ≢ ready_from + i → get_or w'' c 0 ≡ get_or w' c 0

-- The end of j and its start, the live ones of its component, what was passed outside the component, and what is
-- shifted.
pub record Parts (t : List ℕ) (l : Line) (j : ℕ) (w : List ℕ) (end start live old all : ℕ) : Type 0 where
  pub sets : Sets t w l
  pub last : Last t w l j
  pub lives : live ≡ bit_and l.live (component_at t j)
  pub ended : end ≡ end_at w j
  pub begun : start ≡ start_at t w j
  pub outside : old ≡ bit_xor l.passed (bit_and l.passed (component_at t j))
  pub others : all ≡ bit_and (loose_in l) (component_at t j)

module _ {t : List ℕ} {l : Line} {j : ℕ} {w : List ℕ} {end start live old all : ℕ}
    (parts : Parts t l j w end start live old all) where
  shifted_is : (k : ℕ) → has all k ≡ is_shifted t l j k
  shifted_is k = ap (λ (x : ℕ). has x k) parts.others ∙ has_and (loose_in l) (component_at t j) k

  old_is : (k : ℕ) → has old k ≡ (has l.passed k && not (has (component_at t j) k))
  old_is k = ap (λ (x : ℕ). has x k) parts.outside ∙ has_minus l.passed (component_at t j) k

  member : (k : ℕ) → has all k ≡ true → (has (loose_in l) k ≡ true) × (has (component_at t j) k ≡ true)
  member k y = common_parts (loose_in l) (component_at t j) k (sym (ap (λ (x : ℕ). has x k) parts.others) ∙ y)

  fresh : (k : ℕ) → has all k ≡ true → has old k ≡ false
  fresh k y =
      old_is k ∙ ap (λ (b : Bool). has l.passed k && not b) (member k y).1 ∙ and-false (has l.passed k)

  among : (k : ℕ) → has all k ≡ true → Among t w (settled t l j) k
  among k y =
      settled_among t l w parts.sets (component_at t j) k (common_parts l.placed l.left k (member k y).0).1

  pub live_low : live < 2 ^ most
  live_low = omega (arith, parts.lives, common_low l.live (component_at t j) parts.last.live_low)

  pub shifting : Shifting t l j w old all w old all
  shifting =
      let given = parts.sets in
      record {
        timed = given.timed;
        marks =
            marking (passes w (start_at t w j) j) old all
            (omega (arith, parts.outside, minus_low l.passed (component_at t j) given.passed_low))
            (omega (
              arith,
              parts.others,
              common_low (loose_in l) (component_at t j) (common_low l.placed l.left given.placed_low),
            ));
        fit = λ k y n. true_not_false y n;
        same = λ c ne. refl;
      }

  -- There is room on a tick on which j does not run.
  room_but : (k u : ℕ) → has all k ≡ true → ready_at w k ≤ u → u < ready_at w k + duration_at t k
      → (u < start_at t w j) ⊎ (end_at w j ≤ u)
      → has_room_at t w (settled t l j) k u ≡ true
  room_but k u y from to not-j =
      parts.last.room k (sym (shifted_is k) ∙ y) u from to
      (by_bool (runs_at t w (frozen_in l) u j)
      (λ on.
      let runs = runs_is t w (frozen_in l) u u j on in
      ⊎_elim (λ before. absurd (omega (arith, runs.begins))) (λ after. absurd (omega (arith, runs.ends))) not-j)
      (λ n. n))

  module _ {w' : List ℕ} {passed rest : ℕ} (so_far : Shifting t l j w old all w' passed rest) where
    ends_kept : (k : ℕ) → k < most → end_at w' k ≡ end_at w k
    ends_kept k b = so_far.same k (λ i y n e. omega arith)

    module _ (i : ℕ) (yet : has rest i ≡ true) where
      shifted : has all i ≡ true
      shifted = so_far.marks.inside i yet

      not_yet : ready_at w' i ≡ ready_at w i
      not_yet =
          so_far.same (ready_from + i)
          (λ k y n e. true_not_false (ap (has rest) {x = k} {y = i} (omega arith) ∙ yet) n)

      pub shift_late : (x : ℕ) → x ≡ ready_at w' i → ltb start (x + duration_at t i) ≡ true
          → Late t w' (settled t l j) live i x start
      shift_late x is before =
          let over : start < x + duration_at t i = ltb-true start (x + duration_at t i) before in
          let below : (k : ℕ) → has (settled t l j) k ≡ true → k < most =
          λ k y. frozen_below t l w parts.sets k (common_parts (frozen_in l) (component_at t j) k y).0 in
          record {
            among = among_same t w w' ends_kept so_far.timed (among i shifted);
            within =
                λ k y.
                let (alive, near) =
                common_parts l.live (component_at t j) k (sym (ap (λ (x : ℕ). has x k) parts.lives) ∙ y) in
                has_and (frozen_in l) (component_at t j) k ∙ both (parts.last.frozen k alive) near;
            kept =
                λ k y later.
                let (froze, near) = common_parts (frozen_in l) (component_at t j) k y in
                ap (λ (x : ℕ). has x k) parts.lives
                ∙ has_and l.live (component_at t j) k
                ∙ both (parts.last.live k froze near (omega (arith, parts.begun, ends_kept k (below k y)))) near;
            begun =
                λ k y.
                let (froze, near) = common_parts (frozen_in l) (component_at t j) k y in
                omega (arith, parts.begun, ends_kept k (below k y), parts.last.behind k froze near);
            room =
                λ u from to.
                room_same t w w' ends_kept (settled t l j) i u
                ∙ room_but i u shifted (omega (arith, not_yet)) (omega (arith, not_yet))
                (inl (omega (arith, parts.begun)));
            over = over;
          }

      -- It is shifted to its next fit, or fits where it stands.
      pub fitted : (w'' : List ℕ) (x next : ℕ) → x ≡ ready_at w' i → NextFit t w' (settled t l j) i x next
          → w'' ≡ set w' (ready_from + i) next
          → Fitted t l j w w' w'' i
      fitted w'' x next is found wrote =
          let below : i < most = omega (arith, (among i shifted).own, (among i shifted).laid.acts) in
          let timed = so_far.timed in
          let early : next ≤ latest_possible =
          by_cases
          (ℕ_discrete next x)
          (λ e. omega (arith, timed.times (ready_from + i)))
          (λ ne. let (k, y, e) = found.end ne in omega (arith, timed.times k)) in
          record {
            timed = stored_timed w' w'' i next timed below wrote early;
            fit =
                rw (stored_there w' w'' i next timed below wrote, sym not_yet, sym is)
                (fit_same t w w' ends_kept (among i shifted) found);
            other = stored_other w' w'' i next timed below wrote;
          }

      pub fits_still : (w'' : List ℕ) (x : ℕ) → x ≡ ready_at w' i
          → (end ≤ x) ⊎ (ltb start (x + duration_at t i) ≡ false)
          → w'' ≡ w'
          → Fitted t l j w w' w'' i
      fits_still w'' x is apart same =
          record {
            timed = rw same so_far.timed;
            fit =
                rw (same, not_yet)
                (record {
                  fits =
                      λ u from to.
                      room_but i u shifted from to
                      (⊎_elim
                      (λ after. inr (omega (arith, parts.ended, not_yet)))
                      (λ before.
                      inl (omega (arith, parts.begun, not_yet, ltb-false start (x + duration_at t i) before)))
                      apart);
                  from = omega arith;
                  end = λ ne. absurd (ne refl);
                  none = λ z a b. absurd (omega arith);
                });
            other = λ c ne. ap (λ (v : List ℕ). get_or v c 0) same;
          }

    module _ {rest' i : ℕ} (turn : Turn rest rest' i) {w'' : List ℕ} (now : Fitted t l j w w' w'' i) where
      ready : (k : ℕ) → k ≢ i → ready_at w'' k ≡ ready_at w' k
      ready k ne = now.other (ready_from + k) (λ e. ne (omega arith))

      shift_turn : (passed' : ℕ) → Marking (passes w'' (start_at t w j) j) old all passed' rest'
          → Shifting t l j w old all w'' passed' rest'
      shift_turn passed' marks =
          record {
            timed = now.timed;
            marks = marks;
            fit =
                λ k y n.
                by_cases
                (ℕ_discrete k i)
                (λ e. rw e now.fit)
                (λ ne. rw (ready k ne) (so_far.fit k y (sym (turn.others k ne) ∙ n)));
            same =
                λ c ne. now.other c (λ e. ne i (shifted i turn.there) turn.gone e)
                ∙ so_far.same c
                (λ k y n e. ne k y (by_bool (has rest' k) (λ z. true_not_false (turn_has turn k z) n) (λ z. z)) e);
          }

      as_was : (k : ℕ) → k ≢ i → passes w' (start_at t w j) j k ≡ passes w'' (start_at t w j) j k
      as_was k ne = ap (λ (x : ℕ). is_ahead x k (start_at t w j) j) (sym (ready k ne))

      now_passes : {x : ℕ} {r b : Bool} → x ≡ ready_at w'' i → r ≡ is_ahead x i start j → r ≡ b
          → passes w'' (start_at t w j) j i ≡ b
      now_passes is told e = ap₂ (λ (x y : ℕ). is_ahead x i y j) (sym is) (sym parts.begun) ∙ sym told ∙ e

      pub shift_passed : {x : ℕ} {r : Bool} (passed' : ℕ) → x ≡ ready_at w'' i → r ≡ is_ahead x i start j → r ≡ true
          → passed' ≡ bit_or passed (2 ^ i)
          → Shifting t l j w old all w'' passed' rest'
      shift_passed passed' is told y e =
          shift_turn passed'
          (mark_with (passes w' (start_at t w j) j) old all so_far.marks turn (passes w'' (start_at t w j) j) as_was
          passed' (now_passes is told y) e)

      pub shift_behind : {x : ℕ} {r : Bool} → x ≡ ready_at w'' i → r ≡ is_ahead x i start j → r ≡ false
          → Shifting t l j w old all w'' passed rest'
      shift_behind is told n =
          shift_turn passed
          (mark_kept (passes w' (start_at t w j) j) old all so_far.marks turn (passes w'' (start_at t w j) j) as_was
          (fresh i (shifted i turn.there) ∙ sym (now_passes is told n)))

    pub shifted_all : rest ≡ 0 → Shifts t l j w w' passed
    shifted_all none =
        record {
          timed = so_far.timed;
          low = so_far.marks.low;
          fit = λ k b y. so_far.fit k (shifted_is k ∙ y) (ap (λ (x : ℕ). has x k) none ∙ has_none k);
          same =
              λ c ne.
              so_far.same c
              (λ k y n e.
              ne k (omega (arith, (among k y).own, (among k y).laid.acts)) (sym (shifted_is k) ∙ y) e);
          passed =
              λ k b.
              marked (passes w' (start_at t w j) j) old all so_far.marks none k
              ∙ ap₂ (λ (x y : Bool). cond x (passes w' (start_at t w j) j k) y) (shifted_is k) (old_is k);
        }
