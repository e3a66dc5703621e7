-- Every move of the search is a whole move of the scan by one of its conflict combinations.
use Prim.Native.Nat.{ℕ, suc, ◌≤◌, ◌<◌}
use native.Mathlib.Decide.{ℕ_discrete, dec_le}
use native.Mathlib.Omega.{arith}
use mathlib.Core.Bool.{Bool, true, false, not, ◌&&◌, and-true, and-false}
use mathlib.Core.List.Memᴰ
use mathlib.Core.List.{[], ◌∷◌, ◌++◌, foldl-append}
use mathlib.Core.Logic.{by_cases}
use mathlib.Core.Path.{◌≡◌, refl, sym, ap, ◌∙◌, subst}
use lib.Dec.{leb, eqb}
use borrow.Author.Tests.{eq-eqb, ne_eqb, not-true, leb-true, le-leb}
use Rattle.base.proofs.Bools.{true_not_false, both, and_left, and_right, cond_false}
use Rattle.schedule.specs.Project.{Project}
use Rattle.schedule.proofs.Load.{Has}
use Rattle.branching.proofs.Room.{adding, adding_old}
use Rattle.scan.specs.Scan.{Diagram}
use Rattle.scan.specs.Scan.{right_end, held, has_room, fits, next_fit, is_loose, is_contested, in_conflict, combinations_from}
use Rattle.scan.specs.Scan.{move, freeze, shift, select, resolve, delete, attach}
use Rattle.scan_exact.specs.Comes.{onward, at_tick, Scanned, scanned_first, scanned_next, NoneDue}
use Rattle.scan_exact.specs.Comes.{Comes, begins, moves, selects, jumps, Within, Whole, at_first, at_stop}
use Rattle.scan_exact.proofs.Parts.{Part, conflict_is, part_extend, part_snoc, part_apart}
use Rattle.scan_exact.proofs.Regular.{Regular, begun_regular, delete_regular, attach_regular, move_regular}
use Rattle.scan_exact.proofs.Regular.{select_regular}
use Rattle.scan_exact.proofs.Passed.{drop_twice, Idle, passes}

module _ (p : Project) (comp : ℕ → ℕ) where
  -- What Step 4 would take out of T before j is selected, it takes out after it too.
  module _ (d : Diagram) (j : ℕ) where
    abbrev e : Diagram
    e = select p comp d j

    abbrev ended : Diagram → ℕ → Bool
    ended x i = x.frozen i && leb (right_end p comp x i) x.tick

    ended_still : (i : ℕ) → ended d i ≡ true → ended e i ≡ true
    unfolding freeze shift
    ended_still i y =
        let f : d.frozen i ≡ true = and_left (d.frozen i) (leb (right_end p comp d i) d.tick) y in
        let now : adding d.frozen j i ≡ true = adding_old d.frozen j i f in
        let at : e.starts i ≡ d.starts i =
        cond_false (next_fit p comp (freeze p comp d j) i (d.starts i)) (d.starts i)
        (ap (λ (b : Bool). d.placed i && not b && eqb (comp i) (comp j)) now
        ∙ ap (λ (b : Bool). b && eqb (comp i) (comp j)) (and-false (d.placed i))) in
        both now
        (le-leb (right_end p comp e i) d.tick
        (omega (
          arith,
          at,
          leb-true (right_end p comp d i) d.tick
              (and_right (d.frozen i) (leb (right_end p comp d i) d.tick) y),
        )))

    select_deleted : delete p comp (select p comp (delete p comp d) j) ≡ delete p comp (select p comp d j)
    unfolding freeze shift delete next_fit fits has_room held
    select_deleted y =
        record {
          tick = d.tick;
          placed = d.placed;
          starts = e.starts;
          frozen = e.frozen;
          term = λ i. drop_twice (d.term i) (ended d i) (ended e i) (ended_still i) y;
        }

  -- Two diagrams that Step 4 makes the same differ in T alone.
  module _ (d e : Diagram) (same : delete p comp d ≡ delete p comp e) where
    contested_same : (c : ℕ) → is_contested p comp d c ≡ is_contested p comp e c
    unfolding delete
    contested_same c = ap (λ (x : Diagram). is_contested p comp x c) same

    conflict_same : (c j : ℕ) → in_conflict p comp d c j ≡ in_conflict p comp e c j
    unfolding delete
    conflict_same c j = ap (λ (x : Diagram). in_conflict p comp x c j) same

    select_same : (j : ℕ) → delete p comp (select p comp d j) ≡ delete p comp (select p comp e j)
    select_same j =
        sym (select_deleted d j) ∙ ap (λ (x : Diagram). delete p comp (select p comp x j)) same ∙ select_deleted e j

    scanned_same : Scanned p comp (onward p comp e) → Scanned p comp (onward p comp d)
    scanned_same = subst (Scanned p comp) (ap (λ (x : Diagram). move p comp (attach p comp x)) (sym same))

  -- From where nothing is due the scan moves on.
  pub moved_scanned : (d : Diagram) (due : ℕ → Bool) → Whole p comp d due → NoneDue due
      → Scanned p comp (onward p comp d)
  moved_scanned d due (at_first e _) none = subst (Scanned p comp) (ap (onward p comp) (sym e)) scanned_first
  moved_scanned d due (at_stop w) none =
      scanned_same d (resolve p comp w.chosen w.stop) w.same (scanned_next w.scanned (w.whole none))

  -- Where something is due.
  within : (d : Diagram) (due : ℕ → Bool) (c : ℕ) → due c ≡ true → Whole p comp d due → Within p comp d due
  within d due c y (at_first _ none) = true_not_false y (none c)
  within d due c y (at_stop w) = w

  -- Where nothing waits.
  idle : (x : ℕ) (d : Diagram) → Regular p comp d → ((i : ℕ) → Has p i → d.placed i ≡ true)
      → ((i : ℕ) → is_loose p comp d i ≡ true → x ≤ right_end p comp d i)
      → (i : ℕ) × Has p i × (is_loose p comp d i ≡ true) × (right_end p comp d i ≡ x)
      → Idle p comp x d
  idle x d regular all later (i, h, y, end) =
      let z : d.frozen i ≡ false = not-true (d.frozen i) (and_right (d.placed i) (not (d.frozen i)) y) in
      record {
        upto = omega (arith, regular.late i (all i h) z, end);
        all = λ k t. all k (regular.known k t);
        later = later;
        last = (i, h.below, y, regular.waiting i h z, end);
      }

  -- At a stop, before Step 3.
  arrived : (d : Diagram) (due : ℕ → Bool) (stop : Diagram) → Scanned p comp stop
      → ((c : ℕ) → due c ≡ is_contested p comp d c)
      → ((i : ℕ) → Has p i → d.placed i ≡ false → d ≡ stop)
      → delete p comp d ≡ delete p comp stop
      → Within p comp d due
  unfolding resolve combinations_from
  arrived d due stop scanned contested full same =
      let left : (c : ℕ) → due c ≡ is_contested p comp stop c = λ c. contested c ∙ contested_same d stop same c in
      record {
        stop = stop;
        scanned = scanned;
        upto = 0;
        chosen = [];
        part = Memᴰ.head refl;
        done = λ c l. absurd (omega (arith, l));
        left = λ c l. left c;
        whole =
            λ none.
            part_extend p comp stop 0 p.size [] (omega arith) (λ c from to. sym (left c) ∙ none c)
            (Memᴰ.head refl);
        full = full;
        same = same;
      }

  -- The first component that is due, resolved by j.
  module _ (few : (i : ℕ) → Has p i → comp i < p.size) (d : Diagram) (regular : Regular p comp d)
      (due due' : ℕ → Bool) (w : Within p comp d due) (c j : ℕ) (is_due : due c ≡ true)
      (first : (b : ℕ) → b < c → due b ≡ false) (conflict : in_conflict p comp d c j ≡ true)
      (rest : (b : ℕ) → due' b ≡ (due b && not (eqb b c))) where
    abbrev now : Diagram
    now = resolve p comp w.chosen w.stop

    resolve_more : resolve p comp (w.chosen ++ (j ∷ [])) w.stop ≡ select p comp now j
    unfolding resolve
    resolve_more = foldl-append (select p comp) w.stop w.chosen (j ∷ [])

    from : w.upto ≤ c
    from = by_cases (dec_le w.upto c) (λ l. l) (λ n. true_not_false is_due (w.done c (omega (arith, n))))

    in_stop : in_conflict p comp w.stop c j ≡ true
    unfolding resolve
    in_stop =
        sym (part_apart p comp w.stop w.upto 0 c j w.chosen w.stop (omega (arith, from)) w.part)
        ∙ sym (conflict_same d now w.same c j)
        ∙ conflict

    has_j : Has p j
    has_j =
        let (loose, _) = conflict_is p comp d c j conflict in
        regular.inside j (and_left (d.placed j) (not (d.frozen j)) loose)

    part_more : Part p comp w.stop (w.chosen ++ (j ∷ [])) 0 (suc c)
    part_more =
        part_snoc p comp w.stop c j w.chosen (sym (w.left c from) ∙ is_due) has_j.below in_stop
        (part_extend p comp w.stop w.upto c w.chosen from (λ b low high. sym (w.left b low) ∙ first b high)
        w.part)

    done_more : (b : ℕ) → b < suc c → due' b ≡ false
    done_more b l =
        rest b
        ∙ by_cases (ℕ_discrete b c)
        (λ e. ap (λ (x : Bool). due b && not x) (eq-eqb b c e) ∙ and-false (due b))
        (λ ne. ap (λ (x : Bool). x && not (eqb b c)) (first b (omega (arith, l, ne))))

    left_more : (b : ℕ) → suc c ≤ b → due' b ≡ is_contested p comp w.stop b
    left_more b l =
        rest b
        ∙ ap (λ (x : Bool). due b && not x) (ne_eqb b c (λ e. omega (arith, e, l)))
        ∙ and-true (due b)
        ∙ w.left b (omega (arith, l, from))

    selected : Within p comp (select p comp d j) due'
    unfolding freeze shift
    selected =
        let (_, on) = conflict_is p comp d c j conflict in
        record {
          stop = w.stop;
          scanned = w.scanned;
          upto = suc c;
          chosen = w.chosen ++ (j ∷ []);
          part = part_more;
          done = done_more;
          left = left_more;
          whole =
              λ none.
              part_extend p comp w.stop (suc c) p.size (w.chosen ++ (j ∷ [])) (omega (arith, few j has_j, on))
              (λ b low high. sym (left_more b low) ∙ none b) part_more;
          full =
              λ i h z. ap (λ (x : Diagram). select p comp x j) (w.full i h z) ∙ sym resolve_more;
          same = select_same d now w.same j ∙ ap (delete p comp) (sym resolve_more);
        }

  module _ (beyond : (i : ℕ) → p.present i ≡ true → i < p.size) (few : (i : ℕ) → Has p i → comp i < p.size) where
    comes_regular : {d : Diagram} {due : ℕ → Bool} → Comes p comp d due → Regular p comp d
    comes_regular (begins none) = begun_regular p comp beyond
    comes_regular (moves {d} h none next) =
        let deleted = delete_regular p comp d (comes_regular h) in
        let attached = attach_regular p comp (delete p comp d) deleted in
        move_regular p comp (attach p comp (delete p comp d)) attached
    comes_regular (selects {d} c j h is_due first conflict rest) = select_regular p comp d (comes_regular h) j
    comes_regular (jumps {d} x h none all later last next) =
        let regular = comes_regular h in
        record {
          inside = regular.inside;
          known = regular.known;
          waiting = regular.waiting;
          late = λ i y z. later i (both y (ap not z));
        }

    pub whole_moves : {d : Diagram} {due : ℕ → Bool} → Comes p comp d due → Whole p comp d due
    whole_moves (begins none) = at_first refl none
    whole_moves (moves {d} {due} {due'} h none next) =
        at_stop
        (arrived (onward p comp d) due' (onward p comp d) (moved_scanned d due (whole_moves h) none) next
        (λ i has z. refl) refl)
    whole_moves (selects {d} {due} {due'} c j h is_due first conflict rest) =
        let w : Within p comp d due = within d due c is_due (whole_moves h) in
        at_stop (selected few d (comes_regular h) due due' w c j is_due first conflict rest)
    whole_moves (jumps {d} {due} {due'} x h none all later last next) =
        let to = passes p comp x d (idle x d (comes_regular h) all later last)
        (moved_scanned d due (whole_moves h) none) in
        at_stop
        (arrived (at_tick d x) due' to.to to.scanned next (λ i has z. true_not_false (all i has) z)
        (sym to.same))
