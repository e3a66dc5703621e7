-- Where nothing waits, the empty combination is one at each stop before the first end of what is not frozen, and the
-- moves up to there change nothing but T and the tick.
use Prim.Native.Nat.{ℕ, zero, suc, ◌+◌, ◌≤◌, ◌<◌}
use native.Mathlib.Decide.{ℕ_discrete}
use native.Mathlib.Omega.{arith}
use mathlib.Core.Bool.{Bool, true, false, not, ◌&&◌, ◌||◌, and-true, and-false, or-false}
use mathlib.Core.List.Memᴰ
use mathlib.Core.List.{List, [], ◌∷◌, Memᴰ}
use mathlib.Core.Logic.{by_cases}
use mathlib.Core.Path.{◌≡◌, refl, sym, ap, ◌∙◌, subst}
use lib.Dec.{leb, ltb, eqb}
use borrow.Author.Tests.{eqb-true, leb-true, leb-false, le-leb, not-true}
use Rattle.base.specs.Lists.{gather}
use Rattle.base.proofs.Bools.{by_bool, true_not_false, both, not_both, and_left, and_right, cond_false, elim_false}
use Rattle.base.proofs.Lists.{gather_is, least_below}
use Rattle.schedule.specs.Project.{Project}
use Rattle.scan.specs.Scan.{Diagram}
use Rattle.scan.specs.Scan.{some, right_end, ready_tick, has_room, is_loose, is_direct, is_contested, is_waiting, stop_of, move}
use Rattle.scan.specs.Scan.{resolve, delete, can_attach, attach}
use Rattle.scan_exact.specs.Comes.{onward, at_tick, Scanned, scanned_next}
use Rattle.scan_exact.proofs.Attached.{some_none}
use Rattle.scan.proofs.Components.{least_in}
use Rattle.scan_exact.proofs.Parts.{part_empty}
use Rattle.scan_exact.proofs.Regular.{stop_end, stop_mem}

pub drop_twice : (a u v : Bool) → (u ≡ true → v ≡ true) → (a && not u && not v) ≡ (a && not v)
drop_twice a true v f = rw (f refl) (and-false (a && false) ∙ sym (and-false a))
drop_twice a false v f = ap (λ (b : Bool). b && not v) (and-true a)

module _ (p : Project) (comp : ℕ → ℕ) (x : ℕ) where
  -- All of T is placed, and x is the first end of what is not frozen.
  pub record Idle (g : Diagram) : Type 0 where
    pub upto : g.tick ≤ x
    pub all : (i : ℕ) → g.term i ≡ true → g.placed i ≡ true
    pub later : (i : ℕ) → is_loose p comp g i ≡ true → x ≤ right_end p comp g i
    pub last : (i : ℕ) × (i < p.size) × (is_loose p comp g i ≡ true) × (g.term i ≡ true) × (right_end p comp g i ≡ x)

  module _ (g : Diagram) (idle : Idle g) where
    abbrev e : Diagram
    e = delete p comp g

    abbrev h : Diagram
    h = move p comp (delete p comp g)

    abbrev ended : ℕ → ℕ → Bool
    ended y i = g.frozen i && leb (right_end p comp g i) y

    -- Nothing is attached.
    waits_not : (i : ℕ) → is_waiting p comp e i ≡ false
    unfolding delete
    waits_not i =
        let before : Bool = some p comp (λ k. e.term k && p.precedes k i) in
        by_bool (is_waiting p comp e i)
        (λ y.
        let two : (e.term i && not (g.placed i)) ≡ true = and_left (e.term i && not (g.placed i)) (not before) y in
        let t : e.term i ≡ true = and_left (e.term i) (not (g.placed i)) two in
        true_not_false (idle.all i (and_left (g.term i) (not (ended g.tick i)) t))
        (not-true (g.placed i) (and_right (e.term i) (not (g.placed i)) two)))
        (λ z. z)

    attach_none : (i : ℕ) → can_attach p comp e i ≡ false
    attach_none i =
        ap (λ (b : Bool). b && leb (ready_tick p comp e i) e.tick && has_room p comp e i e.tick) (waits_not i)

    attach_same : attach p comp e ≡ e
    unfolding attach
    attach_same y =
        record {
          tick = e.tick;
          placed = λ i. (ap (λ (b : Bool). e.placed i || b) (attach_none i) ∙ or-false (e.placed i)) y;
          starts = λ i. cond_false e.tick (e.starts i) (attach_none i) y;
          frozen = e.frozen;
          term = e.term;
        }

    onward_is : onward p comp g ≡ move p comp (delete p comp g)
    onward_is = ap (move p comp) attach_same

    -- The next stop.
    abbrev stops : List ℕ
    stops = gather p.size (stop_of p comp (delete p comp g))

    stop_none : (i : ℕ) → (e.placed i && e.term i) ≡ false → stop_of p comp e i ≡ []
    stop_none i z =
        let is_ready : Bool = is_waiting p comp e i && ltb e.tick (ready_tick p comp e i) in
        let ready : List ℕ = elim is_ready [ true ↦ ready_tick p comp e i ∷ [] | false ↦ [] ] in
        elim_false (e.placed i && e.term i) (right_end p comp e i ∷ []) ready z
        ∙ elim_false is_ready (ready_tick p comp e i ∷ []) []
        (ap (λ (b : Bool). b && ltb e.tick (ready_tick p comp e i)) (waits_not i))

    loose_kept : (i : ℕ) → is_loose p comp g i ≡ true → g.term i ≡ true → e.term i ≡ true
    unfolding delete
    loose_kept i y t =
        both t
        (ap (λ (b : Bool). not (b && leb (right_end p comp g i) g.tick))
        (not-true (g.frozen i) (and_right (g.placed i) (not (g.frozen i)) y)))

    last_stop : Memᴰ x stops
    unfolding delete
    last_stop =
        let (i, b, y, t, end) = idle.last in
        let there : g.placed i ≡ true = and_left (g.placed i) (not (g.frozen i)) y in
        subst (λ (k : ℕ). Memᴰ k stops) end (stop_mem p comp e i b (both there (loose_kept i y t)))

    stop_by : h.tick ≤ x
    unfolding move
    stop_by = least_below stops x last_stop

    stop_after : h.tick < x → g.tick < h.tick
    unfolding move delete
    stop_after l =
        let (i, b, m) = gather_is p.size (stop_of p comp e) (least_in stops x last_stop) in
        by_bool (e.placed i && e.term i)
        (λ y.
        let end : h.tick ≡ right_end p comp g i =
        Memᴰ.eq_of_singleton (subst (Memᴰ h.tick) (stop_end p comp e i y) m) in
        let t : e.term i ≡ true = and_right (g.placed i) (e.term i) y in
        by_bool (g.frozen i)
        (λ f.
        omega (
          arith,
          end,
          leb-false (right_end p comp g i) g.tick
              (not_both (g.frozen i) (leb (right_end p comp g i) g.tick)
              (not-true (ended g.tick i) (and_right (g.term i) (not (ended g.tick i)) t)) f),
        ))
        (λ z.
        absurd (omega (arith, l, end, idle.later i (both (and_left (g.placed i) (e.term i) y) (ap not z))))))
        (λ z. absurd (Memᴰ.not-nil (subst (Memᴰ h.tick) (stop_none i z) m)))

    idle_next : Idle h
    unfolding move delete
    idle_next =
        let (i, b, y, t, end) = idle.last in
        record {
          upto = stop_by;
          all = λ k t. idle.all k (and_left (g.term k) (not (ended g.tick k)) t);
          later = idle.later;
          last = (i, b, y, loose_kept i y t, end);
        }

    none_contested : h.tick < x → (c : ℕ) → is_contested p comp h c ≡ false
    unfolding move delete
    none_contested l c =
        some_none p comp (λ i. is_direct p comp h i && eqb (comp i) c)
        (λ i b y.
        let direct : is_direct p comp h i ≡ true = and_left (is_direct p comp h i) (eqb (comp i) c) y in
        omega (
          arith,
          l,
          idle.later i (and_left (is_loose p comp g i) (eqb (right_end p comp g i) h.tick) direct),
          eqb-true (right_end p comp g i) h.tick
              (and_right (is_loose p comp g i) (eqb (right_end p comp g i) h.tick) direct),
        ))

    -- T at x is what it would have been.
    delete_same : delete p comp (at_tick h x) ≡ delete p comp (at_tick g x)
    unfolding move delete
    delete_same y =
        record {
          tick = x;
          placed = g.placed;
          starts = g.starts;
          frozen = g.frozen;
          term =
              λ i.
              drop_twice (g.term i) (ended g.tick i) (ended x i)
              (λ t.
              both (and_left (g.frozen i) (leb (right_end p comp g i) g.tick) t)
              (le-leb (right_end p comp g i) x
              (omega (
                arith,
                idle.upto,
                leb-true (right_end p comp g i) g.tick
                    (and_right (g.frozen i) (leb (right_end p comp g i) g.tick) t),
              ))))
              y;
        }

  -- The stop at x, and what comes of it in Step 4.
  pub record Passes (g : Diagram) : Type 0 where
    pub to : Diagram
    pub scanned : Scanned p comp to
    pub same : delete p comp to ≡ delete p comp (at_tick g x)

  module _ (g : Diagram) (idle : Idle g) (s : Scanned p comp (onward p comp g)) where
    abbrev next : Diagram
    next = move p comp (delete p comp g)

    next_scanned : Scanned p comp next
    next_scanned = subst (Scanned p comp) (onward_is g idle) s

    passes_here : next.tick ≡ x → Passes g
    passes_here at =
        record {
          to = next;
          scanned = next_scanned;
          same = ap (λ (y : ℕ). delete p comp (at_tick next y)) at ∙ delete_same g idle;
        }

    passes_on : Passes next → Passes g
    passes_on r = record { to = r.to; scanned = r.scanned; same = r.same ∙ delete_same g idle }

    -- By the empty combination.
    on_scanned : next.tick < x → Scanned p comp (onward p comp next)
    unfolding resolve
    on_scanned l =
        scanned_next next_scanned (part_empty p comp next p.size 0 (λ b from to. none_contested g idle l b))

  pass : (n : ℕ) (g : Diagram) → Idle g → Scanned p comp (onward p comp g) → x < g.tick + n → Passes g
  pass zero g idle s l = absurd (omega (arith, l, idle.upto))
  pass (suc n) g idle s l =
      let h : Diagram = move p comp (delete p comp g) in
      by_cases (ℕ_discrete h.tick x) (passes_here g idle s)
      (λ ne.
      let low : h.tick < x = omega (arith, stop_by g idle, ne) in
      passes_on g idle s
      (pass n h (idle_next g idle) (on_scanned g idle s low) (omega (arith, l, stop_after g idle low))))

  pub passes : (g : Diagram) → Idle g → Scanned p comp (onward p comp g) → Passes g
  passes g idle s = pass (suc x) g idle s (omega arith)
