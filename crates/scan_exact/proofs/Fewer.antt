-- What a move uses up: members of T, activities that are not frozen, and those that are not placed and not ready.
use Prim.Native.Nat.{ℕ, suc, ◌+◌, ◌*◌, ◌≤◌, ◌<◌}
use native.Mathlib.Decide.{dec_le}
use native.Mathlib.Omega.{arith}
use mathlib.Core.Bool.{Bool, true, false, not, cond, ◌&&◌, ◌||◌, and-false, or-true}
use mathlib.Core.Logic.{by_cases}
use mathlib.Core.Path.{◌≡◌, refl, sym, ap, ◌∙◌}
use lib.Dec.{ltb, eqb, leb}
use borrow.Author.Tests.{ltb-true, lt-ltb, eq-eqb, le-leb, not-true}
use Rattle.base.specs.Below.{sum_below}
use Rattle.base.proofs.Bools.{by_bool, true_not_false, both, and_left, and_right, cond_true, cond_false}
use Rattle.base.proofs.Below.{cond_le, cond_mono, sum_le_but, sum_const}
use Rattle.schedule.specs.Project.{Project}
use Rattle.schedule.proofs.Load.{Has}
use Rattle.scan.specs.Scan.{Diagram}
use Rattle.scan.specs.Scan.{some, right_end, ready_tick, is_direct, is_contested, move, delete}
use Rattle.scan.specs.Scan.{can_attach, attach}
use Rattle.scan_exact.proofs.Rooms.{ready_after, ready_floor, ready_least}
use Rattle.scan_exact.proofs.Standing.{Scannable, Standing, is_frozen}
use Rattle.scan_exact.proofs.Attached.{some_of, some_not, some_none, delete_standing, delete_gone, attach_kept}
use Rattle.scan_exact.proofs.Moved.{Stops, ends, readies}
use Rattle.scan_exact.proofs.Combinations.{Resolved}

module _ (p : Project) (comp : ℕ → ℕ) where
  abbrev is_held : Diagram → ℕ → Bool
  is_held d i = some p comp (λ k. d.term k && p.precedes k i) || ltb d.tick (ready_tick p comp d i)

  abbrev waits : Diagram → ℕ → Bool
  waits d i = p.present i && not (d.placed i) && is_held d i

  abbrev left : Diagram → ℕ → Bool
  left d i = p.present i && not (d.frozen i)

  abbrev share : Diagram → ℕ → ℕ
  share d i = cond (d.term i) 1 0 + cond (left d i) 1 0 + cond (waits d i) 1 0

  unfoldable pub to_go : Diagram → ℕ
  to_go d = sum_below p.size λ i. share d i

  pub to_go_most : (d : Diagram) → to_go d ≤ 3 * p.size
  unfolding to_go
  to_go_most d =
      let one : ℕ = 1 in
      omega (
        arith,
        sum_const p.size (share d) 3
            (λ i l. omega (arith, cond_le (d.term i) one, cond_le (left d i) one, cond_le (waits d i) one)),
      )

  -- Not held: no predecessor in T, and ready.
  free_of : (d : Diagram) (i : ℕ) → is_held d i ≡ false
      → ((k : ℕ) → k < p.size → d.term k ≡ true → p.precedes k i ≡ true → ⊥) × (ready_tick p comp d i ≤ d.tick)
  free_of d i z =
      let test : ℕ → Bool = λ k. d.term k && p.precedes k i in
      let none : some p comp test ≡ false =
      by_bool (some p comp test)
      (λ y. true_not_false (ap (λ (x : Bool). x || ltb d.tick (ready_tick p comp d i)) y) z) (λ n. n) in
      let late : ltb d.tick (ready_tick p comp d i) ≡ false =
      sym (ap (λ (x : Bool). x || ltb d.tick (ready_tick p comp d i)) none) ∙ z in (
        λ k l t c. true_not_false (both t c) (some_not p comp test none k l),
        by_cases (dec_le (ready_tick p comp d i) d.tick) (λ y. y)
            (λ n.
            true_not_false (lt-ltb d.tick (ready_tick p comp d i) (omega (arith, n))) late),
      )

  free_is : (d : Diagram) (i : ℕ)
      → ((k : ℕ) → k < p.size → d.term k ≡ true → p.precedes k i ≡ true → ⊥)
      → ready_tick p comp d i ≤ d.tick
      → is_held d i ≡ false
  free_is d i none ready =
      let test : ℕ → Bool = λ k. d.term k && p.precedes k i in
      ap (λ (x : Bool). x || ltb d.tick (ready_tick p comp d i))
      (some_none p comp test
      (λ k l y. none k l (and_left (d.term k) (p.precedes k i) y) (and_right (d.term k) (p.precedes k i) y)))
      ∙ by_bool (ltb d.tick (ready_tick p comp d i))
      (λ y. absurd (omega (arith, ltb-true d.tick (ready_tick p comp d i) y, ready))) (λ z. z)

  module _ (given : Scannable p comp) (mark : ℕ) (d : Diagram) (standing : Standing p d (suc d.tick))
      (later : d.tick ≤ (move p comp d).tick)
      (at : Standing p (move p comp d) (move p comp d).tick) (stop : Stops p comp d (move p comp d).tick)
      (e : Diagram) (now : Resolved p comp given mark (move p comp d) at e p.size) where
    abbrev m : Diagram
    m = move p comp d

    abbrev n : Diagram
    n = attach p comp (delete p comp e)

    deleted : Standing p (delete p comp e) (delete p comp e).tick
    deleted = delete_standing p comp given e now.stands

    -- What is kept from d to n.
    tick_is : n.tick ≡ m.tick
    unfolding attach delete
    tick_is = now.tick

    frozen_kept : (i : ℕ) → d.frozen i ≡ true → (n.frozen i ≡ true) × (n.starts i ≡ d.starts i)
    unfolding attach delete move
    frozen_kept i f =
        let (frozen, starts) = now.more i f in (
          frozen,
          attach_kept p comp given (delete p comp e) deleted (delete_gone p comp given e now.stands) i
              (now.stands.within i frozen)
              ∙ starts,
        )

    term_less : (i : ℕ) → n.term i ≡ true → d.term i ≡ true
    unfolding attach delete move
    term_less i y =
        sym (now.term i) ∙ and_left (e.term i) (not (e.frozen i && leb (right_end p comp e i) e.tick)) y

    placed_kept : (i : ℕ) → d.placed i ≡ true → n.placed i ≡ true
    unfolding attach delete move
    placed_kept i y =
        ap (λ (x : Bool). x || can_attach p comp (delete p comp e) i) (now.placed i ∙ y)

    -- What has no predecessor in T and is ready by the new tick is not held any more.
    freed : (i : ℕ) → ((k : ℕ) → k < p.size → d.term k ≡ true → p.precedes k i ≡ true → ⊥)
        → ready_tick p comp d i ≤ n.tick
        → is_held n i ≡ false
    freed i none ready =
        free_is n i (λ k l t c. none k l (term_less k t) c)
        (ready_least p comp n i n.tick (omega (arith, ready_floor p comp d i, ready))
        (λ k h c.
        let f : d.frozen k ≡ true =
        by_bool (d.frozen k) (λ y. y) (λ z. absurd (none k h.below (standing.waiting k h z) c)) in
        let (_, starts) = frozen_kept k f in
        omega (
          arith,
          starts,
          ready_after p comp d standing.node i k (is_frozen p d (suc d.tick) standing k f) c,
          ready,
        )))

    no_waits : (i : ℕ) → is_held n i ≡ false → waits n i ≡ false
    no_waits i z =
        ap (λ (x : Bool). p.present i && not (n.placed i) && x) z ∙ and-false (p.present i && not (n.placed i))

    term_le : (i : ℕ) → cond (n.term i) 1 0 ≤ cond (d.term i) 1 0
    term_le i = cond_mono (n.term i) (d.term i) 1 (term_less i)

    left_le : (i : ℕ) → cond (left n i) 1 0 ≤ cond (left d i) 1 0
    left_le i =
        cond_mono (left n i) (left d i) 1
        (λ y.
        both (and_left (p.present i) (not (n.frozen i)) y)
        (ap not
        (by_bool (d.frozen i)
        (λ f.
        true_not_false (frozen_kept i f).0
        (not-true (n.frozen i) (and_right (p.present i) (not (n.frozen i)) y)))
        (λ z. z))))

    waits_le : (i : ℕ) → cond (waits n i) 1 0 ≤ cond (waits d i) 1 0
    waits_le i =
        cond_mono (waits n i) (waits d i) 1
        (λ y.
        let two : (p.present i && not (n.placed i)) ≡ true =
        and_left (p.present i && not (n.placed i)) (is_held n i) y in
        both
        (both (and_left (p.present i) (not (n.placed i)) two)
        (ap not
        (by_bool (d.placed i)
        (λ old.
        true_not_false (placed_kept i old)
        (not-true (n.placed i) (and_right (p.present i) (not (n.placed i)) two)))
        (λ z. z))))
        (by_bool (is_held d i) (λ h. h)
        (λ z.
        let (none, ready) = free_of d i z in
        true_not_false (and_right (p.present i && not (n.placed i)) (is_held n i) y)
        (freed i none (omega (arith, ready, later, tick_is))))))

    fewer_at : (j : ℕ) → j < p.size → share n j + 1 ≤ share d j → to_go n < to_go d
    unfolding to_go
    fewer_at j l falls =
        omega (
          arith,
          sum_le_but p.size (λ i. share n i) (λ i. share d i) j 1 0 l
              (λ i l' ne. omega (arith, term_le i, left_le i, waits_le i)) (omega (arith, falls)),
        )

    fewer_term : (j : ℕ) → j < p.size → d.term j ≡ true → n.term j ≡ false → to_go n < to_go d
    fewer_term j l y z =
        let one : ℕ = 1 in
        fewer_at j l (omega (arith, left_le j, waits_le j, cond_true one 0 y, cond_false one 0 z))

    fewer_left : (j : ℕ) → Has p j → d.frozen j ≡ false → n.frozen j ≡ true → to_go n < to_go d
    fewer_left j h z y =
        let one : ℕ = 1 in
        let out : left n j ≡ false = ap (λ (x : Bool). p.present j && not x) y ∙ and-false (p.present j) in
        fewer_at j h.below
        (omega (
          arith,
          term_le j,
          waits_le j,
          cond_true one 0 (both h.there (ap not z)),
          cond_false one 0 out,
        ))

    fewer_waits : (j : ℕ) → j < p.size → waits d j ≡ true → waits n j ≡ false → to_go n < to_go d
    fewer_waits j l y z =
        let one : ℕ = 1 in
        fewer_at j l (omega (arith, term_le j, left_le j, cond_true one 0 y, cond_false one 0 z))

    frozen_more : (j : ℕ) → e.frozen j ≡ true → n.frozen j ≡ true
    unfolding attach delete
    frozen_more j y = y

    by_stop : Stops p comp d m.tick → to_go n < to_go d
    unfolding attach delete move
    by_stop (ends i y t end) =
        let h : Has p i = standing.inside i y in
        by_bool (d.frozen i)
        (λ f.
        let (frozen, starts) = now.more i f in
        fewer_term i h.below t
        (ap (λ (x : Bool). e.term i && not x)
        (both frozen (le-leb (right_end p comp e i) e.tick (omega (arith, starts, end, now.tick))))
        ∙ and-false (e.term i)))
        (λ z.
        let contested : is_contested p comp m (comp i) ≡ true =
        some_of p comp (λ k. is_direct p comp m k && eqb (comp k) (comp i)) i h.below
        (both (both (both y (ap not z)) (eq-eqb (right_end p comp m i) m.tick (sym end)))
        (eq-eqb (comp i) (comp i) refl)) in
        let (j, hj, old, new) = now.fewer (comp i) (given.few i h) contested in
        fewer_left j hj old (frozen_more j new))
    by_stop (readies i w l end) =
        let test : ℕ → Bool = λ k. d.term k && p.precedes k i in
        let two : (d.term i && not (d.placed i)) ≡ true =
        and_left (d.term i && not (d.placed i)) (not (some p comp test)) w in
        let h : Has p i = standing.known i (and_left (d.term i) (not (d.placed i)) two) in
        let none : some p comp test ≡ false =
        not-true (some p comp test) (and_right (d.term i && not (d.placed i)) (not (some p comp test)) w) in
        fewer_waits i h.below
        (both (both h.there (and_right (d.term i) (not (d.placed i)) two))
        (ap (λ (x : Bool). some p comp test || x) (lt-ltb d.tick (ready_tick p comp d i) l)
        ∙ or-true (some p comp test)))
        (no_waits i
        (freed i (λ k b t c. true_not_false (both t c) (some_not p comp test none k b))
        (omega (arith, tick_is, end))))

    pub falls : to_go (attach p comp (delete p comp e)) < to_go d
    falls = by_stop stop
