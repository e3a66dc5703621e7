-- What each step keeps: what is not frozen is in T, and what of it is placed does not end before the scan-line.
use Prim.Native.Nat.{ℕ, zero, suc, ◌≤◌, ◌<◌}
use native.Mathlib.Omega.{arith}
use mathlib.Core.Bool.{Bool, true, false, not, ◌&&◌, ◌||◌, or-false}
use mathlib.Core.List.{[], ◌∷◌, Memᴰ}
use mathlib.Core.Path.{◌≡◌, refl, sym, ap, ◌∙◌, subst}
use lib.Dec.{leb, ltb, eqb}
use Rattle.base.specs.Lists.{gather}
use Rattle.base.proofs.Bools.{by_bool, true_not_false, both, and_left, cond_true, cond_false, elim_true, elim_false}
use Rattle.base.proofs.Lists.{gather_mem, least_below}
use Rattle.schedule.specs.Project.{Project}
use Rattle.schedule.proofs.Load.{Has}
use Rattle.branching.proofs.Room.{not_added}
use Rattle.scan.specs.Scan.{Diagram}
use Rattle.scan.specs.Scan.{first_from, some, right_end, ready_tick, has_room, fits, next_fit, is_loose, is_waiting, stop_of}
use Rattle.scan.specs.Scan.{move, freeze, shift, select, delete, can_attach, attach, begun}

pub record Regular (p : Project) (comp : ℕ → ℕ) (d : Diagram) : Type 0 where
  pub inside : (i : ℕ) → d.placed i ≡ true → Has p i
  pub known : (i : ℕ) → d.term i ≡ true → Has p i
  pub waiting : (i : ℕ) → Has p i → d.frozen i ≡ false → d.term i ≡ true
  pub late : (i : ℕ) → d.placed i ≡ true → d.frozen i ≡ false → d.tick ≤ right_end p comp d i

first_late : (test : ℕ → Bool) (n x : ℕ) → x ≤ first_from test n x
unfolding first_from
first_late test zero x = omega arith
first_late test (suc n) x =
    by_bool (test x) (λ y. omega (arith, elim_true (test x) x (first_from test n (suc x)) y))
    (λ z. omega (arith, elim_false (test x) x (first_from test n (suc x)) z, first_late test n (suc x)))

module _ (p : Project) (comp : ℕ → ℕ) where
  next_late : (d : Diagram) (i x : ℕ) → x ≤ next_fit p comp d i x
  unfolding next_fit
  next_late d i x = first_late (fits p comp d i) _ x

  -- The end of what is placed and in T is a stopping time.
  pub stop_end : (d : Diagram) (i : ℕ) → (d.placed i && d.term i) ≡ true
      → stop_of p comp d i ≡ right_end p comp d i ∷ []
  stop_end d i y =
      elim_true (d.placed i && d.term i) (right_end p comp d i ∷ [])
      (elim (is_waiting p comp d i && ltb d.tick (ready_tick p comp d i)) [
        | true ↦ ready_tick p comp d i ∷ []
        | false ↦ []
      ])
      y

  pub stop_mem : (d : Diagram) (i : ℕ) → i < p.size → (d.placed i && d.term i) ≡ true
      → Memᴰ (right_end p comp d i) (gather p.size (stop_of p comp d))
  stop_mem d i l y =
      gather_mem p.size (stop_of p comp d) i l
      (subst (Memᴰ (right_end p comp d i)) (sym (stop_end d i y)) (Memᴰ.head refl))

  pub begun_regular : ((i : ℕ) → p.present i ≡ true → i < p.size) → Regular p comp (begun p comp)
  unfolding begun
  begun_regular beyond =
      let has : (i : ℕ) → p.present i ≡ true → Has p i = λ i y. record { below = beyond i y; there = y } in
      record {
        inside = λ i y. has i (and_left (p.present i) (not (p.free i)) y);
        known = has;
        waiting = λ i h z. h.there;
        late = λ i y z. true_not_false y z;
      }

  module _ (d : Diagram) (regular : Regular p comp d) where
    pub delete_regular : Regular p comp (delete p comp d)
    unfolding delete
    delete_regular =
        record {
          inside = regular.inside;
          known =
              λ i y.
              regular.known i (and_left (d.term i) (not (d.frozen i && leb (right_end p comp d i) d.tick)) y);
          waiting =
              λ i h z.
              both (regular.waiting i h z) (ap (λ (b : Bool). not (b && leb (right_end p comp d i) d.tick)) z);
          late = regular.late;
        }

    attach_term : (i : ℕ) → can_attach p comp d i ≡ true → d.term i ≡ true
    attach_term i y =
        let before : Bool = some p comp (λ k. d.term k && p.precedes k i) in
        let ready : Bool = leb (ready_tick p comp d i) d.tick in
        and_left (d.term i) (not (d.placed i))
        (and_left (d.term i && not (d.placed i)) (not before)
        (and_left (is_waiting p comp d i) ready
        (and_left (is_waiting p comp d i && ready) (has_room p comp d i d.tick) y)))

    -- It was placed, or is attached.
    by_attach : {C : Type 0} (i : ℕ) → (attach p comp d).placed i ≡ true → (can_attach p comp d i ≡ true → C)
        → (can_attach p comp d i ≡ false → d.placed i ≡ true → C)
        → C
    unfolding attach
    by_attach i y new old =
        by_bool (can_attach p comp d i) new
        (λ z. old z (sym (ap (λ (b : Bool). d.placed i || b) z ∙ or-false (d.placed i)) ∙ y))

    pub attach_regular : Regular p comp (attach p comp d)
    unfolding attach
    attach_regular =
        record {
          inside = λ i y. by_attach i y (λ c. regular.known i (attach_term i c)) (λ _ old. regular.inside i old);
          known = regular.known;
          waiting = regular.waiting;
          late =
              λ i y z.
              by_attach i y (λ c. omega (arith, cond_true d.tick (d.starts i) c))
              (λ n old. omega (arith, cond_false d.tick (d.starts i) n, regular.late i old z));
        }

    pub move_regular : Regular p comp (move p comp d)
    unfolding move
    move_regular =
        record {
          inside = regular.inside;
          known = regular.known;
          waiting = regular.waiting;
          late =
              λ i y z.
              let h : Has p i = regular.inside i y in
              least_below (gather p.size (stop_of p comp d)) (right_end p comp d i)
              (stop_mem d i h.below (both y (regular.waiting i h z)));
        }

    pub select_regular : (j : ℕ) → Regular p comp (select p comp d j)
    unfolding freeze shift
    select_regular j =
        record {
          inside = regular.inside;
          known = regular.known;
          waiting = λ i h z. regular.waiting i h (not_added d.frozen j i z).1;
          late =
              λ i y z.
              let now : Diagram = freeze p comp d j in
              let old : d.tick ≤ right_end p comp d i = regular.late i y (not_added d.frozen j i z).1 in
              by_bool (is_loose p comp now i && eqb (comp i) (comp j))
              (λ t.
              omega (
                arith,
                old,
                cond_true (next_fit p comp now i (d.starts i)) (d.starts i) t,
                next_late now i (d.starts i),
              ))
              (λ n. omega (arith, old, cond_false (next_fit p comp now i (d.starts i)) (d.starts i) n));
        }
