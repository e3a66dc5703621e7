-- The scan as it computes where durations are long: room is looked for on the first tick and where a frozen activity
-- starts, and the next fit where one ends. Each is what the scan's own tests, tick by tick, find.
use Prim.Native.Nat.{ℕ, zero, suc, ◌+◌, ◌-◌, ◌*◌, ◌≤◌, ◌<◌, min}
use native.Mathlib.Decide.{ℕ_discrete, dec_le}
use native.Mathlib.Omega.{arith}
use mathlib.Core.Bool.{Bool, true, false, cond, ◌&&◌}
use mathlib.Core.List.{List, [], ◌∷◌, map, foldl}
use mathlib.Core.Logic.{by_cases, ⊎_elim}
use mathlib.Core.Path.{◌≡◌, refl, sym, ap, ap₂, ◌∙◌, subst}
use borrow.Author.Tests.{leb-true, le-leb, ltb-true, lt-ltb}
use lib.Dec.{leb, ltb, eqb}
use Rattle.base.specs.Below.{every_below, max_below, ◌implies◌}
use Rattle.base.proofs.Bools.{by_bool, true_not_false, same_bool, both, and_left, and_right, cond_true, cond_false}
use Rattle.base.proofs.Bools.{elim_true, elim_false}
use Rattle.base.proofs.Below.{implies_elim, implies_intro, every_at, every_of}
use Rattle.schedule.specs.Project.{Project}
use Rattle.schedule.proofs.Load.{among, load_mono}
use Rattle.schedule.proofs.Growth.{found, later_on}
use Rattle.scan.specs.Scan.{Diagram, for_each, first_from, right_end, has_room, fits, next_fit, is_loose, combinations, move}
use Rattle.scan.specs.Scan.{freeze, shift, resolve, delete, attach, after, start, is_complete, completed, schedule_of}
use Rattle.scan.specs.Scan.{schedules}
use Rattle.scan_exact.proofs.Rooms.{has_room_lem, room_has}

-- The first one that passes.

first_here : (test : ℕ → Bool) (n x : ℕ) → test x ≡ true → first_from test n x ≡ x
unfolding first_from
first_here test zero x y = refl
first_here test (suc n) x y = elim_true (test x) x (first_from test n (suc x)) y

first_later : (test : ℕ → Bool) (k n x : ℕ) → ((z : ℕ) → x ≤ z → z < x + k → test z ≡ false)
    → first_from test (n + k) x ≡ first_from test n (x + k)
unfolding first_from
first_later test zero n x none = ap₂ (first_from test) {x = n + 0} {y = n} (omega arith) (omega arith)
first_later test (suc k) n x none =
    ap (λ (m : ℕ). first_from test m x) {x = n + suc k} {y = suc (n + k)} (omega arith)
    ∙ elim_false (test x) x (first_from test (n + k) (suc x)) (none x (omega arith) (omega arith))
    ∙ first_later test k n (suc x) (λ z a b. none z (omega (arith, a)) (omega (arith, b)))
    ∙ ap (first_from test n) {x = suc x + k} {y = x + suc k} (omega arith)

module _ (p : Project) (comp : ℕ → ℕ) (d : Diagram) (i : ℕ) where
  abbrev room : ℕ → Bool
  room = has_room p comp d i

  abbrev room_from : ℕ → ℕ → Bool
  room_from x u = (leb x u && ltb u (x + p.duration i)) implies room u

  unfoldable pub quick_fits : ℕ → Bool
  quick_fits x = room_from x x && every_below p.size λ k. d.frozen k implies room_from x (d.starts k)

  -- The first frozen end of the activities below n that comes after x, or `last`.
  unfoldable pub next_end : ℕ → ℕ → ℕ → ℕ
  next_end zero last x = last
  next_end (suc n) last x =
      min (next_end n last x) (cond (d.frozen n && ltb x (right_end p comp d n)) (right_end p comp d n) last)

  -- The next fit from x on, or `last`, where m is above the number of frozen ends.
  unfoldable pub quick_from : ℕ → ℕ → ℕ → ℕ
  quick_from zero last x = first_from (fits p comp d i) (last - x) x
  quick_from (suc m) last x =
      elim (quick_fits x) [ true ↦ x | false ↦ quick_from m last (next_end p.size last x) ]

  unfoldable pub quick_fit : ℕ → ℕ
  quick_fit x =
      quick_from (suc p.size) (x + max_below p.size λ k. cond (d.frozen k) (right_end p comp d k) 0) x

  room_from_lem : (x u : ℕ) → room_from x u ≡ true → x ≤ u → u < x + p.duration i → room u ≡ true
  room_from_lem x u e a b =
      implies_elim (leb x u && ltb u (x + p.duration i)) (room u) e
      (both (le-leb x u a) (lt-ltb u (x + p.duration i) b))

  from_room : (x u : ℕ) → (x ≤ u → u < x + p.duration i → room u ≡ true) → room_from x u ≡ true
  from_room x u f =
      implies_intro (leb x u && ltb u (x + p.duration i)) (room u)
      (λ y.
      f (leb-true x u (and_left (leb x u) (ltb u (x + p.duration i)) y))
      (ltb-true u (x + p.duration i) (and_right (leb x u) (ltb u (x + p.duration i)) y)))

  fits_at : (x : ℕ) → fits p comp d i x ≡ true → (u : ℕ) → x ≤ u → u < x + p.duration i → room u ≡ true
  unfolding fits
  fits_at x e u a b =
      ap room {x = u} {y = x + (u - x)} (omega (arith, a))
      ∙ every_at (p.duration i) (λ y. room (x + y)) e (u - x) (omega (arith, a, b))

  fits_of : (x : ℕ) → ((u : ℕ) → x ≤ u → u < x + p.duration i → room u ≡ true) → fits p comp d i x ≡ true
  unfolding fits
  fits_of x f =
      every_of (p.duration i) (λ y. room (x + y)) (λ y l. f (x + y) (omega arith) (omega (arith, l)))

  -- Between two starts no load grows.
  quick_room : (x : ℕ) → quick_fits x ≡ true → (u : ℕ) → x ≤ u → u < x + p.duration i → room u ≡ true
  unfolding quick_fits
  quick_room x e zero a b = room_from_lem x zero (ap (room_from x) (omega (arith, a)) ∙ and_left (room_from x x) _ e) a b
  quick_room x e (suc v) a b =
      by_cases (dec_le (suc v) x)
      (λ l. room_from_lem x (suc v) (ap (room_from x) (omega (arith, a, l)) ∙ and_left (room_from x x) _ e) a b)
      (λ g.
      ⊎_elim
      (λ (k, h, same).
      subst (λ (u : ℕ). room u ≡ true) same
      (room_from_lem x (d.starts k)
      (implies_elim (d.frozen k) (room_from x (d.starts k))
      (every_at p.size (λ k. d.frozen k implies room_from x (d.starts k)) (and_right (room_from x x) _ e) k
      h.below) h.there)
      (omega (arith, same, a)) (omega (arith, same, b))))
      (λ none.
      room_has p comp d i (suc v)
      (λ r l.
      omega (
        arith,
        later_on (among p d.frozen) d.starts v r none,
        has_room_lem p comp d i v (quick_room x e v (omega (arith, g)) (omega (arith, b))) r l,
      )))
      (found (among p d.frozen) d.starts (suc v)))

  fits_same : (x : ℕ) → quick_fits x ≡ fits p comp d i x
  unfolding quick_fits
  fits_same x =
      same_bool (quick_fits x) (fits p comp d i x) (λ e. fits_of x (quick_room x e))
      (λ e.
      both (from_room x x (fits_at x e x))
      (every_of p.size (λ k. d.frozen k implies room_from x (d.starts k))
      (λ k l.
      implies_intro (d.frozen k) (room_from x (d.starts k))
      (λ y. from_room x (d.starts k) (fits_at x e (d.starts k))))))

  -- No frozen activity ends after x and by z.
  abbrev NoEnd : ℕ → ℕ → Type 0
  NoEnd x z = (k : ℕ) → k < p.size → d.frozen k ≡ true → x < right_end p comp d k → z < right_end p comp d k

  -- What fits at z then fits at x.
  fits_before : (x z : ℕ) → x ≤ z → NoEnd x z → fits p comp d i z ≡ true → fits p comp d i x ≡ true
  fits_before x z l none e =
      fits_of x
      (λ u a b.
      by_cases (dec_le z u) (λ c. fits_at z e u c (omega (arith, b, l)))
      (λ c.
      room_has p comp d i u
      (λ r w.
      omega (
        arith,
        load_mono p d.frozen d.frozen d.starts d.starts u z r
            (λ k s units f runs. (
              f,
              record {
                begins = omega (arith, runs.begins, c);
                ends = none k s f (omega (arith, runs.ends, a));
              },
            )),
        has_room_lem p comp d i z (fits_at z e z (omega arith) (omega (arith, a, b))) r w,
      ))))

  -- The next end.

  abbrev later : ℕ → ℕ → Bool
  later x k = d.frozen k && ltb x (right_end p comp d k)

  end_most : (n last x : ℕ) → next_end n last x ≤ last
  unfolding next_end
  end_most zero last x = omega arith
  end_most (suc n) last x = omega (arith, end_most n last x)

  end_from : (n last x : ℕ) → x ≤ last → x ≤ next_end n last x
  unfolding next_end
  end_from zero last x l = l
  end_from (suc n) last x l =
      by_bool (later x n)
      (λ y.
      omega (
        arith,
        end_from n last x l,
        cond_true (right_end p comp d n) last y,
        ltb-true x (right_end p comp d n) (and_right (d.frozen n) (ltb x (right_end p comp d n)) y),
      ))
      (λ z. omega (arith, end_from n last x l, cond_false (right_end p comp d n) last z))

  end_least : (n last x k : ℕ) → k < n → later x k ≡ true → next_end n last x ≤ right_end p comp d k
  unfolding next_end
  end_least zero last x k l y = absurd (omega (arith, l))
  end_least (suc n) last x k l y =
      by_cases (ℕ_discrete k n)
      (λ e. omega (arith, cond_true (right_end p comp d n) last (ap (later x) (sym e) ∙ y), ap (right_end p comp d) e))
      (λ ne. omega (arith, end_least n last x k (omega (arith, l, ne)) y))

  quick_from_lem : (m last x : ℕ) → x ≤ last → quick_from m last x ≡ first_from (fits p comp d i) (last - x) x
  unfolding quick_from
  quick_from_lem zero last x l = refl
  quick_from_lem (suc m) last x l =
      let y : ℕ = next_end p.size last x in
      let test : ℕ → Bool = fits p comp d i in
      let from : x ≤ y = end_from p.size last x l in
      let to : y ≤ last = end_most p.size last x in
      by_bool (quick_fits x)
      (λ e.
      elim_true (quick_fits x) x (quick_from m last y) e
      ∙ sym (first_here test (last - x) x (sym (fits_same x) ∙ e)))
      (λ e.
      let none : (z : ℕ) → x ≤ z → z < x + (y - x) → test z ≡ false =
      λ z a b.
      by_bool (test z)
      (λ t.
      true_not_false
      (fits_before x z a
      (λ k s f c.
      omega (
        arith,
        b,
        from,
        end_least p.size last x k s (both f (lt-ltb x (right_end p comp d k) c)),
      ))
      t)
      (sym (fits_same x) ∙ e))
      (λ w. w) in
      elim_false (quick_fits x) x (quick_from m last y) e
      ∙ quick_from_lem m last y to
      ∙ ap (first_from test (last - y)) {x = y} {y = x + (y - x)} (omega (arith, from))
      ∙ sym (first_later test (y - x) (last - y) x none)
      ∙ ap (λ (n : ℕ). first_from test n x) (omega (arith, from, to)))

  quick_fit_lem : (x : ℕ) → quick_fit x ≡ next_fit p comp d i x
  unfolding quick_fit next_fit
  quick_fit_lem x =
      let last : ℕ = max_below p.size λ k. cond (d.frozen k) (right_end p comp d k) 0 in
      quick_from_lem (suc p.size) (x + last) x (omega arith)
      ∙ ap (λ (n : ℕ). first_from (fits p comp d i) n x) {x = x + last - x} {y = last} (omega arith)

-- The scan, by any way to find the next fit.
module _ (p : Project) (comp : ℕ → ℕ) (next : Diagram → ℕ → ℕ → ℕ) where
  unfoldable pub shift_by : Diagram → ℕ → Diagram
  shift_by d c =
      record {
        tick = d.tick;
        placed = d.placed;
        starts = λ k. cond (is_loose p comp d k && eqb (comp k) c) (next d k (d.starts k)) (d.starts k);
        frozen = d.frozen;
        term = d.term;
      }

  abbrev select_by : Diagram → ℕ → Diagram
  select_by d j = shift_by (freeze p comp d j) (comp j)

  abbrev after_by : Diagram → List ℕ → Diagram
  after_by d c = attach p comp (delete p comp (foldl select_by (move p comp d) c))

  unfoldable pub completed_by : ℕ → Diagram → List Diagram
  completed_by zero d = []
  completed_by (suc fuel) d =
      elim (is_complete p comp d) [
        | true ↦ d ∷ []
        | false ↦ for_each (λ c. completed_by fuel (after_by d c)) (combinations p comp (move p comp d))
      ]

  unfoldable pub schedules_by : ℕ → List (List ℕ)
  schedules_by mark = map (schedule_of p comp mark) (completed_by (suc (3 * p.size)) (start p comp))

module _ (p : Project) (comp : ℕ → ℕ) where
  completed_by_lem : (fuel : ℕ) (d : Diagram) → completed_by p comp (next_fit p comp) fuel d ≡ completed p comp fuel d
  unfolding completed_by completed shift_by shift resolve
  completed_by_lem zero d = refl
  completed_by_lem (suc fuel) d =
      λ k.
      elim (is_complete p comp d) [
        | true ↦ d ∷ []
        | false ↦
            for_each (λ c. completed_by_lem fuel (after p comp d c) k) (combinations p comp (move p comp d))
      ]

  abbrev pub quick_schedules : ℕ → List (List ℕ)
  quick_schedules = schedules_by p comp (quick_fit p comp)

  pub schedules_quick : (mark : ℕ) → quick_schedules mark ≡ schedules p comp mark
  unfolding schedules_by schedules
  schedules_quick mark =
      (λ k. schedules_by p comp (λ d i x. quick_fit_lem p comp d i x k) mark)
      ∙ ap (map (schedule_of p comp mark)) (completed_by_lem (suc (3 * p.size)) (start p comp))
