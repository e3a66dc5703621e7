-- Step 2. As long as an activity is not frozen there is a next stopping time, and nothing that is not frozen ends
-- before it or can be placed before it.
use Prim.Native.Nat.{ℕ, suc, ◌+◌, ◌≤◌, ◌<◌}
use native.Mathlib.Omega.{arith}
use mathlib.Core.Bool.{Bool, true, false, not, ◌&&◌}
use mathlib.Core.List.{List, [], ◌∷◌, Memᴰ}
use mathlib.Core.Logic.{⊎_elim}
use mathlib.Core.Path.{◌≡◌, refl, sym, ap, ◌∙◌, subst}
use lib.Dec.{ltb}
use borrow.Author.Tests.{ltb-true, lt-ltb}
use Rattle.base.specs.Below.{◌implies◌}
use Rattle.base.specs.Lists.{gather, least_of}
use Rattle.base.proofs.Bools.{by_bool, both, and_left, and_right, elim_true, elim_false}
use Rattle.base.proofs.Below.{every_fails, implies_fails}
use Rattle.base.proofs.Lists.{gather_is, gather_mem, least_below}
use Rattle.schedule.specs.Project.{Project}
use Rattle.schedule.specs.Schedule.{Starts, end_of}
use Rattle.schedule.proofs.Load.{Has}
use Rattle.branching.proofs.Room.{Frozen, Open, Room, Soonest, Ranked, some_open}
use Rattle.branching.proofs.Fit.{soonest_at}
use Rattle.scan.specs.Scan.{Diagram, some, right_end, ready_tick, next_fit, is_waiting, stop_of, move, is_complete}
use Rattle.scan.proofs.Components.{least_in}
use Rattle.scan_exact.proofs.Rooms.{ready_after, ready_floor, ready_least}
use Rattle.scan_exact.proofs.Standing.{Scannable, Standing, ends_late, soonest_open}
use Rattle.scan_exact.proofs.Attached.{Gone, some_is}

-- What makes s a stopping time.
pub data Stops (p : Project) (comp : ℕ → ℕ) (d : Diagram) (s : ℕ) : Type 0 where
  ends : (i : ℕ) → d.placed i ≡ true → d.term i ≡ true → s ≡ end_of p d.starts i → Stops p comp d s
  readies : (i : ℕ) → is_waiting p comp d i ≡ true → d.tick < ready_tick p comp d i → s ≡ ready_tick p comp d i
      → Stops p comp d s

module _ (p : Project) (comp : ℕ → ℕ) (given : Scannable p comp) (rank : ℕ → ℕ) (ranked : Ranked p rank)
    (d : Diagram) (standing : Standing p d (suc d.tick)) (gone : Gone p d) where
  abbrev F : ℕ → Bool
  F = d.frozen

  abbrev S : Starts
  S = d.starts

  abbrev stops : List ℕ
  stops = gather p.size (stop_of p comp d)

  abbrev waits_ready : ℕ → Bool
  waits_ready i = is_waiting p comp d i && ltb d.tick (ready_tick p comp d i)

  abbrev ready_stop : ℕ → List ℕ
  ready_stop i = elim (waits_ready i) [ true ↦ ready_tick p comp d i ∷ [] | false ↦ [] ]

  stop_placed : (i : ℕ) → d.placed i ≡ true → d.term i ≡ true → Memᴰ (end_of p S i) stops
  stop_placed i y t =
      gather_mem p.size (stop_of p comp d) i (standing.inside i y).below
      (subst (Memᴰ (end_of p S i))
      (sym (elim_true (d.placed i && d.term i) (right_end p comp d i ∷ []) (ready_stop i) (both y t)))
      (mathlib.Core.List.Memᴰ.head refl))

  stop_ready : (i : ℕ) → Has p i → d.placed i ≡ false → is_waiting p comp d i ≡ true
      → d.tick < ready_tick p comp d i
      → Memᴰ (ready_tick p comp d i) stops
  stop_ready i h z w l =
      gather_mem p.size (stop_of p comp d) i h.below
      (subst (Memᴰ (ready_tick p comp d i))
      (sym
      (elim_false (d.placed i && d.term i) (right_end p comp d i ∷ []) (ready_stop i)
      (ap (λ (x : Bool). x && d.term i) z)
      ∙ elim_true (waits_ready i) (ready_tick p comp d i ∷ []) []
      (both w (lt-ltb d.tick (ready_tick p comp d i) l))))
      (mathlib.Core.List.Memᴰ.head refl))

  stop_is : (s : ℕ) → Memᴰ s stops → Stops p comp d s
  stop_is s m =
      let (i, b, k) = gather_is p.size (stop_of p comp d) m in
      by_bool (d.placed i && d.term i)
      (λ y.
      ends i (and_left (d.placed i) (d.term i) y) (and_right (d.placed i) (d.term i) y)
      (mathlib.Core.List.Memᴰ.eq_of_singleton
      (subst (Memᴰ s) (elim_true (d.placed i && d.term i) (right_end p comp d i ∷ []) (ready_stop i) y) k)))
      (λ z.
      let k' : Memᴰ s (ready_stop i) =
      subst (Memᴰ s) (elim_false (d.placed i && d.term i) (right_end p comp d i ∷ []) (ready_stop i) z) k in
      by_bool (waits_ready i)
      (λ y.
      readies i (and_left (is_waiting p comp d i) (ltb d.tick (ready_tick p comp d i)) y)
      (ltb-true d.tick (ready_tick p comp d i)
      (and_right (is_waiting p comp d i) (ltb d.tick (ready_tick p comp d i)) y))
      (mathlib.Core.List.Memᴰ.eq_of_singleton
      (subst (Memᴰ s) (elim_true (waits_ready i) (ready_tick p comp d i ∷ []) [] y) k')))
      (λ n.
      absurd
      (mathlib.Core.List.Memᴰ.not-nil (subst (Memᴰ s) (elim_false (waits_ready i) (ready_tick p comp d i ∷ []) [] n) k'))))

  -- A stopping time up to x.
  abbrev By : ℕ → Type 0
  By x = (s : ℕ) × Memᴰ s stops × (s ≤ x)

  unplaced_stop : (i : ℕ) → Open p F i → d.placed i ≡ false → (x : ℕ) → Room p F S i x → By x
  unplaced_stop i o z x room =
      let b : ℕ = ready_tick p comp d i in
      let e : ℕ = next_fit p comp d i b in
      let soon : Soonest p F S i e = soonest_open p d (suc d.tick) standing comp given i o in
      let low : suc d.tick ≤ e = standing.unplaced i o z e soon.room in
      let high : e ≤ x = soon.least x room in
      let frozen_at : (k : ℕ) → Has p k → p.precedes k i ≡ true → Frozen p F k =
      λ k h c. record { below = h.below; there = o.freed k h c } in
      ⊎_elim
      (λ same.
      by_bool (some p comp (λ k. d.term k && p.precedes k i))
      (λ y.
      let (k, _, tc) = some_is p comp (λ k. d.term k && p.precedes k i) y in
      let t : d.term k ≡ true = and_left (d.term k) (p.precedes k i) tc in
      let c : p.precedes k i ≡ true = and_right (d.term k) (p.precedes k i) tc in
      let f : Frozen p F k = frozen_at k (standing.known k t) c in (
        end_of p S k,
        stop_placed k (standing.within k f.there) t,
        omega (arith, ready_after p comp d standing.node i k f c, same, high),
      ))
      (λ none. (
        b,
        stop_ready i o.has z
            (both (both (standing.waiting i o.has o.waits) (ap not z)) (ap not none))
            (omega (arith, low, same)),
        omega (arith, same, high),
      )))
      (λ (k, f, end). (
        end_of p S k,
        stop_placed k (standing.within k f.there) (standing.running k f.there (omega (arith, end, low))),
        omega (arith, end, high),
      ))
      (soonest_at p F S i b e (given.sound.lasts i o.has) (ready_floor p comp d i)
      (λ k f c. ready_after p comp d standing.node i k f c)
      (ready_least p comp d i e soon.room.from_floor (λ k h c. soon.room.ready k (frozen_at k h c) c))
      soon)

  open_stop : (i : ℕ) → Open p F i → (x : ℕ) → Room p F S i x → By (x + p.duration i)
  open_stop i o x room =
      by_bool (d.placed i)
      (λ y. (
        end_of p S i,
        stop_placed i y (standing.waiting i o.has o.waits),
        omega (arith, (standing.at i y o.waits).least x room),
      ))
      (λ z. let (s, m, l) = unplaced_stop i o z x room in (s, m, omega (arith, l)))

  -- It is the first of the stopping times.
  move_first : (x : ℕ) → By x → (move p comp d).tick ≤ x
  unfolding move
  move_first x (s, m, l) = omega (arith, least_below stops s m, l)

  -- No end of what is placed and in T comes before it.
  pub move_upto : (i : ℕ) → d.placed i ≡ true → d.term i ≡ true → (move p comp d).tick ≤ end_of p d.starts i
  move_upto i y t = move_first (end_of p S i) (end_of p S i, stop_placed i y t, omega arith)

  module _ (rest : is_complete p comp d ≡ false) where
    pub move_stops : Stops p comp d (move p comp d).tick
    unfolding move
    move_stops =
        let (i, b, fails) = every_fails p.size (λ i. d.term i implies d.frozen i) rest in
        let (t, z) = implies_fails (d.term i) (d.frozen i) fails in
        let (k, o) = some_open p F rank ranked i (standing.known i t) z in
        let soon = soonest_open p d (suc d.tick) standing comp given k o in
        let (s, m, _) = open_stop k o (next_fit p comp d k (ready_tick p comp d k)) soon.room in
        stop_is (least_of stops) (least_in stops s m)

    pub move_later : d.tick ≤ (move p comp d).tick
    move_later =
        by_stop move_stops
      where
        by_stop : Stops p comp d (move p comp d).tick → d.tick ≤ (move p comp d).tick
        by_stop (ends i y t e) =
            by_bool (d.frozen i) (λ f. omega (arith, gone i f t, e))
            (λ z. omega (arith, ends_late p d (suc d.tick) standing i y z, e))
        by_stop (readies i w l e) = omega (arith, l, e)

    pub move_standing : Standing p (move p comp d) (move p comp d).tick
    unfolding move
    move_standing =
        record {
          node = standing.node;
          inside = standing.inside;
          known = standing.known;
          within = standing.within;
          waiting = standing.waiting;
          running = λ i y l. standing.running i y (omega (arith, l, move_later));
          before = λ i y. omega (arith, standing.before i y, move_later);
          behind = standing.behind;
          at = standing.at;
          unplaced = λ i o z x room. move_first x (unplaced_stop i o z x room);
          late = λ i o x room. move_first (x + p.duration i) (open_stop i o x room);
        }
