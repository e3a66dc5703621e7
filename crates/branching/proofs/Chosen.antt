-- An active schedule under a node is under the branch of one of its choices: that of the first activity of the
-- component that is not frozen.
use Prim.Native.Nat.{ℕ, zero, suc, ◌+◌, ◌≤◌, ◌<◌}
use native.Mathlib.Nat.{not-suc-le-zero}
use native.Mathlib.Decide.{ℕ_discrete, dec_lt}
use native.Mathlib.Omega.{arith}
use mathlib.Core.Bool.{Bool, true, false, not, ◌&&◌}
use mathlib.Core.Path.{◌≡◌, sym, ap, ◌∙◌}
use mathlib.Core.Logic.{⊎_elim, by_cases}
use lib.Dec.{eqb}
use borrow.Author.Tests.{eqb-true, eq-eqb, not-true}
use Rattle.schedule.specs.Project.{Project}
use Rattle.schedule.specs.Schedule.{Starts, end_of, load, moved}
use Rattle.base.proofs.Bools.{by_bool, both, and_left, and_right}
use Rattle.schedule.proofs.Load.{Has, Sound, among, load_mono}
use Rattle.schedule.proofs.Reflect.{Feasible, Active}
use Rattle.schedule.proofs.Moves.{Earlier, move_earlier}
use Rattle.branching.proofs.First.{First, first_of}
use Rattle.branching.proofs.Room.{Frozen, Open, Room, Soonest, room_of, adding, not_added, by_added}
use Rattle.branching.proofs.Room.{open_or_waits}
use Rattle.branching.proofs.Node.{Node, frozen_has, open_free}
use Rattle.branching.proofs.Under.{Components, Ahead, Under, LeastEnd, Choice, agree_child}

-- If all that is open ends at t or later, so does all that is not frozen: what waits ends after what it waits for.
module _ (p : Project) (F : ℕ → Bool) (sound : Sound p) (T : Starts) (f : Feasible p T) (t : ℕ)
    (open_late : (i : ℕ) → Open p F i → t ≤ end_of p T i) where
  late_within : (n k : ℕ) → Has p k → F k ≡ false → T k < n → t ≤ end_of p T k
  late_within zero k h z l = absurd (not-suc-le-zero l)
  late_within (suc n) k h z l =
      ⊎_elim
      (λ o. open_late k o)
      (λ w.
      let gap : end_of p T w.for + p.gap w.for k ≤ T k = f.ordered w.for k w.has h w.before in
      let long : 1 ≤ p.duration w.for = sound.lasts w.for w.has in
      omega (arith, late_within n w.for w.has w.waits (omega arith)))
      (open_or_waits p F k h z)

  pub ends_late : (k : ℕ) → Has p k → F k ≡ false → t ≤ end_of p T k
  ends_late k h z = late_within (suc (T k)) k h z (omega arith)

-- In T the activity j is the first of c that is not frozen.
record Foremost (p : Project) (comp : ℕ → ℕ) (F : ℕ → Bool) (c : ℕ) (T : Starts) (j : ℕ) : Type 0 where
  has : Has p j
  waits : F j ≡ false
  on : comp j ≡ c
  first : (k : ℕ) → Has p k → F k ≡ false → comp k ≡ c → T j ≤ T k
  tie : (k : ℕ) → Has p k → F k ≡ false → comp k ≡ c → T j ≡ T k → j ≤ k

foremost : (p : Project) (comp : ℕ → ℕ) (F : ℕ → Bool) (c : ℕ) (T : Starts) (i : ℕ) → Has p i → F i ≡ false
    → comp i ≡ c → (j : ℕ) × Foremost p comp F c T j
foremost p comp F c T i h z on =
    let idle : ℕ → Bool = λ k. p.present k && not (F k) in
    let test : ℕ → Bool = λ k. idle k && eqb (comp k) c in
    let passes : (k : ℕ) → Has p k → F k ≡ false → comp k ≡ c → test k ≡ true =
    λ k hk zk ck. both (both hk.there (ap not zk)) (eq-eqb (comp k) c ck)
    in
    let f : First p.size test T = first_of test T p.size i h.below (passes i h z on) in
    let j : ℕ = f.who in
    let one : idle j ≡ true = and_left (idle j) (eqb (comp j) c) f.passes in (
      j,
      record {
        has = record { below = f.below; there = and_left (p.present j) (not (F j)) one };
        waits = not-true (F j) (and_right (p.present j) (not (F j)) one);
        on = eqb-true (comp j) c (and_right (idle j) (eqb (comp j) c) f.passes);
        first = λ k hk zk ck. f.least k hk.below (passes k hk zk ck);
        tie = λ k hk zk ck. f.tie k hk.below (passes k hk zk ck);
      },
    )

module _ (p : Project) (comp : ℕ → ℕ) (sound : Sound p) (joint : Components p comp) (F : ℕ → Bool) (S : Starts)
    (node : Node p F S)
    (T : Starts) (act : Active p T) (under : Under p comp F S T) where
  feasible : Feasible p T
  feasible = act.is_feasible

  room : (i : ℕ) → Open p F i → Room p F S i (T i)
  room i o =
      room_of p F p.present S T feasible under.agrees (λ k f. (frozen_has p F S node k f).there) i o.has
      o.waits (open_free p F S node i o)

  -- Nothing of j's component that is not frozen runs on the ticks that j would take anew, if it started at u.
  Clear : ℕ → ℕ → Type 0
  Clear j u =
      (k x : ℕ) → Has p k → F k ≡ false → comp k ≡ comp j → u ≤ x → x < T j → x < u + p.duration j → x < T k

  earlier : (j u : ℕ) → Open p F j → Room p F S j u → u ≤ T j → Clear j u → Earlier p T j u
  unfolding Clear
  earlier j u o m low clear =
      record {
        lower = low;
        from_floor = m.from_floor;
        ready =
            λ i h c.
            let f : Frozen p F i = record { below = h.below; there = o.freed i h c } in
            omega (arith, under.agrees i f, m.ready i f c);
        room =
            λ x r l a b d.
            by_cases
            (ℕ_discrete (p.units j r) 0)
            (λ z. omega (arith, feasible.fits x r l))
            (λ ne.
            let frozen : load p T x r ≤ load (among p F) S x r =
            load_mono p p.present F T S x x r
            (λ k below w y runs.
            let h : Has p k = record { below = below; there = y } in
            by_bool
            (F k)
            (λ fy.
            let same : S k ≡ T k = under.agrees k (record { below = below; there = fy }) in (fy, omega arith))
            (λ fz. absurd (omega (arith, clear k x h fz (joint k j r h o.has l w (omega arith)) a b d))))
            in
            omega (arith, m.fits x r l a d));
      }

  stays : (j u : ℕ) → Open p F j → Room p F S j u → Clear j u → T j ≤ u
  stays j u o m clear =
      let y : p.free j ≡ true = open_free p F S node j o in
      by_cases
      (dec_lt u (T j))
      (λ l.
      absurd (act.least j o.has y u l
      (move_earlier p T j u o.has (earlier j u o m (omega arith) clear) feasible y)))
      (λ l. omega arith)

  -- The only one of its component that is not frozen starts at its earliest.
  pub alone_starts : (j u : ℕ) → Open p F j → Soonest p F S j u
      → ((k : ℕ) → Has p k → F k ≡ false → comp k ≡ comp j → k ≡ j)
      → T j ≡ u
  unfolding Clear
  alone_starts j u o soon alone =
      omega (
        arith,
        soon.least (T j) (room j o),
        stays j u o soon.room (λ k x h z same a b d. omega (arith, b, ap T (alone k h z same))),
      )

  module _ (e : ℕ → ℕ) (soon : (i : ℕ) → Open p F i → Soonest p F S i (e i)) (t c : ℕ)
      (tick : LeastEnd p comp F e t c) where
    late : (k : ℕ) → Has p k → F k ≡ false → t ≤ end_of p T k
    late =
        ends_late p F sound T feasible t (λ i o. omega (arith, tick.least i o, (soon i o).least (T i) (room i o)))

    module _ (j : ℕ) (m : Foremost p comp F c T j) where
      -- Else the activity that makes the tick could start at its earliest.
      starts_before : T j < t
      unfolding Clear
      starts_before =
          let o : Open p F tick.who = tick.is_open in
          by_cases
          (dec_lt (T j) t)
          (λ l. l)
          (λ l.
          let long : 1 ≤ p.duration tick.who = sound.lasts tick.who o.has in
          let first : T j ≤ T tick.who = m.first tick.who o.has o.waits tick.on in
          absurd (
          omega (
            arith,
            tick.ends,
            stays tick.who (e tick.who) o (soon tick.who o).room
                (λ k x h z same a b d. omega (arith, tick.ends, m.first k h z (same ∙ tick.on))),
          )
          ))

      -- What precedes it is over before the tick, and so frozen.
      is_open : Open p F j
      is_open =
          ⊎_elim
          (λ o. o)
          (λ w.
          absurd (
          omega (
            arith,
            starts_before,
            late w.for w.has w.waits,
            feasible.ordered w.for j w.has m.has w.before,
          )
          ))
          (open_or_waits p F j m.has m.waits)

      starts : T j ≡ e j
      unfolding Clear
      starts =
          omega (
            arith,
            (soon j is_open).least (T j) (room j is_open),
            stays j (e j) is_open (soon j is_open).room
                (λ k x h z same a b d. omega (arith, m.first k h z (same ∙ m.on))),
          )

      is_choice : Choice p comp F S e t c j
      is_choice =
          record {
            is_open = is_open;
            on = m.on;
            before = omega (arith, starts, starts_before);
            after =
                λ k f y same.
                let a : Ahead (T k) k (T j) j = under.after k j f y m.has m.waits (m.on ∙ sym same) in
                let sk : S k ≡ T k = under.agrees k f in
                record { low = omega (arith, starts); tie = λ w. a.tie (omega (arith, starts)) };
          }

      under_branch : Under p comp (adding F j) (moved S j (e j)) T
      under_branch =
          record {
            agrees = agree_child p F S j (e j) is_open T under.agrees starts;
            after =
                λ k i f y h z same.
                let (ne, zi) = not_added F j i z in
                by_added
                p
                F
                j
                k
                f
                (λ q.
                let ci : comp i ≡ c = same ∙ ap comp q ∙ m.on in
                let tk : T k ≡ T j = ap T q in
                record {
                  low = omega (arith, m.first i h zi ci);
                  tie = λ w. omega (arith, ne, m.tie i h zi ci (omega arith));
                })
                (λ nk g. under.after k i g y h zi same);
          }

    pub chosen : (j : ℕ) × Choice p comp F S e t c j × Under p comp (adding F j) (moved S j (e j)) T
    chosen =
        let o : Open p F tick.who = tick.is_open in
        let (j, m) = foremost p comp F c T tick.who o.has o.waits tick.on in
        (j, is_choice j m, under_branch j m)
