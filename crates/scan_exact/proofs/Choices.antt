-- The choices at a stop: the conflict activities of a contested component are the branches of its node.
use Prim.Native.Nat.{ℕ, ◌<◌}
use native.Mathlib.Omega.{arith}
use mathlib.Core.Bool.{true, false, not, ◌&&◌}
use mathlib.Core.List.{List, Memᴰ}
use mathlib.Core.Path.{◌≡◌, sym, ap, ◌∙◌}
use lib.Dec.{ltb, eqb}
use borrow.Author.Tests.{eqb-true, eq-eqb, ltb-true, lt-ltb, not-true}
use Rattle.base.specs.Below.{◌implies◌}
use Rattle.base.specs.Lists.{gather}
use Rattle.base.proofs.Bools.{by_bool, both, and_left, and_right}
use Rattle.base.proofs.Below.{every_at, every_of, implies_elim, implies_intro}
use Rattle.schedule.specs.Project.{Project}
use Rattle.schedule.specs.Schedule.{end_of}
use Rattle.branching.proofs.Room.{Frozen, Open, Soonest}
use Rattle.branching.proofs.Under.{Ahead, Under, LeastEnd, Choice, ahead_is, ahead_of}
use Rattle.branching.proofs.Rows.{Rows, branch_rows}
use Rattle.scan.specs.Scan.{Diagram}
use Rattle.scan.specs.Scan.{ready_tick, next_fit, right_end, is_loose, is_direct, is_contested, is_ahead, is_next}
use Rattle.scan.specs.Scan.{in_conflict, select}
use Rattle.scan_exact.proofs.Standing.{Scannable, Standing, placed_open, soonest_open, soonest_same}
use Rattle.scan_exact.proofs.Selected.{select_rows}
use Rattle.scan_exact.proofs.Attached.{some_is}

module _ (p : Project) (comp : ℕ → ℕ) (given : Scannable p comp) (e : Diagram) (standing : Standing p e e.tick)
    (c : ℕ) where
  abbrev soon_in : ℕ → ℕ
  soon_in i = next_fit p comp e i (ready_tick p comp e i)

  soon : (i : ℕ) → Open p e.frozen i → Soonest p e.frozen e.starts i (soon_in i)
  soon i o = soonest_open p e e.tick standing comp given i o

  -- What is placed and not frozen stands there.
  stands_at : (i : ℕ) → e.placed i ≡ true → e.frozen i ≡ false → e.starts i ≡ soon_in i
  stands_at i y z =
      soonest_same p e.frozen e.starts i (e.starts i) (soon_in i) (standing.at i y z)
      (soon i (placed_open p e e.tick standing i y z))

  -- A component that is contested: one of it that is not frozen ends first of all.
  contested : is_contested p comp e c ≡ true → LeastEnd p comp e.frozen soon_in e.tick c
  contested some =
      let (i, l, y) = some_is p comp (λ i. is_direct p comp e i && eqb (comp i) c) some in
      let direct : is_direct p comp e i ≡ true = and_left (is_direct p comp e i) (eqb (comp i) c) y in
      let on : comp i ≡ c = eqb-true (comp i) c (and_right (is_direct p comp e i) (eqb (comp i) c) y) in
      let loose : is_loose p comp e i ≡ true =
      and_left (is_loose p comp e i) (eqb (right_end p comp e i) e.tick) direct in
      let end : end_of p e.starts i ≡ e.tick =
      eqb-true (right_end p comp e i) e.tick
      (and_right (is_loose p comp e i) (eqb (right_end p comp e i) e.tick) direct) in
      let there : e.placed i ≡ true = and_left (e.placed i) (not (e.frozen i)) loose in
      let waits : e.frozen i ≡ false =
      not-true (e.frozen i) (and_right (e.placed i) (not (e.frozen i)) loose) in
      record {
        least = λ k o. standing.late k o (soon_in k) (soon k o).room;
        who = i;
        is_open = placed_open p e e.tick standing i there waits;
        on = on;
        ends = omega (arith, stands_at i there waits, end);
      }

  -- A conflict activity by its parts.
  pub record Conflict (j : ℕ) : Type 0 where
    pub there : e.placed j ≡ true
    pub waits : e.frozen j ≡ false
    pub on : comp j ≡ c
    pub early : e.starts j < e.tick
    pub next : is_next p comp e j ≡ true

  pub conflict_parts : (j : ℕ) → in_conflict p comp e c j ≡ true → Conflict j
  conflict_parts j y =
      let three : (is_loose p comp e j && eqb (comp j) c && ltb (e.starts j) e.tick) ≡ true =
      and_left (is_loose p comp e j && eqb (comp j) c && ltb (e.starts j) e.tick) (is_next p comp e j) y in
      let two : (is_loose p comp e j && eqb (comp j) c) ≡ true =
      and_left (is_loose p comp e j && eqb (comp j) c) (ltb (e.starts j) e.tick) three in
      let loose : is_loose p comp e j ≡ true = and_left (is_loose p comp e j) (eqb (comp j) c) two in
      record {
        there = and_left (e.placed j) (not (e.frozen j)) loose;
        waits = not-true (e.frozen j) (and_right (e.placed j) (not (e.frozen j)) loose);
        on = eqb-true (comp j) c (and_right (is_loose p comp e j) (eqb (comp j) c) two);
        early =
            ltb-true (e.starts j) e.tick
            (and_right (is_loose p comp e j && eqb (comp j) c) (ltb (e.starts j) e.tick) three);
        next =
            and_right (is_loose p comp e j && eqb (comp j) c && ltb (e.starts j) e.tick) (is_next p comp e j) y;
      }

  pub parts_conflict : (j : ℕ) → Conflict j → in_conflict p comp e c j ≡ true
  parts_conflict j x =
      both
      (both (both (both x.there (ap not x.waits)) (eq-eqb (comp j) c x.on))
      (lt-ltb (e.starts j) e.tick x.early))
      x.next

  -- The conflict activities are the choices.
  choice_of : (j : ℕ) → Conflict j → Choice p comp e.frozen e.starts soon_in e.tick c j
  choice_of j x =
      let at : e.starts j ≡ soon_in j = stands_at j x.there x.waits in
      record {
        is_open = placed_open p e e.tick standing j x.there x.waits;
        on = x.on;
        before = omega (arith, at, x.early);
        after =
            λ k f free same.
            let a : Ahead (e.starts k) k (e.starts j) j =
            ahead_is (e.starts k) k (e.starts j) j
            (implies_elim (e.frozen k && p.free k && eqb (comp k) (comp j))
            (is_ahead p comp (e.starts k) k (e.starts j) j)
            (every_at p.size
            (λ m.
            (e.frozen m && p.free m && eqb (comp m) (comp j))
            implies is_ahead p comp (e.starts m) m (e.starts j) j)
            x.next k f.below)
            (both (both f.there free) (eq-eqb (comp k) (comp j) (same ∙ sym x.on)))) in
            record { low = omega (arith, a.low, at); tie = λ z. a.tie (omega (arith, at, z)) };
      }

  conflict_of : (j : ℕ) → Choice p comp e.frozen e.starts soon_in e.tick c j → Conflict j
  conflict_of j b =
      let there : e.placed j ≡ true =
      by_bool (e.placed j) (λ y. y)
      (λ z.
      absurd
      (omega (
        arith,
        b.before,
        standing.unplaced j b.is_open z (soon_in j) (soon j b.is_open).room,
      ))) in
      let at : e.starts j ≡ soon_in j = stands_at j there b.is_open.waits in
      record {
        there = there;
        waits = b.is_open.waits;
        on = b.on;
        early = omega (arith, at, b.before);
        next =
            every_of p.size
            (λ k.
            (e.frozen k && p.free k && eqb (comp k) (comp j))
            implies is_ahead p comp (e.starts k) k (e.starts j) j)
            (λ k l.
            implies_intro (e.frozen k && p.free k && eqb (comp k) (comp j))
            (is_ahead p comp (e.starts k) k (e.starts j) j)
            (λ y.
            let two : (e.frozen k && p.free k) ≡ true =
            and_left (e.frozen k && p.free k) (eqb (comp k) (comp j)) y in
            let f : Frozen p e.frozen k =
            record { below = l; there = and_left (e.frozen k) (p.free k) two } in
            let a : Ahead (e.starts k) k (soon_in j) j =
            b.after k f (and_right (e.frozen k) (p.free k) two)
            (eqb-true (comp k) (comp j) (and_right (e.frozen k && p.free k) (eqb (comp k) (comp j)) y) ∙ b.on) in
            ahead_of (e.starts k) k (e.starts j) j
            (record { low = omega (arith, a.low, at); tie = λ z. a.tie (omega (arith, at, z)) })));
      }

  -- The schedules under the diagram are those under it with each of them selected.
  pub branched : (mark : ℕ) (below : ℕ → List (List ℕ)) → is_contested p comp e c ≡ true
      → ((j : ℕ) → Conflict j
      → Rows p mark (Under p comp (select p comp e j).frozen (select p comp e j).starts) (below j))
      → ((j : ℕ) (row : List ℕ) → Memᴰ row (below j) → Conflict j)
      → Rows p mark (Under p comp e.frozen e.starts) (gather p.size below)
  branched mark below some each other =
      branch_rows p comp mark e.frozen e.starts given.sound given.joint standing.node soon_in soon
      e.tick c (contested some) p.size below
      (record {
        inside = λ j b. b.is_open.has.below;
        each =
            λ j b.
            let x : Conflict j = conflict_of j b in
            select_rows p comp given e standing j x.there x.waits x.early mark (soon_in j) (below j)
            (stands_at j x.there x.waits) (each j x);
        other = λ j row m. choice_of j (other j row m);
      })
