-- The earliest starts of what is left and not contested, in the diagram and once some of it is frozen.
use Prim.Native.Nat.{ℕ, ◌+◌, ◌≤◌, ◌<◌, max}
use native.Mathlib.Decide.{dec_le}
use native.Mathlib.Omega.{arith}
use mathlib.Core.Bool.{Bool, true, false, not, ◌&&◌}
use mathlib.Core.List.{List}
use mathlib.Core.Logic.{◌≢◌, ⊎_elim, by_cases}
use mathlib.Core.Path.{◌≡◌, refl, sym, ap, ◌∙◌}
use borrow.Author.Tests.{not-true}
use Rattle.base.proofs.Bools.{by_bool, true_not_false, both, and_left, and_right}
use Rattle.sets.specs.Sets.{has}
use Rattle.schedule.specs.Schedule.{Starts, end_of}
use Rattle.schedule.proofs.Load.{Has, Runs, among}
use Rattle.schedule.proofs.Agree.{Agree}
use Rattle.branching.proofs.Room.{Frozen, Open, Room, Soonest, open_or_waits}
use Rattle.branching.proofs.Node.{Node}
use Rattle.branching.proofs.Under.{Ahead}
use Rattle.scan.specs.Scan.{Diagram}
use Rattle.scan_exact.proofs.Standing.{is_frozen}
use Rattle.instance.specs.Instance.{own_of, Instance}
use Rattle.instance.proofs.Own.{own_is}
use Rattle.instance.specs.Table.{acts_of, present_of, duration_at, own_at, tight_of, project_in}
use Rattle.profile.specs.Work.{end_at, free_at, soon_at}
use Rattle.steps.specs.Steps.{frozen_in, loose_in}
use Rattle.steps.specs.declared.Line.{Line}
use Rattle.steps.proofs.Own.{tight_with}
use Rattle.steps.proofs.Given.{has_is, has_of, scannable}
use Rattle.steps.proofs.Free.{alone_fits, tight_alone}
use Rattle.steps.proofs.Sets.{left_is, left_of, loose_shown}
use Rattle.unbranched.specs.Position.{Position}
use Rattle.completion.specs.Rest.{Uncontested}
use Rattle.completion.proofs.Apart.{room_less, room_more}

end_is : (t : List ℕ) (S : Starts) (k : ℕ) → end_of (project_in t) S k ≡ S k + duration_at t k
unfolding project_in
end_is t S k = refl

lasts : (t : List ℕ) → Instance t → (k : ℕ) → Has (project_in t) k → 1 ≤ duration_at t k
unfolding project_in
lasts t given k h = given.laid.long k h.below

-- More is frozen than in the diagram, and `rest` is left.
pub record Beyond (t : List ℕ) (l : Line) (d : Diagram) (F : ℕ → Bool) (S : Starts) (rest : ℕ) : Type 0 where
  pub node : Node (project_in t) F S
  pub inside : (i : ℕ) → F i ≡ true → Has (project_in t) i
  pub left : (i : ℕ) → has rest i ≡ (has (present_of t) i && not (F i))
  pub within : (i : ℕ) → has rest i ≡ true → has l.left i ≡ true
  pub agrees : Agree (among (project_in t) d.frozen) d.starts S
  pub late : (i : ℕ) → has l.left i ≡ true → F i ≡ true → l.tick ≤ S i + duration_at t i

module _ (t : List ℕ) (given : Instance t) (l : Line) (w : List ℕ) (d : Diagram) (at : Position t l w d)
    (apart : Uncontested t l.left) (F : ℕ → Bool) (S : Starts) (rest : ℕ) (beyond : Beyond t l d F S rest) where
  -- What is left is present, and frozen neither here nor in the diagram.
  rest_is : (i : ℕ) → has rest i ≡ true → Has (project_in t) i × (F i ≡ false)
  rest_is i y =
      let two : (has (present_of t) i && not (F i)) ≡ true = sym (beyond.left i) ∙ y in (
        has_of t given i (and_left (has (present_of t) i) (not (F i)) two),
        not-true (F i) (and_right (has (present_of t) i) (not (F i)) two),
      )

  pub rest_of : (i : ℕ) → Has (project_in t) i → F i ≡ false → has rest i ≡ true
  rest_of i h z = beyond.left i ∙ both (has_is t given i h) (ap not z)

  pub unfrozen : (i : ℕ) → has rest i ≡ true → d.frozen i ≡ false
  unfrozen i y = (left_is t given l w d at.shows d.tick at.stands i (beyond.within i y)).1

  more : (k : ℕ) → Frozen (project_in t) d.frozen k → F k ≡ true
  more k f =
      by_bool (F k) (λ y. y)
      (λ z.
      true_not_false f.there
      (unfrozen k (rest_of k (at.stands.inside k (at.stands.within k f.there)) z)))

  -- What was frozen since was left.
  since : (k : ℕ) → Has (project_in t) k → d.frozen k ≡ false → has l.left k ≡ true
  since k h z = left_of t given l w d at.shows d.tick at.stands k (has_is t given k h) z

  less : (i x : ℕ) → Room (project_in t) F S i x → Room (project_in t) d.frozen d.starts i x
  less i x = room_less (project_in t) d.frozen F d.starts S more beyond.agrees i x

  module _ (j : ℕ) (rests : has rest j ≡ true) where
    abbrev has_j : Has (project_in t) j
    has_j = (rest_is j rests).0

    abbrev left_j : has l.left j ≡ true
    left_j = beyond.within j rests

    tight_j : has (tight_of t) j ≡ true
    tight_j = apart.tight j left_j

    -- Nothing of its component was.
    off : (k : ℕ) → Frozen (project_in t) F k → d.frozen k ≡ false → own_of t k ≢ own_of t j
    off k f z on =
        let same : k ≡ j = apart.sole k j (since k (beyond.inside k f.there) z) left_j on in
        true_not_false f.there (ap F same ∙ (rest_is j rests).1)

    old : (k : ℕ) → Frozen (project_in t) F k → own_of t k ≡ own_of t j → d.frozen k ≡ true
    old k f on = by_bool (d.frozen k) (λ y. y) (λ z. absurd (off k f z on))

    joined : (x : ℕ)
        → ((k : ℕ) → Frozen (project_in t) F k → (project_in t).precedes k j ≡ true
        → end_of (project_in t) S k + (project_in t).gap k j ≤ x)
        → Room (project_in t) d.frozen d.starts j x
        → Room (project_in t) F S j x
    joined x =
        room_more (project_in t) d.frozen F d.starts S more beyond.agrees j x (own_of t)
        (scannable t given).joint beyond.node has_j off

    -- No other of its component runs where it would.
    no_other : (k u x : ℕ) → d.frozen k ≡ true → own_of t k ≡ own_of t j → Room (project_in t) F S j x
        → x ≤ u → u < x + duration_at t j → d.starts k ≤ u → u < d.starts k + duration_at t k → ⊥
    unfolding project_in
    no_other k u x f on room from to begins ends =
        tight_alone t given d d.tick at.stands j has_j u tight_j k f on
        (λ e. true_not_false f (ap d.frozen e ∙ unfrozen j rests))
        (record { begins = begins; ends = ends })
        (λ r b. (less j x room).fits u r b from to)

    module _ (is_open : Open (project_in t) F j) where
      -- What was not open before waits for one that was frozen since.
      by_old : {C : Type 0} (x : ℕ) → Room (project_in t) F S j x → (Open (project_in t) d.frozen j → C)
          → (l.tick ≤ x → C)
          → C
      by_old x room before now =
          ⊎_elim before
          (λ waits.
          let f : Frozen (project_in t) F waits.for =
          record { below = waits.has.below; there = is_open.freed waits.for waits.has waits.before } in
          now
          (omega (
            arith,
            room.ready waits.for f waits.before,
            end_is t S waits.for,
            beyond.late waits.for (since waits.for waits.has waits.waits) f.there,
          )))
          (open_or_waits (project_in t) d.frozen j has_j (unfrozen j rests))

      pub ends_late : (x : ℕ) → Room (project_in t) F S j x → l.tick ≤ x + duration_at t j
      ends_late x room =
          by_old x room
          (λ o.
          omega (arith, end_is t (λ k. x) j, at.shows.tick, at.stands.late j o x (less j x room)))
          (λ le. omega (arith, le))

      starts_late : has l.placed j ≡ false → (x : ℕ) → Room (project_in t) F S j x → l.tick ≤ x
      starts_late off x room =
          by_old x room
          (λ o.
          omega (
            arith,
            at.shows.tick,
            at.stands.unplaced j o (at.shows.placed j ∙ off) x (less j x room),
          ))
          (λ le. le)

      -- What was frozen of its component comes before it.
      pub comes_after : (e : ℕ) → Room (project_in t) F S j e → (k : ℕ) → Frozen (project_in t) F k
          → own_of t k ≡ own_of t j
          → Ahead (S k) k e j
      comes_after e room k f on =
          let g : d.frozen k ≡ true = old k f on in
          let same : d.starts k ≡ S k = beyond.agrees k (is_frozen (project_in t) d d.tick at.stands k g) in
          let early = at.stands.before k g in
          let late = ends_late e room in
          let long = lasts t given k (beyond.inside k f.there) in
          by_cases (dec_le (d.starts k + duration_at t k) e)
          (λ le. record { low = omega (arith, le, long, same); tie = λ q. absurd (omega (arith, le, long, same, q)) })
          (λ gt.
          absurd
          (no_other k (max e (d.starts k)) e g on room (omega arith)
          (omega (arith, early, late, lasts t given j has_j, at.shows.tick))
          (omega arith) (omega (arith, gt, long))))

      -- One that is placed starts where it did.
      pub soon_placed : has (loose_in l) j ≡ true → Soonest (project_in t) F S j (soon_at t w j)
      soon_placed loose =
          let (there, z) = loose_shown t given l w d at.shows d.tick at.stands j loose in
          let soon : Soonest (project_in t) d.frozen d.starts j (d.starts j) = at.stands.at j there z in
          rw (sym (at.shows.loose j loose))
          (record {
            room =
                joined (d.starts j)
                (λ k f o.
                let g : Frozen (project_in t) d.frozen k =
                is_frozen (project_in t) d d.tick at.stands k
                (at.stands.behind j k there (beyond.inside k f.there) o) in
                omega (arith, beyond.agrees k g, soon.room.ready k g o))
                soon.room;
            least = λ x room. soon.least x (less j x room);
          })

      -- Any other starts from the tick on, once what precedes it has ended and its component is free.
      module _ (off_line : has l.placed j ≡ false) (from : ℕ) (ticked : l.tick ≤ from)
          (after : (k : ℕ) → F k ≡ true → (project_in t).precedes k j ≡ true → S k + duration_at t k ≤ from)
          (least : (x : ℕ) → l.tick ≤ x
          → ((k : ℕ) → F k ≡ true → (project_in t).precedes k j ≡ true → S k + duration_at t k ≤ x)
          → from ≤ x) where
        abbrev e : ℕ
        e = max from (free_at w (own_at t j))

        own_same : (k : ℕ) → k < acts_of t → own_of t k ≡ own_of t j → own_at t k ≡ own_at t j
        unfolding project_in
        own_same k b on = own_is t given.laid k b ∙ on ∙ sym (own_is t given.laid j has_j.below)

        -- Nothing of its component runs then.
        idle : (u k : ℕ) → e ≤ u → d.frozen k ≡ true → own_of t k ≡ own_of t j
            → Runs (project_in t) d.starts u k
            → ⊥
        unfolding project_in
        idle u k from_e f on runs =
            let shown : has (frozen_in l) k ≡ true = sym (at.shows.frozen k) ∙ f in
            let below : k < acts_of t = (at.stands.inside k (at.stands.within k f)).below in
            let end = at.shows.ended k shown in
            let free : free_at w (own_at t k) ≡ free_at w (own_at t j) = ap (free_at w) (own_same k below on) in
            ⊎_elim (λ le. omega (arith, le, runs.ends, end, free)) (λ le. omega (arith, le, runs.ends, end))
            (at.shows.tight k shown (tight_with t given.laid j k has_j.below below on tight_j))

        room_here : Room (project_in t) F S j e
        unfolding project_in
        room_here =
            joined e (λ k f o. omega (arith, after k f.there o))
            (record {
              from_floor = omega arith;
              ready =
                  λ k f o.
                  omega (arith, beyond.agrees k f, after k (more k f) o);
              fits =
                  λ u r b from_e to.
                  alone_fits t given d d.tick at.stands j has_j u (λ k f on runs. idle u k from_e f on runs) r b;
            })

        free_by : (x : ℕ) → Room (project_in t) F S j x → free_at w (own_at t j) ≤ x
        unfolding project_in
        free_by x room =
            ⊎_elim (λ z. omega (arith, z))
            (λ (k, shown, own, end).
            let f : d.frozen k ≡ true = at.shows.frozen k ∙ shown in
            let below : k < acts_of t = (at.stands.inside k (at.stands.within k f)).below in
            let on : own_of t k ≡ own_of t j =
            sym (own_is t given.laid k below) ∙ own ∙ own_is t given.laid j has_j.below in
            by_cases (dec_le (end_at w k) x) (λ le. omega (arith, le, end))
            (λ gt.
            absurd
            (no_other k x x f on room (omega arith) (omega (arith, given.laid.long j has_j.below))
            (omega (arith, at.stands.before k f, at.shows.tick, starts_late off_line x room))
            (omega (arith, gt, at.shows.ended k shown)))))
            (at.shows.freed j tight_j)

        pub soon_waiting : Soonest (project_in t) F S j (max from (free_at w (own_at t j)))
        unfolding project_in
        soon_waiting =
            record {
              room = room_here;
              least =
                  λ x room.
                  omega (
                    arith,
                    free_by x room,
                    least x (starts_late off_line x room)
                        (λ k f o.
                        omega (arith, room.ready k (record { below = (beyond.inside k f).below; there = f }) o)),
                  );
            }
