-- All that is left is in one component, in which no two can run together: once one of it is frozen, the others can
-- start when it ends.
use Prim.Native.Nat.{ℕ, ◌+◌, ◌-◌, ◌^◌, ◌≤◌, ◌<◌, max}
use native.Mathlib.Decide.{ℕ_discrete, dec_le}
use native.Mathlib.Nat.{le_antisymm}
use native.Mathlib.Omega.{arith}
use mathlib.Core.Bool.{Bool, true, false, not, cond, ◌&&◌, and-true, and-false}
use mathlib.Core.List.{List}
use mathlib.Core.Logic.{◌≢◌, by_cases}
use mathlib.Core.Path.{◌≡◌, refl, sym, ap, ◌∙◌, subst}
use lib.Dec.{eqb}
use lib.ListN.{get_or, set, length-set}
use lib.Pow.{pow_pos}
use lib.Seq.{get_or-set_same, get_or-set_other}
use borrow.Author.Tests.{eq-eqb, ne_eqb, not-true}
use Rattle.base.specs.Below.{max_below}
use Rattle.base.proofs.Bools.{by_bool, true_not_false, both, and_left, and_right, cond_true, cond_false}
use Rattle.base.proofs.Below.{max_term, max_least, max_eq}
use Rattle.plan.specs.Limits.{latest_possible}
use Rattle.sets.specs.Sets.{most, has}
use Rattle.sets.proofs.Laws.{has_none, has_without, size_without, size_more, size_le}
use Rattle.sets.proofs.Turns.{Turn, turn_has}
use Rattle.schedule.specs.Schedule.{Starts, moved}
use Rattle.schedule.proofs.Load.{Has, load_mono, moved_same, moved_other}
use Rattle.branching.proofs.Room.{Room, Soonest, adding, adding_new, adding_old, adding_other}
use Rattle.branching.proofs.Node.{Node, child}
use Rattle.instance.specs.Instance.{own_of, Instance}
use Rattle.instance.specs.Table.{present_of, duration_at, project_in}
use Rattle.profile.specs.Work.{end_at, ready_from, Timed}
use Rattle.steps.proofs.Given.{has_is, has_of}
use Rattle.steps.proofs.Free.{alone_in, tight_in}
use Rattle.ordering.specs.Lone.{from_at, Lone, EndsAlone}

-- ---- the ends of what is left may change

pub alone_refl : (left : ℕ) (w : List ℕ) → Timed w → EndsAlone left w w
alone_refl left w timed = record { timed = timed; same = λ k h. refl }

pub alone_trans : {left : ℕ} {w w' w'' : List ℕ} → EndsAlone left w w' → EndsAlone left w' w'' → EndsAlone left w w''
alone_trans a b = record { timed = b.timed; same = λ k h. b.same k h ∙ a.same k h }

-- An early enough time may be stored.
pub timed_store : (w : List ℕ) (i x : ℕ) → i < most → x ≤ latest_possible → Timed w → Timed (set w i x)
timed_store w i x l early timed =
    record {
      times =
          λ k.
          by_cases (ℕ_discrete k i)
          (λ e.
          omega (
            arith,
            ap (λ (m : ℕ). get_or (set w i x) m 0) e,
            get_or-set_same w i x 0 (omega (arith, l, timed.size)),
            early,
          ))
          (λ ne. omega (arith, get_or-set_other w i k x 0 ne, timed.times k));
      size = length-set w i x ∙ timed.size;
    }

-- The latest end, with one more.
pub max_with : (n : ℕ) (f g : ℕ → ℕ) (j : ℕ) → j < n → f j ≡ 0 → ((i : ℕ) → i ≢ j → g i ≡ f i)
    → max_below n g ≡ max (max_below n f) (g j)
max_with n f g j l none same =
    le_antisymm
    (max_least n g (max (max_below n f) (g j))
    (λ i li.
    by_cases (ℕ_discrete i j) (λ e. omega (arith, ap g e))
    (λ ne. omega (arith, same i ne, max_term n f i li))))
    (omega (
      arith,
      max_term n g j l,
      max_least n f (max_below n g)
          (λ i li.
          by_cases (ℕ_discrete i j) (λ e. omega (arith, ap f e, none))
          (λ ne. omega (arith, same i ne, max_term n g i li))),
    ))

module _ (t : List ℕ) (given : Instance t) {left free latest : ℕ} {w : List ℕ} {F : ℕ → Bool} {S : Starts}
    (lone : Lone t left free latest w F S) where
  left_present : (i : ℕ) → has left i ≡ true → has (present_of t) i ≡ true
  left_present i y = and_left (has (present_of t) i) (not (F i)) (sym (lone.is_left i) ∙ y)

  left_waits : (i : ℕ) → has left i ≡ true → F i ≡ false
  left_waits i y =
      not-true (F i) (and_right (has (present_of t) i) (not (F i)) (sym (lone.is_left i) ∙ y))

  pub left_of : (i : ℕ) → Has (project_in t) i → F i ≡ false → has left i ≡ true
  left_of i h z = lone.is_left i ∙ both (has_is t given i h) (ap not z)

  left_has : (i : ℕ) → has left i ≡ true → Has (project_in t) i
  left_has i y = has_of t given i (left_present i y)

  pub left_below : (i : ℕ) → has left i ≡ true → i < most
  left_below i y = omega (arith, given.present i (left_present i y), given.laid.acts)

  lasts : (i : ℕ) → has left i ≡ true → 1 ≤ duration_at t i
  lasts i y = given.laid.long i (given.present i (left_present i y))

  -- One of them is frozen.
  module _ (j : ℕ) (member : has left j ≡ true) where
    abbrev G : ℕ → Bool
    G = adding F j

    abbrev R : Starts
    R = moved S j (from_at w free j)

    abbrev end : ℕ
    end = from_at w free j + duration_at t j

    node_with : Node (project_in t) (adding F j) (moved S j (from_at w free j))
    node_with =
        child (project_in t) F S lone.node j (lone.opened j member) (from_at w free j) (lone.soon j member)

    old_of : (k : ℕ) → k ≢ j → G k ≡ true → F k ≡ true
    old_of k ne y = sym (adding_other F j k ne) ∙ y

    inside_with : (k : ℕ) → adding F j k ≡ true → has (present_of t) k ≡ true
    inside_with k y =
        by_cases (ℕ_discrete k j) (λ e. ap (has (present_of t)) e ∙ left_present j member)
        (λ ne. lone.inside k (old_of k ne y))

    has_with : (k : ℕ) → G k ≡ true → Has (project_in t) k
    has_with k y = has_of t given k (inside_with k y)

    starts_j : R j ≡ from_at w free j
    starts_j = moved_same S j (from_at w free j)

    starts_old : (k : ℕ) → F k ≡ true → R k ≡ S k
    starts_old k f =
        moved_other S j (from_at w free j) k (λ e. true_not_false f (ap F e ∙ left_waits j member))

    -- What is left then.
    module _ (k : ℕ) (there : has left k ≡ true) (ne : k ≢ j) where
      room_back : (x : ℕ) → Room (project_in t) G R k x → Room (project_in t) F S k x
      room_back x room =
          record {
            from_floor = room.from_floor;
            ready =
                λ m f o.
                omega (
                  arith,
                  starts_old m f.there,
                  room.ready m (record { below = f.below; there = adding_old F j m f.there }) o,
                );
            fits =
                λ u r l from to.
                omega (
                  arith,
                  room.fits u r l from to,
                  load_mono (project_in t) F G S R u u r
                      (λ m b units y runs.
                      let same : R m ≡ S m = starts_old m y in (
                        adding_old F j m y,
                        record { begins = omega (arith, same, runs.begins); ends = omega (arith, same, runs.ends) },
                      )),
                );
          }

      room_then : Room (project_in t) G R k end
      unfolding project_in
      room_then =
          record {
            from_floor = omega arith;
            ready =
                λ m f o.
                let fm : F m ≡ true = (lone.opened k there).freed m (has_with m f.there) o in
                omega (
                  arith,
                  starts_old m fm,
                  (lone.soon k there).room.ready m (record { below = f.below; there = fm }) o,
                  lone.before k j there member,
                );
            fits =
                λ u r b from to.
                alone_in t given G R node_with has_with k (left_has k there) u
                (λ m g on runs.
                by_cases (ℕ_discrete m j)
                (λ e.
                omega (arith, runs.ends, ap R e, starts_j, ap (duration_at t) e, from))
                (λ other.
                let fm : F m ≡ true = old_of m other g in
                omega (
                  arith,
                  runs.ends,
                  starts_old m fm,
                  lone.ended m fm,
                  lone.after j m member fm (on ∙ lone.together k j there member),
                  from,
                )))
                r b;
          }

      late : (x : ℕ) → Room (project_in t) G R k x → end ≤ x
      unfolding project_in
      late x room =
          by_cases (dec_le end x) (λ y. y)
          (λ lt.
          let u : ℕ = max (from_at w free j) x in
          let in_time : u < x + duration_at t k =
          omega (
            arith,
            (lone.soon k there).least x (room_back x room),
            lone.before j k member there,
            lasts k there,
          ) in
          absurd
          (tight_in t given G R node_with has_with k (left_has k there) u (lone.tight k there) j (adding_new F j)
          (lone.together j k member there) (λ e. ne (sym e))
          (record {
            begins = omega (arith, starts_j);
            ends = omega (arith, starts_j, lt, lasts j member);
          })
          (λ r b. room.fits u r b (omega arith) in_time)))

      soon_with : Soonest (project_in t) G R k end
      soon_with = record { room = room_then; least = late }

    -- Its end is stored.
    module _ {stop : ℕ} (at : stop ≡ from_at w free j + duration_at t j) where
      j_below : j < most
      j_below = left_below j member

      pub stop_early : stop ≤ latest_possible
      stop_early =
          omega (
            arith,
            at,
            lone.early j member,
            given.laid.short j j_below,
            size_without most left j j_below member,
            size_le most left,
          )

      abbrev then : List ℕ
      then = set w j stop

      cell_j : end_at then j ≡ stop
      cell_j = get_or-set_same w j stop 0 (omega (arith, j_below, lone.timed.size))

      cell_other : (c : ℕ) → c ≢ j → get_or then c 0 ≡ get_or w c 0
      cell_other c ne = get_or-set_other w j c stop 0 ne

      cell_old : (k : ℕ) → F k ≡ true → end_at then k ≡ end_at w k
      cell_old k f = cell_other k (λ e. true_not_false f (ap F e ∙ left_waits j member))

      ended_with : (i : ℕ) → G i ≡ true → R i + duration_at t i ≡ end_at then i
      ended_with i y =
          by_cases (ℕ_discrete i j)
          (λ e. omega (arith, ap R e, starts_j, ap (duration_at t) e, ap (end_at then) e, cell_j, at))
          (λ ne.
          let f : F i ≡ true = old_of i ne y in
          omega (arith, starts_old i f, lone.ended i f, cell_old i f))

      last_with : max latest stop ≡ max_below most λ i. cond (G i) (end_at then i) 0
      last_with =
          let old : ℕ → ℕ = λ i. cond (F i) (end_at w i) 0 in
          let new : ℕ → ℕ = λ i. cond (G i) (end_at then i) 0 in
          omega (
            arith,
            lone.last,
            max_with most old new j j_below (cond_false (end_at w j) 0 (left_waits j member))
                (λ i ne.
                ap (λ (b : Bool). cond b (end_at then i) 0) (adding_other F j i ne)
                ∙ ap (λ (x : ℕ). cond (F i) x 0) (cell_other i ne)),
            cond_true (end_at then j) 0 (adding_new F j),
            cell_j,
          )

      module _ {fewer : ℕ} (turn : Turn left fewer j) where
        in_left : (k : ℕ) → has fewer k ≡ true → has left k ≡ true
        in_left = turn_has turn

        other : (k : ℕ) → has fewer k ≡ true → k ≢ j
        other k y e = true_not_false y (ap (has fewer) e ∙ turn.gone)

        -- All that is left starts at the end.
        from_end : (k : ℕ) → has fewer k ≡ true → from_at then stop k ≡ from_at w free j + duration_at t j
        from_end k y =
            omega (
              arith,
              at,
              cell_other (ready_from + k) (λ e. omega (arith, e, j_below)),
              lone.before k j (in_left k y) member,
            )

        left_with : (i : ℕ) → has fewer i ≡ (has (present_of t) i && not (G i))
        left_with i =
            by_cases (ℕ_discrete i j)
            (λ e.
            ap (has fewer) e ∙ turn.gone
            ∙ sym
            (ap (λ (b : Bool). has (present_of t) i && not b) (ap G e ∙ adding_new F j)
            ∙ and-false (has (present_of t) i)))
            (λ ne.
            turn.others i ne ∙ lone.is_left i
            ∙ ap (λ (b : Bool). has (present_of t) i && not b) (sym (adding_other F j i ne)))

        after_with : (i k : ℕ) → has fewer i ≡ true → G k ≡ true → own_of t k ≡ own_of t i
            → end_at then k ≤ from_at then stop i
        after_with i k y g on =
            by_cases (ℕ_discrete k j) (λ e. omega (arith, ap (end_at then) e, cell_j))
            (λ ne.
            let f : F k ≡ true = old_of k ne g in
            omega (
              arith,
              cell_old k f,
              lone.after j k member f (on ∙ lone.together i j (in_left i y) member),
              from_end i y,
            ))

        pub stored_lone : {last : ℕ} → last ≡ max latest stop
            → Lone t fewer stop last (set w j stop) (adding F j) (moved S j (from_at w free j))
        stored_lone so =
            record {
              node = node_with;
              timed = timed_store w j stop j_below stop_early lone.timed;
              low = turn.low;
              inside = inside_with;
              is_left = left_with;
              ended = ended_with;
              idle =
                  λ i l z.
                  cell_other i (λ e. true_not_false (left_present j member) (ap (has (present_of t)) (sym e) ∙ z))
                  ∙ lone.idle i l z;
              last = so ∙ last_with;
              tight = λ i y. lone.tight i (in_left i y);
              together = λ i k y z. lone.together i k (in_left i y) (in_left k z);
              opened =
                  λ i y.
                  let o = lone.opened i (in_left i y) in
                  record {
                    has = o.has;
                    waits = adding_other F j i (other i y) ∙ o.waits;
                    freed = λ k h c. adding_old F j k (o.freed k h c);
                  };
              soon =
                  λ i y.
                  subst (Soonest (project_in t) G R i) (sym (from_end i y)) (soon_with i (in_left i y) (other i y));
              before =
                  λ i k y z.
                  omega (arith, from_end i y, from_end k z, lasts k (in_left k z));
              after = after_with;
              early =
                  λ i y.
                  omega (
                    arith,
                    from_end i y,
                    lone.early j member,
                    given.laid.short j j_below,
                    size_more most left fewer j j_below member turn.gone (λ k ne. sym (turn.others k ne)),
                    size_le most left,
                  );
            }

-- ---- the ends of what is left mean nothing

pub from_same : {left : ℕ} {w w' : List ℕ} → EndsAlone left w w' → (free i : ℕ) → from_at w' free i ≡ from_at w free i
from_same a free i = ap (λ (x : ℕ). max x free) (a.same (ready_from + i) (λ j l y e. omega (arith, l, e)))

module _ {t : List ℕ} {left free latest : ℕ} {w w' : List ℕ} {F : ℕ → Bool} {S : Starts}
    (alone : EndsAlone left w w') (lone : Lone t left free latest w F S) where
  end_same : (i : ℕ) → has left i ≡ false → end_at w' i ≡ end_at w i
  end_same i z = alone.same i (λ j l y e. true_not_false y (ap (has left) (sym e) ∙ z))

  frozen_same : (i : ℕ) → F i ≡ true → end_at w' i ≡ end_at w i
  frozen_same i f =
      end_same i
      (lone.is_left i ∙ ap (λ (b : Bool). has (present_of t) i && not b) f ∙ and-false (has (present_of t) i))

  from : (i : ℕ) → from_at w' free i ≡ from_at w free i
  from = from_same alone free

  pub lone_alone : Lone t left free latest w' F S
  lone_alone =
      record {
        node = lone.node;
        timed = alone.timed;
        low = lone.low;
        inside = lone.inside;
        is_left = lone.is_left;
        ended = λ i f. lone.ended i f ∙ sym (frozen_same i f);
        idle =
            λ i l z.
            end_same i (lone.is_left i ∙ ap (λ (b : Bool). b && not (F i)) z) ∙ lone.idle i l z;
        last =
            lone.last
            ∙ max_eq most (λ i. cond (F i) (end_at w i) 0) (λ i. cond (F i) (end_at w' i) 0)
            (λ i l.
            by_bool (F i) (λ f. ap (λ (x : ℕ). cond (F i) x 0) (sym (frozen_same i f)))
            (λ z. cond_false (end_at w i) 0 z ∙ sym (cond_false (end_at w' i) 0 z)));
        tight = lone.tight;
        together = lone.together;
        opened = lone.opened;
        soon = λ i y. subst (Soonest (project_in t) F S i) (sym (from i)) (lone.soon i y);
        before = λ i k y z. omega (arith, from i, from k, lone.before i k y z);
        after = λ i k y f on. omega (arith, from i, frozen_same k f, lone.after i k y f on);
        early = λ i y. omega (arith, from i, lone.early i y);
      }

-- The store and what is changed below change ends of what is left alone.
pub stored_alone : {left fewer : ℕ} {w' : List ℕ} (w : List ℕ) (j stop : ℕ) → Turn left fewer j
    → EndsAlone fewer (set w j stop) w'
    → EndsAlone left w w'
stored_alone w j stop turn a =
    record {
      timed = a.timed;
      same =
          λ k h.
          a.same k (λ i l y e. h i l (turn_has turn i y) e)
          ∙ get_or-set_other w j k stop 0 (h j turn.below turn.there);
    }

-- Any member may be taken off.
pub taken : (left fewer j : ℕ) → left < 2 ^ most → j < most → has left j ≡ true → fewer ≡ left - 2 ^ j
    → Turn left fewer j
taken left fewer j low below member one =
    let off : (k : ℕ) → has fewer k ≡ (has left k && not (eqb k j)) =
    λ k. ap (λ (x : ℕ). has x k) one ∙ has_without left j k member in
    record {
      below = below;
      low = omega (arith, one, low);
      fewer =
          by_cases (ℕ_discrete left 0)
          (λ e. true_not_false member (ap (λ (x : ℕ). has x j) e ∙ has_none j))
          (λ ne. omega (arith, one, pow_pos j, ne));
      there = member;
      gone = off j ∙ ap (λ (b : Bool). has left j && not b) (eq-eqb j j refl) ∙ and-false (has left j);
      others = λ k ne. off k ∙ ap (λ (b : Bool). has left k && not b) (ne_eqb k j ne) ∙ and-true (has left k);
    }
