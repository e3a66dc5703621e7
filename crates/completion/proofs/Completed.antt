-- The loop that freezes one open activity after the other.
use Prim.Native.Nat.{ℕ, ◌+◌, ◌-◌, ◌^◌, ◌≤◌, ◌<◌, max}
use native.Mathlib.Decide.{ℕ_discrete, dec_lt}
use native.Mathlib.Omega.{arith}
use mathlib.Core.Bool.{Bool, true, false, ◌||◌}
use mathlib.Core.List.{List}
use mathlib.Core.Logic.{by_cases}
use mathlib.Core.Path.{◌≡◌, refl, sym, ap, ap₂, ◌∙◌}
use lib.Bits.{bit_and}
use Rattle.base.proofs.Bools.{by_bool, true_not_false, both, and_left, and_right}
use Rattle.plan.specs.Limits.{latest_possible}
use Rattle.sets.specs.Sets.{most, has}
use Rattle.sets.proofs.Laws.{has_none, has_above, has_and, has_without}
use Rattle.timetable.specs.Mark.{mark}
use Rattle.schedule.specs.Schedule.{Starts}
use Rattle.branching.proofs.Room.{Open, Soonest}
use Rattle.branching.proofs.Under.{Under}
use Rattle.branching.proofs.Rows.{Rows}
use Rattle.scan.specs.Scan.{Diagram}
use Rattle.instance.specs.Instance.{own_of, Instance}
use Rattle.instance.specs.Table.{acts_of, duration_at, preds_at, near_at, own_at, project_in}
use Rattle.profile.specs.Work.{end_at, ready_at, free_at, soon_at, latest_of}
use Rattle.steps.specs.Steps.{loose_in, finish_at}
use Rattle.steps.specs.declared.Line.{Line}
use Rattle.steps.proofs.Given.{has_of}
use Rattle.steps.proofs.Loops.{own_below}
use Rattle.steps.proofs.Sets.{loose_of, loose_is}
use Rattle.unbranched.specs.Position.{Position, Beside, bound_of}
use Rattle.completion.specs.Rest.{Uncontested}
use Rattle.completion.proofs.Latest.{latest_least, nearest}
use Rattle.completion.proofs.Earliest.{Beyond, rest_of, soon_placed, soon_waiting}
use Rattle.completion.proofs.Counted.{Counted, bound_less, bound_turn}

pub member_below : (a i : ℕ) → a < 2 ^ most → has a i ≡ true → i < most
member_below a i low y =
    by_cases (dec_lt i most) (λ b. b) (λ n. true_not_false y (has_above most a i low (omega (arith, n))))

-- One of two.
pub by_or : {C : Type 0} (a b : Bool) → (a || b) ≡ true → (a ≡ true → C) → (b ≡ true → C) → C
by_or true b y one other = one refl
by_or false b y one other = other y

-- The open activities, and from when each that was not placed is ready.
pub record Ripe (t : List ℕ) (l : Line) (w : List ℕ) (F : ℕ → Bool) (cands : ℕ) : Type 0 where
  pub low : cands < 2 ^ most
  pub is_open : (j : ℕ) → has cands j ≡ true → Open (project_in t) F j
  pub all : (j : ℕ) → Open (project_in t) F j → has cands j ≡ true
  pub ready : (j : ℕ) → has cands j ≡ true → has l.placed j ≡ false
      → ready_at w j ≡ max (latest_of w (near_at t j)) l.tick

-- The ends of what is frozen, and the latest of them.
pub record Ends (t : List ℕ) (w : List ℕ) (F : ℕ → Bool) (S : Starts) (bound last : ℕ) : Type 0 where
  pub ended : (i : ℕ) → F i ≡ true → S i + duration_at t i ≡ end_at w i
  pub early : (i : ℕ) → F i ≡ true → end_at w i ≤ bound
  pub upto : (i : ℕ) → F i ≡ true → end_at w i ≤ last
  pub least : (x : ℕ) → ((i : ℕ) → F i ≡ true → end_at w i ≤ x) → last ≤ x

-- More is frozen than in the diagram, with the same schedules under it.
pub record Completing (t : List ℕ) (l : Line) (w : List ℕ) (d : Diagram) (w' : List ℕ) (last rest cands : ℕ) : Type 0
  where
    pub F : ℕ → Bool
    pub S : Starts
    pub coming : ℕ
    pub counts : Counted t l w coming
    pub beyond : Beyond t l d F S rest
    pub rows : (rows : List (List ℕ)) → Rows (project_in t) mark (Under (project_in t) (own_of t) F S) rows
        → Rows (project_in t) mark (Under (project_in t) (own_of t) d.frozen d.starts) rows
    pub beside : Beside t l w w'
    pub ends : Ends t w' F S (bound_of (bit_and rest coming)) last
    pub ripe : Ripe t l w' F cands

module _ (t : List ℕ) (given : Instance t) (l : Line) (w : List ℕ) (d : Diagram) (at : Position t l w d)
    (apart : Uncontested t l.left) {w' : List ℕ} {last rest cands : ℕ} (h : Completing t l w d w' last rest cands)
  where
    abbrev F : ℕ → Bool
    F = h.F

    abbrev S : Starts
    S = h.S

    abbrev bound : ℕ
    bound = bound_of (bit_and rest h.coming)

    -- The tick and all that the diagram has is early enough.
    within_bound : bound_of l.left ≤ bound
    within_bound =
        bound_less (bit_and rest h.coming) l.left
        (λ i y. h.beyond.within i (and_left (has rest i) (has h.coming i) (sym (has_and rest h.coming i) ∙ y)))

    tick_bound : l.tick ≤ bound
    tick_bound =
        omega (
          arith,
          h.counts.tick,
          bound_less (bit_and rest h.coming) h.coming
              (λ i y. and_right (has rest i) (has h.coming i) (sym (has_and rest h.coming i) ∙ y)),
        )

    -- An open activity.
    module _ (i : ℕ) (chosen : has cands i ≡ true) where
      pub open_i : Open (project_in t) h.F i
      open_i = h.ripe.is_open i chosen

      pub low_i : i < most
      low_i = member_below cands i h.ripe.low chosen

      pub own_i : i < acts_of t
      unfolding project_in
      own_i = open_i.has.below

      pub rests_i : has rest i ≡ true
      rests_i = rest_of t given l w d at apart F S rest h.beyond i open_i.has open_i.waits

      -- Something is left.
      pub some_left : 0 < rest
      some_left =
          by_cases (ℕ_discrete rest 0) (λ z. true_not_false rests_i (ap (λ (x : ℕ). has x i) z ∙ has_none i))
          (λ ne. omega (arith, ne))

      left_i : has l.left i ≡ true
      left_i = h.beyond.within i rests_i

      free_i : free_at w' (own_at t i) ≡ free_at w (own_at t i)
      free_i = h.beside.free (own_at t i) (own_below t given.laid i own_i)

      placed_same : has (loose_in l) i ≡ true → soon_at t w' i ≡ soon_at t w i
      placed_same loose = ap₂ max (h.beside.ready i low_i (loose_is l i loose).0) free_i

      frozen_before : (k : ℕ) → has (preds_at t i) k ≡ true → h.F k ≡ true
      unfolding project_in
      frozen_before k before = open_i.freed k (has_of t given k (given.ordered k i low_i before).0) before

      pub frozen_near : (k : ℕ) → has (near_at t i) k ≡ true → h.F k ≡ true
      frozen_near k near = frozen_before k (given.linked.near i k low_i near)

      -- Its earliest start.
      soon_late : has l.placed i ≡ false → Soonest (project_in t) F S i (soon_at t w' i)
      unfolding project_in
      soon_late off =
          let is = h.ripe.ready i chosen off in
          rw free_i
          (soon_waiting t given l w d at apart F S rest h.beyond i rests_i open_i off (ready_at w' i)
          (omega (arith, is))
          (λ k f o.
          omega (
            arith,
            is,
            h.ends.ended k f,
            nearest t given F S h.beyond.node h.beyond.inside w' h.ends.ended i low_i frozen_before k o,
          ))
          (λ x from after.
          omega (
            arith,
            is,
            from,
            latest_least w' (near_at t i) x
                (λ k b near.
                omega (
                  arith,
                  h.ends.ended k (frozen_near k near),
                  after k (frozen_near k near) (given.linked.near i k low_i near),
                )),
          )))

      pub soon_i : Soonest (project_in t) h.F h.S i (soon_at t w' i)
      soon_i =
          by_bool (has l.placed i)
          (λ y.
          let loose : has (loose_in l) i ≡ true = loose_of l i y left_i in
          rw (placed_same loose)
          (soon_placed t given l w d at apart F S rest h.beyond i rests_i open_i loose))
          soon_late

      -- It ends early enough.
      soon_bound : soon_at t w' i ≤ bound
      soon_bound =
          by_bool (has l.placed i)
          (λ y.
          let loose : has (loose_in l) i ≡ true = loose_of l i y left_i in
          omega (arith, placed_same loose, at.bounded.starts i loose, within_bound))
          (λ off.
          omega (
            arith,
            h.ripe.ready i chosen off,
            tick_bound,
            latest_least w' (near_at t i) bound (λ k b near. h.ends.early k (frozen_near k near)),
            free_i,
            at.bounded.frees (own_at t i) (own_below t given.laid i own_i),
            within_bound,
          ))

      pub less_bound : bound_of (bit_and rest h.coming) ≤ bound_of (bit_and (rest - 2 ^ i) h.coming)
      less_bound =
          bound_less (bit_and (rest - 2 ^ i) h.coming) (bit_and rest h.coming)
          (λ k y.
          let two = sym (has_and (rest - 2 ^ i) h.coming k) ∙ y in
          has_and rest h.coming k
          ∙ both
          (and_left (has rest k) _
          (sym (has_without rest i k rests_i) ∙ and_left (has (rest - 2 ^ i) k) (has h.coming k) two))
          (and_right (has (rest - 2 ^ i) k) (has h.coming k) two))

      pub end_bound : finish_at t w' i ≤ bound_of (bit_and (rest - 2 ^ i) h.coming)
      end_bound =
          by_bool (has h.coming i)
          (λ y.
          omega (arith, soon_bound, given.laid.short i low_i, bound_turn rest h.coming i low_i rests_i y))
          (λ n.
          let (loose, ends) = h.counts.other i left_i n in
          omega (arith, ends, placed_same loose, tick_bound, less_bound))

      pub end_early : finish_at t w' i ≤ latest_possible
      end_early = omega (arith, end_bound)
