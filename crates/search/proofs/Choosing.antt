-- What a choice does to line and working array.
use Prim.Native.Nat.{ℕ, ◌+◌, ◌-◌, ◌^◌, ◌≤◌, ◌<◌}
use native.Mathlib.Decide.{ℕ_discrete}
use native.Mathlib.Omega.{arith}
use mathlib.Core.Bool.{Bool, true, false, not, ◌&&◌, ◌||◌, and-true, and-false}
use mathlib.Core.List.{List}
use mathlib.Core.Logic.{◌≢◌, by_cases}
use mathlib.Core.Path.{◌≡◌, refl, sym, ap, ap₂, ◌∙◌, subst}
use lib.Bits.{bit_and, bit_or, bit_xor, or_lt}
use lib.Dec.{ltb, eqb}
use lib.ListN.{get_or, set}
use lib.Pow.{pow-lt}
use lib.Seq.{get_or-set_same, get_or-set_other}
use borrow.Author.Tests.{eq-eqb, ne_eqb, lt-ltb, le-ltb}
use Rattle.base.proofs.Bools.{and_left}
use Rattle.sets.specs.Sets.{most, has}
use Rattle.sets.proofs.Laws.{has_or, has_and, has_minus, has_with, has_without, minus_low}
use Rattle.sets.proofs.Turns.{Turn, Gathering, turn_has, gather_none, gather_more, gather_less, gathered}
use Rattle.instance.specs.Instance.{Laid}
use Rattle.instance.specs.Table.{acts_of, duration_at, component_at}
use Rattle.profile.specs.Work.{end_at, start_at, free_from, ready_at}
use Rattle.profile.specs.Room.{Behind}
use Rattle.steps.specs.Steps.{Sets, Lives, Last, frozen_in, running_in, finish_at, selected_line}
use Rattle.steps.specs.declared.Line.{Line}
use Rattle.steps.proofs.Sets.{frozen_of, loose_is, running_of, running_is}
use Rattle.completion.proofs.Completed.{member_below}
use Rattle.completion.proofs.Readied.{timed_set}
use Rattle.search.specs.Choice.{InConflict, Choosing, Settles, Takes}

-- The line with what has been passed and what is live.
abbrev pub spread_line : Line → ℕ → ℕ → Line
spread_line l passed live =
    record {
      tick = l.tick;
      placed = l.placed;
      left = l.left;
      term = l.term;
      due = l.due;
      passed = passed;
      live = live;
    }

-- The conflict activities of a set are gathered: what is still to come is in it.
pub record Conflicts (w : List ℕ) (l : Line) (set found rest : ℕ) : Type 0 where
  pub gathering : Gathering (λ j. ltb (ready_at w j) l.tick) (bit_xor set (bit_and set l.passed)) found rest
  pub within : (j : ℕ) → has rest j ≡ true → has set j ≡ true

module _ (w : List ℕ) (l : Line) (set : ℕ) where
  abbrev early : ℕ → Bool
  early j = ltb (ready_at w j) l.tick

  abbrev others : ℕ
  others = bit_xor set (bit_and set l.passed)

  pub conflicts_first : {rest : ℕ} → set < 2 ^ most → rest ≡ bit_xor set (bit_and set l.passed)
      → Conflicts w l set 0 rest
  conflicts_first low e =
      rw e
      (record {
        gathering = gather_none early others (minus_low set l.passed low);
        within =
            λ j y. and_left (has set j) (not (has l.passed j)) (sym (has_minus set l.passed j) ∙ y);
      })

  module _ {found rest rest' j : ℕ} (so_far : Conflicts w l set found rest) (turn : Turn rest rest' j) where
    within_next : (i : ℕ) → has rest' i ≡ true → has set i ≡ true
    within_next i y = so_far.within i (turn_has turn i y)

    pub conflicts_more : {found' : ℕ} → ready_at w j < l.tick → found' ≡ bit_or found (2 ^ j)
        → Conflicts w l set found' rest'
    conflicts_more {found'} before e =
        record {
          gathering =
              gather_more early others turn so_far.gathering found' (lt-ltb (ready_at w j) l.tick before) e;
          within = within_next;
        }

    pub conflicts_less : l.tick ≤ ready_at w j → Conflicts w l set found rest'
    conflicts_less after =
        record {
          gathering = gather_less early others turn so_far.gathering (le-ltb (ready_at w j) l.tick after);
          within = within_next;
        }

  pub conflicts_last : {found rest : ℕ} → Conflicts w l set found rest → rest ≡ 0 → InConflict w l set found
  conflicts_last so_far none =
      record {
        low = so_far.gathering.low;
        members =
            λ j.
            gathered early others none so_far.gathering j
            ∙ ap (λ (b : Bool). b && early j) (has_minus set l.passed j);
      }

-- What stays live.
pub lives_so : {t w : List ℕ} {live j set start here r : ℕ} → live < 2 ^ most → j < most
    → set ≡ bit_and live (component_at t j)
    → start ≡ start_at t w j
    → Behind w set start here
    → r ≡ bit_or (bit_xor live (bit_and live (component_at t j))) (bit_or here (2 ^ j))
    → Lives t w live j r
lives_so {t} {w} {live} {j} {set} {start} {here} {r} low b among begins behind e =
    record {
      low =
          omega (
            arith,
            e,
            or_lt most (bit_xor live (bit_and live (component_at t j))) (bit_or here (2 ^ j))
                (minus_low live (component_at t j) low) (or_lt most here (2 ^ j) behind.low (pow-lt b)),
          );
      members =
          λ k.
          ap (λ (x : ℕ). has x k) e
          ∙ has_or (bit_xor live (bit_and live (component_at t j))) (bit_or here (2 ^ j)) k
          ∙ ap₂ (λ (x y : Bool). x || y) (has_minus live (component_at t j) k)
          (has_with here j k ∙ ap (λ (x : Bool). x || eqb k j) (here_is k))
          ∙ shape (has live k) (has (component_at t j) k) (ltb (start_at t w j) (end_at w k)) (eqb k j);
    }
  where
    here_is : (k : ℕ)
        → has here k ≡ (has live k && has (component_at t j) k && ltb (start_at t w j) (end_at w k))
    here_is k =
        behind.members k
        ∙ ap₂ (λ (x : Bool) (y : ℕ). x && ltb y (end_at w k))
        (ap (λ (x : ℕ). has x k) among ∙ has_and live (component_at t j) k) begins

    shape : (a b c d : Bool) → ((a && not b) || ((a && b && c) || d)) ≡ ((a && (not b || c)) || d)
    shape true true c d = refl
    shape true false c d = refl
    shape false b c d = refl

module _ {t w : List ℕ} {l : Line} {c j : ℕ} (given : Choosing t w l c j) where
  placed_j : has l.placed j ≡ true
  placed_j = (loose_is l j given.loose).0

  pub left_j : has l.left j ≡ true
  left_j = (loose_is l j given.loose).1

  pub acts_j : j < acts_of t
  acts_j = given.sets.left j left_j

  pub below_j : j < most
  below_j = omega (arith, acts_j, given.sets.laid.acts)

  pub below_c : c < most
  below_c = member_below l.due c given.sets.due_low given.due

  -- One fewer is left.
  module _ (due passed live : ℕ) where
    abbrev now : Line
    now = selected_line l j due passed live

    left_other : (i : ℕ) → i ≢ j → has (l.left - 2 ^ j) i ≡ has l.left i
    left_other i ne =
        has_without l.left j i left_j ∙ ap (λ (x : Bool). has l.left i && not x) (ne_eqb i j ne)
        ∙ and-true (has l.left i)

    left_gone : has (l.left - 2 ^ j) j ≡ false
    left_gone =
        has_without l.left j j left_j ∙ ap (λ (x : Bool). has l.left j && not x) (eq-eqb j j refl)
        ∙ and-false (has l.left j)

    pub left_less : (i : ℕ) → has (l.left - 2 ^ j) i ≡ true → has l.left i ≡ true
    left_less i y = and_left (has l.left i) (not (eqb i j)) (sym (has_without l.left j i left_j) ∙ y)

    pub frozen_j : has (frozen_in (selected_line l j due passed live)) j ≡ true
    frozen_j = frozen_of now j placed_j left_gone

    pub frozen_other : (i : ℕ) → i ≢ j → has (frozen_in (selected_line l j due passed live)) i ≡ has (frozen_in l) i
    frozen_other i ne =
        has_minus l.placed now.left i ∙ ap (λ (x : Bool). has l.placed i && not x) (left_other i ne)
        ∙ sym (has_minus l.placed l.left i)

    running_other : (i : ℕ) → i ≢ j → has (running_in now) i ≡ true → has (running_in l) i ≡ true
    running_other i ne y =
        let (term, off) = running_is now i y in
        running_of l i term (sym (left_other i ne) ∙ off)

    -- Its end is stored.
    abbrev then : List ℕ
    then = set w j (finish_at t w j)

    stored_sets : due < 2 ^ most → passed < 2 ^ most → live < 2 ^ most
        → Sets t (set w j (finish_at t w j)) (selected_line l j due passed live)
    stored_sets due_low passed_low live_low =
        let old = given.sets in
        record {
          laid = old.laid;
          timed = timed_set old.timed given.early (omega (arith, below_j, old.timed.size)) refl;
          placed_low = old.placed_low;
          left_low = omega (arith, old.left_low);
          term_low = old.term_low;
          due_low = due_low;
          passed_low = passed_low;
          live_low = live_low;
          placed = old.placed;
          left = λ i y. old.left i (left_less i y);
          term =
              λ i y.
              by_cases (ℕ_discrete i j) (λ e. ap (has l.placed) e ∙ placed_j)
              (λ ne. old.term i (running_other i ne y));
          ran =
              λ i y.
              by_cases (ℕ_discrete i j)
              (λ e.
              omega (
                arith,
                ap (end_at then) e,
                ap (duration_at t) e,
                get_or-set_same w j (finish_at t w j) 0 (omega (arith, below_j, old.timed.size)),
              ))
              (λ ne.
              omega (
                arith,
                get_or-set_other w j i (finish_at t w j) 0 ne,
                old.ran i (sym (frozen_other i ne) ∙ y),
              ));
        }

  -- It is settled; its component is free from its end on, or the others are shifted.
  module _ {w₁ : List ℕ} {r : Line} (settles : Settles t l c j w w₁ r) where
    settled_end : end_at w₁ j ≡ finish_at t w j
    settled_end =
        ap (λ (x : List ℕ). get_or x j 0) settles.stored
        ∙ get_or-set_same w j (finish_at t w j) 0 (omega (arith, below_j, given.sets.timed.size))

    pub takes_so : {w' : List ℕ} {end : ℕ} → end ≡ end_at w₁ j → w' ≡ set w₁ (free_from + c) end → Takes t l c j w w' r
    takes_so e stored =
        record {
          line = settles.line;
          stored =
              stored
              ∙ ap₂ (λ (x : List ℕ) (y : ℕ). set x (free_from + c) y) settles.stored (e ∙ settled_end)
              ∙ ap (λ (y : ℕ). set (set w j (finish_at t w j)) (free_from + y) (finish_at t w j)) (sym given.on);
        }

    -- What is live then, and the shift.
    pub live_given : Laid t × (l.live < 2 ^ most) × (j < acts_of t) × (duration_at t j ≤ end_at w₁ j)
    live_given = (given.sets.laid, given.sets.live_low, acts_j, omega (arith, settled_end))

    module _ {live : ℕ} (lives : Lives t w₁ l.live j live) where
      abbrev after : Line
      after = selected_line l j (l.due - 2 ^ c) l.passed live

      line_is : spread_line r r.passed live ≡ after
      line_is = ap (λ (x : Line). spread_line x x.passed live) settles.line

      lives_then : Lives t (set w j (finish_at t w j)) l.live j live
      lives_then = subst (λ (x : List ℕ). Lives t x l.live j live) settles.stored lives

      pub shift_given : ((x : ℕ) → Lives t (set w j (finish_at t w j)) l.live j x
          → Last t (set w j (finish_at t w j)) (selected_line l j (l.due - 2 ^ c) l.passed x) j)
          → Sets t w₁ (spread_line r r.passed live)
          × (has (frozen_in (spread_line r r.passed live)) j ≡ true)
          × Last t w₁ (spread_line r r.passed live) j
      shift_given last =
          subst (λ (x : Line). Sets t w₁ x × (has (frozen_in x) j ≡ true) × Last t w₁ x j) (sym line_is) (
            subst (λ (x : List ℕ). Sets t x after) (sym settles.stored)
                (stored_sets (l.due - 2 ^ c) l.passed live (omega (arith, given.sets.due_low))
                given.sets.passed_low lives.low),
            frozen_j (l.due - 2 ^ c) l.passed live,
            subst (λ (x : List ℕ). Last t x after j) (sym settles.stored) (last live lives_then),
          )
