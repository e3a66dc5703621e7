-- What a turn of each loop of a move keeps that finds the first end or the first stop, or changes a set.
use Prim.Native.Nat.{ℕ, ◌^◌, ◌≤◌, ◌<◌, min}
use native.Mathlib.Decide.{ℕ_discrete, dec_le}
use native.Mathlib.Nat.{lt_of_le_of_lt}
use native.Mathlib.Omega.{arith}
use mathlib.Core.Bool.{Bool, true, false, cond, not, ◌&&◌, ◌||◌, and-false, and-true, or-true, or-false}
use mathlib.Core.List.{List}
use mathlib.Core.Logic.{◌⊎◌, ◌≢◌, inl, inr, ⊎_elim, by_cases}
use mathlib.Core.Path.{◌≡◌, refl, sym, ap, ap₂, ◌∙◌}
use borrow.Author.Tests.{lt-ltb, le-leb, lt-leb, eq-eqb, ne_eqb, eqb-true, not-true}
use lib.Bits.{bit_and, bit_or, bit_xor, and_le_l, or_lt}
use lib.Dec.{leb, eqb}
use lib.Pow.{pow-lt}
use Rattle.base.proofs.Bools.{by_bool, true_not_false, both, and_left, and_right, cond_true, cond_false}
use Rattle.sets.specs.Sets.{most, has}
use Rattle.sets.proofs.Laws.{has_none, has_single, has_and, has_minus, has_with, minus_low}
use Rattle.sets.proofs.Members.{lowest_below}
use Rattle.sets.proofs.Turns.{Turn, turn_has}
use Rattle.instance.specs.Instance.{Laid, own_of}
use Rattle.instance.specs.Table.{acts_of, component_at, own_at}
use Rattle.profile.specs.Work.{end_at}
use Rattle.steps.specs.Steps.{never, running_in, finish_at, FirstEnd, FirstStop, Deletes, deleted_line}
use Rattle.steps.specs.declared.Line.{Line}

pub common_low : (a b : ℕ) → a < 2 ^ most → bit_and a b < 2 ^ most
common_low a b h = lt_of_le_of_lt (and_le_l a b) h

pub minus_parts : (a b i : ℕ) → has (bit_xor a (bit_and a b)) i ≡ true → (has a i ≡ true) × (has b i ≡ false)
minus_parts a b i y =
    let e : (has a i && not (has b i)) ≡ true = sym (has_minus a b i) ∙ y in
    (and_left (has a i) (not (has b i)) e, not-true (has b i) (and_right (has a i) (not (has b i)) e))

pub common_parts : (a b i : ℕ) → has (bit_and a b) i ≡ true → (has a i ≡ true) × (has b i ≡ true)
common_parts a b i y =
    let e : (has a i && has b i) ≡ true = sym (has_and a b i) ∙ y in
    (and_left (has a i) (has b i) e, and_right (has a i) (has b i) e)

-- The number of a component is that of one of its activities.
pub own_below : (t : List ℕ) → Laid t → (i : ℕ) → i < acts_of t → own_at t i < most
own_below t laid i own =
    lowest_below (component_at t i) (own_at t i) (laid.component_low i (omega (arith, laid.acts)))
    (λ none.
    true_not_false
    (laid.component i i own ∙ both (lt-ltb i (acts_of t) own) (eq-eqb (own_of t i) (own_of t i) refl))
    (ap (λ (x : ℕ). has x i) none ∙ has_none i))
    refl

-- ---- the least of a number and of what the members of a set have; `rest` are those not yet looked at

pub record Least (f : ℕ → ℕ) (from all first rest : ℕ) : Type 0 where
  pub low : rest < 2 ^ most
  pub inside : (i : ℕ) → has rest i ≡ true → has all i ≡ true
  pub upto : first ≤ from
  pub least : (i : ℕ) → has all i ≡ true → has rest i ≡ false → first ≤ f i
  pub attained : (first ≡ from) ⊎ ((i : ℕ) × (has all i ≡ true) × (first ≡ f i))

module _ (f : ℕ → ℕ) (from all : ℕ) where
  pub least_none : all < 2 ^ most → Least f from all from all
  least_none h =
      record {
        low = h;
        inside = λ i y. y;
        upto = omega arith;
        least = λ i y n. true_not_false y n;
        attained = inl refl;
      }

  pub least_more : {first rest rest' i : ℕ} (first' : ℕ) → Least f from all first rest → Turn rest rest' i
      → first' ≡ min first (f i)
      → Least f from all first' rest'
  least_more {first} {rest} {rest'} {i} first' so_far turn e =
      record {
        low = turn.low;
        inside = λ k y. so_far.inside k (turn_has turn k y);
        upto = omega (arith, so_far.upto);
        least =
            λ k y n.
            by_cases
            (ℕ_discrete k i)
            (λ q. omega (arith, ap f q))
            (λ ne. omega (arith, so_far.least k y (sym (turn.others k ne) ∙ n)));
        attained =
            by_cases
            (dec_le first (f i))
            (λ l.
            let same : first' ≡ first = omega arith in
            ⊎_elim (λ q. inl (same ∙ q)) (λ (k, y, q). inr (k, y, same ∙ q)) so_far.attained)
            (λ g. inr (i, so_far.inside i turn.there, omega arith));
      }

-- ---- the first stop, and the components of those that end on it

pub record Stopping (t w : List ℕ) (all first tick due rest : ℕ) : Type 0 where
  pub stop : Least (finish_at t w) first all tick rest
  pub low : due < 2 ^ most
  pub ends : (i : ℕ) → has all i ≡ true → has rest i ≡ false → tick ≡ finish_at t w i → has due (own_at t i) ≡ true
  pub only : (c : ℕ) → has due c ≡ true
      → (i : ℕ) × (has all i ≡ true) × (tick ≡ finish_at t w i) × (own_at t i ≡ c)

module _ (t w : List ℕ) (all first : ℕ) where
  pub stopping : all < 2 ^ most → Stopping t w all first first 0 all
  stopping h =
      record {
        stop = least_none (finish_at t w) first all h;
        low = omega arith;
        ends = λ i y n e. true_not_false y n;
        only = λ c y. true_not_false y (has_none c);
      }

  module _ {tick due rest : ℕ} (so_far : Stopping t w all first tick due rest) where
    pub stop_last : rest ≡ 0 → FirstStop t w all first (record { tick = tick; due = due })
    stop_last none =
        let gone : (i : ℕ) → has rest i ≡ false = λ i. ap (λ (x : ℕ). has x i) none ∙ has_none i in
        record {
          upto = so_far.stop.upto;
          least = λ i y. so_far.stop.least i y (gone i);
          attained = so_far.stop.attained;
          low = so_far.low;
          due = λ i y. so_far.ends i y (gone i);
          only = so_far.only;
        }

    module _ {rest' i : ℕ} (turn : Turn rest rest' i) where
      abbrev next : (tick' : ℕ) → tick' ≡ min tick (finish_at t w i) → Least (finish_at t w) first all tick' rest'
      next tick' e = least_more (finish_at t w) first all tick' so_far.stop turn e

      abbrev mine : has all i ≡ true
      mine = so_far.stop.inside i turn.there

      -- It ends after the tick.
      pub stop_after : tick < finish_at t w i → Stopping t w all first tick due rest'
      stop_after late =
          record {
            stop = next tick (omega arith);
            low = so_far.low;
            ends =
                λ k y n e.
                by_cases
                (ℕ_discrete k i)
                (λ q. absurd (omega (arith, ap (finish_at t w) q)))
                (λ ne. so_far.ends k y (sym (turn.others k ne) ∙ n) e);
            only = so_far.only;
          }

      module _ (below : own_at t i < most) where
        -- It ends on it.
        pub stop_on : (due' : ℕ) → finish_at t w i ≡ tick → due' ≡ bit_or due (2 ^ own_at t i)
            → Stopping t w all first tick due' rest'
        stop_on due' on e =
            let is : (c : ℕ) → has due' c ≡ (has due c || eqb c (own_at t i)) =
            λ c. ap (λ (x : ℕ). has x c) e ∙ has_with due (own_at t i) c in
            record {
              stop = next tick (omega arith);
              low = omega (arith, e, or_lt most due (2 ^ own_at t i) so_far.low (pow-lt below));
              ends =
                  λ k y n q.
                  by_cases
                  (ℕ_discrete k i)
                  (λ p.
                  is (own_at t k)
                  ∙ ap (λ (b : Bool). has due (own_at t k) || b) (eq-eqb (own_at t k) (own_at t i) (ap (own_at t) p))
                  ∙ or-true (has due (own_at t k)))
                  (λ ne.
                  is (own_at t k)
                  ∙ ap (λ (b : Bool). b || eqb (own_at t k) (own_at t i))
                  (so_far.ends k y (sym (turn.others k ne) ∙ n) q));
              only =
                  λ c y.
                  by_bool
                  (has due c)
                  (so_far.only c)
                  (λ n. (
                    i,
                    mine,
                    sym on,
                    sym (eqb-true c (own_at t i) (sym (is c ∙ ap (λ (b : Bool). b || eqb c (own_at t i)) n) ∙ y)),
                  ));
            }

        -- It ends sooner.
        pub stop_sooner : (tick' due' : ℕ) → tick' ≡ finish_at t w i → tick' < tick → due' ≡ 2 ^ own_at t i
            → Stopping t w all first tick' due' rest'
        stop_sooner tick' due' on sooner e =
            let is : (c : ℕ) → has due' c ≡ eqb c (own_at t i) =
            λ c. ap (λ (x : ℕ). has x c) e ∙ has_single (own_at t i) c in
            record {
              stop = next tick' (omega arith);
              low = omega (arith, e, pow-lt below);
              ends =
                  λ k y n q.
                  by_cases
                  (ℕ_discrete k i)
                  (λ p. is (own_at t k) ∙ eq-eqb (own_at t k) (own_at t i) (ap (own_at t) p))
                  (λ ne. absurd (omega (arith, so_far.stop.least k y (sym (turn.others k ne) ∙ n))));
              only = λ c y. (i, mine, on, sym (eqb-true c (own_at t i) (sym (is c) ∙ y)));
            }

-- ---- a set is `old` but at the members of `all`, where it is as they are marked

pub record Marking (mark : ℕ → Bool) (old all new rest : ℕ) : Type 0 where
  pub low : new < 2 ^ most
  pub rest_low : rest < 2 ^ most
  pub inside : (k : ℕ) → has rest k ≡ true → has all k ≡ true
  pub kept : (k : ℕ) → has all k ≡ false → has new k ≡ has old k
  pub yet : (k : ℕ) → has rest k ≡ true → has new k ≡ has old k
  pub done : (k : ℕ) → has all k ≡ true → has rest k ≡ false → has new k ≡ mark k

module _ (mark : ℕ → Bool) (old all : ℕ) where
  pub marking : old < 2 ^ most → all < 2 ^ most → Marking mark old all old all
  marking low all_low =
      record {
        low = low;
        rest_low = all_low;
        inside = λ k y. y;
        kept = λ k n. refl;
        yet = λ k y. refl;
        done = λ k y n. true_not_false y n;
      }

  module _ {new rest : ℕ} (so_far : Marking mark old all new rest) where
    pub marked : rest ≡ 0 → (k : ℕ) → has new k ≡ cond (has all k) (mark k) (has old k)
    marked none k =
        by_bool
        (has all k)
        (λ y.
        so_far.done k y (ap (λ (x : ℕ). has x k) none ∙ has_none k) ∙ sym (cond_true (mark k) (has old k) y))
        (λ n. so_far.kept k n ∙ sym (cond_false (mark k) (has old k) n))

    -- The others stay marked as they were.
    module _ {rest' i : ℕ} (turn : Turn rest rest' i) (mark' : ℕ → Bool)
        (as_was : (k : ℕ) → k ≢ i → mark k ≡ mark' k) where
      mark_turn : (new' : ℕ) → new' < 2 ^ most → has new' i ≡ mark' i
          → ((k : ℕ) → k ≢ i → has new' k ≡ has new k)
          → Marking mark' old all new' rest'
      mark_turn new' low here others =
          let mine : has all i ≡ true = so_far.inside i turn.there in
          record {
            low = low;
            rest_low = turn.low;
            inside = λ k y. so_far.inside k (turn_has turn k y);
            kept = λ k n. others k (λ e. true_not_false mine (sym (ap (has all) e) ∙ n)) ∙ so_far.kept k n;
            yet =
                λ k y. others k (λ e. true_not_false y (ap (has rest') e ∙ turn.gone))
                ∙ so_far.yet k (turn_has turn k y);
            done =
                λ k y n.
                by_cases
                (ℕ_discrete k i)
                (λ e. ap (has new') e ∙ here ∙ ap mark' (sym e))
                (λ ne. others k ne ∙ so_far.done k y (sym (turn.others k ne) ∙ n) ∙ as_was k ne);
          }

      pub mark_with : (new' : ℕ) → mark' i ≡ true → new' ≡ bit_or new (2 ^ i) → Marking mark' old all new' rest'
      mark_with new' y e =
          let is : (k : ℕ) → has new' k ≡ (has new k || eqb k i) =
          λ k. ap (λ (x : ℕ). has x k) e ∙ has_with new i k in
          mark_turn new' (omega (arith, e, or_lt most new (2 ^ i) so_far.low (pow-lt turn.below)))
          (is i ∙ ap (λ (b : Bool). has new i || b) (eq-eqb i i refl) ∙ or-true (has new i) ∙ sym y)
          (λ k ne. is k ∙ ap (λ (b : Bool). has new k || b) (ne_eqb k i ne) ∙ or-false (has new k))

      pub mark_without : (new' : ℕ) → mark' i ≡ false → new' ≡ bit_xor new (bit_and new (2 ^ i))
          → Marking mark' old all new' rest'
      mark_without new' n e =
          let is : (k : ℕ) → has new' k ≡ (has new k && not (eqb k i)) =
          λ k. ap (λ (x : ℕ). has x k) e ∙ has_minus new (2 ^ i) k
          ∙ ap (λ (b : Bool). has new k && not b) (has_single i k) in
          mark_turn new' (omega (arith, e, minus_low new (2 ^ i) so_far.low))
          (is i ∙ ap (λ (b : Bool). has new i && not b) (eq-eqb i i refl) ∙ and-false (has new i) ∙ sym n)
          (λ k ne. is k ∙ ap (λ (b : Bool). has new k && not b) (ne_eqb k i ne) ∙ and-true (has new k))

      pub mark_kept : has old i ≡ mark' i → Marking mark' old all new rest'
      mark_kept e = mark_turn new so_far.low (so_far.yet i turn.there ∙ e) (λ k ne. refl)

-- ---- what runs on behind the tick stays in T, and the first end of it is looked for

-- It does not end by then; where it ends, or never where it has ended.
abbrev goes_on : List ℕ → ℕ → ℕ → Bool
goes_on w tick i = not (leb (end_at w i) tick)

abbrev end_behind : List ℕ → ℕ → ℕ → ℕ
end_behind w tick i = cond (goes_on w tick i) (end_at w i) never

pub record Expiring (w : List ℕ) (l : Line) (term first rest : ℕ) : Type 0 where
  pub marks : Marking (goes_on w l.tick) l.term (running_in l) term rest
  pub ends : Least (end_behind w l.tick) never (running_in l) first rest

module _ (w : List ℕ) (l : Line) where
  abbrev on : ℕ → Bool
  on = goes_on w l.tick

  abbrev end : ℕ → ℕ
  end = end_behind w l.tick

  pub expiring : l.term < 2 ^ most → Expiring w l l.term never (running_in l)
  expiring low =
      record {
        marks = marking on l.term (running_in l) low (minus_low l.term l.left low);
        ends = least_none end never (running_in l) (minus_low l.term l.left low);
      }

  module _ {term first rest : ℕ} (so_far : Expiring w l term first rest) where
    module _ {rest' i : ℕ} (turn : Turn rest rest' i) where
      -- It has ended.
      pub expire_ended : (term' : ℕ) → end_at w i ≤ l.tick → term' ≡ bit_xor term (bit_and term (2 ^ i))
          → Expiring w l term' first rest'
      expire_ended term' le e =
          let off : on i ≡ false = ap not (le-leb (end_at w i) l.tick le) in
          record {
            marks = mark_without on l.term (running_in l) so_far.marks turn on (λ k ne. refl) term' off e;
            ends =
                least_more end never (running_in l) first so_far.ends turn
                (omega (arith, so_far.ends.upto, cond_false (end_at w i) never off));
          }

      -- It runs on.
      pub expire_on : (first' : ℕ) → l.tick < end_at w i → first' ≡ min first (end_at w i)
          → Expiring w l term first' rest'
      expire_on first' lt e =
          let runs : on i ≡ true = ap not (lt-leb (end_at w i) l.tick lt) in
          let in_term : has l.term i ≡ true =
          (minus_parts l.term l.left i (so_far.marks.inside i turn.there)).0 in
          record {
            marks =
                mark_kept on l.term (running_in l) so_far.marks turn on (λ k ne. refl) (in_term ∙ sym runs);
            ends =
                least_more end never (running_in l) first' so_far.ends turn
                (e ∙ ap (min first) (sym (cond_true (end_at w i) never runs)));
          }

    module _ (none : rest ≡ 0) where
      term_is : (i : ℕ) → has term i ≡ cond (has (running_in l) i) (on i) (has l.term i)
      term_is = marked on l.term (running_in l) so_far.marks none

      deletes : Deletes w l term
      deletes =
          record {
            low = so_far.marks.low;
            kept =
                λ i b.
                term_is i
                ∙ by_bool
                (has (running_in l) i)
                (λ y.
                cond_true (on i) (has l.term i) y
                ∙ sym (ap₂ (λ (a b : Bool). a && not (b && leb (end_at w i) l.tick))
                (minus_parts l.term l.left i y).0 y))
                (λ n.
                cond_false (on i) (has l.term i) n
                ∙ sym (ap (λ (b : Bool). has l.term i && not (b && leb (end_at w i) l.tick)) n
                ∙ and-true (has l.term i)));
          }

      -- Those that T keeps.
      stays : (i : ℕ) → has (running_in (deleted_line l term)) i ≡ true → (has (running_in l) i ≡ true) × (on i ≡ true)
      stays i y =
          let (there, off) = minus_parts term l.left i y in
          let runs : has (running_in l) i ≡ true =
          by_bool
          (has (running_in l) i)
          (λ r. r)
          (λ n.
          has_minus l.term l.left i
          ∙ both (sym (cond_false (on i) (has l.term i) n) ∙ sym (term_is i) ∙ there) (ap not off)) in
          (runs, sym (cond_true (on i) (has l.term i) runs) ∙ sym (term_is i) ∙ there)

      kept_in : (i : ℕ) → has (running_in l) i ≡ true → on i ≡ true → has (running_in (deleted_line l term)) i ≡ true
      kept_in i y runs =
          has_minus term l.left i
          ∙ both (term_is i ∙ cond_true (on i) (has l.term i) y ∙ runs)
          (ap not (minus_parts l.term l.left i y).1)

      pub expired : Deletes w l term × FirstEnd w (running_in (deleted_line l term)) first
      expired = (
        deletes,
        record {
          least =
              λ i y.
              let (runs, behind) = stays i y in
              omega (
                arith,
                so_far.ends.least i runs (ap (λ (x : ℕ). has x i) none ∙ has_none i),
                cond_true (end_at w i) never behind,
              );
          attained =
              ⊎_elim
              inl
              (λ (i, y, e).
              by_bool
              (on i)
              (λ behind. inr (i, kept_in i y behind, e ∙ cond_true (end_at w i) never behind))
              (λ n. inl (e ∙ cond_false (end_at w i) never n)))
              so_far.ends.attained;
        },
      )
