-- What a turn of the loop keeps that makes activities ready.
use Prim.Native.Nat.{ℕ, ◌+◌, ◌^◌, ◌≤◌, ◌<◌, max}
use native.Mathlib.Decide.{ℕ_discrete}
use native.Mathlib.Omega.{arith}
use mathlib.Core.Bool.{Bool, true, false, not, ◌&&◌}
use mathlib.Core.List.{List}
use mathlib.Core.Logic.{◌≢◌, by_cases}
use mathlib.Core.Path.{◌≡◌, refl, sym, ap, ◌∙◌}
use lib.Bits.{bit_or}
use lib.ListN.{get_or, set, length, length-set}
use lib.Seq.{get_or-set_same, get_or-set_other}
use Rattle.base.proofs.Bools.{true_not_false, both, and_left, and_right}
use Rattle.base.proofs.Below.{max_chosen}
use Rattle.plan.specs.Limits.{latest_possible}
use Rattle.sets.specs.Sets.{most, has, meet}
use Rattle.sets.proofs.Laws.{has_none}
use Rattle.sets.proofs.Turns.{Turn, turn_has, Gathering, gather_none, gather_more, gather_less, gathered}
use Rattle.instance.specs.Table.{preds_at, near_at}
use Rattle.profile.specs.Work.{end_at, ready_at, latest_of, ready_from, Timed}
use Rattle.completion.specs.Rest.{Readies}
use Rattle.completion.proofs.Latest.{latest_same}

-- A time stored.
pub timed_set : {w w' : List ℕ} {c x : ℕ} → Timed w → x ≤ latest_possible → c < length w → w' ≡ set w c x → Timed w'
timed_set {w} {w'} {c} {x} timed early inside e =
    record {
      times =
          λ k.
          by_cases (ℕ_discrete k c)
          (λ q. omega (
            arith,
            ap (λ (v : List ℕ). get_or v k 0) e,
            ap (λ (y : ℕ). get_or (set w c x) y 0) q,
            get_or-set_same w c x 0 inside,
          ))
          (λ ne. omega (arith, ap (λ (v : List ℕ). get_or v k 0) e, get_or-set_other w c k x 0 ne, timed.times k));
      size = ap length e ∙ length-set w c x ∙ timed.size;
    }

-- No predecessor is left.
abbrev is_clear : List ℕ → ℕ → ℕ → Bool
is_clear t left j = not (meet (preds_at t j) left)

-- All of the set but the members of `rest` have been looked at.
pub record Readying (t : List ℕ) (tick left new : ℕ) (w w' : List ℕ) (all rest : ℕ) : Type 0 where
  pub timed : Timed w'
  pub marks : Gathering (is_clear t left) new all rest
  pub inside : (j : ℕ) → has rest j ≡ true → has new j ≡ true
  pub ready : (j : ℕ) → has new j ≡ true → has rest j ≡ false → is_clear t left j ≡ true
      → ready_at w' j ≡ max (latest_of w (near_at t j)) tick
  pub same : (c : ℕ) → ((j : ℕ) → has new j ≡ true → is_clear t left j ≡ true → c ≡ ready_from + j → ⊥)
      → get_or w' c 0 ≡ get_or w c 0

module _ (t : List ℕ) (tick left new : ℕ) (w : List ℕ) where
  abbrev clear : ℕ → Bool
  clear = is_clear t left

  pub readying : new < 2 ^ most → Timed w → Readying t tick left new w w 0 new
  readying low timed =
      record {
        timed = timed;
        marks = gather_none clear new low;
        inside = λ j y. y;
        ready = λ j y n c. true_not_false y n;
        same = λ c other. refl;
      }

  module _ {w' : List ℕ} {all rest : ℕ} (so_far : Readying t tick left new w w' all rest) where
    pub readied : rest ≡ 0 → Readies t tick left new w w' all
    readied none =
        let found : (j : ℕ) → has all j ≡ (has new j && clear j) =
        gathered clear new none so_far.marks in
        record {
          timed = so_far.timed;
          low = so_far.marks.low;
          found = found;
          ready =
              λ j y.
              let two : (has new j && clear j) ≡ true = sym (found j) ∙ y in
              so_far.ready j (and_left (has new j) (clear j) two) (ap (λ (x : ℕ). has x j) none ∙ has_none j)
              (and_right (has new j) (clear j) two);
          same = λ c other. so_far.same c (λ j y free. other j (found j ∙ both y free));
        }

    module _ {rest' j : ℕ} (turn : Turn rest rest' j) where
      abbrev mine : has new j ≡ true
      mine = so_far.inside j turn.there

      pub ready_less : clear j ≡ false → Readying t tick left new w w' all rest'
      ready_less n =
          record {
            timed = so_far.timed;
            marks = gather_less clear new turn so_far.marks n;
            inside = λ k y. so_far.inside k (turn_has turn k y);
            ready =
                λ k y no free.
                by_cases (ℕ_discrete k j) (λ e. true_not_false free (ap clear e ∙ n))
                (λ ne. so_far.ready k y (sym (turn.others k ne) ∙ no) free);
            same = so_far.same;
          }

      pub ready_more : {x : ℕ} {w'' : List ℕ} {all' : ℕ} → clear j ≡ true → tick ≤ latest_possible
          → x ≡ max (latest_of w' (near_at t j)) tick
          → w'' ≡ set w' (ready_from + j) x
          → all' ≡ bit_or all (2 ^ j)
          → Readying t tick left new w w'' all' rest'
      ready_more {x} {w''} {all'} free early e wrote with-j =
          let long : ready_from + j < length w' = omega (arith, so_far.timed.size, turn.below) in
          let other : (c : ℕ) → c ≢ ready_from + j → get_or w'' c 0 ≡ get_or w' c 0 =
          λ c ne. ap (λ (v : List ℕ). get_or v c 0) wrote ∙ get_or-set_other w' (ready_from + j) c x 0 ne in
          let ends : (k : ℕ) → k < most → has (near_at t j) k ≡ true → end_at w' k ≡ end_at w k =
          λ k b _. so_far.same k (λ m y c q. omega arith) in
          let most_of : latest_of w' (near_at t j) ≤ latest_possible =
          max_chosen most (has (near_at t j)) (end_at w') latest_possible (λ k l. so_far.timed.times k) in
          record {
            timed = timed_set so_far.timed (omega arith) long wrote;
            marks = gather_more clear new turn so_far.marks all' free with-j;
            inside = λ k y. so_far.inside k (turn_has turn k y);
            ready =
                λ k y no free_k.
                by_cases (ℕ_discrete k j)
                (λ q.
                ap (ready_at w'') q
                ∙ ap (λ (v : List ℕ). ready_at v j) wrote
                ∙ get_or-set_same w' (ready_from + j) x 0 long
                ∙ e
                ∙ ap (λ (y : ℕ). max y tick) (latest_same w w' (near_at t j) ends)
                ∙ ap (λ (y : ℕ). max (latest_of w (near_at t y)) tick) (sym q))
                (λ ne.
                other (ready_from + k) (λ q. ne (omega arith))
                ∙ so_far.ready k y (sym (turn.others k ne) ∙ no) free_k);
            same = λ c ne. other c (λ q. ne j mine free q) ∙ so_far.same c ne;
          }
