-- A turn of the loop: an open activity is frozen at its earliest start, and what waited for it alone is made ready.
use Prim.Native.Nat.{ℕ, ◌+◌, ◌-◌, ◌^◌, ◌≤◌, ◌<◌, max}
use native.Mathlib.Decide.{ℕ_discrete}
use native.Mathlib.Omega.{arith}
use mathlib.Core.Bool.{Bool, true, false, not, ◌&&◌, ◌||◌, or-true}
use mathlib.Core.List.{List}
use mathlib.Core.Logic.{◌≢◌, ⊎_elim, by_cases}
use mathlib.Core.Path.{◌≡◌, refl, sym, ap, ◌∙◌, subst, subst₂}
use lib.Bits.{bit_and, bit_or, or_lt}
use lib.Dec.{eqb}
use lib.ListN.{get_or, set}
use lib.Seq.{get_or-set_same, get_or-set_other}
use borrow.Author.Tests.{not-true}
use Rattle.base.proofs.Bools.{by_bool, true_not_false, and_left, and_right}
use Rattle.plan.specs.Limits.{latest_possible}
use Rattle.sets.specs.Sets.{most, has, meet}
use Rattle.sets.proofs.Laws.{has_or, has_without}
use Rattle.sets.specs.Lowest.{lowest_of, after_lowest}
use Rattle.sets.proofs.Members.{lowest_has}
use Rattle.sets.proofs.Turns.{Turn, turned, turn_has}
use Rattle.timetable.specs.Mark.{mark}
use Rattle.schedule.specs.Schedule.{Starts, moved}
use Rattle.schedule.proofs.Load.{moved_same, moved_other}
use Rattle.branching.proofs.Room.{Open, Soonest, adding, adding_new, adding_other, adding_old}
use Rattle.branching.proofs.Node.{child}
use Rattle.branching.proofs.Under.{Under}
use Rattle.branching.proofs.Rows.{Rows, alone_rows}
use Rattle.scan.specs.Scan.{Diagram}
use Rattle.instance.specs.Instance.{own_of, Instance}
use Rattle.instance.specs.Table.{acts_of, duration_at, preds_at, next_at, near_at, project_in}
use Rattle.profile.specs.Work.{end_at, ready_at, soon_at, latest_of, ready_from, free_from}
use Rattle.steps.specs.Steps.{finish_at}
use Rattle.steps.specs.declared.Line.{Line}
use Rattle.steps.proofs.Given.{scannable}
use Rattle.unbranched.specs.Position.{Position, Beside, bound_of}
use Rattle.completion.specs.Rest.{Uncontested, Readies}
use Rattle.completion.proofs.Latest.{latest_same}
use Rattle.completion.proofs.Earliest.{Beyond, rest_of, unfrozen, ends_late, comes_after}
use Rattle.completion.proofs.Opened.{left_next, follows, none_again, open_still, next_open, open_next}
use Rattle.completion.proofs.Completed.{Ripe, Ends, Completing, member_below, by_or, open_i, low_i, rests_i}
use Rattle.completion.proofs.Completed.{own_i, some_left, frozen_near, soon_i, less_bound, end_bound, end_early}

module _ (t : List ℕ) (given : Instance t) (l : Line) (w : List ℕ) (d : Diagram) (at : Position t l w d)
    (apart : Uncontested t l.left) {w' : List ℕ} {last rest cands : ℕ} (h : Completing t l w d w' last rest cands)
    (i few : ℕ) (turn : Turn cands few i) where
  abbrev F : ℕ → Bool
  F = h.F

  abbrev S : Starts
  S = h.S

  abbrev e : ℕ
  e = soon_at t w' i

  abbrev G : ℕ → Bool
  G = adding h.F i

  abbrev T : Starts
  T = moved h.S i (soon_at t w' i)

  abbrev rest' : ℕ
  rest' = rest - 2 ^ i

  abbrev chosen : has cands i ≡ true
  chosen = turn.there

  o : Open (project_in t) F i
  o = open_i t given l w d at apart h i chosen

  rests : has rest i ≡ true
  rests = rests_i t given l w d at apart h i chosen

  soon : Soonest (project_in t) F S i e
  soon = soon_i t given l w d at apart h i chosen

  by_new : {C : Type 0} (k : ℕ) → G k ≡ true → (k ≡ i → C) → (k ≢ i → F k ≡ true → C) → C
  by_new k y new old = by_cases (ℕ_discrete k i) new (λ ne. old ne (sym (adding_other F i k ne) ∙ y))

  apart_i : (k : ℕ) → F k ≡ true → k ≢ i
  apart_i k f q = true_not_false f (ap F q ∙ o.waits)

  left_turn : (k : ℕ) → has rest' k ≡ true → has rest k ≡ true
  left_turn k y =
      and_left (has rest k) (not (eqb k i))
      (sym (has_without rest i k rests) ∙ y)

  -- What is frozen then.
  beyond_next : Beyond t l d G T rest'
  beyond_next =
      record {
        node = child (project_in t) F S h.beyond.node i o e soon;
        inside = λ k y. by_new k y (λ q. rw q o.has) (λ ne f. h.beyond.inside k f);
        left = left_next t given F S h.beyond.node rest h.beyond.left i o;
        within = λ k y. h.beyond.within k (left_turn k y);
        agrees =
            λ k f.
            h.beyond.agrees k f
            ∙ sym
            (moved_other S i e k
            (λ q.
            true_not_false f.there
            (ap d.frozen q
            ∙ unfrozen t given l w d at apart F S rest h.beyond i rests)));
        late =
            λ k y g.
            by_new k g
            (λ q.
            omega (
              arith,
              ap T q,
              ap (duration_at t) q,
              moved_same S i e,
              ends_late t given l w d at apart F S rest h.beyond i rests o e
                  soon.room,
            ))
            (λ ne f. omega (arith, moved_other S i e k ne, h.beyond.late k y f));
      }

  rows_next : (rows : List (List ℕ)) → Rows (project_in t) mark (Under (project_in t) (own_of t) G T) rows
      → Rows (project_in t) mark (Under (project_in t) (own_of t) d.frozen d.starts) rows
  rows_next rows all =
      h.rows rows
      (alone_rows (project_in t) (own_of t) mark F S (scannable t given).sound (scannable t given).joint
      h.beyond.node i e o soon
      (λ k has_k z on.
      apart.sole k i (h.beyond.within k (rest_of t given l w d at apart F S rest h.beyond k has_k z))
      (h.beyond.within i rests) on)
      (λ k f _ on. comes_after t given l w d at apart F S rest h.beyond i rests o e soon.room k f on)
      rows all)

  -- The working array.
  module _ (end : ℕ) (ends_at : end ≡ finish_at t w' i) {w₁ w₂ : List ℕ} {next : ℕ} (wrote : w₁ ≡ set w' i end)
      (readies : Readies t l.tick rest' (next_at t i) w₁ w₂ next) where
    low : i < most
    low = low_i t given l w d at apart h i chosen

    -- What was made ready.
    next_is : (j : ℕ) → has next j ≡ true
        → (j < most) × (has (next_at t i) j ≡ true) × (meet (preds_at t j) rest' ≡ false)
    next_is j y =
        let two : (has (next_at t i) j && not (meet (preds_at t j) rest')) ≡ true = sym (readies.found j) ∙ y in (
          member_below next j readies.low y,
          and_left (has (next_at t i) j) (not (meet (preds_at t j) rest')) two,
          not-true (meet (preds_at t j) rest') (and_right (has (next_at t i) j) (not (meet (preds_at t j) rest')) two),
        )

    stored : (c : ℕ) → c ≢ i → get_or w₁ c 0 ≡ get_or w' c 0
    stored c ne = ap (λ (v : List ℕ). get_or v c 0) wrote ∙ get_or-set_other w' i c end 0 ne

    end_first : (k : ℕ) → k < most → end_at w₂ k ≡ end_at w₁ k
    end_first k b = readies.same k (λ j y q. omega (arith, b, q))

    end_other : (k : ℕ) → k < most → k ≢ i → end_at w₂ k ≡ end_at w' k
    end_other k b ne = end_first k b ∙ stored k ne

    end_here : end_at w₂ i ≡ finish_at t w' i
    end_here =
        end_first i low
        ∙ ap (λ (v : List ℕ). end_at v i) wrote
        ∙ get_or-set_same w' i end 0 (omega (arith, low, h.beside.timed.size))
        ∙ ends_at

    ready_other : (j : ℕ) → has (next_at t i) j ≡ false → ready_at w₂ j ≡ ready_at w' j
    ready_other j n =
        readies.same (ready_from + j)
        (λ k y q. true_not_false (next_is k y).1 (ap (has (next_at t i)) {x = k} {y = j} (omega (arith, q)) ∙ n))
        ∙ stored (ready_from + j) (λ q. omega (arith, low, q))

    -- Nothing that is placed waited for it.
    placed_off : (j : ℕ) → j < most → has l.placed j ≡ true → has (next_at t i) j ≡ false
    unfolding project_in
    placed_off j b y =
        by_bool (has (next_at t i) j)
        (λ z.
        true_not_false
        (at.stands.behind j i (at.shows.placed j ∙ y) o.has
        (follows t given F S h.beyond.node rest h.beyond.left i o j b z))
        (unfrozen t given l w d at apart F S rest h.beyond i rests))
        (λ n. n)

    beside_next : Beside t l w w₂
    beside_next =
        record {
          timed = readies.timed;
          ends =
              λ k b n.
              end_other k b
              (λ q.
              true_not_false (h.beyond.within i rests)
              (sym (ap (has l.left) q) ∙ n))
              ∙ h.beside.ends k b n;
          ready =
              λ k b y. ready_other k (placed_off k b y) ∙ h.beside.ready k b y;
          free =
              λ c b.
              readies.same (free_from + c) (λ j y q. omega (arith, (next_is j y).0, q))
              ∙ stored (free_from + c) (λ q. omega (arith, low, q))
              ∙ h.beside.free c b;
        }

    frozen_low : (k : ℕ) → F k ≡ true → k < most
    unfolding project_in
    frozen_low k f = omega (arith, (h.beyond.inside k f).below, given.laid.acts)

    ends_next : Ends t w₂ G T (bound_of (bit_and rest' h.coming)) (max last end)
    ends_next =
        let kept : (k : ℕ) → F k ≡ true → end_at w₂ k ≡ end_at w' k =
        λ k f. end_other k (frozen_low k f) (apart_i k f) in
        record {
          ended =
              λ k y.
              by_new k y
              (λ q. omega (arith, ap T q, ap (duration_at t) q, ap (end_at w₂) q, moved_same S i e, end_here))
              (λ ne f. omega (arith, moved_other S i e k ne, kept k f, h.ends.ended k f));
          early =
              λ k y.
              by_new k y
              (λ q. omega (arith, ap (end_at w₂) q, end_here, end_bound t given l w d at apart h i chosen))
              (λ ne f. omega (arith, kept k f, h.ends.early k f, less_bound t given l w d at apart h i chosen));
          upto =
              λ k y.
              by_new k y (λ q. omega (arith, ap (end_at w₂) q, end_here, ends_at))
              (λ ne f. omega (arith, kept k f, h.ends.upto k f));
          least =
              λ x all.
              omega (
                arith,
                all i (adding_new F i),
                end_here,
                ends_at,
                h.ends.least x (λ k f. omega (arith, kept k f, all k (adding_old F i k f))),
              );
        }

    -- What is open then: what was, and what was made ready.
    module _ {cands' : ℕ} (joined : cands' ≡ bit_or few next) where
      has_joined : (j : ℕ) → has cands' j ≡ (has few j || has next j)
      has_joined j = ap (λ (x : ℕ). has x j) joined ∙ has_or few next j

      by_joined : {C : Type 0} (j : ℕ) → has cands' j ≡ true → (has cands j ≡ true → j ≢ i → C)
          → (has next j ≡ true → C)
          → C
      by_joined j y old new =
          by_or (has few j) (has next j) (sym (has_joined j) ∙ y)
          (λ z. old (turn_has turn j z) (λ q. true_not_false z (ap (has few) q ∙ turn.gone))) new

      next_there : (j : ℕ) → has next j ≡ true → Open (project_in t) G j
      next_there j y =
          let (b, z, clear) = next_is j y in
          next_open t given F S h.beyond.node rest h.beyond.left i o j b z clear

      ready_next : (j : ℕ) → has cands' j ≡ true → has l.placed j ≡ false
          → ready_at w₂ j ≡ max (latest_of w₂ (near_at t j)) l.tick
      ready_next j y off =
          by_joined j y
          (λ z ne.
          ready_other j
          (none_again t given F S h.beyond.node rest h.beyond.left i o j (h.ripe.is_open j z))
          ∙ h.ripe.ready j z off
          ∙ ap (λ (x : ℕ). max x l.tick)
          (sym
          (latest_same w' w₂ (near_at t j)
          (λ k b near. end_other k b (apart_i k (frozen_near t given l w d at apart h j z k near))))))
          (λ z.
          readies.ready j z
          ∙ ap (λ (x : ℕ). max x l.tick) (sym (latest_same w₁ w₂ (near_at t j) (λ k b near. end_first k b))))

      ripe_next : Ripe t l w₂ G cands'
      ripe_next =
          record {
            low = omega (arith, joined, or_lt most few next turn.low readies.low);
            is_open =
                λ j y.
                by_joined j y
                (λ z ne.
                open_still t given F S h.beyond.node rest h.beyond.left i o j (h.ripe.is_open j z) ne)
                (next_there j);
            all =
                λ j oj.
                has_joined j
                ∙ ⊎_elim
                (λ (old, ne). ap (◌|| has next j) (turn.others j ne ∙ h.ripe.all j old))
                (λ y. ap (has few j ||◌) (readies.found j ∙ y) ∙ or-true (has few j))
                (open_next t given F S h.beyond.node rest h.beyond.left i o j oj);
            ready = ready_next;
          }

      completing_next : Completing t l w d w₂ (max last end) rest' cands'
      completing_next =
          record {
            F = G;
            S = T;
            coming = h.coming;
            counts = h.counts;
            beyond = beyond_next;
            rows = rows_next;
            beside = beside_next;
            ends = ends_next;
            ripe = ripe_next;
          }

-- At the head of the loop, whatever diagram the line shows; and the lowest of what is open.
pub record Turning (t : List ℕ) (l : Line) (w w' : List ℕ) (last rest cands : ℕ) : Type 0 where
  pub whichever : (d : Diagram) → Position t l w d → Completing t l w d w' last rest cands
  pub low : cands ≢ 0 → lowest_of cands < most
  pub own : cands ≢ 0 → lowest_of cands < acts_of t
  pub there : cands ≢ 0 → has rest (lowest_of cands) ≡ true
  pub some : cands ≢ 0 → 0 < rest
  pub early : cands ≢ 0 → finish_at t w' (lowest_of cands) ≤ latest_possible

pub turning : {t : List ℕ} {l : Line} {w w' : List ℕ} {last rest cands : ℕ} → Instance t → Uncontested t l.left
    → ((d : Diagram) × Position t l w d)
    → ((d : Diagram) → Position t l w d → Completing t l w d w' last rest cands)
    → Turning t l w w' last rest cands
turning {t} {l} {w} {cands = cands} given apart (d, at) all =
    let h = all d at in
    let chosen : cands ≢ 0 → has cands (lowest_of cands) ≡ true =
    λ more. lowest_has cands (lowest_of cands) h.ripe.low more refl in
    record {
      whichever = all;
      low = λ more. low_i t given l w d at apart h (lowest_of cands) (chosen more);
      own = λ more. own_i t given l w d at apart h (lowest_of cands) (chosen more);
      there = λ more. rests_i t given l w d at apart h (lowest_of cands) (chosen more);
      some = λ more. some_left t given l w d at apart h (lowest_of cands) (chosen more);
      early = λ more. end_early t given l w d at apart h (lowest_of cands) (chosen more);
    }

-- A turn by the numbers that the code has.
module _ (t : List ℕ) (given : Instance t) (l : Line) (w : List ℕ) (d : Diagram) (at : Position t l w d)
    (apart : Uncontested t l.left) {w' : List ℕ} {last rest cands : ℕ} (h : Completing t l w d w' last rest cands)
    {i : ℕ} (more : cands ≢ 0) (lowest : i ≡ lowest_of cands) where
  pub completing_on : {few soon last' left next cands' : ℕ} {w₁ w₂ : List ℕ} → soon ≡ soon_at t w' i
      → w₁ ≡ set w' i (soon + duration_at t i)
      → last' ≡ max last (soon + duration_at t i)
      → left ≡ rest - 2 ^ i
      → Readies t l.tick left (next_at t i) w₁ w₂ next
      → few ≡ after_lowest cands
      → cands' ≡ bit_or few next
      → Completing t l w d w₂ last' left cands'
  completing_on {few} {soon} {next = next} {cands'} {w₁} {w₂} from wrote later fewer readies others joined =
      subst₂ (λ (x y : ℕ). Completing t l w d w₂ x y cands') (sym later) (sym fewer)
      (completing_next t given l w d at apart h i few
      (turned cands few i h.ripe.low more lowest others)
      (soon + duration_at t i)
      (ap (λ (x : ℕ). x + duration_at t i) from)
      wrote
      (subst (λ (x : ℕ). Readies t l.tick x (next_at t i) w₁ w₂ next) fewer readies)
      joined)
