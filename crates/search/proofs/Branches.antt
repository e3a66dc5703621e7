-- The branches at a stop: what the loop over them keeps, and what each is given and gives.
use Prim.Native.Nat.{ℕ, suc, ◌+◌, ◌-◌, ◌^◌, ◌<◌, max}
use native.Mathlib.Decide.{ℕ_discrete, dec_lt}
use native.Mathlib.Omega.{arith}
use mathlib.Core.Bool.{Bool, true, false, not, cond, ◌&&◌}
use mathlib.Core.List.{List}
use mathlib.Core.Logic.{◌≢◌, by_cases}
use mathlib.Core.Path.{◌≡◌, refl, sym, ap, ◌∙◌}
use lib.Dec.{ltb, eqb}
use lib.ListN.{get_or, set}
use lib.Seq.{get_or-set_same, get_or-set_other}
use borrow.Author.Tests.{ltb-true, lt-ltb, eq-eqb, not-true}
use Rattle.base.proofs.Bools.{by_bool, true_not_false, both, and_left, and_right, cond_true, cond_false}
use Rattle.sets.specs.Sets.{most, has, size, width}
use Rattle.sets.specs.Lowest.{lowest_of, after_lowest}
use Rattle.sets.proofs.Laws.{has_some, has_without, size_without}
use Rattle.sets.proofs.Members.{lowest_is, lowest_has, two_left}
use Rattle.sets.proofs.Turns.{Turn, turned, turn_has}
use Rattle.timetable.specs.Mark.{mark}
use Rattle.scan.specs.Scan.{Diagram}
use Rattle.scan.specs.Scan.{select}
use Rattle.scan_exact.proofs.Choices.{Conflict}
use Rattle.instance.specs.Instance.{own_of, Instance}
use Rattle.instance.specs.Table.{acts_of, own_at, tight_of, project_in}
use Rattle.instance.specs.Steps.{Filled}
use Rattle.instance.proofs.Own.{own_is}
use Rattle.profile.specs.Work.{end_at, ready_at, free_at, soon_at, latest_of, ready_from, free_from, Timed, ReadyColumn}
use Rattle.crowding.specs.Crowd.{crowd, Acts}
use Rattle.crowding.proofs.Crowd.{crowd_tight, crowd_sole, crowd_loose, crowd_beside}
use Rattle.tally.specs.Seen.{Kept, kept_of, IsTally, seen_in}
use Rattle.steps.specs.Steps.{frozen_in, loose_in, finish_at, selected_line}
use Rattle.steps.specs.declared.Line.{Line}
use Rattle.steps.proofs.Sets.{frozen_is, loose_is}
use Rattle.steps.proofs.Given.{scannable}
use Rattle.unbranched.specs.Position.{Position, Beside, Explored}
use Rattle.unbranched.specs.Advance.{here_in}
use Rattle.unbranched.specs.declared.Reached.{Reached}
use Rattle.unbranched.proofs.Advancing.{here_low}
use Rattle.unbranched.proofs.Alone.{direct_one, acts_c, here_of, here_is, conflict_of, conflict_is}
use Rattle.completion.specs.Rest.{Uncontested}
use Rattle.completion.proofs.Readied.{timed_set}
use Rattle.ordering.proofs.Lone.{max_with}
use Rattle.search.specs.Choice.{Choosing, Spreading, Takes, Spreads}
use Rattle.ordering.proofs.Branches.{seen_none, seen_more, lowest_least}
use Rattle.search.specs.Branch.{Contest}
use Rattle.search.proofs.Rivals.{placed_acts, placed_tight, placed_roomy}
use Rattle.search.proofs.Rivals.{tight_early, tight_free, roomy_soon}
use Rattle.search.proofs.Choosing.{frozen_j, frozen_other}
use Rattle.search.proofs.Going.{UnderChoice, Going, going_last}
use Rattle.search.proofs.Chosen.{takes_position, spreads_position, position_beside, finish_fits}
use Rattle.search.proofs.Last.{chosen_last}

pub uncontested : (t : List ℕ) (left : ℕ) → left < 2 ^ most → crowd t left ≡ 0 → Uncontested t left
uncontested t left low none =
    record { tight = crowd_tight t left low none; sole = crowd_sole t left low none }

pub beside_itself : (t : List ℕ) (l : Line) (w : List ℕ) → Timed w → Beside t l w w
beside_itself t l w timed =
    record { timed = timed; ends = λ i b z. refl; ready = λ i b y. refl; free = λ c b. refl }

-- The rivals that are not in `rest` have been seen.
pub record Turning (t b : List ℕ) (r : Reached) (k : Kept) (w₀ w cells area : List ℕ) (rest : ℕ) : Type 0 where
  pub tally : IsTally cells
  pub beside : Beside t r.line w₀ w
  pub inside : rest < 2 ^ most
  pub within : (j : ℕ) → has rest j ≡ true → has r.rivals j ≡ true
  pub seen : (d : Diagram) → Position t r.line w₀ d → Going t b d r.rivals k cells area rest

module _ {t : List ℕ} (given : Instance t) {r : Reached} {w₀ : List ℕ} (contest : Contest t w₀ r) where
  abbrev c : ℕ
  c = lowest_of r.line.due

  abbrev l : Line
  l = r.line

  abbrev d₀ : Diagram
  d₀ = contest.some.0

  abbrev at₀ : Position t l w₀ d₀
  at₀ = contest.some.1

  pub contested : has r.line.due (lowest_of r.line.due) ≡ true
  contested = lowest_has l.due c at₀.sets.due_low (λ e. omega (arith, contest.due, e)) refl

  contested_least : (b : ℕ) → b < lowest_of r.line.due → has r.line.due b ≡ false
  contested_least = (lowest_is l.due at₀.sets.due_low (λ e. omega (arith, contest.due, e))).none

  pub contested_acts : lowest_of r.line.due < acts_of t
  contested_acts = acts_c t given l w₀ d₀ at₀ c contested

  pub contested_low : lowest_of r.line.due < most
  contested_low = omega (arith, contested_acts, given.laid.acts)

  here_loose : (i : ℕ) → has (here_in t l) i ≡ true → has (loose_in l) i ≡ true
  here_loose i here = (here_is t given l w₀ d₀ at₀ c contested i here).0

  here_own : (i : ℕ) → has (here_in t l) i ≡ true → own_of t i ≡ c
  here_own i here = (here_is t given l w₀ d₀ at₀ c contested i here).1

  here_soon : has (tight_of t) c ≡ false → (i : ℕ) → has (here_in t l) i ≡ true → soon_at t w₀ i ≡ ready_at w₀ i
  here_soon z i here = roomy_soon given at₀ contested i (here_loose i here) (here_own i here) z

  -- The rivals are the conflict activities of the component.
  rivals_low : r.rivals < 2 ^ most
  rivals_low =
      by_bool (has (tight_of t) c)
      (λ y.
      omega (
        arith,
        (contest.tight y).0,
        here_low t given.laid l contested_low,
      ))
      (λ z. (contest.roomy z).low)

  rival_is : (j : ℕ) → has r.rivals j ≡ true
      → (has (here_in t l) j ≡ true) × (soon_at t w₀ j < l.tick) × (has l.passed j ≡ false)
  rival_is j y =
      by_bool (has (tight_of t) c)
      (λ tight.
      let here : has (here_in t l) j ≡ true = ap (λ (x : ℕ). has x j) (sym (contest.tight tight).0) ∙ y in
      let (loose, own) = here_is t given l w₀ d₀ at₀ c contested j here in
      (here, tight_early given at₀ contested j loose own tight, tight_free given at₀ contested j loose own tight))
      (λ z.
      let all = sym ((contest.roomy z).members j) ∙ y in
      let two = and_left (has (here_in t l) j && not (has l.passed j)) (ltb (ready_at w₀ j) l.tick) all in
      let here : has (here_in t l) j ≡ true = and_left (has (here_in t l) j) (not (has l.passed j)) two in (
        here,
        omega (
          arith,
          here_soon z j here,
          ltb-true (ready_at w₀ j) l.tick
              (and_right (has (here_in t l) j && not (has l.passed j)) (ltb (ready_at w₀ j) l.tick) all),
        ),
        not-true (has l.passed j) (and_right (has (here_in t l) j) (not (has l.passed j)) two),
      ))

  rival_of : (j : ℕ) → has (here_in t l) j ≡ true → soon_at t w₀ j < l.tick → has l.passed j ≡ false
      → has r.rivals j ≡ true
  rival_of j here early free =
      by_bool (has (tight_of t) c) (λ tight. ap (λ (x : ℕ). has x j) (contest.tight tight).0 ∙ here)
      (λ z.
      (contest.roomy z).members j
      ∙ both (both here (ap not free))
      (lt-ltb (ready_at w₀ j) l.tick (omega (arith, here_soon z j here, early))))

  rival_conflict : (d : Diagram) (at : Position t l w₀ d) (j : ℕ) → has r.rivals j ≡ true
      → Conflict (project_in t) (own_of t) (scannable t given) d at.stands c j
  rival_conflict d at j y =
      let (here, early, free) = rival_is j y in
      let (loose, on) = here_is t given l w₀ d at c contested j here in
      conflict_of t given l w₀ d at c contested j loose on early free

  conflict_rival : (d : Diagram) (at : Position t l w₀ d) (j : ℕ)
      → Conflict (project_in t) (own_of t) (scannable t given) d at.stands c j
      → has r.rivals j ≡ true
  conflict_rival d at j x =
      let (loose, on, early, free) = conflict_is t given l w₀ d at c contested j x in
      rival_of j (here_of t given l w₀ d at c contested j loose on) early free

  -- One fewer may be contested once one of what is placed is frozen: two of it can run together, or another is left.
  acts_left_lem : Acts t l.left
  acts_left_lem = record { low = at₀.sets.left_low; below = at₀.sets.left }

  fewer_by : (i : ℕ) → has (here_in t l) i ≡ true → r.many ≡ suc (crowd t (l.left - 2 ^ i))
  fewer_by i here =
      let left : has l.left i ≡ true = (loose_is l i (here_loose i here)).1 in
      by_bool (has (tight_of t) c)
      (λ tight.
      let (all, several) = contest.tight tight in
      let there : has r.rivals i ≡ true = ap (λ (x : ℕ). has x i) all ∙ here in
      let (k, _, y) =
      has_some most (r.rivals - 2 ^ i) (omega (arith, rivals_low))
      (λ e. omega (arith, e, two_left r.rivals rivals_low several i there)) in
      let two : (has r.rivals k && not (eqb k i)) ≡ true = sym (has_without r.rivals i k there) ∙ y in
      let other : has (here_in t l) k ≡ true =
      ap (λ (x : ℕ). has x k) (sym all) ∙ and_left (has r.rivals k) (not (eqb k i)) two in
      contest.many
      ∙ crowd_beside t l.left i left given.laid acts_left_lem k (loose_is l k (here_loose k other)).1
      (λ e. true_not_false (eq-eqb k i e) (not-true (eqb k i) (and_right (has r.rivals k) (not (eqb k i)) two)))
      (here_own k other ∙ sym (here_own i here)))
      (λ z.
      let (loose, own) = here_is t given l w₀ d₀ at₀ c contested i here in
      contest.many
      ∙ crowd_loose t l.left i left given.laid (placed_acts given at₀ contested i loose own)
      (placed_roomy given at₀ contested i loose own z))

  pub some_many : 0 < r.many
  some_many =
      let (i, loose, on, _) = direct_one t given l w₀ d₀ at₀ c contested in
      omega (arith, fewer_by i (here_of t given l w₀ d₀ at₀ c contested i loose on))

  -- At the start and at the end of the loop.
  pub turning_first : (b : List ℕ) {cells area : List ℕ} → IsTally cells
      → Turning t b r (kept_of cells area) w₀ w₀ cells area r.rivals
  turning_first b {cells} {area} tally =
      record {
        tally = tally;
        beside = beside_itself t l w₀ at₀.sets.timed;
        inside = rivals_low;
        within = λ j y. y;
        seen =
            λ d at.
            seen_none (project_in t) mark (UnderChoice t d) r.rivals (seen_in t b) (kept_of cells area);
      }

  pub turning_last : (b : List ℕ) {k : Kept} {w cells area : List ℕ} {rest : ℕ} → Turning t b r k w₀ w cells area rest
      → rest ≡ 0
      → Explored t b r.line k w₀ w cells area
  turning_last b {k} {w} {cells} {area} so_far none =
      record {
        beside = so_far.beside;
        tally = so_far.tally;
        seen =
            λ d at.
            going_last t b given l w₀ d at c contested r.rivals (conflict_rival d at) (rival_conflict d at)
            (so_far.seen d at) none;
      }

  -- One of the rivals.
  module _ (j : ℕ) (rival : has r.rivals j ≡ true) where
    here_j : has (here_in t l) j ≡ true
    here_j = (rival_is j rival).0

    pub rival_loose : has (loose_in r.line) j ≡ true
    rival_loose = here_loose j here_j

    rival_left : has r.line.left j ≡ true
    rival_left = (loose_is l j rival_loose).1

    rival_acts : j < acts_of t
    rival_acts = placed_acts given at₀ contested j rival_loose (here_own j here_j)

    rival_low : j < most
    rival_low = omega (arith, rival_acts, given.laid.acts)

    pub rival_tight : has (tight_of t) (lowest_of r.line.due) ≡ true → has (tight_of t) j ≡ true
    rival_tight = placed_tight given at₀ contested j rival_loose (here_own j here_j)

    rival_roomy : has (tight_of t) (lowest_of r.line.due) ≡ false → has (tight_of t) j ≡ false
    rival_roomy = placed_roomy given at₀ contested j rival_loose (here_own j here_j)

    pub rival_early : soon_at t w₀ j < r.line.tick
    rival_early = (rival_is j rival).1

    -- It is chosen, with what has been left as it was.
    pub choosing : {w : List ℕ} → Beside t r.line w₀ w → Choosing t w r.line (lowest_of r.line.due) j
    unfolding position_beside
    choosing {w} beside =
        let at = position_beside t given l w₀ w d₀ at₀ beside in
        record {
          sets = at.sets;
          loose = rival_loose;
          on = own_is t given.laid j rival_acts ∙ here_own j here_j;
          due = contested;
          early = finish_fits t given l w d₀ at c j contested (rival_conflict d₀ at₀ j rival);
        }

    -- Where two of the component can run together, it is the last of it then.
    pub spreading : has (tight_of t) (lowest_of r.line.due) ≡ false → {w : List ℕ} → Beside t r.line w₀ w
        → Spreading t w r.line (lowest_of r.line.due) j
    unfolding position_beside
    spreading roomy {w} beside =
        record {
          choosing = choosing beside;
          last =
              chosen_last t given l w d₀ (position_beside t given l w₀ w d₀ at₀ beside) c j contested
              (rival_conflict d₀ at₀ j rival) (rival_roomy roomy);
        }

    pub rival_more : r.many ≡ suc (crowd t (r.line.left - 2 ^ j))
    rival_more = fewer_by j here_j

    pub rival_less : size r.line.left most ≡ suc (size (r.line.left - 2 ^ j) most)
    rival_less = size_without most l.left j rival_low rival_left

    still_gone : {left : ℕ} → left ≡ l.left - 2 ^ j → (i : ℕ) → has l.left i ≡ false → has left i ≡ false
    still_gone e i z =
        ap (λ (x : ℕ). has x i) e ∙ has_without l.left j i rival_left ∙ ap (λ (b : Bool). b && not (eqb i j)) z

    -- The latest frozen end.
    latest_with : {w : List ℕ} (w₁ : List ℕ) (due passed live : ℕ) → Beside t l w₀ w
        → ((i : ℕ) → i < most → i ≢ j → end_at w₁ i ≡ end_at w i)
        → latest_of w₁ (frozen_in (selected_line l j due passed live)) ≡ max r.latest (end_at w₁ j)
    latest_with w₁ due passed live beside same =
        let now : Line = selected_line l j due passed live in
        let old : ℕ → ℕ = λ i. cond (has (frozen_in l) i) (end_at w₀ i) 0 in
        let new : ℕ → ℕ = λ i. cond (has (frozen_in now) i) (end_at w₁ i) 0 in
        let chosen = choosing beside in
        let gone : has (frozen_in l) j ≡ false =
        by_bool (has (frozen_in l) j) (λ y. true_not_false rival_left (frozen_is l j y).1) (λ n. n) in
        omega (
          arith,
          contest.last,
          max_with most old new j rival_low (cond_false (end_at w₀ j) 0 gone)
              (λ i ne.
              by_bool (has (frozen_in l) i)
              (λ y.
              let b : i < most = omega (arith, at₀.sets.placed i (frozen_is l i y).0, given.laid.acts) in
              cond_true (end_at w₁ i) 0 (frozen_other chosen due passed live i ne ∙ y)
              ∙ same i b ne
              ∙ beside.ends i b (frozen_is l i y).1
              ∙ sym (cond_true (end_at w₀ i) 0 y))
              (λ z.
              cond_false (end_at w₁ i) 0 (frozen_other chosen due passed live i ne ∙ z)
              ∙ sym (cond_false (end_at w₀ i) 0 z))),
          cond_true (end_at w₁ j) 0 (frozen_j chosen due passed live),
        )

    -- No two of the component can run together.
    module _ (tight : has (tight_of t) (lowest_of r.line.due) ≡ true) {w w₁ : List ℕ} {next : Line}
        (beside : Beside t r.line w₀ w) (takes : Takes t r.line (lowest_of r.line.due) j w w₁ next) where
      pub take_position : (d : Diagram) → Position t r.line w₀ d
          → Position t next w₁ (select (project_in t) (own_of t) d j)
      unfolding position_beside
      take_position d at =
          takes_position t given l w d (position_beside t given l w₀ w d at beside) c j contested
          (rival_conflict d at j rival) contested_least (rival_tight tight) w₁ next takes

      take_cell : (i : ℕ) → i ≢ j → i ≢ free_from + c → get_or w₁ i 0 ≡ get_or w i 0
      take_cell i ne off =
          ap (λ (x : List ℕ). get_or x i 0) takes.stored
          ∙ get_or-set_other (set w j (finish_at t w j)) (free_from + own_at t j) i (finish_at t w j) 0
          (λ e. off (e ∙ ap (λ (x : ℕ). free_from + x) (choosing beside).on))
          ∙ get_or-set_other w j i (finish_at t w j) 0 ne

      pub take_left : next.left ≡ r.line.left - 2 ^ j
      take_left = ap (λ (x : Line). x.left) takes.line

      pub take_latest : {last : ℕ} → last ≡ max r.latest (end_at w₁ j) → last ≡ latest_of w₁ (frozen_in next)
      take_latest e =
          e
          ∙ sym
          (latest_with w₁ (l.due - 2 ^ c) l.passed l.live beside
          (λ i b ne. take_cell i ne (λ q. omega (arith, q, b))))
          ∙ ap (λ (x : Line). latest_of w₁ (frozen_in x)) (sym takes.line)

      -- The component is given back.
      pub given_back : {w₂ w₃ : List ℕ} {free : ℕ} → Beside t next w₁ w₂ → free ≡ free_at w₀ (lowest_of r.line.due)
          → w₃ ≡ set w₂ (free_from + lowest_of r.line.due) free
          → Beside t r.line w₀ w₃
      given_back {w₂} {w₃} {free} after same stored =
          let size₂ = after.timed.size in
          let cell : (i : ℕ) → i ≢ free_from + c → get_or w₃ i 0 ≡ get_or w₂ i 0 =
          λ i ne. ap (λ (x : List ℕ). get_or x i 0) stored ∙ get_or-set_other w₂ (free_from + c) i free 0 ne in
          record {
            timed =
                timed_set after.timed (omega (arith, same, at₀.sets.timed.times (free_from + c)))
                (omega (arith, size₂, contested_low)) stored;
            ends =
                λ i b z.
                let ne : i ≢ j = λ e. true_not_false rival_left (ap (has l.left) (sym e) ∙ z) in
                let off : i ≢ free_from + c = λ e. omega (arith, e, b) in
                cell i off ∙ after.ends i b (still_gone take_left i z) ∙ take_cell i ne off ∙ beside.ends i b z;
            ready =
                λ i b y.
                let off : 32 + i ≢ free_from + c = λ e. omega (arith, e, b) in
                cell (32 + i) off
                ∙ after.ready i b (ap (λ (x : Line). has x.placed i) takes.line ∙ y)
                ∙ take_cell (32 + i) (λ e. omega (arith, e, rival_low)) off
                ∙ beside.ready i b y;
            free =
                λ k b.
                by_cases (ℕ_discrete k c)
                (λ e.
                ap (free_at w₃) e
                ∙ ap (λ (x : List ℕ). free_at x c) stored
                ∙ get_or-set_same w₂ (free_from + c) free 0 (omega (arith, size₂, contested_low))
                ∙ same
                ∙ ap (free_at w₀) (sym e))
                (λ ne.
                let off : 64 + k ≢ free_from + c = λ e. ne (omega (arith, e)) in
                cell (64 + k) off ∙ after.free k b
                ∙ take_cell (64 + k) (λ e. omega (arith, e, rival_low)) off
                ∙ beside.free k b);
          }

    -- Two of it can.
    module _ (roomy : has (tight_of t) (lowest_of r.line.due) ≡ false) {w w₁ : List ℕ} {next : Line}
        (beside : Beside t r.line w₀ w) (spreads : Spreads t r.line (lowest_of r.line.due) j w w₁ next) where
      pub spread_position : (d : Diagram) → Position t r.line w₀ d
          → Position t next w₁ (select (project_in t) (own_of t) d j)
      unfolding position_beside
      spread_position d at =
          spreads_position t given l w d (position_beside t given l w₀ w d at beside) c j contested
          (rival_conflict d at j rival) contested_least (rival_roomy roomy) w₁ next spreads

      pub spread_left : next.left ≡ r.line.left - 2 ^ j
      spread_left = ap (λ (x : Line). x.left) spreads.line

      spread_cell : (i : ℕ) → i ≢ j → ((k : ℕ) → k < most → i ≢ ready_from + k) → get_or w₁ i 0 ≡ get_or w i 0
      spread_cell i ne off =
          spreads.shifts.same i (λ k b s e. off k b e) ∙ get_or-set_other w j i (finish_at t w j) 0 ne

      pub spread_latest : {last : ℕ} → last ≡ max r.latest (end_at w₁ j) → last ≡ latest_of w₁ (frozen_in next)
      spread_latest e =
          e
          ∙ sym
          (latest_with w₁ (l.due - 2 ^ c) spreads.passed spreads.live beside
          (λ i b ne. spread_cell i ne (λ k m q. omega (arith, q, b))))
          ∙ ap (λ (x : Line). latest_of w₁ (frozen_in x)) (sym spreads.line)

      -- What is placed can start when it could before.
      pub readied_back : {w₂ w₃ : List ℕ} (column : List ℕ) → Beside t next w₁ w₂ → ReadyColumn w₀ column
          → Filled w₂ ready_from width (λ i x. x ≡ get_or column i 0) w₃
          → Beside t r.line w₀ w₃
      readied_back {w₂} {w₃} column after saved filled =
          let ready : (i : ℕ) → i < width → ready_at w₃ i ≡ ready_at w₀ i = λ i b. filled.new i b ∙ saved i b in
          record {
            timed =
                record {
                  times =
                      λ k.
                      by_cases (dec_lt k ready_from) (λ lt. omega (arith, filled.before k lt, after.timed.times k))
                      (λ ge.
                      by_cases (dec_lt k free_from)
                      (λ lt.
                      let e : ready_from + (k - ready_from) ≡ k = omega (arith, ge) in
                      omega (
                        arith,
                        ap (λ (x : ℕ). get_or w₃ x 0) e,
                        ready (k - ready_from) (omega (arith, lt, ge)),
                        at₀.sets.timed.times (ready_from + (k - ready_from)),
                      ))
                      (λ more. omega (arith, filled.behind k (omega (arith, more)), after.timed.times k)));
                  size = filled.long ∙ after.timed.size;
                };
            ends =
                λ i b z.
                filled.before i (omega (arith, b))
                ∙ after.ends i b (still_gone spread_left i z)
                ∙ spread_cell i (λ e. true_not_false rival_left (ap (has l.left) (sym e) ∙ z))
                (λ k m e. omega (arith, e, b))
                ∙ beside.ends i b z;
            ready = λ i b y. ready i (omega (arith, b));
            free =
                λ k b.
                filled.behind (free_from + k) (omega arith)
                ∙ after.free k b
                ∙ spread_cell (free_from + k) (λ e. omega (arith, e, rival_low)) (λ i m e. omega (arith, e, m))
                ∙ beside.free k b;
          }

    -- It has been seen.
    pub turning_next : (b : List ℕ) {k : Kept} {w w₁ w₂ w₃ cells cells' area area' : List ℕ} {rest rest' : ℕ}
        {next : Line}
        → Turning t b r k w₀ w cells area rest
        → (0 < rest) × (j ≡ lowest_of rest) × (rest' ≡ after_lowest rest)
        → ((d : Diagram) → Position t r.line w₀ d → Position t next w₁ (select (project_in t) (own_of t) d j))
        → Explored t b next (kept_of cells area) w₁ w₂ cells' area'
        → Beside t r.line w₀ w₃
        → Turning t b r k w₀ w₃ cells' area' rest'
    turning_next b {k} {rest = rest} {rest' = rest'} so_far (more, at, next) position done beside =
        let turn : Turn rest rest' j = turned rest rest' j so_far.inside (omega (arith, more)) at next in
        let first = lowest_least rest j so_far.inside (omega (arith, more)) at in
        record {
          tally = done.tally;
          beside = beside;
          inside = turn.low;
          within = λ i y. so_far.within i (turn_has turn i y);
          seen =
              λ d at.
              let found = done.seen (select (project_in t) (own_of t) d j) (position d at) in
              seen_more (project_in t) mark (UnderChoice t d) r.rivals (seen_in t b) k turn first rival found.rows
              found.all found.kept (so_far.seen d at);
        }
