-- The loop of the moves without a branch: what it keeps, and why it ends.
use Prim.Native.Nat.{ℕ, ◌+◌, ◌-◌, ◌*◌, ◌^◌, ◌≤◌, ◌<◌, max}
use native.Mathlib.Decide.{ℕ_discrete}
use native.Mathlib.Nat.{le_antisymm}
use native.Mathlib.Omega.{arith}
use mathlib.Core.Bool.{Bool, true, false, not, cond, ◌&&◌, and-true, and-false}
use mathlib.Core.List.{List}
use mathlib.Core.Logic.{◌≢◌, by_cases}
use mathlib.Core.Path.{◌≡◌, refl, sym, ap, ap₂, ◌∙◌}
use lib.Bits.{bit_and}
use lib.Dec.{leb, eqb}
use lib.ListN.{get_or, set}
use lib.Seq.{get_or-set_same, get_or-set_other}
use borrow.Author.Tests.{eq-eqb, ne_eqb}
use Rattle.base.proofs.Bools.{by_bool, true_not_false, both, and_left, and_right, cond_true, cond_false}
use Rattle.base.proofs.Below.{sum_le, cond_le, cond_mono, max_term, max_least, max_eq}
use Rattle.sets.specs.Sets.{most, has, size, meet}
use Rattle.sets.specs.Lowest.{lowest_of, after_lowest}
use Rattle.sets.proofs.Laws.{has_minus, has_none, has_without, meet_of, size_without}
use Rattle.sets.proofs.Members.{lowest_is, lowest_has}
use Rattle.sets.proofs.Turns.{Turn, turned, one_member}
use Rattle.scan.specs.Scan.{Diagram}
use Rattle.instance.specs.Instance.{Laid, own_of, Instance}
use Rattle.instance.specs.Table.{acts_of, component_at}
use Rattle.instance.proofs.Own.{component_alike}
use Rattle.profile.specs.Work.{end_at, latest_of}
use Rattle.crowding.specs.Crowd.{crowd, Acts, Fewer}
use Rattle.crowding.proofs.Crowd.{crowd_some}
use Rattle.steps.specs.Steps.{frozen_in, running_in, loose_in}
use Rattle.steps.specs.declared.Line.{Line}
use Rattle.steps.proofs.Loops.{common_low}
use Rattle.steps.proofs.Sets.{frozen_of, frozen_is, loose_is}
use Rattle.unbranched.specs.Position.{Position, Beside, is_running_on, running_on, Leads, Onward}
use Rattle.unbranched.specs.Advance.{frozen_line, both_in, here_in}
use Rattle.unbranched.proofs.Onward.{beside_itself}
use Rattle.unbranched.proofs.Alone.{direct_one, own_c, acts_c, here_of, here_is, alone_leads}

-- So far.
pub record Advancing (t : List ℕ) (l : Line) (w w' : List ℕ) (line : Line) (last many rivals : ℕ) : Type 0 where
  pub beside : Beside t l w w'
  pub fewer : (i : ℕ) → has line.left i ≡ true → has l.left i ≡ true
  pub more : (i : ℕ) → has l.placed i ≡ true → has line.placed i ≡ true
  pub many_is : many ≡ crowd t line.left
  pub last_is : last ≡ latest_of w' (frozen_in line)
  pub here : 0 < rivals → (0 < line.due) × (rivals ≡ here_in t line)
  pub several : 0 < rivals → after_lowest rivals ≡ 0 → meet rivals line.passed ≡ true
  pub leads : (d : Diagram) → Position t l w d → Leads t d line w'
  pub some : (d : Diagram) × Position t l w d

-- The line once the only one of the first component that is due is frozen.
abbrev pub alone_line : List ℕ → Line → Line
alone_line t l = frozen_line l (lowest_of (here_in t l)) (lowest_of l.due)

pub alone_is : (t : List ℕ) (l r : Line) (i c : ℕ) → r ≡ frozen_line l i c
    → i ≡ lowest_of (here_in t l)
    → c ≡ lowest_of l.due
    → r ≡ alone_line t l
alone_is t l r i c e on first = e ∙ ap₂ (frozen_line l) on first

-- What is left to do.
abbrev pub if_none : ℕ → ℕ
if_none x = cond (eqb x 0) 1 0

abbrev pub to_do : List ℕ → Line → ℕ → ℕ
to_do w line rivals = 2 * (size line.left most + running_on w line) + if_none line.due + if_none rivals

pub if_none_lem : (x : ℕ) → x ≡ 0 → 1 ≤ if_none x
if_none_lem x e = let one : ℕ = 1 in omega (arith, cond_true one 0 (eq-eqb x 0 e))

pub if_some : (x : ℕ) → x ≢ 0 → if_none x ≤ 0
if_some x ne = let one : ℕ = 1 in omega (arith, cond_false one 0 (ne_eqb x 0 ne))

pub if_most : (x : ℕ) → if_none x ≤ 1
if_most x = cond_le (eqb x 0) 1

pub leads_itself : (t : List ℕ) (l : Line) (w : List ℕ) (d : Diagram) → Position t l w d → Leads t d l w
leads_itself t l w d at = record { to = d; position = at; same = λ rows all. all }

leads_on : (t : List ℕ) (d : Diagram) (l l' : Line) (w w' : List ℕ) → Leads t d l w
    → ((e : Diagram) → Position t l w e → Leads t e l' w')
    → Leads t d l' w'
leads_on t d l l' w w' first then =
    let second = then first.to first.position in
    record {
      to = second.to;
      position = second.position;
      same = λ rows all. first.same rows (second.same rows all);
    }

max_le_both : {a b c : ℕ} → a ≤ c → b ≤ c → max a b ≤ c
max_le_both x y = omega (arith, x, y)

-- What was frozen, placed and left before is so after.
pub beside_on : (t : List ℕ) (l line : Line) (w w' w'' : List ℕ)
    → ((i : ℕ) → has line.left i ≡ true → has l.left i ≡ true)
    → ((i : ℕ) → has l.placed i ≡ true → has line.placed i ≡ true)
    → Beside t l w w'
    → Beside t line w' w''
    → Beside t l w w''
beside_on t l line w w' w'' fewer more first second =
    record {
      timed = second.timed;
      ends =
          λ i b z.
          second.ends i b (by_bool (has line.left i) (λ y. true_not_false (fewer i y) z) (λ n. n))
          ∙ first.ends i b z;
      ready = λ i b y. second.ready i b (more i y) ∙ first.ready i b y;
      free = λ c b. second.free c b ∙ first.free c b;
    }

pub here_low : (t : List ℕ) → Laid t → (l : Line) → lowest_of l.due < most → here_in t l < 2 ^ most
here_low t laid l below =
    let c = lowest_of l.due in
    common_low (both_in t l) l.placed (common_low (component_at t c) l.left (laid.component_low c below))

-- At the start.
pub advancing : (t : List ℕ) (l : Line) (w : List ℕ) (last many : ℕ) → last ≡ latest_of w (frozen_in l)
    → many ≡ crowd t l.left
    → ((d : Diagram) × Position t l w d)
    → Advancing t l w w l last many 0
advancing t l w last many last_is many_is start =
    record {
      beside = beside_itself t l w start.1.sets.timed;
      fewer = λ i y. y;
      more = λ i y. y;
      many_is = many_is;
      last_is = last_is;
      here = λ k. absurd (omega (arith, k));
      several = λ k. absurd (omega (arith, k));
      leads = leads_itself t l w;
      some = start;
    }

module _ {t : List ℕ} {l : Line} {w w' : List ℕ} {line : Line} {last many rivals : ℕ} (given : Instance t)
    (so_far : Advancing t l w w' line last many rivals) (none : rivals ≡ 0) where
  pub here_now : (d : Diagram) × Position t line w' d
  here_now =
      let (d, start) = so_far.some in
      let on = so_far.leads d start in
      (on.to, on.position)

  abbrev at : Position t line w' here_now.0
  at = here_now.1

  -- While some may yet be contested, some are left.
  pub some_left : many ≢ 0 → 0 < line.left
  some_left ne = crowd_some t line.left (omega (arith, so_far.many_is, ne))

  -- A move on.
  module _ (w'' : List ℕ) (r : Line) (onward : Onward t line w' w'' r) where
    frozen_same : (i : ℕ) → has (frozen_in r) i ≡ true → has (frozen_in line) i ≡ true
    frozen_same i y =
        let (there, off) = frozen_is r i y in
        let gone : has line.left i ≡ false = ap (λ (x : ℕ). has x i) (sym onward.left) ∙ off in
        by_bool (has line.placed i) (λ old. frozen_of line i old gone)
        (λ z. true_not_false (onward.new i there z) gone)

    pub advance_on : Advancing t l w w'' r last many rivals
    advance_on =
        record {
          beside = beside_on t l line w w' w'' so_far.fewer so_far.more so_far.beside onward.beside;
          fewer = λ i y. so_far.fewer i (ap (λ (x : ℕ). has x i) (sym onward.left) ∙ y);
          more = λ i y. onward.more i (so_far.more i y);
          many_is = so_far.many_is ∙ ap (crowd t) (sym onward.left);
          last_is = so_far.last_is ∙ latest_same;
          here = λ k. absurd (omega (arith, k, none));
          several = λ k. absurd (omega (arith, k, none));
          leads = λ d start. leads_on t d line r w' w'' (so_far.leads d start) onward.leads;
          some = so_far.some;
        }
      where
        frozen_more : (i : ℕ) → has (frozen_in line) i ≡ true → has (frozen_in r) i ≡ true
        frozen_more i y =
            let (there, off) = frozen_is line i y in
            frozen_of r i (onward.more i there) (ap (λ (x : ℕ). has x i) onward.left ∙ off)

        latest_same : latest_of w' (frozen_in line) ≡ latest_of w'' (frozen_in r)
        latest_same =
            max_eq most (λ i. cond (has (frozen_in line) i) (end_at w' i) 0)
            (λ i. cond (has (frozen_in r) i) (end_at w'' i) 0)
            (λ i b.
            by_bool (has (frozen_in line) i)
            (λ y.
            cond_true (end_at w' i) 0 y ∙ sym (onward.beside.ends i b (frozen_is line i y).1)
            ∙ sym (cond_true (end_at w'' i) 0 (frozen_more i y)))
            (λ z.
            cond_false (end_at w' i) 0 z
            ∙ sym
            (cond_false (end_at w'' i) 0
            (by_bool (has (frozen_in r) i) (λ y. true_not_false (frozen_same i y) z) (λ n. n)))))

    pub less_on : line.due ≡ 0 → to_do w'' r rivals < to_do w' line rivals
    less_on resolved =
        by_cases (ℕ_discrete r.due 0)
        (λ e.
        omega (
          arith,
          ap (λ (x : ℕ). size x most) onward.left,
          onward.less e,
          if_none_lem line.due resolved,
          if_most r.due,
        ))
        (λ ne.
        omega (
          arith,
          ap (λ (x : ℕ). size x most) onward.left,
          onward.fewer,
          if_none_lem line.due resolved,
          if_some r.due ne,
        ))

  -- Some of the first component that is due are placed.
  module _ (due : 0 < line.due) where
    abbrev c : ℕ
    c = lowest_of line.due

    abbrev j : ℕ
    j = lowest_of (here_in t line)

    pub due_c : has line.due (lowest_of line.due) ≡ true
    due_c = lowest_has line.due c at.sets.due_low (λ e. omega (arith, due, e)) refl

    least_c : (b : ℕ) → b < lowest_of line.due → has line.due b ≡ false
    least_c = (lowest_is line.due at.sets.due_low (λ e. omega (arith, due, e))).none

    pub below_c : lowest_of line.due < most
    below_c = omega (arith, acts_c t given line w' here_now.0 at c due_c, given.laid.acts)

    pub here_some : 0 < here_in t line
    here_some =
        let (i, y, on, _) = direct_one t given line w' here_now.0 at c due_c in
        by_cases (ℕ_discrete (here_in t line) 0)
        (λ e.
        absurd
        (true_not_false (here_of t given line w' here_now.0 at c due_c i y on)
        (ap (λ (x : ℕ). has x i) e ∙ has_none i)))
        (λ ne. omega (arith, ne))

    -- Several contest it.
    pub advance_rivals : (here : ℕ) → here ≡ here_in t line
        → (after_lowest here ≡ 0 → meet here line.passed ≡ true)
        → Advancing t l w w' line last many here
    advance_rivals here e one =
        record {
          beside = so_far.beside;
          fewer = so_far.fewer;
          more = so_far.more;
          many_is = so_far.many_is;
          last_is = so_far.last_is;
          here = λ k. (due, e);
          several = λ k. one;
          leads = so_far.leads;
          some = so_far.some;
        }

    pub less_rivals : (here : ℕ) → here ≡ here_in t line → to_do w' line here < to_do w' line rivals
    less_rivals here e = omega (arith, if_some here (λ z. omega (arith, here_some, e, z)), if_none_lem rivals none)

    -- One alone is frozen.
    module _ (single : after_lowest (here_in t line) ≡ 0) (free : meet (here_in t line) line.passed ≡ false) where
      turn : Turn (here_in t line) (after_lowest (here_in t line)) j
      turn =
          turned (here_in t line) (after_lowest (here_in t line)) j (here_low t given.laid line below_c)
          (λ e. omega (arith, here_some, e)) refl refl

      here_j : has (here_in t line) j ≡ true
      here_j = turn.there

      loose_j : has (loose_in line) j ≡ true
      loose_j = (here_is t given line w' here_now.0 at c due_c j here_j).0

      on_j : own_of t j ≡ c
      on_j = (here_is t given line w' here_now.0 at c due_c j here_j).1

      pub left_j : has line.left (lowest_of (here_in t line)) ≡ true
      left_j = (loose_is line j loose_j).1

      pub acts_j : lowest_of (here_in t line) < acts_of t
      acts_j = at.sets.left j left_j

      pub below_j : lowest_of (here_in t line) < most
      below_j = omega (arith, acts_j, given.laid.acts)

      free_j : has line.passed j ≡ false
      free_j =
          by_bool (has line.passed j)
          (λ y. true_not_false (meet_of (here_in t line) line.passed j here_j y) free) (λ z. z)

      module _ (w'' : List ℕ) (stored : w'' ≡ set w' j line.tick) where
        abbrev now : Line
        now = alone_line t line

        leads_now : (d : Diagram) → Position t line w' d → Leads t d now w''
        leads_now d here =
            alone_leads t given line w' d here c due_c least_c j
            (λ i y on. one_member turn single i (here_of t given line w' d here c due_c i y on)) free_j w'' stored

        cell : (k : ℕ) → k ≢ j → get_or w'' k 0 ≡ get_or w' k 0
        cell k ne = ap (λ (x : List ℕ). get_or x k 0) stored ∙ get_or-set_other w' j k line.tick 0 ne

        cell_j : end_at w'' j ≡ line.tick
        cell_j =
            ap (λ (x : List ℕ). get_or x j 0) stored
            ∙ get_or-set_same w' j line.tick 0 (omega (arith, below_j, at.sets.timed.size))

        left_less : (i : ℕ) → has now.left i ≡ true → has line.left i ≡ true
        left_less i y =
            and_left (has line.left i) (not (eqb i j)) (sym (has_without line.left j i left_j) ∙ y)

        beside_now : Beside t line w' w''
        beside_now =
            record {
              timed = (leads_now here_now.0 at).position.sets.timed;
              ends = λ i b z. cell i (λ e. true_not_false left_j (ap (has line.left) (sym e) ∙ z));
              ready = λ i b y. cell (32 + i) (λ e. omega (arith, e, below_j));
              free = λ k b. cell (64 + k) (λ e. omega (arith, e, below_j));
            }

        frozen_now : (i : ℕ) → i ≢ j → has (frozen_in now) i ≡ has (frozen_in line) i
        frozen_now i ne =
            has_minus line.placed now.left i
            ∙ ap (λ (x : Bool). has line.placed i && not x)
            (has_without line.left j i left_j ∙ ap (λ (x : Bool). has line.left i && not x) (ne_eqb i j ne)
            ∙ and-true (has line.left i))
            ∙ sym (has_minus line.placed line.left i)

        frozen_j : has (frozen_in now) j ≡ true
        frozen_j =
            frozen_of now j (loose_is line j loose_j).0
            (has_without line.left j j left_j
            ∙ ap (λ (x : Bool). has line.left j && not x) (eq-eqb j j refl)
            ∙ and-false (has line.left j))

        latest_now : latest_of w'' (frozen_in now) ≡ max (latest_of w' (frozen_in line)) line.tick
        latest_now =
            le_antisymm
            (max_least most (λ i. cond (has (frozen_in now) i) (end_at w'' i) 0)
            (max (latest_of w' (frozen_in line)) line.tick)
            (λ i b.
            by_cases (ℕ_discrete i j)
            (λ e. omega (arith, cond_le (has (frozen_in now) i) (end_at w'' i), ap (end_at w'') e, cell_j))
            (λ ne.
            by_bool (has (frozen_in line) i)
            (λ y.
            omega (
              arith,
              cond_true (end_at w'' i) 0 (frozen_now i ne ∙ y),
              cell i ne,
              cond_true (end_at w' i) 0 y,
              max_term most (λ k. cond (has (frozen_in line) k) (end_at w' k) 0) i b,
            ))
            (λ z. omega (arith, cond_false (end_at w'' i) 0 (frozen_now i ne ∙ z))))))
            (max_le_both
            (max_least most (λ i. cond (has (frozen_in line) i) (end_at w' i) 0) (latest_of w'' (frozen_in now))
            (λ i b.
            by_bool (has (frozen_in line) i)
            (λ y.
            let ne : i ≢ j = λ e. true_not_false left_j (ap (has line.left) (sym e) ∙ (frozen_is line i y).1) in
            omega (
              arith,
              cond_true (end_at w' i) 0 y,
              cell i ne,
              cond_true (end_at w'' i) 0 (frozen_now i ne ∙ y),
              max_term most (λ k. cond (has (frozen_in now) k) (end_at w'' k) 0) i b,
            ))
            (λ z. omega (arith, cond_false (end_at w' i) 0 z))))
            (omega (
              arith,
              cell_j,
              cond_true (end_at w'' j) 0 frozen_j,
              max_term most (λ k. cond (has (frozen_in now) k) (end_at w'' k) 0) j below_j,
            )))

        both_is : both_in t line ≡ bit_and (component_at t j) line.left
        both_is =
            ap (λ (x : ℕ). bit_and x line.left)
            (component_alike t given.laid c j (acts_c t given line w' here_now.0 at c due_c) acts_j
            (own_c t given line w' here_now.0 at c due_c ∙ sym on_j))

        acts_left_lem : Acts t line.left
        acts_left_lem = record { low = at.sets.left_low; below = at.sets.left }

        pub fewer_fits : (x : ℕ) → Fewer t j (both_in t line) x → x ≤ many
        fewer_fits x f =
            omega (arith, so_far.many_is, f.fewer line.left acts_left_lem left_j both_is)

        pub advance_frozen : (x many' last' : ℕ) → Fewer t j (both_in t line) x → many' ≡ many - x
            → last' ≡ max last line.tick
            → Advancing t l w w'' (alone_line t line) last' many' rivals
        advance_frozen x many' last' f fewer-is last_is =
            record {
              beside = beside_on t l line w w' w'' so_far.fewer so_far.more so_far.beside beside_now;
              fewer = λ i y. so_far.fewer i (left_less i y);
              more = so_far.more;
              many_is =
                  omega (arith, fewer-is, so_far.many_is, f.fewer line.left acts_left_lem left_j both_is);
              last_is = last_is ∙ ap (λ (y : ℕ). max y line.tick) so_far.last_is ∙ sym latest_now;
              here = λ k. absurd (omega (arith, k, none));
              several = λ k. absurd (omega (arith, k, none));
              leads = λ d start. leads_on t d line now w' w'' (so_far.leads d start) leads_now;
              some = so_far.some;
            }

        running_less : (i : ℕ) → i < most → is_running_on w'' now i ≡ true → is_running_on w' line i ≡ true
        running_less i b y =
            let term : has line.term i ≡ true =
            and_left (has line.term i) (not (has (running_in now) i && leb (end_at w'' i) line.tick)) y in
            by_cases (ℕ_discrete i j)
            (λ e.
            both term
            (ap (λ (x : Bool). not (x && leb (end_at w' i) line.tick))
            (has_minus line.term line.left i
            ∙ ap (λ (x : Bool). has line.term i && not x) (ap (has line.left) e ∙ left_j)
            ∙ and-false (has line.term i))))
            (λ ne.
            both term
            (ap₂ (λ (a : Bool) (e : ℕ). not (a && leb e line.tick))
            (has_minus line.term line.left i
            ∙ ap (λ (x : Bool). has line.term i && not x)
            (sym
            (has_without line.left j i left_j ∙ ap (λ (x : Bool). has line.left i && not x) (ne_eqb i j ne)
            ∙ and-true (has line.left i)))
            ∙ sym (has_minus line.term now.left i))
            (sym (cell i ne))
            ∙ and_right (has line.term i) (not (has (running_in now) i && leb (end_at w'' i) line.tick)) y))

        pub less_frozen : to_do w'' (alone_line t line) rivals < to_do w' line rivals
        unfolding running_on
        less_frozen =
            omega (
              arith,
              size_without most line.left j below_j left_j,
              sum_le most (λ i. cond (is_running_on w'' now i) 1 0) (λ i. cond (is_running_on w' line i) 1 0)
                  (λ i b. cond_mono (is_running_on w'' now i) (is_running_on w' line i) 1 (running_less i b)),
              if_most now.due,
            )
