-- The loop at its end: everything is frozen, and the schedule is the only one under the diagram.
use Prim.Native.Nat.{ℕ, ◌<◌}
use native.Mathlib.Nat.{le_antisymm}
use native.Mathlib.Omega.{arith}
use mathlib.Core.Bool.{true, cond, not, ◌&&◌}
use mathlib.Core.List.Memᴰ
use mathlib.Core.List.{List, [], ◌∷◌}
use mathlib.Core.Path.{◌≡◌, refl, sym, ap, ◌∙◌, subst}
use lib.Seq.{ext_get_or}
use Rattle.base.specs.Below.{every_below}
use Rattle.base.proofs.Bools.{by_bool, true_not_false, cond_true, cond_false}
use Rattle.sets.specs.Sets.{has}
use Rattle.sets.proofs.Laws.{has_none}
use Rattle.timetable.specs.Mark.{mark}
use Rattle.schedule.specs.Schedule.{active}
use Rattle.schedule.specs.Sessions.{starts_of}
use Rattle.schedule.proofs.Load.{Has}
use Rattle.schedule.proofs.Reflect.{active_of}
use Rattle.schedule.proofs.Box.{row_of, row_of_at, row_of_session}
use Rattle.branching.proofs.Room.{some_open}
use Rattle.branching.proofs.Node.{leaf_active}
use Rattle.branching.proofs.Under.{Under}
use Rattle.branching.proofs.Rows.{Rows, leaf_rows}
use Rattle.scan.specs.Scan.{Diagram}
use Rattle.instance.specs.Instance.{own_of, Instance}
use Rattle.instance.specs.Table.{present_of, acts_of, link_of, project_in}
use Rattle.profile.specs.Work.{start_at, latest_of}
use Rattle.soonest.specs.Row.{Ended, row_in}
use Rattle.soonest.proofs.Row.{row_length, row_at}
use Rattle.orders.specs.Book.{is_new_by}
use Rattle.tally.specs.Seen.{Kept, kept_of, IsTally, seen, seen_in, setting_in}
use Rattle.tally.specs.Leaf.{Leaf}
use Rattle.steps.specs.declared.Line.{Line}
use Rattle.steps.proofs.Given.{has_of, ranked}
use Rattle.unbranched.specs.Position.{Position, Explored}
use Rattle.completion.proofs.Latest.{latest_of_lem, latest_least}
use Rattle.completion.proofs.Completed.{Completing}

module _ (t : List ℕ) (given : Instance t) (l : Line) (w : List ℕ) (d : Diagram) (at : Position t l w d)
    {w' : List ℕ} {last rest cands : ℕ} (h : Completing t l w d w' last rest cands) (none : cands ≡ 0) where
  -- As long as something is left, something is open.
  all_frozen : (i : ℕ) → Has (project_in t) i → h.F i ≡ true
  all_frozen i has_i =
      by_bool (h.F i) (λ y. y)
      (λ z.
      let (j, o) = some_open (project_in t) h.F given.rank (ranked t given) i has_i z in
      true_not_false (h.ripe.all j o) (ap (λ (x : ℕ). has x j) none ∙ has_none j))

  ended_here : Ended t w'
  ended_here =
      record {
        timed = h.beside.timed;
        ran = λ i y. omega (arith, h.ends.ended i (all_frozen i (has_of t given i y)));
        idle =
            λ i b n.
            h.beside.ends i b (at.shows.left i ∙ ap (◌&& not (d.frozen i)) n) ∙ at.idle i b n;
      }

  pub leaf_here : {cells : List ℕ} → IsTally cells → Leaf t w' last cells
  unfolding project_in
  leaf_here tally =
      record {
        whole = given;
        ended = ended_here;
        tally = tally;
        last =
            le_antisymm
            (h.ends.least (latest_of w' (present_of t))
            (λ k f.
            let has_k = h.beyond.inside k f in
            latest_of_lem w' (present_of t) k (omega (arith, has_k.below, given.laid.acts)) has_k.there))
            (latest_least w' (present_of t) last
            (λ k b y. h.ends.upto k (all_frozen k (has_of t given k y))));
      }

  -- The row of the schedule.
  row_is : row_of (project_in t) mark h.S ≡ row_in t w'
  unfolding project_in
  row_is =
      let act = leaf_active (project_in t) h.F h.S h.beyond.node all_frozen in
      let long = (row_of_session (project_in t) mark h.S act).long in
      ext_get_or 0 (row_of (project_in t) mark h.S) (row_in t w') (long ∙ sym (row_length t w'))
      (λ i b.
      let below : i < acts_of t = omega (arith, b, long) in
      row_of_at (project_in t) mark h.S i below
      ∙ by_bool (has (present_of t) i)
      (λ y.
      ap (λ (x : ℕ). cond (has (present_of t) i) x mark)
      (omega (arith, h.ends.ended i (all_frozen i (has_of t given i y)))))
      (λ n. cond_false (h.S i) mark n ∙ sym (cond_false (start_at t w' i) mark n))
      ∙ sym (row_at t w' i below))

  rows_here : Rows (project_in t) mark (Under (project_in t) (own_of t) d.frozen d.starts) (row_in t w' ∷ [])
  rows_here =
      h.rows (row_in t w' ∷ [])
      (subst
      (λ (row : List ℕ). Rows (project_in t) mark (Under (project_in t) (own_of t) h.F h.S) (row ∷ []))
      row_is
      (leaf_rows (project_in t) (own_of t) mark h.F h.S h.beyond.node all_frozen))

  pub active_here : active (project_in t) (starts_of (row_in t w')) ≡ true
  active_here =
      active_of (project_in t) (starts_of (row_in t w'))
      (rows_here.session (row_in t w') (Memᴰ.head refl)).is_active

pub explored : (t : List ℕ) → Instance t → (l : Line) (w : List ℕ) (b : List ℕ) {k : Kept} {cells area w' : List ℕ}
    {last rest cands : ℕ} (d : Diagram) → Position t l w d
    → ((d : Diagram) → Position t l w d → Completing t l w d w' last rest cands)
    → cands ≡ 0
    → IsTally cells
    → kept_of cells area ≡ seen_in t b k (row_in t w')
    → Explored t b l k w w' cells area
explored t given l w b {w' = w'} d at all none tally kept =
    record {
      beside = (all d at).beside;
      tally = tally;
      seen =
          λ e there.
          record {
            rows = row_in t w' ∷ [];
            all = rows_here t given l w e there (all e there) none;
            kept = kept;
          };
    }

-- Where the link leads nowhere, every schedule is new.
pub explored_alone : (t : List ℕ) → Instance t → (l : Line) (w : List ℕ) (b : List ℕ) {k : Kept}
    {cells area w' : List ℕ} {last rest cands : ℕ} (d : Diagram)
    → Position t l w d
    → ((d : Diagram) → Position t l w d → Completing t l w d w' last rest cands)
    → cands ≡ 0
    → link_of t ≡ 0
    → IsTally cells
    → kept_of cells area ≡ seen (project_in t) (setting_in t) k (row_in t w')
    → Explored t b l k w w' cells area
unfolding is_new_by every_below
explored_alone t given l w b {k} {w' = w'} d at all none alone tally kept =
    explored t given l w b d at all none tally
    (kept
    ∙ sym
    (cond_true (seen (project_in t) (setting_in t) k (row_in t w')) k
    (ap (λ (n : ℕ). is_new_by (project_in t) n b (row_in t w')) alone)))
