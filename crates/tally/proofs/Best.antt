-- The schedule that is kept: one of those seen, and none of them comes before it.
use Prim.Native.Nat.{ℕ, suc, ◌+◌, ◌≤◌, ◌<◌}
use native.Mathlib.Nat.{not-suc-le-zero}
use native.Mathlib.Omega.{arith}
use mathlib.Core.Logic.{◌⊎◌, inl, inr, ⊎_elim}
use mathlib.Core.Path.{◌≡◌, refl, sym, ap, ap₂, ◌∙◌}
use mathlib.Core.List.Memᴰ
use mathlib.Core.List.{List, [], ◌∷◌, Memᴰ}
use lib.ListN.{length}
use borrow.Author.Tests.{lt-ltb}
use Rattle.base.specs.Order.{is_before, Before, NotAfter}
use Rattle.base.proofs.Bools.{by_bool, true_not_false}
use Rattle.base.proofs.Order.{other_first, not_self, before_not_after, not_after_trans}
use Rattle.schedule.specs.Schedule.{latest_end}
use Rattle.schedule.specs.Sessions.{starts_of}
use Rattle.tally.specs.declared.Tally.{Tally}
use Rattle.tally.specs.Seen.{Kept, setting_of, timetable_of, rank_of, rank_kept, better, counted}
use Rattle.tally.specs.Entries.{Entry, step, run}
use Rattle.tally.proofs.Entries.{step_counts}
use Rattle.tally.proofs.Count.{step_count}

abbrev pub rank_entry : Entry → List ℕ
rank_entry e = rank_of e.project e.variant e.row

-- The tally keeps one of the entries, and none of them comes before it.
pub record FirstFound (t : Tally) (es : List Entry) : Type 0 where
  pub entry : Entry
  pub one_of : Memᴰ entry es
  pub keeps : rank_kept t ≡ rank_entry entry
  pub first : (other : Entry) → Memᴰ other es → NotAfter (rank_kept t) (rank_entry other)

-- The rank kept after the entries: the one kept before or one of theirs, and none of these comes before it.
record Least (rank before : List ℕ) (es : List Entry) : Type 0 where
  from : (rank ≡ before) ⊎ ((e : Entry) × Memᴰ e es × (rank ≡ rank_entry e))
  low : NotAfter rank before
  first : (e : Entry) → Memᴰ e es → NotAfter rank (rank_entry e)

-- One entry, then the others.
least_cons : (a b c : List ℕ) (e : Entry) (es : List Entry) → Least b a (e ∷ []) → Least c b es → Least c a (e ∷ es)
least_cons a b c e es one more =
    record {
      from =
          ⊎_elim
          (λ q.
          ⊎_elim
          (λ r. inl (q ∙ r))
          (λ r. inr (r.0, Memᴰ.head (Memᴰ.eq_of_singleton r.1), q ∙ r.2))
          one.from)
          (λ r. inr (r.0, Memᴰ.tail r.1, r.2))
          more.from;
      low = not_after_trans c b a more.low one.low;
      first =
          λ f m.
          ⊎_elim
          (λ q. not_after_trans c b (rank_entry f) more.low (one.first f (Memᴰ.head q)))
          (λ n. more.first f n)
          (Memᴰ.cases_cons m);
    }

-- One entry that comes before what was kept, and one that does not.
module _ (rank before : List ℕ) (e : Entry) where
  least_new : Before (rank_entry e) before → rank ≡ rank_entry e → Least rank before (e ∷ [])
  least_new h q =
      record {
        from = inr (e, Memᴰ.head refl, q);
        low = ap (is_before before) q ∙ before_not_after (rank_entry e) before h;
        first = λ f m. ap₂ is_before (ap rank_entry (Memᴰ.eq_of_singleton m)) q ∙ not_self (rank_entry e);
      }

  least_old : NotAfter before (rank_entry e) → rank ≡ before → Least rank before (e ∷ [])
  least_old h q =
      record {
        from = inl q;
        low = ap (is_before before) q ∙ not_self before;
        first = λ f m. ap₂ is_before (ap rank_entry (Memᴰ.eq_of_singleton m)) q ∙ h;
      }

module _ (acts cap : ℕ) where
  step_least : (k : Kept) (e : Entry) → k.tally.count ≤ cap
      → Least (rank_kept (step acts cap k e).tally) (rank_kept k.tally) (e ∷ [])
  unfolding counted better
  step_least k e c =
      let next : Kept = step acts cap k e in
      let is : rank_kept next.tally
      ≡ rank_kept (better e.project (setting_of e.variant acts cap) k.tally e.row) =
      ap (λ (x : Kept). rank_kept x.tally) (step_counts acts cap k e c) in
      by_bool
      (is_before (rank_entry e) (rank_kept k.tally))
      (λ y. least_new (rank_kept next.tally) (rank_kept k.tally) e y (is ∙ rw y refl))
      (λ n. least_old (rank_kept next.tally) (rank_kept k.tally) e n (is ∙ rw n refl))

  run_least : (k : Kept) (es : List Entry) → k.tally.count + length es ≤ suc cap
      → Least (rank_kept (run acts cap k es).tally) (rank_kept k.tally) es
  run_least k [] c =
      record {
        from = inl refl;
        low = not_self (rank_kept k.tally);
        first = λ e m. absurd (Memᴰ.not-nil m);
      }
  run_least k (e ∷ es) c =
      let next : Kept = step acts cap k e in
      let one : next.tally.count ≡ k.tally.count + 1 = step_count acts cap k e (omega arith) in
      least_cons (rank_kept k.tally) (rank_kept next.tally) (rank_kept (run acts cap next es).tally) e es
      (step_least k e (omega arith)) (run_least next es (omega arith))

  -- From a tally whose end is later than every entry's.
  pub best : (k : Kept) (es : List Entry) → 0 < length es → k.tally.count + length es ≤ suc cap
      → ((e : Entry) → Memᴰ e es → latest_end e.project (starts_of e.row) < k.tally.best_end)
      → FirstFound (run acts cap k es).tally es
  best k [] some c above = absurd (not-suc-le-zero some)
  best k (e ∷ es) some c above =
      let t : Tally = k.tally in
      let end : ℕ = latest_end e.project (starts_of e.row) in
      let later : end < t.best_end = above e (Memᴰ.head refl) in
      let before : Before (rank_entry e) (rank_kept t) =
      other_first end t.best_end (e.variant ∷ timetable_of e.row)
      (t.best_variant ∷ t.best.starts) (λ q. omega arith)
      ∙ lt-ltb end t.best_end later in
      let least : Least (rank_kept (run acts cap k (e ∷ es)).tally) (rank_kept t) (e ∷ es) = run_least k (e ∷ es) c in
      ⊎_elim
      (λ q. true_not_false before (ap (is_before (rank_entry e)) (sym q) ∙ least.first e (Memᴰ.head refl)))
      (λ r. record { entry = r.0; one_of = r.1; keeps = r.2; first = least.first })
      least.from
