-- One turn of the loop over the variants: the order is known, or the variant is searched and its order becomes an
-- entry.
use Prim.Native.Nat.{ℕ, ◌+◌, ◌*◌, ◌^◌, ◌≤◌, ◌<◌}
use native.Mathlib.Decide.{ℕ_discrete}
use native.Mathlib.Omega.{arith}
use mathlib.Core.Bool.{Bool, true, false, not, cond}
use mathlib.Core.List.Perm
use mathlib.Core.List.{List, [], ◌∷◌, foldl, Memᴰ, List-discrete, Perm}
use mathlib.Core.Path.{◌≡◌, refl, sym, ap, subst, ◌∙◌, fun_ext}
use lib.Dec.{eqb, leb}
use lib.ListN.{length, get_or}
use borrow.Author.Tests.{not-true, not-false}
use Rattle.base.specs.Lists.{keep}
use Rattle.base.specs.Order.{is_before}
use Rattle.base.proofs.Lists.{mem_found, keep_none, keep_same, keep_perm, fold_keep}
use Rattle.plan.specs.Limits.{most_variants}
use Rattle.plan.specs.Plan.{Plan, plan_of}
use Rattle.sets.specs.Sets.{most, has}
use Rattle.timetable.specs.Mark.{mark}
use Rattle.term.specs.Term.{Term}
use Rattle.schedule.specs.Project.{Project}
use Rattle.schedule.specs.Sessions.{starts_of, sessions}
use Rattle.schedule.proofs.Alike.{Alike, latest_alike, sessions_alike}
use Rattle.variant.specs.Project.{variant_at}
use Rattle.variant.specs.Pairs.{sessions_of, is_new}
use Rattle.variant.specs.Tables.{OrderOf}
use Rattle.variant.proofs.Instance.{acts_between}
use Rattle.instance.specs.Instance.{Chosen, Placed}
use Rattle.instance.specs.Table.{preds_at, project_in, link_of}
use Rattle.instance.proofs.Kept.{laid_from_kept}
use Rattle.orders.specs.Book.{entry_cells, order_at, entries_of, itself, Nearest, Book, Chain, Rivals, Prior, Compared}
use Rattle.orders.specs.Book.{Entered, is_new_by}
use Rattle.search.specs.Branch.{Found}
use Rattle.tally.specs.Seen.{Kept, Setting, setting_of, setting_in, timetable_of, rank_kept, row_placed, better, counted}
use Rattle.tally.specs.Seen.{ties_with, seen}
use Rattle.judge.specs.Campaign.{HoldsVariant}
use Rattle.judge.specs.declared.Campaign.{Campaign}
use Rattle.sweep.specs.Booked.{Booked}
use Rattle.sweep.specs.Swept.{LaidFor, project_at, new_at, Ready, Turned}
use Rattle.sweep.proofs.Held.{alike, chosen_for}
use Rattle.sweep.proofs.Booking.{chain_of, nearest_beside, booked_beside, within_own, known_none, known_next}
use Rattle.sweep.proofs.Booking.{new_by_book, entered_next}

-- What becomes of a schedule rests on its latest end alone.
seen_alike : (p q : Project) → Alike p q → (s : Setting) → seen p s ≡ seen q s
unfolding seen counted better
seen_alike p q a s =
    fun_ext
    (λ k.
    fun_ext
    (λ row.
    ap
    (λ (end : ℕ).
    let ahead : Bool = is_before (end ∷ s.variant ∷ timetable_of row) (rank_kept k.tally) in
    cond (leb k.tally.count s.cap)
    (record {
      tally =
          record {
            count = k.tally.count + 1;
            ties = ties_with k.tally end;
            best_end = cond ahead end k.tally.best_end;
            best_variant = cond ahead s.variant k.tally.best_variant;
            best = cond ahead (record { starts = timetable_of row }) k.tally.best;
          };
      area = row_placed k.area (k.tally.count * (s.acts + 1)) (s.variant ∷ row);
    })
    k)
    (latest_alike p q a (starts_of row))))

-- Variant v, whose activities and order are in tables, with the book before it; the link leads to the entries with its
-- activities.
module _ (c : Campaign) (t : Term) (v : ℕ) (h : HoldsVariant c t v) (present : ℕ) (preds : List ℕ)
    (own : OrderOf (variant_at t v) present preds) (heads b : List ℕ) (ready : Ready c t v heads b) (link : ℕ)
    (near : Nearest itself b (entries_of heads) present link) where
  abbrev p : Plan
  p = plan_of c.tables

  pub linked : Chain link b
  linked = chain_of link ready.booked.book near.upto

  pub may_place : (table : List ℕ) → LaidFor c table → Chosen table present preds
  may_place table laid =
      chosen_for c t h.plan table laid v (record { valid = h.plan.valid; below = h.below }) present preds own

  -- The order is known: nothing new is found.
  module _ (b' : List ℕ) (r : Bool) (compared : Compared preds link b b' r) (is : not r ≡ true) where
    pub turn_known : (cap : ℕ) (k : Kept) → Turned c t cap v k k heads b'
    turn_known cap k =
        let (e, below, same_set, same) = compared.known (not-true r is) in
        let few : length p.activities ≤ most = omega (arith, (acts_between p h.plan.valid.ranges).1) in
        let next = known_next t v present preds heads b link own near ready.booked e below same_set same in
        let none : new_at c t v ≡ [] =
        keep_same (is_new p t v) (λ row. false) (sessions_of p t v)
        (known_none t v present preds heads b link own near ready.booked e below same_set same p few)
        ∙ keep_none (λ row. false) (sessions_of p t v) (λ row. refl) in
        record {
          rows = [];
          all = subst (Perm []) (sym none) (Perm.refl []);
          kept = refl;
          ready =
              record {
                booked = booked_beside compared.beside t (v + 1) next;
                room = omega (arith, ready.room, compared.beside.size);
              };
        }

  -- The order is new: the variant is searched, and its order becomes an entry.
  module _ (b' : List ℕ) (r : Bool) (compared : Compared preds link b b' r) (is : not r ≡ false) where
    booked' : Booked t v heads b'
    booked' = booked_beside compared.beside t v ready.booked

    near' : Nearest itself b' (entries_of heads) present link
    near' = nearest_beside compared.beside (entries_of heads) present link near

    pub may_enter : Book heads b'
        × Nearest itself b' (entries_of heads) present link
        × (entries_of heads < most_variants)
        × (entry_cells * (entries_of heads + 1) ≤ length b')
        × ((j : ℕ) → j < most → get_or preds j 0 < 2 ^ most)
    may_enter = (
      booked'.book,
      near',
      omega (arith, booked'.few, h.below, h.plan.valid.few),
      omega (arith, booked'.few, h.below, ready.room, compared.beside.size),
      own.low,
    )

    -- The table with the variant in it.
    module _ (cap : ℕ) (before table : List ℕ) (laid₀ : LaidFor c before)
        (placed : Placed before present preds v cap link table) where
      pub still_laid : LaidFor c table
      still_laid = laid_from_kept before table placed.kept c.tables laid₀

      near_table : Nearest itself b' (entries_of heads) present (link_of table)
      near_table = subst (Nearest itself b' (entries_of heads) present) (sym placed.link_is) near'

      pub prior : Prior table b'
      prior =
          let rivals : Rivals (λ j. get_or preds j 0) (link_of table) b' =
          subst (λ (n : ℕ). Rivals (λ j. get_or preds j 0) n b') (sym placed.link_is)
          (compared.new (not-false r is)) in
          record {
            rivals =
                record {
                  chain = rivals.chain;
                  differ =
                      λ e l like.
                      let d = rivals.differ e l like in
                      record {
                        low = d.low;
                        where_not =
                            λ j small.
                            d.where_not j small
                            ∙ ap (λ (o : ℕ). not (eqb (order_at b' e j) o)) (sym (placed.befores j small));
                      };
                };
            within =
                λ e i j l like small y.
                let (mi, mj) =
                within_own t v present preds heads b' (link_of table) own near_table booked' e l like i j small y in (
                  ap (λ (x : ℕ). has x i) placed.present_is ∙ mi,
                  ap (λ (x : ℕ). has x j) placed.present_is ∙ mj,
                );
          }

      same_project : Alike (project_in table) (project_at c t v)
      unfolding project_in
      same_project =
          alike c t h.plan table still_laid (variant_at t v) (preds_at table)
          (λ i. ap (λ (x : ℕ). has x i) placed.present_is ∙ own.members i)
          (λ i j l. ap (λ (x : ℕ). has x i) (placed.befores j l) ∙ own.before i j l)

      sessions_same : sessions (project_in table) mark ≡ sessions_of p t v
      sessions_same = sessions_alike (project_in table) (project_at c t v) same_project mark

      setting_same : setting_in table ≡ setting_of v c.tables.acts cap
      setting_same = λ i.
          setting_of (placed.number_is i) ((placed.kept.acts ∙ laid₀.acts_are) i) (placed.cap_is i)

      module _ (k k' : Kept) (found : Found table b' k k') where
        abbrev is_new_here : List ℕ → Bool
        is_new_here = is_new_by (project_in table) (link_of table) b'

        listed : (row : List ℕ) → Memᴰ row found.rows → Memᴰ row (sessions_of p t v)
        listed row m =
            subst (Memᴰ row) sessions_same
            (mem_found (List-discrete ℕ_discrete) row (sessions (project_in table) mark)
            ((Perm.mem_iff found.all).0 ∣ m ∣₁))

        new_rows : keep is_new_here found.rows ≡ keep (is_new p t v) found.rows
        new_rows =
            keep_same is_new_here (is_new p t v) found.rows
            (λ row m.
            new_by_book t v present preds heads b' (link_of table) own near_table booked' c h.plan h.below table
            still_laid placed.present_is row (listed row m))

        pub turn_new : (heads'' b'' : List ℕ) → Entered present preds heads b' heads'' b''
            → Turned c t cap v k k' heads'' b''
        turn_new heads'' b'' entered =
            record {
              rows = keep is_new_here found.rows;
              all =
                  subst (λ (l : List (List ℕ)). Perm l (new_at c t v)) (sym new_rows)
                  (subst (λ (l : List (List ℕ)). Perm (keep (is_new p t v) found.rows) (keep (is_new p t v) l))
                  sessions_same
                  (keep_perm (is_new p t v) found.all));
              kept =
                  found.kept
                  ∙ fold_keep is_new_here (seen (project_in table) (setting_in table)) k found.rows
                  ∙ ap (λ (f : Kept → List ℕ → Kept). foldl f k (keep is_new_here found.rows))
                  (seen_alike (project_in table) (project_at c t v) same_project (setting_in table)
                  ∙ ap (seen (project_at c t v)) setting_same);
              ready =
                  record {
                    booked = entered_next t v present preds heads b' link own near' booked' entered;
                    room = omega (arith, ready.room, compared.beside.size, entered.size);
                  };
            }
