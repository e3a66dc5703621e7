-- The loop over the variants: before the first, from one to the next, and where it stops.
use Prim.Native.Nat.{ℕ, ◌+◌, ◌*◌, ◌≤◌, ◌<◌}
use native.Mathlib.Decide.{dec_lt}
use native.Mathlib.Omega.{arith}
use mathlib.Core.Bool.{cond}
use mathlib.Core.List.Perm
use mathlib.Core.List.{List, foldl, map, Perm}
use mathlib.Core.Logic.{by_cases}
use mathlib.Core.Path.{◌≡◌, sym, ap, ap₂, subst, ◌∙◌}
use lib.Dec.{ltb}
use lib.ListN.{length, replicate, length-replicate}
use borrow.Author.Tests.{lt-ltb, le-ltb}
use Rattle.base.proofs.Bools.{cond_true, cond_false}
use Rattle.base.proofs.Lists.{zeros, gather_same}
use Rattle.term.specs.Term.{Term}
use Rattle.term.specs.Variants.{variant_count}
use Rattle.orders.specs.Book.{entry_cells, buckets, heads_cells, entries_of, bucket_of}
use Rattle.tally.specs.Seen.{Kept, setting_of, seen}
use Rattle.tally.specs.Entries.{entry_of, entries, entries_below, run}
use Rattle.tally.proofs.Entries.{run_none, run_next, run_done}
use Rattle.judge.specs.Campaign.{HoldsPlan}
use Rattle.judge.specs.declared.Campaign.{Campaign}
use Rattle.sweep.specs.Swept.{project_at, new_at, Swept, Ready, Turned}

-- The book at the start has no entries.
pub book_none : (c : Campaign) (t : Term) (b : List ℕ) → entry_cells * variant_count t ≤ length b
    → Ready c t 0 (replicate heads_cells 0) b
book_none c t b room =
    let none : entries_of (replicate heads_cells 0) ≡ 0 = zeros heads_cells buckets in
    record {
      booked =
          record {
            book =
                record {
                  size = length-replicate {A = ℕ} heads_cells 0;
                  room = omega (arith, none);
                  head =
                      λ s.
                      record {
                        upto = omega (arith, zeros heads_cells (bucket_of s));
                        alike = λ some. absurd (omega (arith, zeros heads_cells (bucket_of s)));
                        none = λ e l below. absurd (omega (arith, none));
                      };
                  next = λ e s l. absurd (omega (arith, none));
                  same = λ e l. absurd (omega (arith, none));
                  low = λ e j l. absurd (omega (arith, none));
                };
            few = omega (arith, none);
            each = λ u l. absurd (omega arith);
            only = λ e l. absurd (omega (arith, none));
          };
      room = room;
    }

-- The rows of f for the variants below v, and those of g from v on.
up_to : ℕ → (ℕ → List (List ℕ)) → (ℕ → List (List ℕ)) → ℕ → List (List ℕ)
up_to v f g u = cond (ltb u v) (f u) (g u)

module _ (v : ℕ) (f g : ℕ → List (List ℕ)) where
  up_below : (u : ℕ) → u < v → up_to v f g u ≡ f u
  unfolding up_to
  up_below u l = cond_true (f u) (g u) (lt-ltb u v l)

  up_from : (u : ℕ) → v ≤ u → up_to v f g u ≡ g u
  unfolding up_to
  up_from u l = cond_false (f u) (g u) (le-ltb u v l)

module _ (c : Campaign) (cap : ℕ) (k₀ : Kept) where
  -- What is kept is what the first v variants leave.
  abbrev pub SweptTo : ℕ → Kept → Type 0
  SweptTo v k = (t : Term) → HoldsPlan c t → Swept c t cap v k₀ k

  pub swept_none : SweptTo 0 k₀
  swept_none t h =
      record {
        rows = new_at c t;
        all = λ v l. absurd (omega arith);
        kept = sym (run_none c.tables.acts cap (project_at c t) (new_at c t) k₀);
      }

  module _ (t : Term) (v : ℕ) (k : Kept) (s : Swept c t cap v k₀ k) (g : ℕ → List (List ℕ)) where
    abbrev acts : ℕ
    acts = c.tables.acts

    abbrev more : ℕ → List (List ℕ)
    more = up_to v s.rows g

    all_more : (n : ℕ) → ((u : ℕ) → v ≤ u → u < n → Perm (g u) (new_at c t u)) → (u : ℕ) → u < n
        → Perm (more u) (new_at c t u)
    all_more n each u l =
        by_cases
        (dec_lt u v)
        (λ b. subst (λ (x : List (List ℕ)). Perm x (new_at c t u)) (sym (up_below v s.rows g u b)) (s.all u b))
        (λ a.
        let from : v ≤ u = omega arith in
        subst (λ (x : List (List ℕ)). Perm x (new_at c t u)) (sym (up_from v s.rows g u from)) (each u from l))

    kept_more : k ≡ run acts cap k₀ (entries_below (project_at c t) more v)
    unfolding entries
    kept_more =
        s.kept
        ∙ ap (run acts cap k₀)
        (gather_same v (entries (project_at c t) s.rows) (entries (project_at c t) more)
        (λ u l. ap (map (entry_of (project_at c t u) u)) (sym (up_below v s.rows g u l))))

    -- Once the count is above the cap, what is kept is what more variants leave.
    swept_stops : (n : ℕ) → v ≤ n → cap < k.tally.count
        → ((u : ℕ) → v ≤ u → u < n → Perm (g u) (new_at c t u))
        → Swept c t cap n k₀ k
    swept_stops n l over each =
        record {
          rows = more;
          all = all_more n each;
          kept =
              kept_more
              ∙ sym
              (run_done acts cap (project_at c t) more k₀ v n l
              (omega (arith, over, ap (λ (x : Kept). x.tally.count) kept_more)));
        }

  pub swept_turn : (t : Term) (v : ℕ) (k k' : Kept) {heads b : List ℕ} → Swept c t cap v k₀ k
      → Turned c t cap v k k' heads b → Swept c t cap (v + 1) k₀ k'
  swept_turn t v k k' s turned =
      let new : ℕ → List (List ℕ) = λ u. turned.rows in
      let rows : ℕ → List (List ℕ) = up_to v s.rows new in
      let acts : ℕ = c.tables.acts in
      record {
        rows = rows;
        all =
            all_more t v k s new (v + 1)
            (λ u l m.
            let e : v ≡ u = omega arith in
            subst (λ (x : ℕ). Perm turned.rows (new_at c t x)) e turned.all);
        kept =
            turned.kept
            ∙ ap₂ (foldl (seen (project_at c t v) (setting_of v acts cap))) (kept_more t v k s new)
            (sym (up_from v s.rows new v (omega arith)))
            ∙ sym (run_next acts cap (project_at c t) rows k₀ v);
      }

  -- Where the loop stops sooner, as the count is above the cap.
  pub swept_over : (v : ℕ) (k : Kept) → v ≤ c.variants → cap < k.tally.count → SweptTo v k
      → (t : Term) → HoldsPlan c t → Swept c t cap (variant_count t) k₀ k
  swept_over v k l over s t h =
      swept_stops t v k (s t h) (new_at c t) (variant_count t) (omega (arith, l, h.counted)) over
      (λ u from below. Perm.refl (new_at c t u))
