-- What LIST and BEST answer for an accepted plan, from what the sweeps over its variants have kept.
use Prim.Native.Nat.{ℕ, suc, ◌+◌, ◌*◌, ◌≤◌, ◌<◌}
use native.Mathlib.Numerals.{add-one}
use native.Mathlib.Omega.{arith}
use mathlib.Core.Bool.{true, false}
use mathlib.Core.Path.{◌≡◌, refl, sym, ap, ap₂, ◌∙◌}
use mathlib.Core.List.{List, ◌++◌}
use lib.Dec.{leb}
use lib.ListN.{length, drop}
use borrow.Author.Tests.{le-leb, lt-leb}
use Rattle.base.specs.Lists.{cells_of}
use Rattle.base.specs.Order.{sorted}
use Rattle.sorting.specs.Rows.{rows_in}
use Rattle.plan.specs.Limits.{latest_possible}
use Rattle.plan.specs.Plan.{Plan, plan_of}
use Rattle.plan.specs.declared.Refusal.TheVariants.{OverCap, AreaTooShort}
use Rattle.term.specs.Term.{Term}
use Rattle.term.specs.Variants.{variant_count}
use Rattle.tally.specs.Seen.{kept, no_tally}
use Rattle.tally.specs.declared.Tally.{Tally}
use Rattle.variant.specs.Pairs.{pairs, pair_count}
use Rattle.judge.specs.Judge.{accepts}
use Rattle.judge.specs.Campaign.{HoldsPlan}
use Rattle.judge.specs.declared.Campaign.{Campaign}
use Rattle.judge.proofs.Ranges.{acts_are}
use Rattle.answers.specs.Listed.{list_by, cells_needed}
use Rattle.answers.specs.Shortest.{best_by}
use Rattle.answers.specs.declared.Best.{Best}
use Rattle.std.specs.Prelude.{Ok, Err}
use Rattle.plan_exact.proofs.Answers.{found}
use Rattle.sweep.specs.Swept.{Swept}
use Rattle.calls.proofs.Swept.{allowed, too_many, all_rows_lem, kept_best}

module _ (c : Campaign) (t : Term) (holds : HoldsPlan c t) (cap : ℕ) where
  abbrev p : Plan
  p = plan_of c.tables

  -- A sweep's tally, whatever area it was lent.
  module _ (end : ℕ) (area : List ℕ) (r : Tally)
      (is : (left : List ℕ) × Swept c t cap (variant_count t) (kept (no_tally end) area) (kept r left)) where
    -- The count tells whether the cap allows the pairs, and is their number then.
    pairs_allowed : r.count ≤ cap → (pair_count p t ≡ r.count) × (leb (pair_count p t) cap ≡ true)
    pairs_allowed = allowed c t holds cap (kept (no_tally end) area) (kept r is.0) refl is.1

    pairs_refused : cap < r.count → leb (pair_count p t) cap ≡ false
    pairs_refused = too_many c t holds cap (kept (no_tally end) area) (kept r is.0) refl is.1

    -- LIST: the cells of a row, and those that the rows need.
    width_is : c.tables.acts + 1 ≡ suc (length p.activities)
    width_is = add-one c.tables.acts ∙ ap suc (sym (acts_are c.tables holds.ranged))

    needed_is : r.count ≤ cap → r.count * (c.tables.acts + 1) ≡ cells_needed p t
    needed_is l = ap₂ ◌*◌ (sym (pairs_allowed l).0) width_is

    module _ (before : List ℕ) where
      pub lists_refused : cap < r.count
          → record { answer = Err OverCap; area = before } ≡ list_by (accepts p t) cap before
      lists_refused l = rw (pairs_refused l) refl

      pub lists_short : r.count ≤ cap → length before < r.count * (c.tables.acts + 1)
          → record { answer = Err (AreaTooShort (r.count * (c.tables.acts + 1))); area = before }
          ≡ list_by (accepts p t) cap before
      lists_short l short =
          rw ((pairs_allowed l).1, lt-leb (cells_needed p t) (length before) (omega (arith, needed_is l)))
          (ap (λ (n : ℕ). record { answer = Err (AreaTooShort n); area = before }) (needed_is l))

      -- The second sweep, with the area that is lent, and its rows sorted.
      pub lists_rows : r.count ≤ cap → r.count * (c.tables.acts + 1) ≤ length before → (last : Tally)
          → (found after : List ℕ)
          → Swept c t cap (variant_count t) (kept (no_tally end) before) (kept last found)
          → after
          ≡ cells_of (sorted (rows_in (c.tables.acts + 1) r.count found))
          ++ drop (r.count * (c.tables.acts + 1)) found
          → record { answer = Ok r.count; area = after } ≡ list_by (accepts p t) cap before
      lists_rows l room last found after swept sort =
          let number : r.count ≡ pair_count p t = sym (pairs_allowed l).0 in
          let done : after ≡ cells_of (pairs p t) ++ drop (cells_needed p t) before =
          sort
          ∙ ap₂ (λ (rows : List (List ℕ)) (n : ℕ). cells_of (sorted rows) ++ drop n found)
          (ap₂ (λ (w n : ℕ). rows_in w n found) width_is number)
          (needed_is l)
          ∙ all_rows_lem c t holds cap (kept (no_tally end) before) (kept last found) refl swept (omega arith)
          (omega (arith, needed_is l))
          in
          rw ((pairs_allowed l).1, le-leb (cells_needed p t) (length before) (omega (arith, needed_is l)))
          (λ i. record { answer = Ok (number i); area = done i })

    -- BEST
    pub best_refused : cap < r.count → Err OverCap ≡ best_by (accepts p t) cap
    best_refused l = rw (pairs_refused l) refl

    pub best_found : latest_possible < end → r.count ≤ cap → (b : Best)
        → b ≡ found r.best_variant r.best_end r.count r.ties r.best.starts → Ok b ≡ best_by (accepts p t) cap
    best_found late l b answer =
        let few : pair_count p t ≤ cap = omega (arith, (pairs_allowed l).0) in
        rw (pairs_allowed l).1
        (ap Ok
        (kept_best c t holds cap (kept (no_tally end) area) (kept r is.0) refl is.1 refl late few b
        (answer
        ∙ ap (λ (n : ℕ). found r.best_variant r.best_end n r.ties r.best.starts) (sym (pairs_allowed l).0))))
