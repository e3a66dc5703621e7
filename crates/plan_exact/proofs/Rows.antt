-- The pairs of a valid plan stand in order, so that rows which are these in some order are these once they are sorted.
use Prim.Native.Nat.{ℕ, ◌≤◌, ◌<◌}
use native.Mathlib.Omega.{arith}
use mathlib.Core.Path.{◌≡◌, refl, sym}
use mathlib.Core.List.Perm
use mathlib.Core.List.Pairwise
use mathlib.Core.List.{List, ◌∷◌, map, Pairwise, Perm}
use lib.ListN.{length}
use Rattle.plan.specs.Plan.{Plan}
use Rattle.term.specs.Term.{Term}
use Rattle.term.specs.Valid.{Valid}
use Rattle.term.specs.Variants.{variant_count}
use Rattle.term.proofs.Reading.{plan_full}
use Rattle.term.proofs.Counting.{variant_count_count, some_variant}
use Rattle.timetable.specs.Mark.{mark}
use Rattle.base.specs.Below.{every_below}
use Rattle.base.specs.Lists.{keep}
use Rattle.base.specs.Order.{Before, sorted}
use Rattle.base.proofs.Order.{before_prop, before_not_after, cons_ordered, cons_before, sorted_is}
use Rattle.base.proofs.Lists.{keep_pairwise, mem_some, gather_pairwise, perm_length}
use Rattle.schedule.proofs.Box.{sessions_ordered}
use Rattle.variant.specs.Project.{variant_at, project_of}
use Rattle.variant.specs.Pairs.{sessions_of, is_new, pairs, pair_count}
use Rattle.plan_exact.proofs.Variant.{chosen}
use Rattle.plan_exact.proofs.Found.{variant_some}
use Rattle.plan_exact.proofs.Pairs.{pair_mem}

pub pairs_ordered : (p : Plan) (t : Term) → Pairwise Before (pairs p t)
unfolding pairs
pairs_ordered p t =
    let listed : ℕ → List (List ℕ) = λ v. keep (is_new p t v) (sessions_of p t v) in
    gather_pairwise before_prop (variant_count t) (λ v. map (v ∷◌) (listed v))
    (λ v l.
    cons_ordered v (listed v)
    (keep_pairwise (is_new p t v) (sessions_of p t v) (sessions_ordered (project_of p (variant_at t v)) mark)))
    (λ u v l a b m n. cons_before u v l a b (listed u) (listed v) m n)

-- There is a variant.
pub variants_some : (p : Plan) (t : Term) → Valid p t → 1 ≤ variant_count t
variants_some p t valid =
    omega (arith, variant_count_count t, some_variant t (plan_full p t valid.ranges valid.term))

-- Rows that are the pairs in some order.
module _ (p : Plan) (t : Term) (rows : List (List ℕ)) (all : Perm rows (pairs p t)) where
  pub rows_sorted : sorted rows ≡ pairs p t
  rows_sorted =
      sym (sorted_is (pairs p t) rows (Pairwise.imp before_not_after (pairs_ordered p t)) (Perm.symm all))

  pub rows_count : length rows ≡ pair_count p t
  unfolding pair_count
  rows_count = perm_length rows (pairs p t) all

-- Variant 0 has a session, so there is a pair.
pub pairs_some : (p : Plan) (t : Term) → Valid p t → 1 ≤ pair_count p t
unfolding pair_count is_new every_below
pairs_some p t valid =
    let l : 0 < variant_count t = variants_some p t valid in
    let (ss, m) = variant_some p t 0 (chosen p t 0 valid l) in
    mem_some (pairs p t) (pair_mem p t 0 ss (record { below = l; session = m; new = refl }))
