-- The span of a node, and the spans of all nodes, from the last one on.
use Prim.Native.Nat.{ℕ, ◌+◌, ◌≤◌, ◌<◌, min}
use mathlib.Core.Bool.{true, false}
use mathlib.Core.List.{List}
use mathlib.Core.Logic.{◌⊎◌, inl, inr}
use mathlib.Core.Option.{some}
use mathlib.Core.Path.{◌≡◌, refl, sym, ap, subst, ◌∙◌}
use native.Mathlib.Decide.{ℕ_discrete}
use native.Mathlib.Omega.{arith}
use lib.ListN.{length, set}
use lib.Seq.{get_or-set_same, get_or-set_other}
use Rattle.plan.specs.Limits.{most_variants, most_nodes}
use Rattle.plan.specs.declared.Node.{Node}
use Rattle.plan.specs.declared.Node.TheVariants.{Act, Seq, Pll, Xor}
use Rattle.term.specs.Term.{Term, Forest, size, term_of, full}
use Rattle.term.specs.Variants.{variant_count}
use Rattle.term.specs.Model.{count}
use Rattle.term.proofs.Counting.{variant_count_count}
use Rattle.pick.specs.Model.{onto, terms, first, rest, terms_at, term_at, node_at, span_at, Spanned, stop, Stopped}
use Rattle.pick.specs.Model.{AlongChildren, Begun, Ended}
use Rattle.pick.specs.declared.Span.{Span}
use Rattle.pick.proofs.Places.{whole, terms_at_lem, enough_at, Fair, fair_at, fair_few}
use Rattle.pick.proofs.Places as places

module _ {ns : List Node} {n : Node} {k from : ℕ} where
  pub act_ended : n ≡ Act k → Ended ns n from (record { next = from; count = 1 })
  unfolding onto count
  act_ended e = rw e (record { later = omega arith; ends = refl; counts = refl })

  pub together_ended : {r : Span} → (n ≡ Seq k) ⊎ (n ≡ Pll k) → AlongChildren ns false k from r → Ended ns n from r
  unfolding onto count
  together_ended (inl e) w = rw e (record { later = w.later; ends = w.ends; counts = w.counts })
  together_ended (inr e) w = rw e (record { later = w.later; ends = w.ends; counts = w.counts })

  pub apart_ended : {r : Span} → n ≡ Xor k → AlongChildren ns true k from r → Ended ns n from r
  unfolding onto count
  apart_ended e w = rw e (record { later = w.later; ends = w.ends; counts = w.counts })

-- Each node's span adds to what is known of those behind it.
module _ (ns : List Node) (spans : List Span) (i : ℕ) (inside : i < length ns) (s : Stopped ns spans (i + 1)) where
  pub begun : (t : Term) → length ns ≤ most_nodes → term_of ns ≡ some t → Begun ns spans (node_at ns i) (i + 1)
  begun t short reads =
      record { short = short; stopped = s; enough = enough_at ns i (whole ns t reads).1 inside }

  module _ (r : Span) (l : i < length spans) (e : Ended ns (node_at ns i) (i + 1) r) where
    abbrev At : ℕ → Span → Type 0
    At j x = (j < x.next) × (terms_at ns x.next ≡ rest (terms_at ns j)) × (x.count ≡ min (count (term_at ns j)) stop)

    at_here : At i r
    at_here =
        let is = terms_at_lem ns i inside in (
          omega (arith, e.later),
          e.ends ∙ sym (ap rest is),
          e.counts ∙ sym (ap (λ (f : Forest). min (count (first f)) stop) is),
        )

    at_each : (j : ℕ) → i ≤ j → j < length ns → Dec (j ≡ i) → At j (span_at (set spans i r) j)
    at_each j h m (yes same) =
        subst (λ (k : ℕ). At k (span_at (set spans i r) k)) (sym same)
        (subst (At i) (sym (get_or-set_same spans i r (record { next = 0; count = 0 }) l)) at_here)
    at_each j h m (no other) =
        subst (At j) (sym (get_or-set_other spans i j r (record { next = 0; count = 0 }) other))
        (s.ends.later j (omega arith) m, s.ends.rests j (omega arith) m, s.counts j (omega arith) m)

    pub stopped_step : Stopped ns (set spans i r) i
    stopped_step =
        record {
          ends =
              record {
                later = λ j h m. (at_each j h m (ℕ_discrete j i)).0;
                rests = λ j h m. (at_each j h m (ℕ_discrete j i)).1;
              };
          counts = λ j h m. (at_each j h m (ℕ_discrete j i)).2;
        }

-- The first count is V, and where V is not too many, no count has stopped.
module _ {ns : List Node} {spans : List Span} (s : Stopped ns spans 0) (t : Term) (reads : term_of ns ≡ some t) where
  pub first_counts : (span_at spans 0).count ≡ min (variant_count t) stop
  unfolding size
  first_counts =
      let is = (whole ns t reads).0 in
      let some : 0 < length ns = places.inside ns 0 (omega (arith, ap size is)) in
      s.counts 0 (omega arith) some
      ∙ ap (λ (n : ℕ). min n stop) (ap (λ (f : Forest). count (first f)) is ∙ sym (variant_count_count t))

  pub not_stopped : full t ≡ true → variant_count t ≤ most_variants → Spanned ns spans 0
  not_stopped filled few =
      let fair : Fair most_variants (terms ns) =
      rw (whole ns t reads).0 (filled, omega (arith, variant_count_count t), tt) in
      record {
        ends = s.ends;
        counts = λ i h l.
            omega (
              arith,
              s.counts i h l,
              fair_few most_variants (terms_at ns i) (omega arith) (fair_at most_variants ns i fair),
            );
      }
