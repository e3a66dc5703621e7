-- Along the children of a group: how many variants they have, where they end, and which of them a number falls into.
use Prim.Native.Nat.{ℕ, zero, suc, ◌+◌, ◌-◌, ◌≤◌, ◌<◌, min}
use mathlib.Core.Bool.{Bool, true, false}
use mathlib.Core.List.{List}
use mathlib.Core.Path.{◌≡◌, refl, sym, ap, ap₂, ◌∙◌}
use native.Mathlib.Nat.{add_assoc, mul_assoc, add-zero, mul-one}
use native.Mathlib.Omega.{arith}
use lib.ListN.{length, length-append}
use borrow.Author.Tests.{lt-ltb, le-ltb}
use Rattle.plan.specs.Limits.{most_nodes}
use Rattle.plan.specs.declared.Node.{Node}
use Rattle.term.specs.Term.{Term, Forest, nil, cons, size, nodes, nodes_of_all, firsts, others}
use Rattle.term.specs.Model.{count, total}
use Rattle.term.proofs.Counting.{capped_sum, capped_product}
use Rattle.pick.specs.declared.Span.{Span}
use Rattle.pick.specs.Model.{span_at, terms_at, term_at, Ends, stop, ways, combine, ChildrenFrom, AlongChildren}
use Rattle.pick.specs.Model.{AmongAlternatives, AlternativeFound}
use Rattle.variant.specs.Pick.{pick, pick_one}
use Rattle.variant.proofs.Pick.{choice}
use Rattle.pick.proofs.Places.{terms_cons, inside}

pub one_less : (k i : ℕ) → i < k → k - i ≡ suc (k - (i + 1))
one_less k i h = omega arith

-- One term further.
pub stepped : {ns : List Node} {spans : List Span} {from : ℕ} → Ends ns spans from → (i : ℕ) → from ≤ i → i < length ns
    → terms_at ns i ≡ cons (term_at ns i) (terms_at ns (span_at spans i).next)
stepped {ns} s i h l = terms_cons ns i l ∙ ap (cons (term_at ns i)) (sym (s.rests i h l))

combine_assoc : (apart : Bool) (a b c : ℕ) → combine apart (combine apart a b) c ≡ combine apart a (combine apart b c)
combine_assoc true a b c = add_assoc a b c
combine_assoc false a b c = mul_assoc a b c

ways_cons : (apart : Bool) (t : Term) (f : Forest) → ways apart (cons t f) ≡ combine apart (count t) (ways apart f)
unfolding count
ways_cons true t f = refl
ways_cons false t f = refl

combine_none : (apart : Bool) (w : ℕ) → combine apart w (ways apart nil) ≡ w
unfolding count
combine_none true w = add-zero w
combine_none false w = mul-one w

-- Numbers that stop at the same one may be taken for each other.
combine_stops : (apart : Bool) (a b : ℕ)
    → min (combine apart a b) stop ≡ min (combine apart (min a stop) (min b stop)) stop
combine_stops true a b = capped_sum stop a b
combine_stops false a b = capped_product stop a b

combine_same : (apart : Bool) (a x b y : ℕ) → min a stop ≡ min x stop → min b stop ≡ min y stop
    → min (combine apart a b) stop ≡ min (combine apart x y) stop
combine_same apart a x b y p q =
    combine_stops apart a b
    ∙ ap₂ (λ (m n : ℕ). min (combine apart m n) stop) p q
    ∙ sym (combine_stops apart x y)

-- What the walk has: so many children are left, and what they add makes up the whole.
pub record Along (ns : List Node) (apart : Bool) (k from at left w : ℕ) : Type 0 where
  pub later : from ≤ at
  pub enough : left ≤ size (terms_at ns at)
  pub low : w ≤ stop
  pub ends : others left (terms_at ns at) ≡ others k (terms_at ns from)
  pub counts : min (combine apart w (ways apart (firsts left (terms_at ns at)))) stop
      ≡ min (ways apart (firsts k (terms_at ns from))) stop

module _ {ns : List Node} {spans : List Span} {k from : ℕ} (walk : ChildrenFrom ns spans k from)
    {apart : Bool} where
  along_inside : {at i w : ℕ} → i < k → Along ns apart k from at (k - i) w → at < length ns
  along_inside {at} h a = inside ns at (omega (arith, a.enough, h))

  pub along_within : {at i w : ℕ} → i < k → Along ns apart k from at (k - i) w → at < most_nodes
  along_within h a = omega (arith, walk.short, along_inside h a)

  pub along_low : {at i w : ℕ} → i < k → Along ns apart k from at (k - i) w → (span_at spans at).count ≤ stop
  along_low {at} h a = omega (arith, walk.stopped.counts at a.later (along_inside h a))

  pub along_step : {at i w n : ℕ} → i < k → n ≡ min (combine apart w (span_at spans at).count) stop
      → Along ns apart k from at (k - i) w
      → Along ns apart k from (span_at spans at).next (k - (i + 1)) n
  unfolding size firsts others
  along_step {at} {i} {w} {n} h c a =
      let m : ℕ = k - (i + 1) in
      let one : k - i ≡ suc m = one_less k i h in
      let l : at < length ns = along_inside h a in
      let t : Term = term_at ns at in
      let f : Forest = terms_at ns (span_at spans at).next in
      let e : terms_at ns at ≡ cons t f = stepped walk.stopped.ends at a.later l in
      let here : min (span_at spans at).count stop ≡ min (count t) stop =
      omega (arith, walk.stopped.counts at a.later l) in
      let so_far : min n stop ≡ min (combine apart w (count t)) stop =
      omega (arith, c, combine_same apart w w (span_at spans at).count (count t) refl here) in
      record {
        later = omega (arith, a.later, walk.stopped.ends.later at a.later l);
        enough = omega (arith, a.enough, h, ap size e);
        low = omega arith;
        ends = sym (ap₂ others one e) ∙ a.ends;
        counts =
            combine_same apart n (combine apart w (count t)) (ways apart (firsts m f))
            (ways apart (firsts m f)) so_far refl
            ∙ ap (λ (x : ℕ). min x stop)
            (combine_assoc apart w (count t) (ways apart (firsts m f))
            ∙ ap (combine apart w) (sym (ways_cons apart t (firsts m f))))
            ∙ ap (λ (g : Forest). min (combine apart w (ways apart g)) stop) (sym (ap₂ firsts one e))
            ∙ a.counts;
      }

  -- At the end, what the walk was to find.
  pub along_end : (at left w : ℕ) → Along ns apart k from at left w → left ≡ 0
      → AlongChildren ns apart k from (record { next = at; count = w })
  unfolding others firsts
  along_end at zero w a h =
      let all : w ≡ min (combine apart w (ways apart nil)) stop = omega (arith, a.low, combine_none apart w) in
      record { later = a.later; ends = a.ends; counts = all ∙ a.counts }
  along_end at (suc left) w a h = absurd (omega arith)

-- Past the children whose variants come before v.
pick_later : (t : Term) (f : Forest) (v : ℕ) → count t ≤ v → pick_one (cons t f) v ≡ pick_one f (v - count t)
unfolding pick
pick_later t f v h = ap (λ (b : Bool). choice b (pick t v) (pick_one f (v - count t))) (le-ltb v (count t) h)

pick_here : (t : Term) (f : Forest) (v : ℕ) → v < count t → pick_one (cons t f) v ≡ pick t v
unfolding pick
pick_here t f v h = ap (λ (b : Bool). choice b (pick t v) (pick_one f (v - count t))) (lt-ltb v (count t) h)

pub record Aside (ns : List Node) (from v at left : ℕ) : Type 0 where
  pub within : at < most_nodes
  pub later : from ≤ at
  pub below : left < total (terms_at ns at)
  pub same : pick_one (terms_at ns at) left ≡ pick_one (terms_at ns from) v
  pub smaller : length (nodes_of_all (terms_at ns at)) ≤ length (nodes_of_all (terms_at ns from))

some_term : (f : Forest) (v : ℕ) → v < total f → 0 < size f
unfolding count size
some_term nil v h = absurd (omega arith)
some_term (cons t f) v h = omega arith

module _ {ns : List Node} {spans : List Span} {from v : ℕ} (apart : AmongAlternatives ns spans from v) where
  term_there : (at : ℕ) {left : ℕ} → left < total (terms_at ns at) → at < length ns
  term_there at {left} below = inside ns at (some_term (terms_at ns at) left below)

  pub aside_start : Aside ns from v from v
  aside_start =
      record {
        within = omega (arith, apart.short, term_there from apart.below);
        later = omega arith;
        below = apart.below;
        same = refl;
        smaller = omega arith;
      }

  pub aside_inside : {at left : ℕ} → Aside ns from v at left → at < length ns
  aside_inside {at} a = term_there at a.below

  pub aside_step : {at left : ℕ} → Aside ns from v at left → (span_at spans at).count ≤ left
      → Aside ns from v (span_at spans at).next (left - (span_at spans at).count)
  unfolding count nodes
  aside_step {at} {left} a h =
      let l : at < length ns = aside_inside a in
      let e : terms_at ns at ≡ cons (term_at ns at) (terms_at ns (span_at spans at).next) =
      stepped apart.spanned.ends at a.later l in
      let n : (span_at spans at).count ≡ count (term_at ns at) = apart.spanned.counts at a.later l in
      let below : left - (span_at spans at).count < total (terms_at ns (span_at spans at).next) =
      omega (arith, a.below, ap total e) in
      record {
        within = omega (arith, apart.short, term_there (span_at spans at).next below);
        later = omega (arith, a.later, apart.spanned.ends.later at a.later l);
        below = below;
        same =
            ap (λ (k : ℕ). pick_one (terms_at ns (span_at spans at).next) (left - k)) n
            ∙ sym (pick_later (term_at ns at) (terms_at ns (span_at spans at).next) left (omega arith))
            ∙ ap (λ (f : Forest). pick_one f left) (sym e)
            ∙ a.same;
        smaller =
            omega (
              arith,
              a.smaller,
              ap (λ (f : Forest). length (nodes_of_all f)) e,
              length-append (nodes (term_at ns at)) (nodes_of_all (terms_at ns (span_at spans at).next)),
            );
      }

  pub aside_found : {at left : ℕ} → Aside ns from v at left → left < (span_at spans at).count
      → AlternativeFound ns from v (record { at = at; v = left })
  aside_found {at} {left} a h =
      let l : at < length ns = aside_inside a in
      let e : terms_at ns at ≡ cons (term_at ns at) (terms_at ns (span_at spans at).next) =
      stepped apart.spanned.ends at a.later l in
      let n : (span_at spans at).count ≡ count (term_at ns at) = apart.spanned.counts at a.later l in
      record {
        later = a.later;
        inside = l;
        below = omega arith;
        same =
            sym (pick_here (term_at ns at) (terms_at ns (span_at spans at).next) left (omega arith))
            ∙ ap (λ (f : Forest). pick_one f left) (sym e)
            ∙ a.same;
        smaller = a.smaller;
      }
