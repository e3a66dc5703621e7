-- What the refusals 4, 5 and 6 mean.
use Prim.Native.Nat.{ℕ}
use native.Mathlib.Omega.{arith}
use mathlib.Core.Bool.{Bool, true, false}
use mathlib.Core.List.{List}
use mathlib.Core.Logic.{◌↔◌}
use mathlib.Core.Option.{Option, none, some, none-ne-some}
use mathlib.Core.Path.{◌≡◌, refl, sym, ap, ap₂, ◌∙◌}
use borrow.Author.Tests.{ltb-true, lt-ltb}
use lib.Dec.{ltb}
use Rattle.base.proofs.Bools.{by_bool, true_not_false}
use Rattle.plan.specs.Limits.{most_variants, between}
use Rattle.plan.specs.Plan.{Plan}
use Rattle.plan.specs.Refusals.{number_of}
use Rattle.plan.specs.declared.Refusal.{Refusal}
use Rattle.plan.specs.declared.Refusal.TheVariants.{NotOneTerm, Twice, TooManyVariants}
use Rattle.format.specs.Parse
use Rattle.format.specs.Parse.{parse, Result}
use Rattle.format.proofs.Early.{parse_early}
use Rattle.format.proofs.Format.{text_parses, parse_text}
use Rattle.term.specs.Term.{Term, term_of}
use Rattle.term.specs.Variants.{variant_count, twice}
use Rattle.term.proofs.Reading.{term_of_nodes, nodes_term_of, none_if}
use Rattle.term.proofs.Twice.{twice_means}
use Rattle.judge.specs.Judge.{accepts, refuses, judge, judge_result, judge_term, judge_variants}
use Rattle.theorems.specs.Unfit.{TextOf, NotWhole, Whole, HasTwice, HasTooMany}

same_refusal_lem : {q r : Refusal} → refuses q ≡ refuses r → q ≡ r
same_refusal_lem e = cc

other_number : {A : Type 0} {q r : Refusal} → refuses q ≡ refuses r → (number_of q ≡ number_of r → ⊥) → A
other_number e h = absurd (h (ap number_of (same_refusal_lem e)))

never : {A : Type 0} {p : Plan} {t : Term} {r : Refusal} → accepts p t ≡ refuses r → A
never e = absurd (let z : ◌≡◌ {A = ℕ} 0 1 = cc in omega arith)

module _ (s : List ℕ) where
  -- A refusal by the term is of a text that holds a plan, and that is judged by its nodes.
  judged_text : (p : Plan) → TextOf s p → judge s ≡ judge_term p (term_of p.nodes)
  unfolding judge
  judged_text p f = ap judge_result (ap parse f.same ∙ text_parses p f.ranges)

  text_judged : (r : Refusal) → between 4 9 (number_of r) ≡ true → judge s ≡ refuses r
      → (p : Plan) × TextOf s p × (judge_term p (term_of p.nodes) ≡ refuses r)
  unfolding judge
  text_judged r late e = go (parse s) refl e
    where
      go : (o : Result) → parse s ≡ o → judge_result o ≡ refuses r
          → (p : Plan) × TextOf s p × (judge_term p (term_of p.nodes) ≡ refuses r)
      go (Parse.holds p) h e =
          let (ranges, same) = parse_text s p h in (p, record { ranges = ranges; same = same }, e)
      go (Parse.refuses q) h e =
          true_not_false late (parse_early s r (h ∙ ap Parse.refuses (same_refusal_lem e)))

  whole_judged : (p : Plan) (t : Term) → Whole s p t
      → judge s ≡ judge_variants p t (twice t) (ltb most_variants (variant_count t))
  whole_judged p t w = judged_text p w.file ∙ ap (judge_term p) (ap term_of (sym w.term) ∙ term_of_nodes t)

  judged_whole : (r : Refusal) → between 4 9 (number_of r) ≡ true → (number_of NotOneTerm ≡ number_of r → ⊥)
      → judge s ≡ refuses r
      → (p : Plan) × (t : Term) × Whole s p t
      × (judge_variants p t (twice t) (ltb most_variants (variant_count t)) ≡ refuses r)
  judged_whole r late other e =
      let (p, f, h) = text_judged r late e in go p f (term_of p.nodes) refl h
    where
      go : (p : Plan) → TextOf s p → (o : Option Term) → term_of p.nodes ≡ o → judge_term p o ≡ refuses r
          → (p : Plan) × (t : Term) × Whole s p t
          × (judge_variants p t (twice t) (ltb most_variants (variant_count t)) ≡ refuses r)
      go p f none q h = other_number h other
      go p f (some t) q h = (p, t, record { file = f; term = nodes_term_of p.nodes t q }, h)

  pub not_whole : (judge s ≡ refuses NotOneTerm) ↔ NotWhole s
  not_whole = (
    λ e. let (p, f, h) = text_judged NotOneTerm refl e in go p f (term_of p.nodes) refl h,
    λ n. judged_text n.plan n.file ∙ ap (judge_term n.plan) (none_if n.plan.nodes n.none),
  )
    where
      by_variants : (p : Plan) (t : Term) (a b : Bool) → judge_variants p t a b ≡ refuses NotOneTerm → NotWhole s
      by_variants p t true b h = other_number h (λ q. omega (arith, q))
      by_variants p t false true h = other_number h (λ q. omega (arith, q))
      by_variants p t false false h = never h

      go : (p : Plan) → TextOf s p → (o : Option Term) → term_of p.nodes ≡ o → judge_term p o ≡ refuses NotOneTerm
          → NotWhole s
      go p f none q h =
          record {
            plan = p;
            file = f;
            none = λ t e. none-ne-some t (sym q ∙ ap term_of (sym e) ∙ term_of_nodes t);
          }
      go p f (some t) q h = by_variants p t (twice t) (ltb most_variants (variant_count t)) h

  pub has_twice : (judge s ≡ refuses Twice) ↔ HasTwice s
  has_twice = (
    λ e.
        let (p, t, w, h) = judged_whole Twice refl (λ q. omega (arith, q)) e in
        go p t w (twice t) refl (ltb most_variants (variant_count t)) h,
    λ n.
        whole_judged n.plan n.term n.whole
        ∙ ap (λ (b : Bool). judge_variants n.plan n.term b (ltb most_variants (variant_count n.term)))
        ((twice_means n.term).1 (n.variant, n.one_of, n.repeats)),
  )
    where
      go : (p : Plan) (t : Term) → Whole s p t → (a : Bool) → twice t ≡ a → (b : Bool)
          → judge_variants p t a b ≡ refuses Twice → HasTwice s
      go p t w true q b h =
          let (v, m, x) = (twice_means t).0 q in
          record { plan = p; term = t; whole = w; variant = v; one_of = m; repeats = x }
      go p t w false q true h = other_number h (λ q. omega (arith, q))
      go p t w false q false h = never h

  pub has_too_many : (judge s ≡ refuses TooManyVariants) ↔ HasTooMany s
  has_too_many = (
    λ e.
        let (p, t, w, h) = judged_whole TooManyVariants refl (λ q. omega (arith, q)) e in
        go p t w (twice t) refl (ltb most_variants (variant_count t)) refl h,
    λ n.
        whole_judged n.plan n.term n.whole
        ∙ ap₂ (judge_variants n.plan n.term) (never_twice n)
        (lt-ltb most_variants (variant_count n.term) n.many),
  )
    where
      never_twice : (n : HasTooMany s) → twice n.term ≡ false
      never_twice n =
          by_bool (twice n.term)
          (λ y. let (v, m, x) = (twice_means n.term).0 y in absurd (n.once v m x))
          (λ z. z)

      go : (p : Plan) (t : Term) → Whole s p t → (a : Bool) → twice t ≡ a
          → (b : Bool) → ltb most_variants (variant_count t) ≡ b
          → judge_variants p t a b ≡ refuses TooManyVariants → HasTooMany s
      go p t w true q b k h = other_number h (λ q. omega (arith, q))
      go p t w false q true k h =
          record {
            plan = p;
            term = t;
            whole = w;
            once = λ v m x. true_not_false ((twice_means t).1 (v, m, x)) q;
            many = ltb-true most_variants (variant_count t) k;
          }
      go p t w false q false k h = never h
