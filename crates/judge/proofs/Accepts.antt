-- The definition is the format: the text of every valid plan is accepted as that plan, and what is accepted is the
-- text of a valid plan. No accepted file is longer than its edition's limit, and one is as long.
use Prim.Native.Nat.{ℕ, zero, suc, ◌-◌, ◌≤◌}
use native.Mathlib.Omega.{arith}
use mathlib.Core.Bool.{Bool, true, false}
use mathlib.Core.List.{List}
use mathlib.Core.Option.{Option, none, some}
use mathlib.Core.Path.{◌≡◌, refl, sym, ap, ◌∙◌, subst}
use borrow.Author.Tests.{ltb-false, le-ltb}
use lib.Dec.{ltb}
use lib.ListN.{length}
use Rattle.plan.specs.Limits.{longest_of, longest, most_variants, most_acts, most_children, is_edition}
use Rattle.plan.specs.Plan.{Plan, is_plan}
use Rattle.plan.specs.declared.Refusal.{Refusal}
use Rattle.format.specs.Parse
use Rattle.format.specs.Parse.{parse, Result}
use Rattle.format.specs.Text.{text}
use Rattle.format.proofs.Format.{text_parses, parse_text}
use Rattle.format.proofs.Short.{longest_any, text_short}
use Rattle.format.proofs.Longest.{longest_plan, longest_is_plan, longest_length}
use Rattle.term.specs.Term.{Term, Forest, act, xor, nil, cons, term_of, forest, place, size, firsts, others}
use Rattle.term.specs.Variants.{variant_count, twice, variants, some_of, repeats, activities, member}
use Rattle.term.specs.Valid.{Valid}
use Rattle.judge.specs.Judge.{accepts, refuses, judge, judge_term, judge_variants, judge_result}

abbrev many : ℕ → Term → Forest
many zero t = nil
many (suc n) t = cons t (many n t)

same_accepts : {p q : Plan} {t u : Term} → accepts p t ≡ accepts q u → (p ≡ q) × (t ≡ u)
same_accepts e = (cc, cc)

never : {p : Plan} {t : Term} {r : Refusal} → refuses r ≡ accepts p t → ⊥
never e = let z : ◌≡◌ {A = ℕ} 0 1 = cc in omega arith

pub valid_accepted : (p : Plan) (t : Term) → Valid p t → judge (text p) ≡ accepts p t
unfolding judge
valid_accepted p t v = rw (text_parses p v.ranges, v.term, v.once, le-ltb most_variants (variant_count t) v.few)

-- What the verdict on a term says.
term_valid : (p q : Plan) (t u : Term) (a b : Bool) → twice u ≡ a → ltb most_variants (variant_count u) ≡ b
    → judge_variants p u a b ≡ accepts q t
    → (p ≡ q) × (u ≡ t) × (twice u ≡ false) × (variant_count u ≤ most_variants)
term_valid p q t u true b ea eb e = absurd (never e)
term_valid p q t u false true ea eb e = absurd (never e)
term_valid p q t u false false ea eb e =
    ((same_accepts e).0, (same_accepts e).1, ea, ltb-false most_variants (variant_count u) eb)

nodes_valid : (p q : Plan) (t : Term) (o : Option Term) → term_of p.nodes ≡ o → judge_term p o ≡ accepts q t
    → is_plan p ≡ true → (p ≡ q) × Valid q t
nodes_valid p q t none eo e r = absurd (never e)
nodes_valid p q t (some u) eo e r =
    let h = term_valid p q t u (twice u) (ltb most_variants (variant_count u)) refl refl e in
    let at : term_of q.nodes ≡ some t =
    subst (λ (x : Plan). term_of x.nodes ≡ some t) h.0 (eo ∙ ap some h.1) in (
      h.0,
      record {
        ranges = subst (λ (x : Plan). is_plan x ≡ true) h.0 r;
        term = at;
        once = subst (λ (x : Term). twice x ≡ false) h.1 h.2;
        few = subst (λ (x : Term). variant_count x ≤ most_variants) h.1 h.3;
      },
    )

result_valid : (s : List ℕ) (q : Plan) (t : Term) (o : Result) → parse s ≡ o → judge_result o ≡ accepts q t
    → Valid q t × (s ≡ text q)
result_valid s q t (Parse.refuses r) eo e = absurd (never e)
result_valid s q t (Parse.holds p) eo e =
    let h = parse_text s p eo in
    let v = nodes_valid p q t (term_of p.nodes) refl e h.0 in
    (v.1, h.1 ∙ ap text v.0)

pub accepted_valid : (s : List ℕ) (p : Plan) (t : Term) → judge s ≡ accepts p t → Valid p t × (s ≡ text p)
unfolding judge
accepted_valid s p t e = result_valid s p t (parse s) refl e

pub accepted_short : (s : List ℕ) (p : Plan) (t : Term) → judge s ≡ accepts p t
    → (length s ≤ longest_of p.edition) × (length s ≤ longest)
accepted_short s p t e =
    let v = accepted_valid s p t e in
    let short : length s ≤ longest_of p.edition =
    subst (λ (x : List ℕ). length x ≤ longest_of p.edition) (sym v.1) (text_short p v.0.ranges) in
    (short, omega (arith, longest_any p.edition))

-- The longest plan of an edition is an x over one activity, as many times as a group may have children.
abbrev pub longest_term : Term
longest_term = xor (many most_children (act (most_acts - 1)))

longest_valid : (edition : ℕ) → is_edition edition ≡ true → Valid (longest_plan edition) longest_term
unfolding term_of forest place size firsts others twice variants some_of repeats activities member variant_count
longest_valid edition e =
    record { ranges = longest_is_plan edition e; term = refl; once = refl; few = omega arith }

pub longest_accepted : (edition : ℕ) → is_edition edition ≡ true
    → (judge (text (longest_plan edition)) ≡ accepts (longest_plan edition) longest_term)
    × (length (text (longest_plan edition)) ≡ longest_of edition)
longest_accepted edition e =
    (valid_accepted (longest_plan edition) longest_term (longest_valid edition e), longest_length edition e)
