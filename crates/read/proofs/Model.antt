-- READ as a walk of the term computes it: V by sums and products, and the rule for an activity that stands twice. It
-- is READ's definition, and what the worked campaigns are computed by.
use Prim.Native.Nat.{ℕ}
use mathlib.Core.Bool.{Bool, true, false}
use mathlib.Core.List.{List}
use mathlib.Core.Option.{Option, none, some}
use mathlib.Core.Path.{◌≡◌, refl, ap}
use lib.Dec.{ltb}
use lib.ListN.{length}
use Rattle.plan.specs.Limits.{most_variants}
use Rattle.plan.specs.Plan.{Plan, is_plan}
use Rattle.plan.specs.declared.Refusal.TheVariants.{NotOneTerm, Twice, TooManyVariants}
use Rattle.format.specs.Parse
use Rattle.format.specs.Parse.{parse}
use Rattle.format.proofs.Format.{parse_text}
use Rattle.term.specs.Term.{Term, term_of}
use Rattle.term.specs.Variants.{variant_count}
use Rattle.term.specs.Clash.{clash}
use Rattle.term.specs.Model.{count}
use Rattle.term.proofs.Reading.{plan_full}
use Rattle.term.proofs.Counting.{variant_count_count}
use Rattle.term.proofs.Twice.{twice_clash}
use Rattle.judge.specs.Judge.{judge, judge_term, judge_variants, judge_result}
use Rattle.read.specs.Answer.{answer_to, read_of}
use Rattle.read.specs.declared.Counts.{Counts}
use Rattle.std.specs.Prelude.{Result, Ok, Err}
use Rattle.plan.specs.declared.Refusal.{Refusal}

abbrev pub read_variants : Plan → Term → Bool → Bool → Result Counts Refusal
read_variants p t true over = Err Twice
read_variants p t false true = Err TooManyVariants
read_variants p t false false =
    Ok (record { acts = length p.activities; nodes = length p.nodes; variants = count t })

abbrev pub read_term : Plan → Option Term → Result Counts Refusal
read_term p none = Err NotOneTerm
read_term p (some t) = read_variants p t (clash t) (ltb most_variants (count t))

abbrev pub read_result : Parse.Result → Result Counts Refusal
read_result (Parse.holds p) = read_term p (term_of p.nodes)
read_result (Parse.refuses r) = Err r

unfoldable pub read_by : List ℕ → Result Counts Refusal
read_by s = read_result (parse s)

variants_same : (p : Plan) (t : Term) (a b : Bool) → variant_count t ≡ count t
    → answer_to (judge_variants p t a b) ≡ read_variants p t a b
variants_same p t true b e = refl
variants_same p t false true e = refl
variants_same p t false false e = ap (λ (n : ℕ). Ok (record { acts = length p.activities; nodes = length p.nodes; variants = n })) e

term_same : (p : Plan) (o : Option Term) → term_of p.nodes ≡ o → is_plan p ≡ true
    → answer_to (judge_term p o) ≡ read_term p o
term_same p none eo r = refl
term_same p (some t) eo r =
    let n = variant_count_count t in
    rw (twice_clash t (plan_full p t r eo), n)
    (variants_same p t (clash t) (ltb most_variants (count t)) n)

result_same : (s : List ℕ) (o : Parse.Result) → parse s ≡ o → answer_to (judge_result o) ≡ read_result o
result_same s (Parse.holds p) e = term_same p (term_of p.nodes) refl (parse_text s p e).0
result_same s (Parse.refuses r) e = refl

pub read_by_lem : (s : List ℕ) → read_of s ≡ read_by s
unfolding read_of judge read_by
read_by_lem s = result_same s (parse s) refl
