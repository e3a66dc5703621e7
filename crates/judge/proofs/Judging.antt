-- The judgement of a term from the reading of its nodes, and of a file from that of its term.
use Prim.Native.Nat.{ℕ, ◌≤◌, ◌<◌}
use native.Mathlib.Omega.{arith}
use mathlib.Core.Bool.{Bool, true, false}
use mathlib.Core.List.{List}
use mathlib.Core.Option.{Option, none, some}
use mathlib.Core.Path.{◌≡◌, refl, sym, ap, subst}
use borrow.Author.Tests.{lt-ltb, le-ltb}
use Rattle.plan.specs.Limits.{most_variants}
use Rattle.plan.specs.Plan.{Plan, plan_of}
use Rattle.plan.specs.declared.Refusal.{Refusal}
use Rattle.plan.specs.declared.Refusal.TheVariants.{NotOneTerm, Twice, TooManyVariants}
use Rattle.plan.specs.declared.Tables.{Tables}
use Rattle.format.specs.Parse.{parse, holds, refuses}
use Rattle.term.specs.Term.{Term, term_of}
use Rattle.term.specs.Variants.{variant_count, twice}
use Rattle.term_reader.specs.Reading.{reading_of}
use Rattle.std.specs.Prelude.{Result, Some, None}
use Rattle.judge.specs.Judge
use Rattle.judge.specs.Judge.{judge, judge_term, judge_result}
use Rattle.judge.specs.Judged.{Says, Judges}
use Rattle.judge.specs.declared.Campaign.{Campaign}

-- The verdict on a term, by the reading of its nodes.
module _ (p : Plan) (o : Option Term) where
  pub not_whole : None ≡ reading_of o → judge_term p o ≡ Judge.refuses NotOneTerm
  unfolding reading_of
  not_whole e = go o e
    where
      go : (o : Option Term) → None ≡ reading_of o → judge_term p o ≡ Judge.refuses NotOneTerm
      go none h = refl
      go (some t) h = absurd (let z : ◌≡◌ {A = ℕ} 0 1 = cc in omega arith)

  -- The term, where the nodes are one.
  pub one_term : {b : Bool} → Some b ≡ reading_of o → (t : Term) × (o ≡ some t) × (b ≡ twice t)
  unfolding reading_of
  one_term {b} e = go o e
    where
      go : (o : Option Term) → Some b ≡ reading_of o → (t : Term) × (o ≡ some t) × (b ≡ twice t)
      go none h = absurd (let z : ◌≡◌ {A = ℕ} 0 1 = cc in omega arith)
      go (some t) h = (t, refl, cc)

module _ (p : Plan) {o : Option Term} (t : Term) (e : o ≡ some t) where
  pub is_twice_lem : twice t ≡ true → judge_term p o ≡ Judge.refuses Twice
  is_twice_lem d = rw (e, d)

  pub too_many : twice t ≡ false → most_variants < variant_count t → judge_term p o ≡ Judge.refuses TooManyVariants
  too_many d l = rw (e, d, lt-ltb most_variants (variant_count t) l)

  pub is_accepted : twice t ≡ false → variant_count t ≤ most_variants → judge_term p o ≡ Judge.accepts p t
  is_accepted d l = rw (e, d, le-ltb most_variants (variant_count t) l)

-- The judgement of a file.
module _ (s : List ℕ) where
  pub judges_plan : (tables : Tables) (r : Result Campaign Refusal) → parse s ≡ holds (plan_of tables)
      → Says (judge_term (plan_of tables) (term_of (plan_of tables).nodes)) r → Judges s r
  unfolding judge
  judges_plan tables r e = subst (λ (v : Judge.Verdict). Says v r) (sym (ap judge_result e))

  pub judges_refusal : (r : Refusal) → parse s ≡ refuses r → judge s ≡ Judge.refuses r
  unfolding judge
  judges_refusal r e = ap judge_result e
