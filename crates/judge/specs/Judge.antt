-- The refusals that rest on the file's bytes alone, in the order of the table "Turned back". An accepted file has a
-- plan and the term that its nodes are.
use Rattle.std.specs.Prelude.{Bool, true, false, List, ℕ, ltb}
use Rattle.std.proofs.Math.Option.{Option, none, some}
use Rattle.plan.specs.Limits.{most_variants}
use Rattle.plan.specs.Plan.{Plan}
use Rattle.plan.specs.declared.Refusal.{Refusal}
use Rattle.plan.specs.declared.Refusal.TheVariants.{NotOneTerm, Twice, TooManyVariants}
use Rattle.format.specs.Parse.{parse, Result}
use Rattle.format.specs.Parse
use Rattle.term.specs.Term.{Term, term_of}
use Rattle.term.specs.Variants.{variant_count, twice}

pub data Verdict : Type 0 where
  accepts : Plan → Term → Verdict
  refuses : Refusal → Verdict

-- By whether some variant has an activity twice, and whether the variants are too many.
abbrev pub judge_variants : Plan → Term → Bool → Bool → Verdict
judge_variants p t true over = refuses Twice
judge_variants p t false true = refuses TooManyVariants
judge_variants p t false false = accepts p t

abbrev pub judge_term : Plan → Option Term → Verdict
judge_term p none = refuses NotOneTerm
judge_term p (some t) = judge_variants p t (twice t) (ltb most_variants (variant_count t))

abbrev pub judge_result : Result → Verdict
judge_result (Parse.holds p) = judge_term p (term_of p.nodes)
judge_result (Parse.refuses r) = refuses r

unfoldable pub judge : List ℕ → Verdict
judge s = judge_result (parse s)
