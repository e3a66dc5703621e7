-- READ: the number of activities, of nodes and of variants, or the refusal.
use Rattle.std.specs.Prelude.{List, ℕ, length, Result, Ok, Err}
use Rattle.plan.specs.declared.Refusal.{Refusal}
use Rattle.term.specs.Variants.{variant_count}
use Rattle.judge.specs.Judge.{Verdict, accepts, refuses, judge}
use Rattle.read.specs.declared.Counts.{Counts}

abbrev pub answer_to : Verdict → Result Counts Refusal
answer_to (accepts p t) =
    Ok (record { acts = length p.activities; nodes = length p.nodes; variants = variant_count t })
answer_to (refuses r) = Err r

unfoldable pub read_of : List ℕ → Result Counts Refusal
read_of s = answer_to (judge s)
