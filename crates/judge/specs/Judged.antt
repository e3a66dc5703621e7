-- The judgement as the program gives it: the plan, or the refusal.
use Rattle.std.specs.Prelude.{List, ◌≡◌, ℕ, Result, MatchResult}
use Rattle.plan.specs.Plan.{plan_of}
use Rattle.plan.specs.declared.Refusal.{Refusal}
use Rattle.term.specs.Term.{Term}
use Rattle.judge.specs.Judge.{Verdict, accepts, refuses, judge}
use Rattle.judge.specs.Campaign.{HoldsPlan}
use Rattle.judge.specs.declared.Campaign.{Campaign}

-- The program's judgement is that verdict.
abbrev pub Says : Verdict → Result Campaign Refusal → Type 0
Says v r =
    MatchResult r
    (λ c. (t : Term) × (v ≡ accepts (plan_of c.tables) t) × HoldsPlan c t)
    (λ q. v ≡ refuses q)

-- So it is of a file.
abbrev pub Judges : List ℕ → Result Campaign Refusal → Type 0
Judges s r = Says (judge s) r
