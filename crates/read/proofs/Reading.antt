-- READ's answer, from the judgement of the file.
use Prim.Native.Nat.{ℕ}
use mathlib.Core.List.{List}
use mathlib.Core.Path.{◌≡◌, sym, ap}
use Rattle.plan.specs.Plan.{plan_of}
use Rattle.plan.specs.declared.Refusal.{Refusal}
use Rattle.term.specs.Term.{Term}
use Rattle.judge.specs.Judge
use Rattle.judge.specs.Judge.{judge}
use Rattle.judge.specs.Campaign.{HoldsPlan}
use Rattle.judge.proofs.Ranges.{acts_are, nodes_are}
use Rattle.judge.specs.declared.Campaign.{Campaign}
use Rattle.read.specs.Answer.{answer_to, read_of}
use Rattle.std.specs.Prelude.{Ok, Err}

pub reads_plan : (s : List ℕ) (c : Campaign) (t : Term) → judge s ≡ Judge.accepts (plan_of c.tables) t
    → HoldsPlan c t
    → Ok (record { acts = c.tables.acts; nodes = c.tables.nodes; variants = c.variants }) ≡ read_of s
unfolding read_of
reads_plan s c t e h =
    let n = acts_are c.tables h.ranged in
    let m = nodes_are c.tables h.ranged in
    let v = h.counted in
    let a = ap answer_to e in
    cc

pub reads_refusal : (s : List ℕ) (r : Refusal) → judge s ≡ Judge.refuses r → Err r ≡ read_of s
unfolding read_of
reads_refusal s r e = sym (ap answer_to e)
