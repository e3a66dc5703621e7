use Rattle.std.proofs.Common.{◌<◌, ◌-◌, arith, rules}
use Rattle.std.proofs.lemmas.Nat.{and_le_r}
use Rattle.sets.specs.Lowest.{after_lowest}
use Rattle.sets.proofs.IterIterator.next.Goals as goal

pub returns-clause-goes : goal.returns-clause-goes
unfolding after_lowest
returns-clause-goes c =
    let s = c.args.self.now.left in
    let less : c.after_lowest-self.result < s = omega (arith, c.after_lowest-self.ensures, and_le_r s (s - 1)) in
    search (rules, less)
