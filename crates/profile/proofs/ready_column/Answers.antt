use Rattle.std.proofs.Common.{rules}
use Rattle.std.proofs.lemmas.List.{places}
use Rattle.profile.proofs.ready_column.Goals as goal

pub returns : goal.returns
returns c = λ i b. rw c.copy_from_slice.ensures.after (search (rules, places))
