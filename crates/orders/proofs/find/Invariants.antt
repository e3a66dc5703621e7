use Rattle.orders.specs.Book.{Nearest, bucket_of, entries_of}
use Rattle.orders.proofs.find.Given as goal

-- `find` meets its contract. The loop's invariant: the entries from the link on have not the activities.
abbrev pub invariant-loop-link : goal.invariant-loop-link
invariant-loop-link l = Nearest bucket_of l.book (entries_of l.heads) l.present l.link

abbrev pub decreases-loop-link : goal.decreases-loop-link
decreases-loop-link l = l.link
