use Rattle.term.specs.Term.{Term}
use Rattle.judge.specs.Campaign.{HoldsPlan}
use Rattle.tally.specs.Seen.{kept_of, IsTally}
use Rattle.sweep.specs.Swept.{LaidFor, Ready}
use Rattle.sweep.proofs.Loop.{SweptTo}
use Rattle.sweep.proofs.sweep_with.Given as goal

-- `sweep_with` meets its contract: after v turns what is kept is what the first v variants leave, and the book has
-- their orders.
abbrev pub invariant-loop-v : goal.invariant-loop-v
invariant-loop-v l =
    record {
      swept : SweptTo l.campaign l.cap (kept_of l.initial.cells l.initial.area) l.v (kept_of l.cells l.area);
      ready : (t : Term) → HoldsPlan l.campaign t → Ready l.campaign t l.v l.heads l.book;
      laid_for : LaidFor l.campaign l.table;
      tally : IsTally l.cells;
    }
