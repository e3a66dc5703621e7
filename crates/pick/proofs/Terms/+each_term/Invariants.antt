-- Of the nodes left over, a term is before its group, and a group before its children.
use Rattle.std.proofs.Common.{ℕ, ◌+◌, ◌-◌, ◌*◌, ◌≤◌, length}
use Rattle.term.specs.Term.{firsts}
use Rattle.pick.specs.Model.{terms_at, parts_of_each, Grown, OfEach}
use Rattle.pick.specs.declared.output.Picked.{Picked}
use Rattle.pick.proofs.Terms.+each_term.Given as goal

abbrev pub decreases-term : goal.decreases-term
decreases-term l = 3 * (length l.self.now.nodes.now - l.place.at) + 1

abbrev pub decreases-group : goal.decreases-group
decreases-group l = 3 * (length l.self.now.nodes.now - l.place.at)

abbrev pub decreases-each : goal.decreases-each
decreases-each l = 3 * (length l.self.now.nodes.now - l.place.at) + 2

-- `each` adds the children of one term after another: with those still to come they are all.
abbrev pub invariant-each-loop : goal.invariant-each-loop
invariant-each-loop l = record {
  later : l.fn.place.at ≤ l.at;
  few : l.children ≤ l.picked.nodes;
  ready : OfEach l.self.nodes.now l.self.spans.now (l.k - l.counter) (record { at = l.at; v = l.left }) l.ways l.picked;
  grows : (r : Picked) (n : ℕ)
      → Grown l.picked r (parts_of_each l.kind (firsts (l.k - l.counter) (terms_at l.self.nodes.now l.at)) l.left) n
      → Grown l.fn.picked r
      (parts_of_each l.kind (firsts l.k (terms_at l.self.nodes.now l.fn.place.at)) l.fn.place.v) (l.children + n);
}
