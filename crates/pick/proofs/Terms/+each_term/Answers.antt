-- What each step needs and adds are laws on plain numbers and lists; here they meet the code.
use Rattle.std.proofs.Common.{arith, refl, sym, ap, ◌∙◌, ℕ, ◌≤◌, ◌+◌, length}
use Rattle.term.specs.Term.{Forest}
use Rattle.pick.specs.Model.{Grown}
use Rattle.pick.specs.declared.output.Picked.{Picked}
use Rattle.pick.proofs.Writing.{size_nodes, recounted}
use Rattle.pick.proofs.Picking.{room, act_grown, alternatives_ready, one_ready, one_grown, group_room, children_ready}
use Rattle.pick.proofs.Picking.{joined_grown, whole_grown, each_within, each_later, split_ready, first_ready}
use Rattle.pick.proofs.Picking.{others_ready, each_grown, no_terms}
use Rattle.pick.proofs.Terms.+each_term.Goals as goal

pub term-leave_room-room-requires : goal.term-leave_room-room-requires
term-leave_room-room-requires t c = room c.requires

pub term-returns-in-Act : goal.term-returns-in-Act
term-returns-in-Act t c =
    let e = c.leave_room-room.ensures in
    act_grown c.requires c.leave_room-room.new.self c.args.outer c.in-Act.is e.place e.nodes_after e.node_after refl refl

pub term-alternative-one-requires : goal.term-alternative-one-requires
term-alternative-one-requires t c = alternatives_ready c.requires c.in-Xor.is

pub term-term-requires : goal.term-term-requires
term-term-requires t c =
    let found = c.alternative-one.ensures in
    (omega (arith, c.decreases, c.requires.inside, found.later), one_ready c.requires c.in-Xor.is found)

pub term-returns-in-Xor : goal.term-returns-in-Xor
term-returns-in-Xor t c = one_grown c.requires c.in-Xor.is c.args.outer c.alternative-one.ensures c.term.ensures

pub group-each-requires : goal.group-each-requires
group-each-requires t c = (
  omega (arith, c.decreases, c.requires.of_term.inside),
  children_ready c.requires c.requires.of_term.going.sized (omega arith),
)

pub group-leave_room-room-requires : goal.group-leave_room-room-requires
group-leave_room-room-requires t c = group_room c.requires

pub group-each-written-requires : goal.group-each-written-requires
group-each-written-requires t c =
    let e = c.leave_room-room.ensures in (
      omega (arith, c.decreases, c.requires.of_term.inside),
      children_ready c.requires (ap length e.node_after ∙ c.requires.of_term.going.sized) (omega (arith, e.nodes_after)),
    )

pub group-returns-then-joins : goal.group-returns-then-joins
group-returns-then-joins t c =
    joined_grown c.requires c.args.outer (sym c.joins.ensures ∙ c.if-joins.true) c.each.ensures

pub group-returns-else-joins : goal.group-returns-else-joins
group-returns-else-joins t c =
    let e = c.leave_room-room.ensures in
    whole_grown c.requires c.args.outer (sym c.joins.ensures ∙ c.if-joins.false) e.place e.nodes_after e.node_after
    c.each-written.ensures c.node.ensures refl refl

pub each-offset_bounds-self-at : goal.each-offset_bounds-self-at
each-offset_bounds-self-at t c = omega (arith, each_within c.loop.invariant.ready c.loop-test.true)

pub each-bounds-self-at : goal.each-bounds-self-at
each-bounds-self-at t c = each_within c.loop.invariant.ready c.loop-test.true

pub each-split-digits-requires : goal.each-split-digits-requires
each-split-digits-requires t c = split_ready c.loop.invariant.ready c.loop-test.true

pub each-term-children-requires : goal.each-term-children-requires
each-term-children-requires t c = (
  omega (arith, c.decreases, c.loop.invariant.later),
  first_ready c.loop.invariant.ready c.loop-test.true c.split-digits.ensures,
)

few : {d r : Picked} {f : Forest} {m n : ℕ} → m ≤ d.nodes → Grown d r f n → m + n ≤ r.nodes
few {f = f} h g = omega (arith, g.at, g.children_are, size_nodes f)

pub each-overflow_add-children : goal.each-overflow_add-children
each-overflow_add-children t c =
    omega (arith, few c.loop.invariant.few c.term-children.ensures, c.term-children.new.picked.held)

pub each-loop-preserved : goal.each-loop-preserved
each-loop-preserved t c =
    let now = c.loop.invariant in
    let some = c.loop-test.true in
    let digits = c.split-digits.ensures in
    let g = c.term-children.ensures in
    record {
      later = omega (arith, now.later, each_later now.ready some);
      few = few now.few g;
      ready = others_ready now.ready some digits c.args.kind g;
      grows = λ r n h.
          recounted (omega arith)
          (now.grows r (c.term-children.result + n) (each_grown now.ready some digits c.args.kind g h));
    }

pub each-returns : goal.each-returns
each-returns t c =
    let now = c.loop.invariant in
    recounted (omega arith)
    (now.grows c.loop.picked 0
    (no_terms c.args.kind _ _ _ (omega (arith, c.loop-test.false)) now.ready.going.sized))
