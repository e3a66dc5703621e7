-- `judge_term` meets its contract: the reading of the nodes and the count of the first say which verdict the term
-- has.
use Prim.Native.Nat.{◌≤◌}
use native.Mathlib.Omega.{arith}
use mathlib.Core.Bool.{false}
use mathlib.Core.Option.{some}
use mathlib.Core.Path.{◌≡◌, sym, ap, ◌∙◌}
use Rattle.std.specs.Prelude.{List}
use Rattle.plan.specs.Limits.{most_variants}
use Rattle.plan.specs.Plan.{plan_of}
use Rattle.plan.specs.declared.Node.{Node}
use Rattle.term.specs.Term.{Term, term_of}
use Rattle.term.specs.Variants.{variant_count, twice}
use Rattle.pick.proofs.Spanning.{first_counts, not_stopped}
use Rattle.term_reader.specs.Reading.{reading_of}
use Rattle.judge.proofs.Judging.{not_whole, one_term, is_twice_lem, too_many, is_accepted}
use Rattle.term.proofs.Reading.{plan_full}
use Rattle.judge.proofs.Ranges.{nodes_ranged, nodes_few}
use Rattle.judge.proofs.judge_term.Goals as goal
use Rattle.judge.proofs.judge_term.Goals.{In-Some}

pub read_term-requires : goal.read_term-requires
read_term-requires c =
    rw c.all_nodes-nodes.ensures record { held = nodes_few c.requires; ranged = nodes_ranged c.requires }

pub returns-in_default : goal.returns-in_default
returns-in_default c =
    not_whole (plan_of c.args.tables) (term_of (plan_of c.args.tables).nodes)
    (c.in_default.ensures ∙ ap (λ (ns : List Node). reading_of (term_of ns)) c.all_nodes-nodes.ensures)

-- The term that the nodes are.
the_term : (l : In-Some)
    → (t : Term) × (term_of (plan_of l.args.tables).nodes ≡ some t) × (l.in-Some.is_twice ≡ twice t)
the_term l =
    one_term (plan_of l.args.tables) (term_of (plan_of l.args.tables).nodes)
    (l.in-Some.ensures ∙ ap (λ (ns : List Node). reading_of (term_of ns)) l.all_nodes-nodes.ensures)

pub returns-then-is_twice : goal.returns-then-is_twice
returns-then-is_twice c =
    let (t, reads, clash) = the_term (goal.at.returns-then-is_twice c).In-Some in
    is_twice_lem (plan_of c.args.tables) t reads (sym clash ∙ c.if-is_twice.true)

pub spans_of-spans-requires : goal.spans_of-spans-requires
spans_of-spans-requires c =
    let (t, reads, clash) = the_term (goal.at.spans_of-spans-requires c).In-Some in
    rw c.all_nodes-nodes.ensures (nodes_few c.requires, (t, reads))

-- Past the second test no variant has an activity twice, and the first count is V.
pub returns-then-variants-gt-MOST_VARIANTS : goal.returns-then-variants-gt-MOST_VARIANTS
returns-then-variants-gt-MOST_VARIANTS c =
    let (t, reads, clash) = the_term (goal.at.returns-then-variants-gt-MOST_VARIANTS c).In-Some in
    let spans = rw c.all_nodes-nodes.ensures at c.spans_of-spans.ensures in
    too_many (plan_of c.args.tables) t reads (sym clash ∙ c.if-is_twice.false)
    (omega (arith, first_counts spans t reads, c.if-variants-gt-MOST_VARIANTS.true))

pub returns : goal.returns
returns c =
    let r = c.requires in
    let (t, reads, clash) = the_term (goal.at.returns c).In-Some in
    let spans = rw c.all_nodes-nodes.ensures at c.spans_of-spans.ensures in
    let once : twice t ≡ false = sym clash ∙ c.if-is_twice.false in
    let counted = first_counts spans t reads in
    let few : variant_count t ≤ most_variants = omega (arith, counted, c.if-variants-gt-MOST_VARIANTS.false) in (
      t,
      is_accepted (plan_of c.args.tables) t reads once few,
      record {
        ranged = r;
        valid = record { ranges = r.ranges; term = reads; once = once; few = few };
        counted = omega (arith, counted, few);
        spanned = not_stopped spans t reads (plan_full (plan_of c.args.tables) t r.ranges reads) few;
      },
    )
