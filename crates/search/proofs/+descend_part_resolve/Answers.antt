use Prim.Native.Nat.{ℕ, suc, ◌+◌, ◌-◌, ◌*◌, ◌^◌, ◌<◌, max}
use native.Mathlib.Omega.{arith}
use mathlib.Core.Bool.{true}
use mathlib.Core.List.{List}
use mathlib.Core.Path.{◌≡◌, sym, ap, ◌∙◌, subst}
use lib.ListN.{set}
use borrow.Author.Tests.{ltb-true}
use Rattle.sets.specs.Sets.{most, has, size}
use Rattle.sets.specs.Lowest.{lowest_of}
use Rattle.sets.proofs.Turns.{Turn, taken, none_left}
use Rattle.scan.specs.Scan.{Diagram}
use Rattle.scan.specs.Scan.{select}
use Rattle.instance.specs.Instance.{own_of}
use Rattle.instance.specs.Table.{cap_of, tight_of, project_in}
use Rattle.profile.specs.Work.{free_at, latest_of, free_from}
use Rattle.steps.specs.Steps.{frozen_in}
use Rattle.crowding.specs.Crowd.{crowd}
use Rattle.tally.specs.Seen.{kept_of, tally_of}
use Rattle.unbranched.specs.Position.{Position, Given, Explored}
use Rattle.search.specs.Choice.{Choosing, Spreading, Takes, Spreads}
use Rattle.search.specs.Branch.{Contest}
use Rattle.search.proofs.Branches.{turning_first, turning_next, turning_last, contested_low, choosing}
use Rattle.search.proofs.Branches.{uncontested, some_many, rival_more, rival_less, spreading}
use Rattle.search.proofs.Branches.{take_left, take_latest, take_position, given_back}
use Rattle.search.proofs.Branches.{spread_left, spread_latest, spread_position, readied_back}
use Rattle.search.proofs.Descended.{passed, reached, explored_on, explored_same, nothing_contested, no_more}
use Rattle.search.proofs.Descended.{first_low, rivals_low, contest_roomy, contest_tight}
use Rattle.search.proofs.Descended.{orders_lone, orders_explored}
use Rattle.search.proofs.+descend_part_resolve.Goals as goal
use Rattle.search.proofs.+descend_part_resolve.Goals.{resolve-then-many-eq0, resolve-else-many-eq0, descend-After-advance-stop, descend-After-contains, descend-After-free_of-free, descend-After-lowest-c, descend-Else-not-contains, part-In-Some, part-After-spread-next, resolve-In-Some, resolve-After-max-last, resolve-After-lowest-c, resolve-After-take-next, resolve-Joined-many-eq0}

pub descend-returns-then-is_over : goal.descend-returns-then-is_over
descend-returns-then-is_over t c =
    let a = c.args in
    let given = c.requires in
    passed a.table.now a.book.now given.0.whole a.line a.work.now a.cells.now a.area.now
    given.3 given.0.tally
    (ltb-true (cap_of a.table.now) (tally_of a.cells.now).count
    (sym c.is_over.ensures ∙ c.if-is_over.true))

descend-reached : {t : ℕ} (c : descend-After-advance-stop t)
    → (d : Diagram) × Position c.args.table.now c.advance-stop.result.line c.advance-stop.new.work d
descend-reached c = let given = c.requires in reached given.0.whole c.advance-stop.ensures given.3

descend-whole : {t : ℕ} (c : descend-After-advance-stop t) → {w cells area : List ℕ}
    → Explored c.args.table.now c.args.book.now c.advance-stop.result.line (kept_of c.args.cells.now c.args.area.now)
    c.advance-stop.new.work w cells area
    → Explored c.args.table.now c.args.book.now c.args.line (kept_of c.args.cells.now c.args.area.now) c.args.work.now
    w cells area
descend-whole c done = explored_on c.requires.0.whole c.advance-stop.ensures c.requires.3 done

pub descend-complete-requires : goal.descend-complete-requires
descend-complete-requires t c =
    let given = c.requires in (
      given.0,
      nothing_contested given.0.whole c.advance-stop.ensures given.3 c.if-stop-eq0.true,
      c.advance-stop.ensures.last,
      descend-reached (goal.at.descend-complete-requires t c).After-advance-stop,
    )

pub descend-returns-then-stop-eq0 : goal.descend-returns-then-stop-eq0
descend-returns-then-stop-eq0 t c =
    descend-whole (goal.at.descend-returns-then-stop-eq0 t c).After-advance-stop c.complete.ensures

descend-some : {t : ℕ} (c : descend-After-lowest-c t) → 0 < c.advance-stop.result.rivals
descend-some c = omega (arith, c.if-stop-eq0.false)

descend-low : {t : ℕ} (c : descend-After-lowest-c t) → c.lowest-c.result < most
descend-low c =
    let given = c.requires in
    omega (
      arith,
      c.lowest-c.ensures,
      first_low given.0.whole c.advance-stop.ensures given.3 (descend-some c),
    )

pub descend-contains-requires : goal.descend-contains-requires
descend-contains-requires t c = descend-low (goal.at.descend-contains-requires t c).After-lowest-c

descend-tight : {t : ℕ} (c : descend-After-contains t)
    → c.contains.result ≡ has (tight_of c.args.table.now) (lowest_of c.advance-stop.result.line.due)
descend-tight c =
    c.contains.ensures
    ∙ ap (has (tight_of c.args.table.now)) c.lowest-c.ensures

descend-less : {t : ℕ} (c : descend-After-lowest-c t)
    → 2 * size c.advance-stop.result.line.left most < t
descend-less c =
    omega (arith, c.decreases, no_more c.requires.0.whole c.advance-stop.ensures c.requires.3)

-- two of the component can run together
pub descend-in_conflict-requires : goal.descend-in_conflict-requires
descend-in_conflict-requires t c =
    let given = c.requires in
    rivals_low given.0.whole c.advance-stop.ensures given.3 (descend-some (goal.at.descend-in_conflict-requires t c).After-lowest-c)

pub descend-part-requires : goal.descend-part-requires
descend-part-requires t c =
    let p = goal.at.descend-part-requires t c in
    let given = c.requires in
    let roomy =
    sym (descend-tight p.After-contains) ∙ c.if-not-contains.true in (
      descend-less p.After-lowest-c,
      (
        given.0,
        contest_roomy given.0.whole c.advance-stop.ensures given.3 (descend-some p.After-lowest-c) roomy
            c.in_conflict.ensures,
        roomy,
      ),
    )

pub descend-returns-then-not-contains : goal.descend-returns-then-not-contains
descend-returns-then-not-contains t c =
    descend-whole (goal.at.descend-returns-then-not-contains t c).After-advance-stop c.part.ensures

alone-tight : {t : ℕ} (c : descend-Else-not-contains t)
    → c.contains.result ≡ has (tight_of c.args.table.now) (lowest_of c.advance-stop.result.line.due)
    → has (tight_of c.args.table.now) (lowest_of c.advance-stop.result.line.due) ≡ true
alone-tight c is = sym is ∙ c.if-not-contains.false

descend-contest : {t : ℕ} (c : descend-Else-not-contains t) → 0 < c.advance-stop.result.rivals
    → has (tight_of c.args.table.now) (lowest_of c.advance-stop.result.line.due) ≡ true
    → Contest c.args.table.now c.advance-stop.new.work c.advance-stop.result
descend-contest c some tight = contest_tight c.requires.0.whole c.advance-stop.ensures c.requires.3 some tight

descend-free : {t : ℕ} (c : descend-After-free_of-free t)
    → c.free_of-free.result ≡ free_at c.advance-stop.new.work (lowest_of c.advance-stop.result.line.due)
descend-free c =
    c.free_of-free.ensures ∙ ap (free_at c.advance-stop.new.work) c.lowest-c.ensures

pub descend-order-requires : goal.descend-order-requires
descend-order-requires t c =
    let p = goal.at.descend-order-requires t c in
    let tight = alone-tight p.Else-not-contains (descend-tight p.After-contains) in
    let given = c.requires.0 in
    let contest = descend-contest p.Else-not-contains (descend-some p.After-lowest-c) tight in (
      given,
      (contest.tight tight).1,
      (
        contest.some.0.frozen,
        contest.some.0.starts,
        orders_lone given.whole contest c.if-stop.true tight (descend-free p.After-free_of-free),
      ),
    )

pub descend-returns-then-stop : goal.descend-returns-then-stop
descend-returns-then-stop t c =
    let p = goal.at.descend-returns-then-stop t c in
    let tight = alone-tight p.Else-not-contains (descend-tight p.After-contains) in
    descend-whole p.After-advance-stop
    (orders_explored c.requires.0.whole (descend-contest p.Else-not-contains (descend-some p.After-lowest-c) tight) c.if-stop.true
    tight (descend-free p.After-free_of-free) c.order.ensures)

pub descend-resolve-requires : goal.descend-resolve-requires
descend-resolve-requires t c =
    let p = goal.at.descend-resolve-requires t c in
    let tight = alone-tight p.Else-not-contains (descend-tight p.After-contains) in
    (descend-less p.After-lowest-c, (c.requires.0, descend-contest p.Else-not-contains (descend-some p.After-lowest-c) tight, tight))

pub descend-returns : goal.descend-returns
descend-returns t c =
    descend-whole (goal.at.descend-returns t c).After-advance-stop c.resolve.ensures

pub part-overflow_sub-many : goal.part-overflow_sub-many
part-overflow_sub-many t c =
    omega (arith, some_many c.requires.0.whole c.requires.1)

pub part-loop-j-init : goal.part-loop-j-init
part-loop-j-init t c =
    rw (c.into_iter-j-iterator.ensures.into_iter_gives, c.activities-j-items.ensures)
    (turning_first c.requires.0.whole c.requires.1 c.args.book.now c.requires.0.tally)

part-turn : {t : ℕ} (c : part-In-Some t) → Turn c.loop-j.j-iterator.left c.next.new.self.left c.in-Some.j
part-turn c =
    taken c.loop-j.invariant.inside c.in-Some.ensures.steps

part-rival : {t : ℕ} (c : part-In-Some t) → has c.args.stop.rivals c.in-Some.j ≡ true
part-rival c = c.loop-j.invariant.within c.in-Some.j (part-turn c).there

pub part-spread-next-requires : goal.part-spread-next-requires
part-spread-next-requires t c =
    let a = c.args in
    subst (λ (x : ℕ). Spreading a.table.now c.loop-j.work a.stop.line x c.in-Some.j)
    (sym c.lowest-c.ensures)
    (spreading c.requires.0.whole c.requires.1 c.in-Some.j (part-rival (goal.at.part-spread-next-requires t c).In-Some) c.requires.2
    c.loop-j.invariant.beside)

pub part-end_of-requires : goal.part-end_of-requires
part-end_of-requires t c = omega (arith, (part-turn (goal.at.part-end_of-requires t c).In-Some).below)

part-spreads : {t : ℕ} (c : part-After-spread-next t)
    → let a = c.args in
    Spreads a.table.now a.stop.line (lowest_of a.stop.line.due) c.in-Some.j
    c.loop-j.work c.spread-next.new.work c.spread-next.result
part-spreads c =
    let a = c.args in
    subst
    (λ (x : ℕ).
    Spreads a.table.now a.stop.line x c.in-Some.j c.loop-j.work c.spread-next.new.work
    c.spread-next.result)
    c.lowest-c.ensures c.spread-next.ensures

part_left : {t : ℕ} (c : part-After-spread-next t) → has c.args.stop.rivals c.in-Some.j ≡ true
    → c.spread-next.result.left ≡ c.args.stop.line.left - 2 ^ c.in-Some.j
part_left c there =
    let given = c.requires in
    spread_left given.0.whole given.1 c.in-Some.j there given.2
    c.loop-j.invariant.beside (part-spreads c)

part-position : {t : ℕ} (c : part-After-spread-next t) → has c.args.stop.rivals c.in-Some.j ≡ true → (d : Diagram)
    → let a = c.args in
    Position a.table.now a.stop.line a.work.now d
    → Position a.table.now c.spread-next.result c.spread-next.new.work
    (select (project_in a.table.now) (own_of a.table.now) d c.in-Some.j)
part-position c there =
    let given = c.requires in
    spread_position given.0.whole given.1 c.in-Some.j there given.2
    c.loop-j.invariant.beside (part-spreads c)

pub part-descend-requires : goal.part-descend-requires
part-descend-requires t c =
    let p = goal.at.part-descend-requires t c in
    let given = c.requires in
    let j = c.in-Some.j in
    let there = part-rival p.In-Some in (
      omega (
        arith,
        c.decreases,
        rival_less given.0.whole given.1 j there,
        ap (λ (x : ℕ). size x most) (part_left p.After-spread-next there),
      ),
      (
        record { whole = given.0.whole; prior = given.0.prior; tally = c.loop-j.invariant.tally },
        spread_latest given.0.whole given.1 j there given.2 c.loop-j.invariant.beside
            (part-spreads p.After-spread-next)
            (c.max-last.ensures ∙ ap (max c.args.stop.latest) c.end_of.ensures),
        omega (
          arith,
          rival_more given.0.whole given.1 j there,
          ap (crowd c.args.table.now) (part_left p.After-spread-next there),
        ),
        (
          select (project_in c.args.table.now) (own_of c.args.table.now) given.1.some.0 j,
          part-position p.After-spread-next there given.1.some.0 given.1.some.1,
        ),
      ),
    )

pub part-loop-j-preserved : goal.part-loop-j-preserved
part-loop-j-preserved t c =
    let p = goal.at.part-loop-j-preserved t c in
    let there = part-rival p.In-Some in
    let done = c.descend in
    let given = c.requires in
    let j = c.in-Some.j in
    let saved = c.ready_column-saved in
    turning_next given.0.whole given.1 j there c.args.book.now c.loop-j.invariant
    c.in-Some.ensures.steps
    (part-position p.After-spread-next there) done.ensures
    (readied_back given.0.whole given.1 j there given.2 c.loop-j.invariant.beside (part-spreads p.After-spread-next)
    saved.result done.ensures.beside saved.ensures c.put_back.ensures)

pub part-returns : goal.part-returns
part-returns t c =
    turning_last c.requires.0.whole c.requires.1 c.args.book.now c.loop-j.invariant (none_left c.in-None.ensures.steps)

resolve-low : {t : ℕ} (c : resolve-After-lowest-c t)
    → c.lowest-c.result < most
resolve-low c =
    let given = c.requires in
    omega (arith, c.lowest-c.ensures, contested_low given.0.whole given.1)

pub resolve-overflow_sub-many : goal.resolve-overflow_sub-many
resolve-overflow_sub-many t c =
    omega (arith, some_many c.requires.0.whole c.requires.1)

pub resolve-loop-j-init : goal.resolve-loop-j-init
resolve-loop-j-init t c =
    rw (c.into_iter-j-iterator.ensures.into_iter_gives, c.activities-j-items.ensures)
    (turning_first c.requires.0.whole c.requires.1 c.args.book.now c.requires.0.tally)

resolve-turn : {t : ℕ} (e : resolve-In-Some t) → Turn e.loop-j.j-iterator.left e.next.new.self.left e.in-Some.j
resolve-turn e =
    taken e.loop-j.invariant.inside e.in-Some.ensures.steps

resolve-rival : {t : ℕ} (e : resolve-In-Some t) → has e.args.stop.rivals e.in-Some.j ≡ true
resolve-rival e = e.loop-j.invariant.within e.in-Some.j (resolve-turn e).there

pub resolve-take-next-requires : goal.resolve-take-next-requires
resolve-take-next-requires t c =
    let a = c.args in
    subst
    (λ (x : ℕ). Choosing a.table.now c.loop-j.work a.stop.line x c.in-Some.j)
    (sym c.lowest-c.ensures)
    (choosing c.requires.0.whole c.requires.1 c.in-Some.j (resolve-rival (goal.at.resolve-take-next-requires t c).In-Some)
    c.loop-j.invariant.beside)

pub resolve-end_of-requires : goal.resolve-end_of-requires
resolve-end_of-requires t c = omega (arith, (resolve-turn (goal.at.resolve-end_of-requires t c).In-Some).below)

resolve-takes : {t : ℕ} (c : resolve-After-take-next t)
    → let a = c.args in
    Takes a.table.now a.stop.line (lowest_of a.stop.line.due) c.in-Some.j
    c.loop-j.work c.take-next.new.work c.take-next.result
resolve-takes c =
    let a = c.args in
    subst
    (λ (x : ℕ).
    Takes a.table.now a.stop.line x c.in-Some.j c.loop-j.work c.take-next.new.work
    c.take-next.result)
    c.lowest-c.ensures c.take-next.ensures

resolve_left : {t : ℕ} (c : resolve-After-take-next t) → has c.args.stop.rivals c.in-Some.j ≡ true
    → c.take-next.result.left ≡ c.args.stop.line.left - 2 ^ c.in-Some.j
resolve_left c there =
    let given = c.requires in
    take_left given.0.whole given.1 c.in-Some.j there given.2 c.loop-j.invariant.beside
    (resolve-takes c)

resolve-many : {t : ℕ} (c : resolve-After-take-next t) → has c.args.stop.rivals c.in-Some.j ≡ true
    → c.args.stop.many ≡ suc (crowd c.args.table.now c.take-next.result.left)
resolve-many c there =
    rival_more c.requires.0.whole c.requires.1 c.in-Some.j there
    ∙ ap (λ (x : ℕ). suc (crowd c.args.table.now x)) (sym (resolve_left c there))

resolve-given : {t : ℕ} (e : resolve-In-Some t)
    → Given e.args.table.now e.args.book.now e.loop-j.cells
resolve-given e =
    let given = e.requires.0 in
    record { whole = given.whole; prior = given.prior; tally = e.loop-j.invariant.tally }

resolve-latest : {t : ℕ} (c : resolve-After-max-last t) → has c.args.stop.rivals c.in-Some.j ≡ true
    → Takes c.args.table.now c.args.stop.line (lowest_of c.args.stop.line.due) c.in-Some.j
    c.loop-j.work c.take-next.new.work c.take-next.result
    → c.max-last.result ≡ latest_of c.take-next.new.work (frozen_in c.take-next.result)
resolve-latest c there takes =
    let given = c.requires in
    take_latest given.0.whole given.1 c.in-Some.j there given.2
    c.loop-j.invariant.beside takes
    (c.max-last.ensures ∙ ap (max c.args.stop.latest) c.end_of.ensures)

resolve-position : {t : ℕ} (c : resolve-After-take-next t) → has c.args.stop.rivals c.in-Some.j ≡ true → (d : Diagram)
    → let a = c.args in
    Position a.table.now a.stop.line a.work.now d
    → Position a.table.now c.take-next.result c.take-next.new.work
    (select (project_in a.table.now) (own_of a.table.now) d c.in-Some.j)
resolve-position c there =
    let given = c.requires in
    take_position given.0.whole given.1 c.in-Some.j there given.2
    c.loop-j.invariant.beside (resolve-takes c)

resolve-some : {t : ℕ} (c : resolve-After-take-next t) → has c.args.stop.rivals c.in-Some.j ≡ true
    → (d : Diagram)
    × Position c.args.table.now c.take-next.result c.take-next.new.work d
resolve-some c there =
    let t = c.args.table.now in
    let (d, at) = c.requires.1.some in
    (select (project_in t) (own_of t) d c.in-Some.j, resolve-position c there d at)

pub resolve-complete-requires : goal.resolve-complete-requires
resolve-complete-requires t c =
    let p = goal.at.resolve-complete-requires t c in
    let there = resolve-rival p.In-Some in (
      resolve-given p.In-Some,
      uncontested c.args.table.now c.take-next.result.left
          (resolve-some p.After-take-next there).1.sets.left_low (omega (arith, resolve-many p.After-take-next there, c.if-many-eq0.true)),
      resolve-latest p.After-max-last there (resolve-takes p.After-take-next),
      resolve-some p.After-take-next there,
    )

pub resolve-descend-requires : goal.resolve-descend-requires
resolve-descend-requires t c =
    let p = goal.at.resolve-descend-requires t c in
    let there = resolve-rival p.In-Some in (
      omega (
        arith,
        c.decreases,
        rival_less c.requires.0.whole c.requires.1 c.in-Some.j there,
        ap (λ (x : ℕ). size x most) (resolve_left p.After-take-next there),
      ),
      (resolve-given p.In-Some, resolve-latest p.After-max-last there (resolve-takes p.After-take-next), omega (arith, resolve-many p.After-take-next there), resolve-some p.After-take-next there),
    )

pub resolve-store_free-requires : goal.resolve-store_free-requires
resolve-store_free-requires t c =
    omega (arith, resolve-low (goal.at.resolve-store_free-requires t c).After-lowest-c)

-- by either way what is below has been explored
resolve-done : {t : ℕ} (c : resolve-Joined-many-eq0 t)
    → Explored c.args.table.now c.args.book.now c.take-next.result (kept_of c.loop-j.cells c.loop-j.area)
    c.take-next.new.work c.if-many-eq0.work c.if-many-eq0.cells c.if-many-eq0.area
resolve-done c =
    elim c.if-many-eq0.branch [
      | resolve-then-many-eq0 w ↦ explored_same w.complete.ensures w.work-is w.cells-is w.area-is
      | resolve-else-many-eq0 w ↦ explored_same w.descend.ensures w.work-is w.cells-is w.area-is
    ]

pub resolve-loop-j-preserved : goal.resolve-loop-j-preserved
resolve-loop-j-preserved t c =
    let p = goal.at.resolve-loop-j-preserved t c in
    let there = resolve-rival p.In-Some in
    let done = resolve-done p.Joined-many-eq0 in
    let given = c.requires in
    let j = c.in-Some.j in
    let first = c.lowest-c in
    let free = c.free_of-free in
    turning_next given.0.whole given.1 j there c.args.book.now c.loop-j.invariant
    c.in-Some.ensures.steps
    (resolve-position p.After-take-next there) done
    (given_back given.0.whole given.1 j there given.2 c.loop-j.invariant.beside (resolve-takes p.After-take-next)
    done.beside (free.ensures ∙ ap (free_at c.args.work.now) first.ensures)
    (c.store_free.ensures ∙ ap (λ (k : ℕ). set c.if-many-eq0.work (free_from + k) free.result) first.ensures))

pub resolve-returns : goal.resolve-returns
resolve-returns t c =
    turning_last c.requires.0.whole c.requires.1 c.args.book.now c.loop-j.invariant (none_left c.in-None.ensures.steps)
