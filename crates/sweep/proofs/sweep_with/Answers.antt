use native.Mathlib.Omega.{arith}
use Rattle.term.specs.Term.{Term}
use Rattle.judge.specs.Campaign.{HoldsPlan}
use Rattle.judge.proofs.Holding.{has_variant}
use Rattle.tally.specs.Seen.{kept_of}
use Rattle.sweep.proofs.Loop.{book_none, swept_none, swept_turn, swept_over}
use Rattle.sweep.proofs.sweep_with.Goals as goal

pub loop-v-init : goal.loop-v-init
loop-v-init c =
    let a = c.args in
    let (t₀, h₀, room) = c.requires.0 in
    record {
      swept = swept_none a.campaign.now a.cap (kept_of a.cells.now a.area.now);
      ready = λ t h. book_none a.campaign.now t a.book.now (omega (arith, h.counted, h₀.counted, room));
      laid_for = c.table_of-table.ensures;
      tally = c.requires.1;
    }

pub returns-then-cells-cap : goal.returns-then-cells-cap
returns-then-cells-cap c =
    let a = c.args in
    let inv = c.loop-v.invariant in
    record {
      tally = inv.tally;
      swept = swept_over a.campaign.now a.cap (kept_of a.cells.now a.area.now) c.loop-v.v
          (kept_of c.loop-v.cells c.loop-v.area) (omega arith) c.if-cells-cap.true inv.swept;
    }

pub loop-v-preserved : goal.loop-v-preserved
loop-v-preserved c =
    let a = c.args in
    let inv = c.loop-v.invariant in
    let new = c.search_variant.new in
    let turned =
    λ (t : Term) (h : HoldsPlan a.campaign.now t).
    c.search_variant.ensures.turned t (has_variant h _ (omega arith)) (inv.ready t h) in
    record {
      swept = λ t h.
          swept_turn a.campaign.now a.cap (kept_of a.cells.now a.area.now) t c.loop-v.v
          (kept_of c.loop-v.cells c.loop-v.area) (kept_of new.cells new.area) (inv.swept t h) (turned t h);
      ready = λ t h. (turned t h).ready;
      laid_for = c.search_variant.ensures.laid_for.0;
      tally = c.search_variant.ensures.laid_for.1;
    }
