use mathlib.Core.Path.{ap}
use mathlib.Core.Bool.{not}
use Rattle.tally.specs.Seen.{kept_of}
use Rattle.sweep.proofs.Turns.{linked, turn_known, may_place, still_laid, prior, may_enter, turn_new}
use Rattle.sweep.proofs.search_variant.Goals as goal

pub compare-requires : goal.compare-requires
compare-requires c =
    let (t, h, ready, laid) = c.requires.0 in
    let x = c.tabled-x.result in
    linked c.args.campaign.now t c.args.v h x.present x.preds (c.tabled-x.ensures t h)
    c.args.heads.now c.args.book.now ready c.find-link.result c.find-link.ensures

pub returns-then-not-compare : goal.returns-then-not-compare
returns-then-not-compare c =
    let a = c.args in
    let x = c.tabled-x.result in
    record {
      laid_for = (c.requires.0.3, c.requires.1);
      turned = λ t h ready.
          turn_known a.campaign.now t a.v h x.present x.preds (c.tabled-x.ensures t h) a.heads.now
          a.book.now ready c.find-link.result c.find-link.ensures c.compare.new.book
          c.compare.result c.compare.ensures c.if-not-compare.true-raw a.cap
          (kept_of a.cells.now a.area.now);
    }

pub for_variant-requires : goal.for_variant-requires
for_variant-requires c =
    let a = c.args in
    let x = c.tabled-x.result in
    let (t, h, ready, laid) = c.requires.0 in
    may_place a.campaign.now t a.v h x.present x.preds (c.tabled-x.ensures t h) a.heads.now
    a.book.now ready c.find-link.result c.find-link.ensures a.table.now laid

pub search-requires : goal.search-requires
search-requires c =
    let a = c.args in
    let x = c.tabled-x.result in
    let (t, h, ready, laid) = c.requires.0 in (
      c.for_variant.ensures.whole,
      prior a.campaign.now t a.v h x.present x.preds (c.tabled-x.ensures t h) a.heads.now
          a.book.now ready c.find-link.result c.find-link.ensures c.compare.new.book
          c.compare.result c.compare.ensures (ap not c.if-not-compare.false) a.cap a.table.now
          c.for_variant.new.table laid c.for_variant.ensures,
      c.requires.1,
    )

pub enter-requires : goal.enter-requires
enter-requires c =
    let a = c.args in
    let x = c.tabled-x.result in
    let (t, h, ready, laid) = c.requires.0 in
    may_enter a.campaign.now t a.v h x.present x.preds (c.tabled-x.ensures t h) a.heads.now
    a.book.now ready c.find-link.result c.find-link.ensures c.compare.new.book
    c.compare.result c.compare.ensures (ap not c.if-not-compare.false)

pub returns : goal.returns
returns c =
    let a = c.args in
    let x = c.tabled-x.result in
    let (t₀, h₀, ready₀, laid) = c.requires.0 in
    record {
      laid_for = (
        still_laid a.campaign.now t₀ a.v h₀ x.present x.preds (c.tabled-x.ensures t₀ h₀) a.heads.now
            a.book.now ready₀ c.find-link.result c.find-link.ensures c.compare.new.book
            c.compare.result c.compare.ensures (ap not c.if-not-compare.false) a.cap a.table.now
            c.for_variant.new.table laid c.for_variant.ensures,
        c.search.ensures.tally,
      );
      turned = λ t h ready.
          turn_new a.campaign.now t a.v h x.present x.preds (c.tabled-x.ensures t h) a.heads.now
          a.book.now ready c.find-link.result c.find-link.ensures c.compare.new.book
          c.compare.result c.compare.ensures (ap not c.if-not-compare.false) a.cap a.table.now
          c.for_variant.new.table laid c.for_variant.ensures (kept_of a.cells.now a.area.now)
          (kept_of c.search.new.cells c.search.new.area) c.search.ensures.found
          c.enter.new.heads c.enter.new.book c.enter.ensures;
    }
