use Rattle.std.proofs.Common.{◌≡◌, ◌<◌, Vec, Global, length, map, ap, arith, refl, subst, ◌∙◌}
use Rattle.std.proofs.lemmas.Option.{slice_get_read}
use denote.Bor.{Bor}
use Rattle.meter_book.specs.Chapters.{Chapter}
use Rattle.meter_book.specs.Gathering.{of_site}
use Rattle.meter_fabric.specs.Gathered.{IsGathered}
use Rattle.meter_fabric.proofs.JournalLaws.{gathered_more}
use Rattle.meter_fabric.proofs.gathering.gather_all.Goals as goal

pub loop-site-preserved : goal.loop-site-preserved
loop-site-preserved c =
    let all = c.args.chapters.now in
    let site = c.loop-site.site in
    let book = c.index-books-site.result in
    let below : site < length c.args.books.now = c.loop-site-test.true in
    let at = slice_get_read c.args.books.now (length c.args.books.now) site book refl below c.index-books-site.is in
    let own : map (λ (x : Bor Chapter). x.now) c.index.result.now.items ≡ of_site site all = ap (λ (v : Vec (Bor Chapter) Global). map (λ (x : Bor Chapter). x.now) v.items) c.index.ensures ∙ c.in_ok-buckets.ensures.own site c.index.result.now below in
    record {
      count = omega (arith, c.in_ok-push.ensures.len, c.loop-site.invariant.count);
      each = gathered_more all c.args.books.now c.loop-site.gathered.items c.push.new.self.items site book c.in_ok-journal.journal c.loop-site.invariant.each
          (omega (arith, c.loop-site.invariant.count, c.loop-site.gathered.ok)) at c.in_ok-push.ensures.items
          (subst (λ o. IsGathered o site book c.in_ok-journal.journal) own c.in_ok-journal.ensures);
    }

pub returns : goal.returns
returns c = record { each = c.loop-site.invariant.each; count = omega (arith, c.loop-site.invariant.count, c.loop-site.gathered.ok, c.loop-site-test.false, c.loop-site.auto.site-end) }
