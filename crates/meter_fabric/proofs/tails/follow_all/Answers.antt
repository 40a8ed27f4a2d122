use Rattle.std.proofs.Common.{◌<◌, ◌≤◌, length, take, get_or, subst, take_all}
use Rattle.meter_book.specs.Gathering.{of_site}
use Rattle.meter_fabric.specs.Tails.{AreTails, IsAfter}
use Rattle.meter_fabric.specs.declared.tails.Tail.TheVariants.{Fresh}
use Rattle.meter_fabric.proofs.TailLaws.{reaches, tails_more, tails_past}
use Rattle.meter_fabric.proofs.tails.follow_all.Goals as goal
use Rattle.meter_fabric.proofs.tails.follow_all.Goals.{then-site-tails, else-site-tails}

pub after-requires-clause-reaches : goal.after-requires-clause-reaches
after-requires-clause-reaches c =
    reaches c.args.chapters.now (of_site c.site-site.result (take c.loop-index.index c.args.chapters.now)) (get_or c.loop-index.tails c.site-site.result Fresh)
    (c.loop-index.invariant c.site-site.result c.if-site-tails.true)

pub loop-index-preserved : goal.loop-index-preserved
loop-index-preserved c =
    let all = c.args.chapters.now in
    let i = c.loop-index.index in
    let chapter = c.index-chapters-index.result in
    let is = c.site-site.ensures in
    elim c.if-site-tails.branch [
      | then-site-tails w ↦
          let next = w.after.result in
          let there : chapter.site < length c.loop-index.tails = subst (λ s. s < length c.loop-index.tails) is w.if-site-tails.true in
          let after : IsAfter all (get_or c.loop-index.tails chapter.site Fresh) i next = subst (λ s. IsAfter all (get_or c.loop-index.tails s Fresh) i next) is w.after.ensures in
          rw (w.tails-is, is) (tails_more all i chapter c.loop-index-test.true c.index-chapters-index.is c.loop-index.tails c.loop-index.invariant next there after)
      | else-site-tails w ↦
          rw w.tails-is (tails_past all i chapter c.loop-index-test.true c.index-chapters-index.is c.loop-index.tails c.loop-index.invariant (subst (λ s. length c.loop-index.tails ≤ s) is w.if-site-tails.false))
    ]

pub returns-clause-tails : goal.returns-clause-tails
returns-clause-tails c =
    subst (λ so_far. AreTails c.args.chapters.now so_far c.loop-index.tails) (take_all c.loop-index.index c.args.chapters.now c.loop-index-test.false) c.loop-index.invariant
