use Rattle.std.proofs.Common.{◌≡◌, ◌<◌, ◌≤◌, refl, subst, ◌∙◌, min, unwrap_or, take_all}
use Rattle.meter_fabric.specs.Tails.{IsLeastStray}
use Rattle.meter_fabric.proofs.TailLaws.{stray_more, stray_same}
use Rattle.meter_fabric.proofs.tails.first_stray.Goals as goal
use Rattle.meter_fabric.proofs.tails.first_stray.Goals.{then-site-sites, else-site-sites}

pub loop-index-preserved : goal.loop-index-preserved
loop-index-preserved c =
    let all = c.args.chapters.now in
    let i = c.loop-index.index in
    let chapter = c.index-chapters-index.result in
    let is = c.site-site.ensures in
    elim c.if-site-sites.branch [
      | then-site-sites w ↦
          let past : c.args.sites ≤ chapter.site = subst (λ s. c.args.sites ≤ s) is w.if-site-sites.true in
          let least : w.min.result ≡ min (unwrap_or c.loop-index.least chapter.site) chapter.site = w.min.ensures ∙ rw (w.unwrap_or.ensures, is) refl in
          rw (w.least-is, least) (stray_more all i chapter c.loop-index-test.true c.index-chapters-index.is c.args.sites c.loop-index.least c.loop-index.invariant past)
      | else-site-sites w ↦
          rw w.least-is (stray_same all i chapter c.loop-index-test.true c.index-chapters-index.is c.args.sites c.loop-index.least c.loop-index.invariant (subst (λ s. s < c.args.sites) is w.if-site-sites.false))
    ]

pub returns : goal.returns
returns c =
    subst (λ all. IsLeastStray all c.args.sites c.loop-index.least) (take_all c.loop-index.index c.args.chapters.now c.loop-index-test.false) c.loop-index.invariant
