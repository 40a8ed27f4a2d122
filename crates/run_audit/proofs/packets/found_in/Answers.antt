use Rattle.std.proofs.Common.{◌∙◌, ap, refl, subst, sym}
use Rattle.run_audit.specs.Assembled.{passage_of}
use Rattle.run_audit.specs.Bases.{basis_of}
use Rattle.run_audit.specs.Hops.{delayed_hop}
use Rattle.run_audit.specs.Runs.{Passage}
use Rattle.run_audit.specs.Verdicts.{against_sent, by_number, first_found, outside, time_of}
use Rattle.run_audit.proofs.HopLaws.{link_of-hops}
use Rattle.run_audit.proofs.LeastLaws.{least_ended, least_more, least_start}
use Rattle.run_audit.proofs.SortLaws.{Differ}
use Rattle.run_audit.proofs.packets.found_in.Goals as goal

pub loop-trail-init : goal.loop-trail-init
loop-trail-init c =
    let g = basis_of c.basis-basis.result in record {
      outside = least_start (λ (p : Passage). p.packet.number) (λ p. against_sent g (outside p.packet.number) p) passage_of c.trails-trails.result.now;
      delayed = least_start (λ (p : Passage). p.packet.number) (λ p. against_sent g (delayed_hop g.domain p.packet.number) p) passage_of c.trails-trails.result.now;
    }

pub loop-trail-preserved : goal.loop-trail-preserved
loop-trail-preserved c =
    let g = basis_of c.basis-basis.result in
    let trails = c.trails-trails.result.now in
    let i = c.loop-trail.trail-index in
    let trail = c.trail-item.result in record {
      outside = least_more (λ (p : Passage). p.packet.number) (λ p. against_sent g (outside p.packet.number) p) passage_of trails i trail
          c.loop-trail.outside _ trail.packet _ c.loop-trail-test.true c.trail-item.is refl c.found_of-found.ensures.outside c.lesser-outside.ensures c.loop-trail.invariant.outside;
      delayed = least_more (λ (p : Passage). p.packet.number) (λ p. against_sent g (delayed_hop g.domain p.packet.number) p) passage_of trails i trail
          c.loop-trail.delayed _ trail.packet _ c.loop-trail-test.true c.trail-item.is refl c.found_of-found.ensures.delayed c.lesser-delayed.ensures c.loop-trail.invariant.delayed;
    }

pub returns-clause-outside : goal.returns-clause-outside
returns-clause-outside c =
    let g = basis_of c.basis-basis.result in
    let trails = c.trails-trails.result.now in
    let run = c.args.run.now.run in
    c.told.ensures
    ∙ least_ended (λ (p : Passage). p.packet.number) (λ p. against_sent g (outside p.packet.number) p) passage_of trails c.loop-trail.trail-index
    c.loop-trail.outside c.loop-trail-test.false (subst (Differ (λ (p : Passage). p.packet.number)) (sym c.trails-trails.ensures.value) c.trails-trails.ensures.run.numbers) c.loop-trail.invariant.outside
    ∙ ap (λ passages. first_found (λ p. against_sent g (outside p.packet.number) p) (by_number passages)) c.trails-trails.ensures.value
    ∙ ap (λ h. time_of h run) c.basis-basis.ensures.value

pub returns-clause-delayed : goal.returns-clause-delayed
returns-clause-delayed c =
    let g = basis_of c.basis-basis.result in
    let trails = c.trails-trails.result.now in
    let run = c.args.run.now.run in
    c.told-2.ensures
    ∙ least_ended (λ (p : Passage). p.packet.number) (λ p. against_sent g (delayed_hop g.domain p.packet.number) p) passage_of trails c.loop-trail.trail-index
    c.loop-trail.delayed c.loop-trail-test.false (subst (Differ (λ (p : Passage). p.packet.number)) (sym c.trails-trails.ensures.value) c.trails-trails.ensures.run.numbers) c.loop-trail.invariant.delayed
    ∙ ap (λ passages. first_found (λ p. against_sent g (delayed_hop g.domain p.packet.number) p) (by_number passages)) c.trails-trails.ensures.value
    ∙ ap (λ h. first_found (λ p. against_sent h (delayed_hop h.domain p.packet.number) p) (by_number run.passages)) c.basis-basis.ensures.value
    ∙ link_of-hops c.args.run.now.basis run c.basis-basis.ensures.run
