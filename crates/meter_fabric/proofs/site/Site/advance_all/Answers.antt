use Rattle.std.proofs.Common.{◌≡◌, ◌<◌, length, get_or, Some, ap, arith, sym, subst, ◌∙◌, MatchOption}
use Rattle.meter_fabric_base.specs.Travels.{next_site}
use Rattle.meter_fabric.specs.Fabrics.{one_more}
use Rattle.meter_fabric.specs.Visits.{IsAnswered}
use Rattle.meter_fabric.specs.declared.visit.Visit.{Visit}
use Rattle.meter_fabric.proofs.VisitLaws.{answered_more, counted_more, left_more, left_read}
use Rattle.meter_fabric.proofs.site.Site.advance_all.Goals as goal

pub answer-requires-clause-next : goal.answer-requires-clause-next
answer-requires-clause-next g c =
    let i = c.loop-visit.visit-index in
    let d = c.visit-item.result in
    let same = left_read c.loop-visit.visits c.args.visits.now i d c.loop-visit.invariant.left in
    ap (λ (v : Visit). next_site v.traveller) same ∙ c.requires.next i d (omega (arith, c.loop-visit-test.true)) ∙ ap (λ n. Some n) (sym c.loop-visit.invariant.number)

pub loop-visit-preserved : goal.loop-visit-preserved
loop-visit-preserved g c =
    let i = c.loop-visit.visit-index in
    let d = c.visit-item.result in
    let new = c.answer.new.visit in
    let below : i < length c.args.visits.now = c.loop-visit-test.true in
    let short : i < length c.loop-visit.visits = omega (arith, below, c.loop-visit.auto.visits) in
    let same = left_read c.loop-visit.visits c.args.visits.now i d c.loop-visit.invariant.left in
    let here : IsAnswered g.L.FabricLedger.fabric (get_or c.args.visits.now i d) new = subst (λ (v : Visit). IsAnswered g.L.FabricLedger.fabric v new) same c.answer.ensures.answered in
    record {
      answered = answered_more g.L.FabricLedger.fabric c.args.visits.now c.loop-visit.visits i d new below short c.loop-visit.invariant.answered here;
      number = c.answer.ensures.number ∙ c.loop-visit.invariant.number;
      left = left_more c.loop-visit.visits c.args.visits.now i new c.loop-visit.invariant.left;
      counted = counted_more c.args.pass.now c.loop-visit.pass c.answer.new.pass c.args.self.now.number c.loop-visit.visits i new short c.loop-visit.invariant.counted
          (subst (λ site. MatchOption new.fault (c.answer.new.pass ≡ one_more c.loop-visit.pass site) (λ fault. c.answer.new.pass ≡ c.loop-visit.pass)) c.loop-visit.invariant.number c.answer.ensures.counted);
    }
