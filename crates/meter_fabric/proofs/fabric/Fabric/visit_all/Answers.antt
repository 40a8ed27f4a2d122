use Rattle.std.proofs.Common.{◌≡◌, ℕ, ◌+◌, ◌<◌, ◌≤◌, Option, Some, length, get_or, set, take, ap, arith, refl, sym, subst, ◌∙◌, count_by, is_none, slice_index, IsSomeAnd}
use Rattle.std.proofs.lemmas.List.{set-get_or, take_all}
use Rattle.meter_fabric_base.specs.Travels.{next_site}
use Rattle.meter_fabric.specs.Fabrics.{sites_of}
use Rattle.meter_fabric.specs.Visits.{IsAnswered}
use Rattle.meter_fabric.specs.declared.visit.Visit.{Visit}
use Rattle.meter_fabric.proofs.VisitLaws.{answered_more, left_more, left_read, none_more}
use Rattle.meter_fabric.proofs.fabric.Fabric.visit_all.Goals as goal

pub absent-requires : goal.absent-requires
absent-requires g c =
    let i = c.loop-visit.visit-index in
    let d = c.visit-item.result in
    let same = left_read c.loop-visit.visits c.args.visits.now i d c.loop-visit.invariant.left in
    let next : next_site (get_or c.loop-visit.visits i d).traveller ≡ Some c.args.site = ap (λ (v : Visit). next_site v.traveller) same ∙ c.requires i d (omega (arith, c.loop-visit-test.true)) in
    let long : c.len.result ≡ sites_of g.L.FabricLedger.fabric = c.len.ensures ∙ c.self.invariant.1 in
    let own : sites_of g.L.FabricLedger.fabric ≡ sites_of c.args.self.now = ap sites_of c.self.view_is in
    subst (λ (s : Option ℕ). IsSomeAnd s (λ site. sites_of c.args.self.now ≤ site)) (sym next) (omega (arith, c.if-site-len.true, long, own))

pub loop-visit-preserved : goal.loop-visit-preserved
loop-visit-preserved g c =
    let i = c.loop-visit.visit-index in
    let d = c.visit-item.result in
    let old : Visit = get_or c.loop-visit.visits i d in
    let new : Visit = record { traveller = old.traveller; moment = old.moment; fault = Some c.absent.result } in
    let below : i < length c.args.visits.now = c.loop-visit-test.true in
    let short : i < length c.loop-visit.visits = omega (arith, below, c.loop-visit.auto.visits) in
    let same = left_read c.loop-visit.visits c.args.visits.now i d c.loop-visit.invariant.left in
    let here : IsAnswered c.args.self.now (get_or c.args.visits.now i d) new = subst (λ (v : Visit). IsAnswered c.args.self.now v new) same (refl, (c.absent.ensures, refl)) in
    record {
      answered = answered_more c.args.self.now c.args.visits.now c.loop-visit.visits i d new below short c.loop-visit.invariant.answered here;
      left = left_more c.loop-visit.visits c.args.visits.now i new c.loop-visit.invariant.left;
      none = none_more c.loop-visit.visits i new short c.loop-visit.invariant.none refl;
    }

pub returns-then-site-len-clause-counted : goal.returns-then-site-len-clause-counted
returns-then-site-len-clause-counted g c =
    let all : take c.loop-visit.visit-index c.loop-visit.visits ≡ c.loop-visit.visits = take_all c.loop-visit.visit-index c.loop-visit.visits (omega (arith, c.loop-visit-test.false, c.loop-visit.auto.visits)) in
    let none : count_by (λ (v : Visit). is_none v.fault) c.loop-visit.visits ≡ 0 = ap (count_by (λ (v : Visit). is_none v.fault)) (sym all) ∙ c.loop-visit.invariant.none in
    let zero_more : slice_index c.args.pass.now c.args.site ≡ slice_index c.args.pass.now c.args.site + 0 = omega arith in
    sym (set-get_or c.args.pass.now c.args.site 0) ∙ ap (set c.args.pass.now c.args.site) zero_more
    ∙ ap (λ n. set c.args.pass.now c.args.site (slice_index c.args.pass.now c.args.site + n)) (sym none)
