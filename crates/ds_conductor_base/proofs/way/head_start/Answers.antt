use Rattle.std.proofs.Common.{◌≡◌, ◌+◌, get_or, sym, subst, arith}
use Rattle.meter_fabric_base.proofs.PathLaws.{read_contract}
use Rattle.ds_conductor_base.proofs.HeadStartLaws.{AreAhead, ahead_all, ahead_before, ahead_last, ahead_more, all_ahead}
use Rattle.ds_conductor_base.proofs.way.head_start.Goals as goal

pub route-route-requires : goal.route-route-requires
route-route-requires c =
    (read_contract c.args.accepted.now c.flows_of-contracts.result.now c.loop-place.place c.index-contracts-place.result c.flows_of-contracts.ensures c.loop-place-test.true c.index-contracts-place.is).0

pub loop-place-preserved : goal.loop-place-preserved
loop-place-preserved c =
    let d = c.args.accepted.now.domain in
    let contracts = c.flows_of-contracts.result.now in
    let port = c.args.port in
    let count = c.loop-place.place in
    let here = c.contract.result.now in
    let inside = c.loop-place-test.true in
    let is : here ≡ get_or contracts count here = rw c.contract.ensures c.index-contracts-place.is in
    let own = c.route-route.ensures here (read_contract c.args.accepted.now contracts count here c.flows_of-contracts.ensures inside is).1 in
    record {
      holds = subst (λ least. AreAhead d contracts port (count + 1) least) (sym c.lesser-least.ensures)
          (ahead_more d contracts port count c.loop-place.least c.delay_at.result here inside is c.loop-place.invariant.holds (λ flow. c.delay_at.ensures.holds d flow own));
      greatest = λ delay low all.
          let before = c.loop-place.invariant.greatest delay low (ahead_before d contracts port count delay all) in
          let last = c.delay_at.ensures.greatest d count delay own low (ahead_last d contracts port count delay here inside is all) in
          omega (arith, before, last, c.lesser-least.ensures);
    }

pub returns-clause-holds : goal.returns-clause-holds
returns-clause-holds c =
    ahead_all c.args.accepted.now c.flows_of-contracts.result.now c.args.port c.loop-place.place c.loop-place.least c.flows_of-contracts.ensures c.loop-place-test.false c.loop-place.invariant.holds

pub returns-clause-greatest : goal.returns-clause-greatest
returns-clause-greatest c delay low ahead =
    c.loop-place.invariant.greatest delay low
    (all_ahead c.args.accepted.now c.flows_of-contracts.result.now c.args.port c.loop-place.place delay c.flows_of-contracts.ensures ahead)
