use Rattle.std.proofs.Common.{rules, ◌≡◌, Some, position, bytes_eq}
use Rattle.std.specs.Arc.{arc_value}
use Rattle.std.specs.Map.{keys_of}
use Rattle.ds_domain_base.specs.Domains.{meter_of}
use Rattle.ds_checker.proofs.ChangeLaws.{self-of, sound-of, table}
use Rattle.ds_checker.proofs.HeadroomLaws.{headroom-covered, headroom-found}
use Rattle.ds_checker.proofs.candidate.Accepted.headroom.Goals as goal

pub returns-clause-value : goal.returns-clause-value
returns-clause-value c =
    let d = c.deref-domain.result.now in
    let inside = c.self.inside in
    let own : Some c.in_ok-place.own.now ≡ meter_of d c.args.meter = search rules in
    let place : Some c.in_ok-place.place ≡ position (bytes_eq c.args.meter) (keys_of d.meters) = search rules in
    headroom-found (table d inside.contracts.items inside.certificate) c.args.self.now inside.sums.items c.args.meter c.in_ok-place.own.now c.in_ok-place.place c.index.result.now
    c.headroom_at.result
    (self-of d (arc_value inside.domain) inside.contracts.items inside.certificate c.args.self.now c.deref-domain.ensures c.self.view_is)
    (sound-of d (arc_value inside.domain) inside.contracts.items inside.certificate inside.sums.items c.deref-domain.ensures c.self.invariant.sound)
    own place c.index.ensures c.headroom_at.ensures

pub returns-clause-covered : goal.returns-clause-covered
returns-clause-covered c =
    let d = c.deref-domain.result.now in
    let inside = c.self.inside in
    let own : Some c.in_ok-place.own.now ≡ meter_of d c.args.meter = search rules in
    let place : Some c.in_ok-place.place ≡ position (bytes_eq c.args.meter) (keys_of d.meters) = search rules in
    headroom-covered (table d inside.contracts.items inside.certificate) inside.sums.items c.args.meter c.in_ok-place.own.now c.in_ok-place.place c.index.result.now
    c.headroom_at.result
    (sound-of d (arc_value inside.domain) inside.contracts.items inside.certificate inside.sums.items c.deref-domain.ensures c.self.invariant.sound)
    own place c.index.ensures c.headroom_at.ensures
