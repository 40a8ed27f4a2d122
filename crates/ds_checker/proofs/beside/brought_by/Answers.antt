use Rattle.std.proofs.Common.{length, drop, get_or, Some, ap, subst, ◌∙◌, refl, bytes_eq}
use Rattle.std.specs.List.{IsDistinct}
use Rattle.std.specs.Map.{keys_of}
use Rattle.ds_domain_base.specs.Domains.{Domain}
use Rattle.ds_certificate.specs.Sources.{source_on}
use Rattle.ds_checker.proofs.BesideLaws.{one-left, row-some, row-within}
use Rattle.ds_checker.proofs.beside.brought_by.Goals as goal
use Rattle.std.proofs.lemmas.Option.{slice_get_read}

pub returns : goal.returns
returns c =
    let t = c.args.accepted.now in
    let place = c.args.place in
    let contract = c.index-contracts-place.result in
    let route = c.route-route.result.now in
    let own = c.index-contracts-place.is ∙ ap (λ list. get_or list place contract) c.contracts.ensures.value in
    one-left t c.sums-sums.result.now (Some place) place contract route c.index-bounds-place.result c.split_at.result.1.now c.along.result c.has_peak.result c.legs.result.now
    refl c.requires c.sums-sums.ensures.sound c.sums-sums.ensures.few
    (subst (λ (d : Domain). IsDistinct bytes_eq (keys_of d.meters)) c.domain-domain.ensures.value c.meters-meters.ensures.kept.meters_differ)
    own (c.index-bounds-place.is ∙ ap (λ list. get_or list place c.index-bounds-place.result) (c.bounds.ensures ∙ c.certificate.ensures.value))
    (c.route-route.ensures contract (slice_get_read t.contracts (length t.contracts) place contract refl c.requires own)) c.legs.ensures.kept
    (rw c.contract-contract.ensures at c.along.ensures.value ∙ ap (λ (d : Domain). source_on d route contract.terms) c.domain-domain.ensures.value) (rw c.contract-contract.ensures at c.has_peak.ensures) c.legs.ensures.value
    (c.split_at.ensures.back ∙ ap (drop 1) c.hops.ensures)

pub bounds-bounds-place : goal.bounds-bounds-place
bounds-bounds-place c =
    let t = c.args.accepted.now in
    row-within t c.bounds.result.now c.args.place c.contracts.ensures.acceptable (c.bounds.ensures ∙ c.certificate.ensures.value) c.requires

pub split_at-requires : goal.split_at-requires
split_at-requires c =
    let t = c.args.accepted.now in
    row-some t c.bounds.result.now c.args.place c.index-contracts-place.result c.index-bounds-place.result c.hops.result.now c.contracts.ensures.acceptable
    (c.bounds.ensures ∙ c.certificate.ensures.value) c.requires c.index-bounds-place.is c.hops.ensures
