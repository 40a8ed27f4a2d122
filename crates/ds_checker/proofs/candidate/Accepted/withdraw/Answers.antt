use Rattle.std.proofs.Common.{arith, rules, ◌≡◌, ◌<◌, Some, length, ap, refl, subst, sym, ◌∙◌, slice_get}
use Rattle.std.specs.Arc.{arc_value}
use Rattle.ds_checker.specs.Acceptance.{Table}
use Rattle.ds_checker.specs.Changes.{without_contract}
use Rattle.ds_checker.specs.Sums.{loads_of}
use Rattle.ds_checker.proofs.ChangeLaws.{before-less, kept-long, row-inside, shape-less, sound-less, sound-of, table}
use Rattle.ds_checker.proofs.HeldLaws.{routes-less, routes-long}
use Rattle.ds_checker.proofs.candidate.Accepted.withdraw.Goals as goal
use Rattle.std.proofs.lemmas.Option.{slice_get_read}

pub remove-bounds-requires : goal.remove-bounds-requires
remove-bounds-requires c =
    let inside : c.args.index < length c.self.inside.contracts.items = search rules in
    row-inside (arc_value c.self.inside.domain) c.self.inside.contracts.items c.self.inside.certificate c.self.inside.sums.items c.args.index c.self.invariant.sound inside

pub take_on_route-requires-clause-shape : goal.take_on_route-requires-clause-shape
take_on_route-requires-clause-shape c =
    let inside : c.args.index < length c.self.inside.contracts.items = search rules in
    rw c.contract.ensures (shape-less c.deref-domain.result.now c.self.inside.contracts.items c.self.inside.certificate c.self.inside.sums.items c.args.index c.remove-contract.result c.remove-bounds.result c.hops.result.now
    (sound-of c.deref-domain.result.now (arc_value c.self.inside.domain) c.self.inside.contracts.items c.self.inside.certificate c.self.inside.sums.items c.deref-domain.ensures c.self.invariant.sound) inside c.remove-contract.ensures.value c.remove-bounds.ensures.value c.hops.ensures)

pub take_on_route-requires-clause-added : goal.take_on_route-requires-clause-added
take_on_route-requires-clause-added c =
    let inside : c.args.index < length c.self.inside.contracts.items = search rules in (
      loads_of (without_contract (table c.deref-domain.result.now c.self.inside.contracts.items c.self.inside.certificate) c.args.index),
      rw c.contract.ensures (before-less c.deref-domain.result.now c.self.inside.contracts.items c.self.inside.certificate c.self.inside.sums.items c.as_mut_slice.result.now c.args.index c.remove-contract.result
          c.remove-bounds.result c.hops.result.now (sound-of c.deref-domain.result.now (arc_value c.self.inside.domain) c.self.inside.contracts.items c.self.inside.certificate c.self.inside.sums.items c.deref-domain.ensures c.self.invariant.sound) inside c.remove-contract.ensures.value c.remove-bounds.ensures.value c.hops.ensures c.as_mut_slice.ensures.value),
    )

pub invariant_of-self : goal.invariant_of-self
invariant_of-self c = record {
  sound = (
      let inside : c.args.index < length c.self.inside.contracts.items = search rules in
      let before = before-less c.deref-domain.result.now c.self.inside.contracts.items c.self.inside.certificate c.self.inside.sums.items c.as_mut_slice.result.now c.args.index c.remove-contract.result
      c.remove-bounds.result c.hops.result.now (sound-of c.deref-domain.result.now (arc_value c.self.inside.domain) c.self.inside.contracts.items c.self.inside.certificate c.self.inside.sums.items c.deref-domain.ensures c.self.invariant.sound) inside c.remove-contract.ensures.value c.remove-bounds.ensures.value c.hops.ensures c.as_mut_slice.ensures.value in
      sound-of (arc_value c.self.inside.domain) c.deref-domain.result.now _ _ _ (sym c.deref-domain.ensures) (sound-less c.deref-domain.result.now c.self.inside.contracts.items _ c.self.inside.certificate _ c.self.inside.sums.items c.as_mut_slice.result.now c.take_on_route.new.sums _ c.args.index
      c.remove-contract.result c.remove-bounds.result c.self.inside.sums.len (sound-of c.deref-domain.result.now (arc_value c.self.inside.domain) c.self.inside.contracts.items c.self.inside.certificate c.self.inside.sums.items c.deref-domain.ensures c.self.invariant.sound) inside c.remove-contract.ensures.items c.remove-bounds.ensures.rest c.as_mut_slice.ensures.value
      c.as_mut_slice.ensures.len (c.take_on_route.ensures _ (rw c.contract.ensures before)) refl)
      );
  routes = routes-less (arc_value c.self.inside.domain) c.self.inside.contracts.items _ c.self.inside.routes.items _ c.args.index c.self.invariant.routes
      c.remove-contract.ensures.items c.remove-route.ensures.items;
}

pub returns-clause-bounds : goal.returns-clause-bounds
returns-clause-bounds c =
    let inside : c.args.index < length c.self.inside.contracts.items = search rules in
    subst (λ (t : Table). slice_get t.certificate c.args.index ≡ Some c.remove-bounds.result) c.self.view_is
    (slice_get_read c.self.inside.certificate (length c.self.inside.certificate) c.args.index c.remove-bounds.result refl
    (row-inside (arc_value c.self.inside.domain) c.self.inside.contracts.items c.self.inside.certificate c.self.inside.sums.items c.args.index c.self.invariant.sound inside) c.remove-bounds.ensures.value)

pub take_on_route-requires-clause-places : goal.take_on_route-requires-clause-places
take_on_route-requires-clause-places c =
    ap length c.as_mut_slice.ensures.value
    ∙ kept-long (table c.deref-domain.result.now c.self.inside.contracts.items c.self.inside.certificate) c.self.inside.sums.items
    (sound-of c.deref-domain.result.now (arc_value c.self.inside.domain) c.self.inside.contracts.items c.self.inside.certificate c.self.inside.sums.items c.deref-domain.ensures c.self.invariant.sound).kept

pub remove-route-requires : goal.remove-route-requires
remove-route-requires c =
    let inside : c.args.index < length c.self.inside.contracts.items = search rules in
    omega (arith, inside, routes-long (arc_value c.self.inside.domain) c.self.inside.contracts.items c.self.inside.routes.items c.self.invariant.routes)
