use Rattle.std.proofs.Common.{arith, rules, ◌≡◌, ◌<◌, ◌^◌, length, ap, refl, sym, subst, ◌∙◌}
use Rattle.std.specs.List.{AllByRecursion}
use Rattle.std.specs.Arc.{arc_value}
use Rattle.ds_checker.specs.Sums.{AreBelow}
use Rattle.ds_checker.proofs.ChangeLaws.{kept-below, kept-long, last-inside, last-row, self-of, shape-more, sound-more, sound-of, table}
use Rattle.ds_checker.proofs.HeldLaws.{routes-more}
use Rattle.ds_checker.proofs.candidate.Accepted.take_up.Goals as goal

pub bounds-bounds-len : goal.bounds-bounds-len
bounds-bounds-len c =
    let number : c.len.result ≡ length c.self.inside.contracts.items = search rules in
    last-inside c.deref-domain.result.now c.self.inside.contracts.items c.self.inside.certificate c.bounds.result.now c.self.inside.sums.items c.args.row c.len.result (sound-of c.deref-domain.result.now (arc_value c.self.inside.domain) c.self.inside.contracts.items c.self.inside.certificate c.self.inside.sums.items c.deref-domain.ensures c.self.invariant.sound) number
    (c.bounds.ensures ∙ c.in-Ok.ensures.pushed)

pub add_on_route-requires-clause-shape : goal.add_on_route-requires-clause-shape
add_on_route-requires-clause-shape c =
    let number : c.len.result ≡ length c.self.inside.contracts.items = search rules in
    let row = last-row c.deref-domain.result.now c.self.inside.contracts.items c.self.inside.certificate c.bounds.result.now c.self.inside.sums.items c.args.row c.index-bounds-len.result c.len.result
    (sound-of c.deref-domain.result.now (arc_value c.self.inside.domain) c.self.inside.contracts.items c.self.inside.certificate c.self.inside.sums.items c.deref-domain.ensures c.self.invariant.sound) number (c.bounds.ensures ∙ c.in-Ok.ensures.pushed) c.index-bounds-len.is in
    rw c.contract-2.ensures (shape-more c.deref-domain.result.now c.self.inside.contracts.items c.self.inside.certificate c.self.inside.sums.items c.args.self.now c.args.contract c.args.row c.hops.result.now (sound-of c.deref-domain.result.now (arc_value c.self.inside.domain) c.self.inside.contracts.items c.self.inside.certificate c.self.inside.sums.items c.deref-domain.ensures c.self.invariant.sound)
    (self-of c.deref-domain.result.now (arc_value c.self.inside.domain) c.self.inside.contracts.items c.self.inside.certificate c.args.self.now c.deref-domain.ensures c.self.view_is) c.requires.unrefused (c.hops.ensures ∙ row))

pub add_on_route-requires-clause-room : goal.add_on_route-requires-clause-room
add_on_route-requires-clause-room c =
    let few : length c.self.inside.contracts.items < 2 ^ 64 = search rules in
    subst (AllByRecursion (AreBelow (2 ^ 120))) (sym c.as_mut_slice.ensures.value)
    (kept-below (table c.deref-domain.result.now c.self.inside.contracts.items c.self.inside.certificate) c.self.inside.sums.items few (sound-of c.deref-domain.result.now (arc_value c.self.inside.domain) c.self.inside.contracts.items c.self.inside.certificate c.self.inside.sums.items c.deref-domain.ensures c.self.invariant.sound).kept)

pub invariant_of-self-2 : goal.invariant_of-self-2
invariant_of-self-2 c = record {
  sound = (
      let number : c.len.result ≡ length c.self.inside.contracts.items = search rules in
      let row = last-row c.deref-domain.result.now c.self.inside.contracts.items c.self.inside.certificate c.bounds.result.now c.self.inside.sums.items c.args.row c.index-bounds-len.result c.len.result
      (sound-of c.deref-domain.result.now (arc_value c.self.inside.domain) c.self.inside.contracts.items c.self.inside.certificate c.self.inside.sums.items c.deref-domain.ensures c.self.invariant.sound) number (c.bounds.ensures ∙ c.in-Ok.ensures.pushed) c.index-bounds-len.is in
      sound-of (arc_value c.self.inside.domain) c.deref-domain.result.now _ _ _ (sym c.deref-domain.ensures) (sound-more c.deref-domain.result.now c.self.inside.contracts.items _ c.self.inside.certificate _ c.self.inside.sums.items c.as_mut_slice.result.now c.add_on_route.new.sums _ c.args.self.now
      c.args.contract c.args.row c.hops.result.now c.self.inside.sums.len (sound-of c.deref-domain.result.now (arc_value c.self.inside.domain) c.self.inside.contracts.items c.self.inside.certificate c.self.inside.sums.items c.deref-domain.ensures c.self.invariant.sound) (self-of c.deref-domain.result.now (arc_value c.self.inside.domain) c.self.inside.contracts.items c.self.inside.certificate c.args.self.now c.deref-domain.ensures c.self.view_is) c.requires.unrefused (search rules) c.in-Ok.ensures.pushed (c.hops.ensures ∙ row)
      c.as_mut_slice.ensures.value c.as_mut_slice.ensures.len (rw c.contract-2.ensures at c.add_on_route.ensures.value) (rw c.contract-2.ensures at c.add_on_route.ensures.small) refl)
      );
  routes = routes-more (arc_value c.self.inside.domain) c.self.inside.contracts.items _ c.self.inside.routes.items _ c.args.contract c.args.route c.self.invariant.routes
      (search rules) (search rules) (search rules);
}

pub offset_bounds-bounds-len : goal.offset_bounds-bounds-len
offset_bounds-bounds-len c =
    let number : c.len.result ≡ length c.self.inside.contracts.items = search rules in
    let inside = last-inside c.deref-domain.result.now c.self.inside.contracts.items c.self.inside.certificate c.bounds.result.now c.self.inside.sums.items c.args.row c.len.result (sound-of c.deref-domain.result.now (arc_value c.self.inside.domain) c.self.inside.contracts.items c.self.inside.certificate c.self.inside.sums.items c.deref-domain.ensures c.self.invariant.sound) number
    (c.bounds.ensures ∙ c.in-Ok.ensures.pushed) in
    omega (arith, inside)

pub add_on_route-requires-clause-apart : goal.add_on_route-requires-clause-apart
add_on_route-requires-clause-apart c = c.meters-meters.ensures.kept.meters_differ

pub add_on_route-requires-clause-places : goal.add_on_route-requires-clause-places
add_on_route-requires-clause-places c =
    ap length c.as_mut_slice.ensures.value
    ∙ kept-long (table c.deref-domain.result.now c.self.inside.contracts.items c.self.inside.certificate) c.self.inside.sums.items
    (sound-of c.deref-domain.result.now (arc_value c.self.inside.domain) c.self.inside.contracts.items c.self.inside.certificate c.self.inside.sums.items c.deref-domain.ensures c.self.invariant.sound).kept
