use Rattle.std.proofs.Common.{rules, ◌≡◌, ◌<◌, ◌^◌, length, ap, is_some, refl, subst, sym, ◌∙◌}
use Rattle.std.specs.Arc.{arc_value}
use Rattle.std.specs.List.{AllByRecursion}
use Rattle.ds_checker.specs.Sums.{AreBelow}
use Rattle.ds_checker.proofs.BoundLaws.{not_found}
use Rattle.ds_checker.proofs.ChangeLaws.{found_by_bounds, kept-below, refused-shaped, refused-unshaped, self-of, sound-of, sums_pass, table}
use Rattle.ds_checker.proofs.LoadLaws.{AreBelow-more}
use Rattle.ds_checker.proofs.candidate.Accepted.admitted.Goals as goal

pub returns-in_default-clause-refused : goal.returns-in_default-clause-refused
returns-in_default-clause-refused c =
    let number : c.len-number.result ≡ length c.self.inside.contracts.items = search rules in
    sym (refused-unshaped c.deref-domain.result.now c.self.inside.contracts.items c.self.inside.certificate c.self.inside.sums.items c.args.self.now c.args.contract.now c.args.bounds.now c.len-number.result
    (is_some c.shaped.result) (sound-of c.deref-domain.result.now (arc_value c.self.inside.domain) c.self.inside.contracts.items c.self.inside.certificate c.self.inside.sums.items c.deref-domain.ensures c.self.invariant.sound) (self-of c.deref-domain.result.now (arc_value c.self.inside.domain) c.self.inside.contracts.items c.self.inside.certificate c.args.self.now c.deref-domain.ensures c.self.view_is) number c.shaped.ensures.some (ap is_some c.in_default.is))

pub returns-in-Some-contract_refusal-clause-refused : goal.returns-in-Some-contract_refusal-clause-refused
returns-in-Some-contract_refusal-clause-refused c =
    let number : c.len-number.result ≡ length c.self.inside.contracts.items = search rules in
    sym (found_by_bounds c.deref-domain.result.now c.self.inside.contracts.items c.self.inside.certificate c.self.inside.sums.items c.args.self.now c.args.contract.now c.args.bounds.now c.len-number.result
    (is_some c.shaped.result) c.contract_refusal.result (sound-of c.deref-domain.result.now (arc_value c.self.inside.domain) c.self.inside.contracts.items c.self.inside.certificate c.self.inside.sums.items c.deref-domain.ensures c.self.invariant.sound) (self-of c.deref-domain.result.now (arc_value c.self.inside.domain) c.self.inside.contracts.items c.self.inside.certificate c.args.self.now c.deref-domain.ensures c.self.view_is) number c.shaped.ensures.some (ap is_some c.in-Some.is) c.contract_refusal.ensures
    (ap is_some c.in-Some-contract_refusal.is)) ∙ c.in-Some-contract_refusal.is

pub contract_refusal_at_meters-requires-clause-room : goal.contract_refusal_at_meters-requires-clause-room
contract_refusal_at_meters-requires-clause-room c =
    let few : length c.self.inside.contracts.items < 2 ^ 64 = search rules in
    subst (AllByRecursion (AreBelow (2 ^ 121))) (sym c.as_slice.ensures.value)
    (AreBelow-more (2 ^ 120) (2 ^ 121) c.self.inside.sums.items (search rules)
    (kept-below (table c.deref-domain.result.now c.self.inside.contracts.items c.self.inside.certificate) c.self.inside.sums.items few (sound-of c.deref-domain.result.now (arc_value c.self.inside.domain) c.self.inside.contracts.items c.self.inside.certificate c.self.inside.sums.items c.deref-domain.ensures c.self.invariant.sound).kept))

pub contract_refusal_at_meters-requires-clause-passed : goal.contract_refusal_at_meters-requires-clause-passed
contract_refusal_at_meters-requires-clause-passed c =
    sums_pass (table c.deref-domain.result.now c.self.inside.contracts.items c.self.inside.certificate) c.as_slice.result.now (sound-of c.deref-domain.result.now (arc_value c.self.inside.domain) c.self.inside.contracts.items c.self.inside.certificate c.self.inside.sums.items c.deref-domain.ensures c.self.invariant.sound).acceptable
    (c.as_slice.ensures.value ∙ (sound-of c.deref-domain.result.now (arc_value c.self.inside.domain) c.self.inside.contracts.items c.self.inside.certificate c.self.inside.sums.items c.deref-domain.ensures c.self.invariant.sound).kept.sums)

pub returns-in-Some-contract_refusal_at_meters-clause-refused : goal.returns-in-Some-contract_refusal_at_meters-clause-refused
returns-in-Some-contract_refusal_at_meters-clause-refused c =
    let number : c.len-number.result ≡ length c.self.inside.contracts.items = search rules in
    sym (not_found c.contract_refusal.result _ _ (ap is_some c.in_default-contract_refusal.is)
    (refused-shaped c.deref-domain.result.now c.self.inside.contracts.items c.self.inside.certificate c.self.inside.sums.items c.as_slice.result.now c.args.self.now c.args.contract.now c.args.bounds.now
    c.args.bounds.now c.len-number.result (is_some c.shaped.result) c.contract_refusal.result c.contract_refusal_at_meters.result (sound-of c.deref-domain.result.now (arc_value c.self.inside.domain) c.self.inside.contracts.items c.self.inside.certificate c.self.inside.sums.items c.deref-domain.ensures c.self.invariant.sound) (self-of c.deref-domain.result.now (arc_value c.self.inside.domain) c.self.inside.contracts.items c.self.inside.certificate c.args.self.now c.deref-domain.ensures c.self.view_is) number c.as_slice.ensures.value
    refl c.shaped.ensures.some (ap is_some c.in-Some.is) c.contract_refusal.ensures c.contract_refusal_at_meters.ensures)) ∙ c.in-Some-contract_refusal_at_meters.is

pub returns-in-None-clause-unrefused : goal.returns-in-None-clause-unrefused
returns-in-None-clause-unrefused c =
    let number : c.len-number.result ≡ length c.self.inside.contracts.items = search rules in
    sym (not_found c.contract_refusal.result _ _ (ap is_some c.in_default-contract_refusal.is)
    (refused-shaped c.deref-domain.result.now c.self.inside.contracts.items c.self.inside.certificate c.self.inside.sums.items c.as_slice.result.now c.args.self.now c.args.contract.now c.args.bounds.now
    c.args.bounds.now c.len-number.result (is_some c.shaped.result) c.contract_refusal.result c.contract_refusal_at_meters.result (sound-of c.deref-domain.result.now (arc_value c.self.inside.domain) c.self.inside.contracts.items c.self.inside.certificate c.self.inside.sums.items c.deref-domain.ensures c.self.invariant.sound) (self-of c.deref-domain.result.now (arc_value c.self.inside.domain) c.self.inside.contracts.items c.self.inside.certificate c.args.self.now c.deref-domain.ensures c.self.view_is) number c.as_slice.ensures.value
    refl c.shaped.ensures.some (ap is_some c.in-Some.is) c.contract_refusal.ensures c.contract_refusal_at_meters.ensures)) ∙ c.in-None.is
