use Rattle.std.proofs.Common.{◌≡◌, ◌<◌, ◌∙◌, length, get_or, is_some, true, sym, ap, subst, arith, bytes_eq}
use Rattle.std.specs.Map.{lookup}
use Rattle.ds_offers.proofs.NamedLaws.{noted_again, noted_next}
use Rattle.dsedge_audit.proofs.flows.Flows.new.Goals.{then-not-contains_key+in_ok-insert, else-not-contains_key}
use Rattle.dsedge_audit.proofs.flows.Flows.new.Goals as goal

pub loop-place-preserved : goal.loop-place-preserved
loop-place-preserved c =
    let contracts = c.args.accepted.now.contracts in
    let i = c.loop-place.place in
    let named = rw c.contract.ensures at c.bytes-name.ensures.value in
    let same = c.contracts-contract-items.ensures.value in
    let inside : i < length contracts = omega (arith, ap length same, c.loop-place-test.true) in
    let is_it : c.contract-item.result ≡ get_or contracts i c.contract-item.result =
    c.contract-item.is ∙ ap (λ cs. get_or cs i c.contract-item.result) same in
    elim c.if-not-contains_key.branch [
      | then-not-contains_key+in_ok-insert w ↦
          rw w.places-is
          (noted_next (λ key. key.now) c.loop-place.places.entries _ contracts i c.contract-item.result c.bytes-name.result inside is_it named
          (sym c.contains_key.ensures ∙ w.if-not-contains_key.true) w.in_ok-insert.ensures.entries c.loop-place.invariant)
      | else-not-contains_key w ↦
          let known : is_some (lookup (λ key. bytes_eq c.contract-item.result.name key.now) c.loop-place.places.entries) ≡ true =
          subst (λ name. is_some (lookup (λ key. bytes_eq name key.now) c.loop-place.places.entries) ≡ true) named
          (sym c.contains_key.ensures ∙ w.if-not-contains_key.false) in
          rw w.places-is (noted_again (λ key. key.now) c.loop-place.places.entries contracts i c.contract-item.result inside is_it known c.loop-place.invariant)
    ]
