use Rattle.std.proofs.Common.{◌≡◌, ◌++◌, [], ◌∷◌, IsTrue, subst, sym, ◌∙◌, rules}
use Rattle.ds_domain_base.specs.Names.{is_name}
use Rattle.ds_offers.proofs.NameLaws.{offered_again, offered_push}
use Rattle.ds_offers.proofs.offers.Offers.push.Goals.{then-not-contains_key+in_ok-insert, else-not-contains_key}
use Rattle.ds_offers.proofs.offers.Offers.push.Goals as goal

pub invariant_of-self-2 : goal.invariant_of-self-2
invariant_of-self-2 c =
    let contract = c.contract-2.result.now in
    let own : IsTrue (is_name contract.name) = subst (λ text. IsTrue (is_name text)) c.bytes-named.ensures.value c.bytes-named.ensures.named in
    elim c.if-not-contains_key.branch [
      | then-not-contains_key+in_ok-insert w ↦
          let pushed : c.push.new.self.items ≡ c.self.inside.contracts.items ++ contract ∷ [] =
          search (rules, w.self-inside-is, c.unwrap.ensures, c.push.ensures.items, c.in_ok-reserve.ensures.items, c.contract-2.ensures) in
          rw (w.self-inside-is, pushed) (offered_push c.self.inside.places.entries _ c.self.inside.contracts.items contract c.self.invariant own
          (sym c.contains_key.ensures ∙ w.if-not-contains_key.true)
          (search (rules, w.in_ok-insert.ensures.entries, c.len-place.ensures)))
      | else-not-contains_key w ↦
          let pushed : c.push.new.self.items ≡ c.self.inside.contracts.items ++ contract ∷ [] =
          search (rules, w.self-inside-is, c.unwrap.ensures, c.push.ensures.items, c.in_ok-reserve.ensures.items, c.contract-2.ensures) in
          rw (w.self-inside-is, pushed) (offered_again c.self.inside.places.entries c.self.inside.contracts.items contract c.self.invariant own
          (sym c.contains_key.ensures ∙ w.if-not-contains_key.false))
    ]
