use Rattle.std.proofs.Common.{◌≡◌, ◌-◌, List, ap, length, map, subst, sym, ◌∙◌}
use Rattle.std.specs.List.Sorted.{IsStrictlyIncreasing}
use Rattle.std.proofs.lemmas.List.{length-map}
use Rattle.ds_broker.specs.Books.{contracts_in}
use Rattle.ds_broker.specs.Histories.{Holding, standing_of}
use Rattle.ds_broker.proofs.IdLaws.{flows-rising}
use Rattle.ds_desk.proofs.feed.Seen.numbered.Goals as goal

-- what is held has a flow and a contract each
beside : (held : List Holding) → length (map (λ h. h.id - 1) held) ≡ length (contracts_in held)
beside held = length-map held (λ h. h.id - 1) ∙ sym (length-map held (λ h. h.contract))

pub invariant_of-result : goal.invariant_of-result
invariant_of-result g c = record {
  rising = subst IsStrictlyIncreasing (sym c.flows.ensures) (flows-rising c.args.self.now);
  beside =
      ap length c.flows.ensures
      ∙ beside (standing_of c.args.self.now).held
      ∙ sym (ap (λ t. length t.contracts) c.table.ensures.value);
}
