use Rattle.std.proofs.Common.{◌≡◌, None, refl, sym, ap, ◌∙◌}
use Rattle.ds_checker.specs.Acceptance.{refusal_of}
use Rattle.ds_domain_base.specs.Domains.{Domain}
use Rattle.ds_domain_base.specs.Routes.{route_of}
use Rattle.ds_domain_base.specs.declared.contract.Contract.{Contract}
use Rattle.ds_broker.specs.Books.{moment_in, standing, table_of}
use Rattle.ds_broker.specs.Entries.{flows_of}
use Rattle.ds_broker.specs.Refusals.{reserve_refusal}
use Rattle.ds_broker.specs.declared.command.Command.TheVariants.{Reserve}
use Rattle.ds_broker.proofs.NextLaws.{flows-after-reserve, with-begun, table-after-reserve}
use Rattle.ds_broker.proofs.StandingLaws.{standing-push}
use Rattle.ds_broker.proofs.TableLaws.{unrefused-checked}
use Rattle.ds_broker.proofs.book.Book.reserving.Goals as goal

pub returns-clause-change : goal.returns-clause-change
returns-clause-change c =
    let b = c.args.self.now in
    let k = c.args.contract.now in
    let since = c.moment_of-newest.result in
    let moment : since ≡ moment_in b k.lifetime.since = c.moment_of-newest.ensures ∙ ap (moment_in b) c.since.ensures in
    let unrefused : reserve_refusal b k ≡ None = sym c.refusal_on_route.ensures.value ∙ c.in_default-refusal_on_route.is in
    let domain : c.domain-2.result.now ≡ b.domain = c.domain-2.ensures.value ∙ ap (λ t. t.domain) c.table-2.ensures.value in
    let routed : c.domain.result.now ≡ b.domain = c.domain.ensures.value ∙ ap (λ t. t.domain) c.table.ensures.value in
    let larger = with-begun b k c.in-Ok-begun_row.contract c.in-Ok-begun_row.row c.domain-2.result.now since domain c.in-Ok-begun_row.ensures.begun c.in-Ok-begun_row.ensures.row in
    let granted : c.self.inside.granted ≡ (standing b).granted = c.self.invariant.granted ∙ ap (λ x. (standing x).granted) c.self.view_is in record {
      leads = record {
        applies = (
          ap refusal_of larger ∙ unrefused-checked b k (table_of b) since c.in_default-refusal_on_route.ensures.roomy refl moment unrefused,
          c.in-Ok-new.ensures ∙ c.in-Ok.ensures.1 ∙ ap (λ (d : Domain). route_of d k) routed ∙ sym (ap (λ (own : Contract). route_of b.domain own) c.in-Ok-begun_row.ensures.begun),
        );
        table = sym (table-after-reserve b k (table_of b) _ since refl moment larger);
        flows = sym (flows-after-reserve b k (flows_of b) _ c.self.inside.granted refl granted refl);
      };
      placed = tt;
      serial = c.next_serial.ensures;
      newest = moment ∙ ap (λ s. s.newest) (sym (standing-push b.history (Reserve k)));
      unrefused = unrefused;
      room = c.in_default-refusal_on_route.ensures.room;
    }
