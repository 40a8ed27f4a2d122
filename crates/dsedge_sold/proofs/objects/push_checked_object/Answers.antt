use Rattle.std.proofs.Common.{◌≡◌, List, ◌++◌, ap, subst, ◌∙◌}
use Rattle.ds_broker.specs.Books.{contracts_in, held_of}
use Rattle.ds_broker.specs.declared.refusal.BrokerRefusal.TheVariants as refusals
use Rattle.ds_checker.specs.Acceptance.{Table}
use Rattle.ds_domain_base.specs.declared.contract.Contract.{Contract}
use Rattle.dsedge_sold.specs.SoldObjects.{IsLineBehind, refused_data}
use Rattle.dsedge_sold.proofs.objects.push_checked_object.Goals as goal

pub returns : goal.returns
returns c =
    let told = c.in_ok-line.ensures.object in
    let held : c.contracts.result.now ≡ contracts_in (held_of c.args.book.now) = c.contracts.ensures.value ∙ ap (λ (t : Table). t.contracts) c.table.ensures.value in
    subst (λ (contracts : List Contract). IsLineBehind (refused_data contracts (refusals.Checker c.args.refusal.now)) c.args.text.now.items c.extend_from_slice.new.self.items) held (record {
      line = c.in_ok-extend_from_slice.ensures.items ∙ ap (λ line. c.args.text.now.items ++ line) (c.as_slice.ensures.value ∙ told.line);
      reads_back = told.reads_back;
    })
