use Rattle.std.proofs.Common.{false, refl, sym, ap, ◌∙◌, arith}
use Rattle.std.proofs.lemmas.List.{length-map}
use Rattle.ds_broker.specs.Books.{held_of, table_of}
use Rattle.ds_broker.specs.Entries.{flows_of}
use Rattle.ds_broker.specs.Histories.{ended}
use Rattle.ds_broker.proofs.NextLaws.{flows-after-release, table-after-release}
use Rattle.ds_broker.specs.declared.command.Command.TheVariants.{Release}
use Rattle.ds_broker.proofs.HoldingLaws.{first-below}
use Rattle.ds_broker.proofs.StandingLaws.{standing-push}
use Rattle.ds_broker.proofs.book.Book.releasing.Goals as goal

pub returns-clause-change : goal.returns-clause-change
returns-clause-change c =
    let b = c.args.self.now in
    let found = c.in_ok-place.ensures.found in
    let lasting = c.ended-lifetime.ensures found.holding found.at ∙ ap (λ m. (ended m found.holding.contract).lifetime) c.moment_of-newest.ensures in record {
      leads = record {
        applies = omega (arith, length-map (held_of b) (λ h. h.contract), first-below _ _ _ found.first);
        table = sym (table-after-release b c.args.id c.args.at c.in_ok-place.place false c.ended-lifetime.result (table_of b) _ refl found lasting refl);
        flows = sym (flows-after-release b c.args.id c.args.at (flows_of b) refl);
      };
      placed = found;
      serial = c.next_serial.ensures;
      newest = c.moment_of-newest.ensures ∙ ap (λ s. s.newest) (sym (standing-push b.history (Release c.args.id c.args.at)));
      unrefused = c.in_ok-place.ensures.unrefused;
      room = c.in_ok-place.ensures.room;
    }
