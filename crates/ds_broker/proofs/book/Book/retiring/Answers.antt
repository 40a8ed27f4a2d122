use Rattle.std.proofs.Common.{true, refl, sym, ap, ◌∙◌, arith}
use Rattle.std.proofs.lemmas.List.{length-map}
use Rattle.ds_broker.specs.Books.{held_of, table_of}
use Rattle.ds_broker.specs.Entries.{flows_of}
use Rattle.ds_broker.specs.declared.command.Command.TheVariants.{Retire}
use Rattle.ds_broker.proofs.HoldingLaws.{first-below}
use Rattle.ds_broker.proofs.StandingLaws.{standing-push}
use Rattle.ds_broker.proofs.NextLaws.{flow_of, flows-after-retire, table-after-retire}
use Rattle.ds_broker.proofs.book.Book.retiring.Goals as goal

pub returns-clause-change : goal.returns-clause-change
returns-clause-change c =
    let b = c.args.self.now in
    let found = c.in_ok-place.ensures.found in
    let below = first-below _ _ _ found.first in record {
      leads = record {
        applies = (omega (arith, length-map (held_of b) (λ h. h.contract), below), omega (arith, length-map (held_of b) flow_of, below));
        table = sym (table-after-retire b c.args.id c.args.moment c.in_ok-place.place true (table_of b) _ refl found refl);
        flows = sym (flows-after-retire b c.args.id c.args.moment c.in_ok-place.place true (flows_of b) _ refl found refl);
      };
      placed = found;
      serial = c.next_serial.ensures;
      newest = c.moment_of-newest.ensures ∙ ap (λ s. s.newest) (sym (standing-push b.history (Retire c.args.id c.args.moment)));
      unrefused = c.in_ok-place.ensures.unrefused;
      room = c.in_ok-place.ensures.room;
    }
