use Rattle.std.proofs.Common.{sym, subst}
use Rattle.dsedge_drive.specs.Again.{AreAnswersFound}
use Rattle.dsedge_drive.specs.Kept.{IsKept, Selling}
use Rattle.dsedge_drive.proofs.AgainLaws.{given_again}
use Rattle.dsedge_drive.proofs.KeepLaws.{found_again}
use Rattle.dsedge_drive.proofs.command.DriveCommand.into_ledger.Goals as goal

pub returns : goal.returns
returns g c honest found left =
    let inside = c.self.inside in
    let keeper = inside.keeper in
    let is : IsKept g.L.Ledger c.into_ledger.result keeper.kept inside.shop.history =
    subst (λ l. IsKept g.L.Ledger l keeper.kept inside.shop.history) (sym c.into_ledger.ensures) c.self.invariant.0 in
    let s : Selling = record { in_json = inside.in_json; offered = inside.offers; book = inside.shop; unsaid = inside.answers.items; kept = keeper.kept; fault = keeper.fault } in
    subst (λ s. AreAnswersFound s found) c.self.view_is (given_again s found (found_again s found c.self.invariant.1 (is.again honest found left)))
