use Rattle.std.proofs.Common.{sym, subst}
use Rattle.dsedge_drive.specs.Kept.{IsFoundAgain, IsKept}
use Rattle.dsedge_drive.proofs.AgainLaws.{given_again}
use Rattle.dsedge_drive.proofs.KeepLaws.{found_again}
use Rattle.dsedge_drive.proofs.command.DriveCommand.ledger.Goals as goal

pub returns-clause-again : goal.returns-clause-again
returns-clause-again g c honest found left =
    let inside = c.self.inside in
    let keeper = inside.keeper in
    let is : IsKept g.L.Ledger c.ledger.result.now keeper.kept inside.shop.history =
    subst (λ l. IsKept g.L.Ledger l keeper.kept inside.shop.history) (sym c.ledger.ensures) c.self.invariant.0 in
    subst (λ s. IsFoundAgain s found) c.self.view_is
    (found_again (record { in_json = inside.in_json; offered = inside.offers; book = inside.shop; unsaid = inside.answers.items; kept = keeper.kept; fault = keeper.fault }) found c.self.invariant.1 (is.again honest found left))

pub returns-clause-given : goal.returns-clause-given
returns-clause-given g c honest found left = given_again c.args.self.now found (returns-clause-again g c honest found left)
