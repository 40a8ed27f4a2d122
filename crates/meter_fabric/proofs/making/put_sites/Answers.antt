use Rattle.std.proofs.Common.{◌≡◌, ℕ, ap, sym, subst, ◌∙◌}
use Rattle.ds_domain_base.specs.Domains.{Domain}
use Rattle.meter_fabric.specs.Fabrics.{StandsAt, first_book}
use Rattle.meter_fabric.proofs.StandLaws.{stands_first}
use Rattle.meter_fabric.proofs.making.put_sites.Goals as goal

pub new-requires-clause-stands : goal.new-requires-clause-stands
new-requires-clause-stands g c =
    let f = g.L.FabricLedger.fabric in
    let number = c.loop-number.number in
    let is : c.first_book-book.result ≡ first_book f.domain f.capacity number =
    c.first_book-book.ensures ∙ ap (λ (d : Domain). first_book d c.args.capacity number) c.requires.domain ∙ ap (λ (room : ℕ). first_book f.domain room number) c.requires.capacity in
    subst (StandsAt f number) (sym is) (stands_first f number)
