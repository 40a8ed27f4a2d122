-- Where each contract that is reserved has its rates, each that was ever granted has them: they do not change.
use Rattle.std.proofs.Common.{Bool, true, false, List, [], ◌∷◌, ℕ, cond, fold, nat_eq}
use Rattle.std.specs.List.{AllByRecursion}
use Rattle.ds_domain_base.specs.Domains.{Domain}
use Rattle.ds_domain_base.specs.declared.contract.Contract.{Contract}
use Rattle.ds_certificate.specs.Rates.{HasRates}
use Rattle.ds_certificate.specs.Sources.{source_of}
use Rattle.ds_timeline.specs.Timelines.{IsRated}
use Rattle.ds_timeline.specs.declared.reservation.Reservation.{Reservation}
use Rattle.ds_broker.specs.Histories.{beginning, ended}
use Rattle.ds_broker.specs.Timelines.{IsOfRates, Past, changed, ending_by, granted_as, id_of, past_after, past_of, retired_at}
use Rattle.ds_broker.specs.declared.command.Command.{Command}
use Rattle.ds_broker.specs.declared.command.Command.TheVariants.{Reserve, Release, Retire}
use Rattle.ds_broker.proofs.HoldingLaws.{AllByRecursion-push}

-- when a contract begins and ends does not matter
pub rates-beginning : (d : Domain) (since : ℕ) (c : Contract) → HasRates d c → HasRates d (beginning since c)
unfolding source_of
rates-beginning d since c rates = rates

pub rates-begun : (d : Domain) (since : ℕ) (c : Contract) → HasRates d (beginning since c) → HasRates d c
unfolding source_of
rates-begun d since c rates = rates

rates-ended : (d : Domain) (moment : ℕ) (c : Contract) → HasRates d c → HasRates d (ended moment c)
unfolding source_of
rates-ended d moment c rates = rates

abbrev HaveRates : Domain → List Reservation → Type 0
HaveRates d rs = AllByRecursion (λ r. HasRates d r.contract) rs

rates-changed : (d : Domain) (id : ℕ) (change : Reservation → Reservation) (rs : List Reservation) → ((r : Reservation) → HasRates d r.contract → HasRates d (change r).contract)
    → HaveRates d rs → HaveRates d (changed id change rs)
rates-changed d id change [] keeps rates = tt
rates-changed d id change (r ∷ rs) keeps rates = (one (nat_eq id (id_of r)), rates-changed d id change rs keeps rates.1)
  where
    one : (here : Bool) → HasRates d (cond here (change r) r).contract
    one true = keeps r rates.0
    one false = rates.0

rates-after : (d : Domain) (p : Past) (command : Command) → HaveRates d p.granted → IsOfRates d command → HaveRates d (past_after d p command).granted
rates-after d p (Reserve c) rates own = AllByRecursion-push (λ r. HasRates d r.contract) p.granted (granted_as d _ (beginning _ c)) rates (rates-beginning d _ c own)
rates-after d p (Release id at) rates own = rates-changed d id (ending_by _) p.granted (λ r. rates-ended d _ r.contract) rates
rates-after d p (Retire id moment) rates own = rates-changed d id (retired_at _) p.granted (λ r own. own) rates

rates-fold : (d : Domain) (p : Past) (commands : List Command) → HaveRates d p.granted → AllByRecursion (IsOfRates d) commands → HaveRates d (fold (past_after d) p commands).granted
rates-fold d p [] rates own = rates
rates-fold d p (command ∷ commands) rates own = rates-fold d (past_after d p command) commands (rates-after d p command rates own.0) own.1

rated-each : (d : Domain) (rs : List Reservation) → HaveRates d rs → AllByRecursion (IsRated d) rs
rated-each d [] rates = tt
rated-each d (r ∷ rs) rates = (λ moment retired. rates.0, rated-each d rs rates.1)

pub rated-behind : (d : Domain) (history : List Command) → AllByRecursion (IsOfRates d) history → AllByRecursion (IsRated d) (past_of d history).granted
unfolding past_of
rated-behind d history own = rated-each d (past_of d history).granted (rates-fold d _ history tt own)
