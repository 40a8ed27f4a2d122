-- The table of a book: with one contract more, and with none.
use Rattle.std.proofs.Common.{◌≡◌, ◌+◌, ℕ, false, List, [], ◌∷◌, ◌++◌, Option, None, Some, refl, sym, ap, ◌∙◌, arith, All, option_map, slice_get}
use Rattle.std.proofs.lemmas.List.{map-append}
use Rattle.std.proofs.lemmas.List.Elements.{All-cons, All-nil}
use Rattle.meter_book_base.specs.declared.any_meter.Parameters.{Parameters}
use Rattle.meter_book_base.specs.declared.any_meter.Parameters.TheVariants.{SrTcm, TrTcm, Rfc4115}
use Rattle.ds_domain_base.specs.Domains.{Domain}
use Rattle.ds_domain_base.specs.declared.contract.Contract.{Contract}
use Rattle.ds_domain_base.specs.declared.parts.Meter.{Meter}
use Rattle.ds_certificate.specs.Bounds.{least, least_of}
use Rattle.ds_checker.specs.Acceptance.{Carries, IsAcceptable, Table, refusal_of}
use Rattle.ds_checker.specs.Loads.{counted, shares_at}
use Rattle.ds_broker.specs.Books.{Book, contracts_in, held_of, moment_in, newest_of, table_in, table_of, table_with, with_command}
use Rattle.ds_broker.specs.Histories.{Holding, begun, beginning, ended, standing_of, with_released, with_retired}
use Rattle.ds_broker.specs.Refusals.{refusal_or_checked, reserve_refusal, room_refusal}
use Rattle.ds_broker.specs.declared.command.Command.TheVariants.{Reserve}
use Rattle.ds_broker.specs.declared.refusal.BrokerRefusal.TheVariants.{Checker}
use Rattle.ds_broker.specs.Found.{IsFirst}
use Rattle.ds_checker.specs.Changes.{with_lifetime, without_contract}
use Rattle.ds_broker.proofs.HoldingLaws.{contracts-released, least-released, map-retired}
use Rattle.ds_broker.proofs.StandingLaws.{standing-push}
use Rattle.ds_checker.proofs.HeldLaws.{map-remove}

-- with one contract more, its least bounds stand behind the others
pub table-push : (d : Domain) (held : List Holding) (h : Holding) (since : ℕ) (c : Contract) → h.contract ≡ beginning since c
    → table_in d (held ++ h ∷ []) ≡ table_with since c (table_in d held)
table-push d held h since c is =
    let contracts : contracts_in (held ++ h ∷ []) ≡ contracts_in held ++ beginning since c ∷ [] = map-append (λ g. g.contract) held (h ∷ []) ∙ ap (λ x. contracts_in held ++ x ∷ []) is in
    let bounds : least d (contracts_in (held ++ h ∷ [])) ≡ least d (contracts_in held) ++ least_of d (beginning since c) ∷ [] =
    ap (least d) contracts ∙ map-append (least_of d) (contracts_in held) (beginning since c ∷ []) in
    rw (bounds, contracts) refl

-- with a contract released, or retired
pub table-released : (d : Domain) (id moment : ℕ) (held : List Holding) (place : ℕ) (h : Holding) → IsFirst id held place → slice_get held place ≡ Some h
    → table_in d (with_released id moment held) ≡ with_lifetime (table_in d held) place (ended moment h.contract).lifetime
table-released d id moment held place h first at =
    rw (least-released d id moment held, contracts-released id moment held place h first at) refl

pub table-retired : (d : Domain) (id : ℕ) (held : List Holding) (place : ℕ) → IsFirst id held place
    → table_in d (with_retired id held) ≡ without_contract (table_in d held) place
table-retired d id held place first =
    rw (map-retired (λ h. h.contract) id held place first, map-remove (least_of d) (contracts_in held) place) refl

-- a table of a domain is one of its own domain
pub own-domain : (d : Domain) (t : Table) (held : List Holding) → t ≡ table_in d held → t ≡ table_in t.domain held
own-domain d t held is = is ∙ ap (λ x. table_in x held) (sym (ap (λ x. x.domain) is))

pub table-reserved : (b : Book) (c : Contract) → table_of (with_command b (Reserve c)) ≡ table_with (moment_in b c.lifetime.since) c (table_of b)
table-reserved b c =
    ap (λ s. table_in b.domain s.held) (standing-push b.history (Reserve c))
    ∙ table-push b.domain (held_of b) (record { id = (standing_of b.history).granted + 1; contract = begun (newest_of b) c; released = false }) (moment_in b c.lifetime.since) c refl

-- nothing is brought to a meter by no contract
counted-none : (p : Parameters) → counted p [] ≡ []
counted-none (SrTcm p) = refl
counted-none (TrTcm p) = refl
counted-none (Rfc4115 p) = refl

carries_nothing : (m : Meter) → Carries m []
carries_nothing m = ((omega arith, omega arith), rw (counted-none m.parameters) (omega arith, omega arith))

CarriesNone : Domain → List ℕ × Meter → Type 0
CarriesNone d entry = Carries entry.1 (shares_at d entry.0 [] [])

carries_none : (d : Domain) (meters : List (List ℕ × Meter)) → All (CarriesNone d) meters
unfolding CarriesNone shares_at
carries_none d [] = All-nil (CarriesNone d)
carries_none d (entry ∷ meters) = All-cons (CarriesNone d) entry meters (carries_nothing entry.1) (carries_none d meters)

-- the table with no contract is acceptable
pub none-acceptable : (d : Domain) → IsAcceptable (record { domain = d; contracts = []; certificate = [] })
unfolding CarriesNone
none-acceptable d = (tt, carries_none d d.meters)

-- what the checker is asked of the larger table, where nothing else stands against a contract
pub checked-refusal : (b : Book) (c : Contract) (t : Table) (since : ℕ) → room_refusal b c ≡ None → t ≡ table_of b → since ≡ moment_in b c.lifetime.since
    → reserve_refusal b c ≡ option_map Checker (refusal_of (table_with since c t))
checked-refusal b c t since none is moment =
    ap (λ o. refusal_or_checked o b c) none
    ∙ ap (λ x. option_map Checker (refusal_of x))
    (table-reserved b c ∙ ap (λ m. table_with m c (table_of b)) (sym moment) ∙ ap (λ x. table_with since c x) (sym is))

pub none-by : {A B : Type 0} (f : A → B) (o : Option A) → option_map f o ≡ None → o ≡ None
none-by f None is = refl
none-by f (Some x) is = absurd (cc (is))

-- where nothing stands against the reserve, the checker has nothing against it
pub unrefused-checked : (b : Book) (c : Contract) (t : Table) (since : ℕ) → room_refusal b c ≡ None → t ≡ table_of b → since ≡ moment_in b c.lifetime.since
    → reserve_refusal b c ≡ None → refusal_of (table_with since c t) ≡ None
unrefused-checked b c t since none is moment unrefused = none-by Checker (refusal_of (table_with since c t)) (sym (checked-refusal b c t since none is moment) ∙ unrefused)
