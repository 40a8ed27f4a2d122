-- What a book holds with a command more: its table, and the flows of its contracts.
use Rattle.std.proofs.Common.{◌≡◌, ◌+◌, ◌-◌, ℕ, Bool, false, List, [], ◌∷◌, ◌++◌, refl, sym, ap, ◌∙◌, arith, length, map, max, remove}
use Rattle.std.proofs.lemmas.List.{length-append, map-append}
use Rattle.ds_domain_base.specs.Lifetimes.{Span}
use Rattle.ds_domain_base.specs.declared.contract.Contract.{Contract}
use Rattle.ds_checker.specs.Acceptance.{Table}
use Rattle.ds_checker.specs.Changes.{with_contract, with_lifetime, without_contract}
use Rattle.ds_certificate.specs.Bounds.{least_of}
use Rattle.ds_certificate.specs.Columns.{Bound}
use Rattle.ds_domain_base.specs.Domains.{Domain}
use Rattle.ds_broker.specs.Books.{Book, held_of, moment_in, newest_of, standing, table_in, table_of, table_with, with_command}
use Rattle.ds_broker.specs.Entries.{flows_of, grant_of, last_grant_of}
use Rattle.ds_broker.specs.Found.{IsFound}
use Rattle.ds_broker.specs.Histories.{Holding, Standing, beginning, begun, ended}
use Rattle.ds_broker.specs.Kept.{IsBook, book_of, ids_in}
use Rattle.ds_broker.specs.declared.book.Book.TheInside as book
use Rattle.ds_broker.specs.declared.command.Command.TheVariants.{Reserve, Release, Retire}
use Rattle.ds_broker.proofs.HoldingLaws.{map-retired, map-released}
use Rattle.ds_broker.proofs.StandingLaws.{standing-push}
use Rattle.ds_broker.proofs.TableLaws.{table-released, table-reserved, table-retired}

-- the table with a contract more
pub table-after-reserve : (b : Book) (c : Contract) (own next : Table) (since : ℕ) → own ≡ table_of b → since ≡ moment_in b c.lifetime.since
    → next ≡ table_with since c own → next ≡ table_of (with_command b (Reserve c))
table-after-reserve b c own next since is moment admitted =
    admitted ∙ ap (λ m. table_with m c own) moment ∙ ap (λ t. table_with (moment_in b c.lifetime.since) c t) is ∙ sym (table-reserved b c)

-- a contract more that begins at a moment, with its least bounds
pub with-begun : (b : Book) (c begun : Contract) (row : List Bound) (d : Domain) (since : ℕ) → d ≡ b.domain → begun ≡ beginning since c → row ≡ least_of d (beginning since c)
    → with_contract (table_of b) begun row ≡ table_with since c (table_of b)
with-begun b c begun row d since domain begins least =
    ap (λ k. with_contract (table_of b) k row) begins
    ∙ ap (with_contract (table_of b) (beginning since c)) (least ∙ ap (λ x. least_of x (beginning since c)) domain)

-- with a contract released
pub table-after-release : (b : Book) (id at place : ℕ) (released : Bool) (lifetime : Span) (own next : Table) → own ≡ table_of b
    → (found : IsFound id (held_of b) place released) → lifetime ≡ (ended (max (newest_of b) at) found.holding.contract).lifetime
    → next ≡ with_lifetime own place lifetime → next ≡ table_of (with_command b (Release id at))
table-after-release b id at place released lifetime own next is found lasting set =
    set ∙ ap (λ t. with_lifetime t place lifetime) is ∙ ap (λ span. with_lifetime (table_of b) place span) lasting
    ∙ sym (table-released b.domain id (max (newest_of b) at) (held_of b) place found.holding found.first found.at)
    ∙ ap (λ s. table_in b.domain s.held) (sym (standing-push b.history (Release id at)))

-- with a contract retired
pub table-after-retire : (b : Book) (id moment place : ℕ) (released : Bool) (own next : Table) → own ≡ table_of b
    → IsFound id (held_of b) place released → next ≡ without_contract own place → next ≡ table_of (with_command b (Retire id moment))
table-after-retire b id moment place released own next is found taken =
    taken ∙ ap (λ t. without_contract t place) is ∙ sym (table-retired b.domain id (held_of b) place found.first)
    ∙ ap (λ s. table_in b.domain s.held) (sym (standing-push b.history (Retire id moment)))

-- the flow of an id
abbrev pub flow_of : Holding → ℕ
flow_of h = h.id - 1

flows-held : (held : List Holding) → map (λ (id : ℕ). id - 1) (ids_in held) ≡ map flow_of held
flows-held [] = refl
flows-held (h ∷ held) = ap (λ rest. flow_of h ∷ rest) (flows-held held)

-- the flows of its ids are its flows
pub flows-kept : (i : book.Inside) (b : Book) → book_of i ≡ b → IsBook i → (flows : List ℕ) → flows ≡ map (λ (id : ℕ). id - 1) i.ids.items → flows ≡ flows_of b
flows-kept i b view kept flows is =
    is ∙ ap (λ (ns : List ℕ). map (λ (id : ℕ). id - 1) ns) kept.ids ∙ flows-held (held_of (book_of i)) ∙ ap flows_of view

pub flows-after-reserve : (b : Book) (c : Contract) (own next : List ℕ) (granted : ℕ) → own ≡ flows_of b → granted ≡ (standing b).granted
    → next ≡ own ++ granted ∷ [] → next ≡ flows_of (with_command b (Reserve c))
flows-after-reserve b c own next granted is number pushed =
    let h : Holding = record { id = (standing b).granted + 1; contract = begun (newest_of b) c; released = false } in
    let flow : granted ≡ flow_of h = omega (arith, number) in
    pushed ∙ ap (λ n. own ++ n ∷ []) flow ∙ ap (λ ns. ns ++ flow_of h ∷ []) is ∙ sym (map-append flow_of (held_of b) (h ∷ []))
    ∙ ap (λ s. map flow_of s.held) (sym (standing-push b.history (Reserve c)))

pub flows-after-release : (b : Book) (id at : ℕ) (next : List ℕ) → next ≡ flows_of b → next ≡ flows_of (with_command b (Release id at))
flows-after-release b id at next is =
    is ∙ sym (map-released flow_of id (max (newest_of b) at) (held_of b) (λ h. refl)) ∙ ap (λ s. map flow_of s.held) (sym (standing-push b.history (Release id at)))

pub flows-after-retire : (b : Book) (id moment place : ℕ) (released : Bool) (own next : List ℕ) → own ≡ flows_of b → IsFound id (held_of b) place released
    → next ≡ remove own place → next ≡ flows_of (with_command b (Retire id moment))
flows-after-retire b id moment place released own next is found taken =
    taken ∙ ap (λ ns. remove ns place) is ∙ sym (map-retired flow_of id (held_of b) place found.first)
    ∙ ap (λ s. map flow_of s.held) (sym (standing-push b.history (Retire id moment)))

-- behind a reserve the last grant is its own
pub last-granted : (b : Book) (c : Contract) → last_grant_of (with_command b (Reserve c)) ≡ grant_of b c
last-granted b c =
    let st = standing-push b.history (Reserve c) in
    ap (λ (s : Standing). record { id = s.granted; serial = length (b.history ++ Reserve c ∷ []); since = s.newest }) st
    ∙ ap (λ n. record { id = (standing b).granted + 1; serial = n; since = moment_in b c.lifetime.since }) (length-append b.history (Reserve c ∷ []))
