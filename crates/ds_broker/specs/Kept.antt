-- What the fields of a book stand for, and what they keep.
use Rattle.std.specs.Prelude.{ℕ, Bool, true, ◌≡◌, ◌<◌, ◌≤◌, ◌^◌, List, [], length, map, max, None, bytes_eq}
use Rattle.std.specs.List.{AllByRecursion, IsDistinct, list_any}
use Rattle.ds_domain_base.specs.Domains.{Domain}
use Rattle.ds_domain_base.specs.Lifetimes.{IsInOrder}
use Rattle.ds_domain_base.specs.declared.contract.Contract.{Contract}
use Rattle.ds_certificate.specs.Bounds.{fits}
use Rattle.ds_timeline.specs.Kept.{IsNumbered}
use Rattle.ds_checker.specs.Acceptance.{IsAcceptable}
use Rattle.ds_broker.specs.Books.{Book, Limits, is_held, table_in}
use Rattle.ds_broker.specs.Histories.{Holding, standing_of}
use Rattle.ds_broker.specs.Refusals.{refusal_in}
use Rattle.ds_broker.specs.Requests.{AreUnrefused}
use Rattle.ds_broker.specs.Timelines.{Past, past_of}
use Rattle.ds_broker.specs.declared.command.Command.{Command}
use Rattle.ds_broker.specs.declared.book.Book.TheInside as book

abbrev pub book_of : book.Inside → Book
book_of b = record { domain = b.table.domain; limits = b.limits; history = b.history.items }

-- as it was before its first command
abbrev pub opened_as : book.Inside → Book
opened_as b = record (book_of b) { history = [] }

-- ids, whether each is released, and names, in order of admission
abbrev pub ids_in : List Holding → List ℕ
ids_in held = map (λ h. h.id) held

abbrev pub released_in : List Holding → List Bool
released_in held = map (λ h. h.released) held

abbrev pub names_in : List Holding → List (List ℕ)
names_in held = map (λ h. h.contract.name) held

abbrev pub held_in : book.Inside → List Holding
held_in b = (standing_of b.history.items).held

-- The table is that of the history, with the least certificate, and acceptable. Ids are of what the history holds, in
-- its order, and so is whether each is released; names are those of what it holds, which differ; the number of grants and
-- the newest moment are its own; and neither what is held nor the history is longer than its limit. When its turn came,
-- nothing stood against any command of its history.
pub record IsBook (b : book.Inside) : Type 0 where
  pub table : b.table ≡ table_in b.table.domain (held_in b)
  pub acceptable : IsAcceptable b.table
  pub ids : b.ids.items ≡ ids_in (held_in b)
  pub released : b.released.items ≡ released_in (held_in b)
  pub names : (name : List ℕ) → list_any (bytes_eq name) b.names.keys ≡ is_held name (held_in b)
  pub apart : IsDistinct bytes_eq (names_in (held_in b))
  pub granted : b.granted ≡ (standing_of b.history.items).granted
  pub newest : b.newest ≡ (standing_of b.history.items).newest
  pub room : length (held_in b) ≤ b.limits.table
  pub accepted : length b.history.items ≤ b.limits.history
  pub short : length b.history.items ≤ 2 ^ 24
  pub unrefused : AreUnrefused (opened_as b) b.history.items

-- commands that a book of a domain accepted, one after the other, from the first on
pub record IsAccepted (d : Domain) (history : List Command) : Type 0 where
  pub limits : Limits
  pub unrefused : AreUnrefused (record { domain = d; limits = limits; history = [] }) history
  pub short : length history ≤ 2 ^ 24

-- what was granted so far is what a book granted, which accepts a command next
pub record IsNext (d : Domain) (p : Past) (command : Command) : Type 0 where
  pub book : Book
  pub domain : book.domain ≡ d
  pub past : p ≡ past_of book.domain book.history
  pub unrefused : refusal_in book command ≡ None
  pub short : length book.history < 2 ^ 24

-- a contract that a book grants next: it fits, it is in order once it begins, and there is a flow for it
pub record IsGrantable (d : Domain) (p : Past) (c : Contract) : Type 0 where
  pub fit : fits d c ≡ true
  pub order : IsInOrder (max p.newest c.lifetime.since) c.lifetime.until
  pub few : length p.granted < 2 ^ 24

-- the id of a contract that was granted, each under the next id and none to begin behind the newest moment
pub record IsGranted (p : Past) (id : ℕ) : Type 0 where
  pub least : 1 ≤ id
  pub most : id ≤ length p.granted
  pub numbered : IsNumbered 0 p.granted
  pub begun : AllByRecursion (λ r. r.contract.lifetime.since ≤ p.newest) p.granted
