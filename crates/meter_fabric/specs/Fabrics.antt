-- What a fabric is of, what stands at its sites, and what its passes count.
use Rattle.std.specs.Prelude.{◌≡◌, ℕ, suc, ◌+◌, ◌-◌, ◌*◌, ◌^◌, ◌<◌, ◌≤◌, List, [], ◌∷◌, length, slice_get, slice_index, slice_set, sum_by, option_and_then, option_map, Option, None, Some}
use Rattle.meter_book_base.specs.Envelopes.{mode_of, parameters_of}
use Rattle.meter_book.specs.Chapters.{Chapter}
use Rattle.meter_book.specs.Replay.{Book, most_places, shut_by, standing_of}
use Rattle.meter_book.specs.declared.standing.Standing.{Standing}
use Rattle.ds_domain_base.specs.Domains.{Domain, bare}
use Rattle.ds_domain_base.specs.declared.contract.Contract.{Contract}
use Rattle.ds_domain_base.specs.declared.parts.Version.TheVariants.{One}
use Rattle.meter_fabric_base.specs.Openings.{book_with, edge_opening, meter_opening}
use Rattle.meter_fabric_base.specs.declared.site.Opening.{Opening}

-- a fabric: its domain, how many slots for edges it has, how many open rows its books take, and how many passes it has
pub record Fabric : Type 0 where
  pub domain : Domain
  pub edges : ℕ
  pub capacity : ℕ
  pub passes : ℕ

abbrev pub fabric_of : Domain → ℕ → ℕ → ℕ → Fabric
fabric_of d edges capacity passes = record { domain = d; edges = edges; capacity = capacity; passes = passes }

-- of nothing
abbrev pub no_fabric : Fabric
no_fabric = fabric_of (bare One) 0 0 0

-- how many sites it has: one for each meter, then one for each slot
abbrev pub sites_of : Fabric → ℕ
sites_of f = length f.domain.meters + f.edges

-- into how many parts its tickets are cut: one for each site, one for each pass, and one that stays with it
abbrev pub parts_of : Fabric → ℕ
parts_of f = 1 + sites_of f + f.passes

-- a book shut at a moment, or the moment at which it was shut before
abbrev pub after_shut : ℕ → Book → Book
after_shut moment b =
    record { opening = b.opening; capacity = b.capacity; arrivals = b.arrivals; shut = shut_by b moment }

-- how many places were given at a site
abbrev pub places_of : Option Book → ℕ
places_of None = 0
places_of (Some b) = (standing_of b).place

-- the book of a site, if there is one
abbrev pub book_at : List (Option Book) → ℕ → Option Book
book_at books site = option_and_then (λ book. book) (slice_get books site)

-- a site under its lock: its number, and its book, if one stands there
pub record Stand : Type 0 where
  pub number : ℕ
  pub book : Option Book

-- what opened at a site, where a book of it stands before its open rows: with the same mode, parameters and skew, and
-- before its first row with full buckets
pub record IsOf (o : Opening) (s : Standing) : Type 0 where
  pub mode : mode_of s.meter ≡ mode_of o.meter
  pub parameters : parameters_of s.meter ≡ parameters_of o.meter
  pub skew : s.skew ≡ o.skew
  pub first : s.place ≡ 0 → s.meter ≡ o.meter

-- what opens at a site: at a meter what the domain says, in a slot the edge of a contract
pub record OpensAt (f : Fabric) (site : ℕ) (o : Opening) : Type 0 where
  pub meter : site < length f.domain.meters
      → option_map (λ entry. meter_opening entry.1) (slice_get f.domain.meters site) ≡ Some o
  pub edge : length f.domain.meters ≤ site → (c : Contract) × (edge_opening f.domain c ≡ Some o)

-- a book at a site is one of what opens there, and takes as many open rows as the fabric says; that of a meter is not
-- shut
pub record IsBookAt (f : Fabric) (site : ℕ) (b : Book) : Type 0 where
  pub opening : Opening
  pub opens : OpensAt f site opening
  pub own : IsOf opening b.opening
  pub room : b.capacity ≡ f.capacity
  pub open_meter : site < length f.domain.meters → b.shut ≡ None

-- what may stand at a site: at a meter a book, in a slot a book or none
abbrev pub StandsAt : Fabric → ℕ → Option Book → Type 0
StandsAt f site None = length f.domain.meters ≤ site
StandsAt f site (Some b) = IsBookAt f site b

-- a part of the rows of a site: a chapter of a book of what opens there
pub record IsPartOf (f : Fabric) (site : ℕ) (c : Chapter) : Type 0 where
  pub own_site : c.site ≡ site
  pub opening : Opening
  pub opens : OpensAt f site opening
  pub own : IsOf opening c.opening

-- what stands at the sites from a number on
abbrev pub StandFrom : Fabric → ℕ → List (Option Book) → Type 0
StandFrom f site [] = Unit {0}
StandFrom f site (b ∷ books) = StandsAt f site b × StandFrom f (suc site) books

-- an edge that was fitted: the number of its site, and what its book opened with
pub record Fitted : Type 0 where
  pub site : ℕ
  pub opening : Opening

-- an edge that was shut: the number of its site, and the moment from which on it takes no more
pub record Ended : Type 0 where
  pub site : ℕ
  pub end : ℕ

-- what stands at a site before the first edge is fitted: at a meter its book
abbrev pub first_book : Domain → ℕ → ℕ → Option Book
first_book d capacity site = option_map (λ entry. book_with capacity (meter_opening entry.1)) (slice_get d.meters site)

-- a pass's counts, by sites, with one visit more to a site
abbrev pub one_more : List ℕ → ℕ → List ℕ
one_more counts site = slice_set counts site (slice_index counts site + 1)

-- how many visits to a site passes count together
abbrev pub visits_at : List (List ℕ) → ℕ → ℕ
visits_at passes site = sum_by (λ counts. slice_index counts site) passes

-- What a fabric keeps beside its locks, and its tickets: each site begins with as many as its book gives places at
-- most.
pub record IsFramed (f : Fabric) (domain : Domain) (edges capacity passes parts amount : ℕ) : Type 0 where
  pub own_domain : domain ≡ f.domain
  pub own_edges : edges ≡ f.edges
  pub own_capacity : capacity ≡ f.capacity
  pub own_passes : passes ≡ f.passes
  pub numbered : length domain.meters + edges ≡ sites_of f
  pub few_meters : length domain.meters ≤ 1024
  pub few_edges : edges ≤ 65536
  pub some_room : 1 ≤ capacity
  pub most_room : capacity ≤ 2 ^ 20
  pub cut : parts ≡ parts_of f
  pub tickets : amount ≡ sites_of f * most_places

-- how many places can still be given at a site
abbrev pub places_left : Option Book → ℕ
places_left book = most_places - places_of book

-- The tickets of all sites together: a part for each and one more, and as many as places can still be given.
pub record IsTicketed (books : List (Option Book)) (sites parts tickets : ℕ) : Type 0 where
  pub cut : parts ≡ 1 + sites
  pub left : tickets ≡ sum_by places_left books
  pub given : tickets + sum_by places_of books ≡ sites * most_places
