-- What stands at the sites before the first packet.
use Rattle.std.specs.Prelude.{ℕ, ◌+◌, ◌-◌, nat_lt, [], length, slice_get, option_and_then, option_map, Option, None, if◌then◌else◌}
use Rattle.moment_core.specs.declared.colour.Mode.TheVariants.{Aware}
use Rattle.meter_book.specs.AnyMeter.{opening_of}
use Rattle.meter_book.specs.Replay.{Book, fresh}
use Rattle.ds_domain_base.specs.Domains.{Domain, port_of, skew_of}
use Rattle.ds_domain_base.specs.Sent.{edge_of}
use Rattle.ds_domain_base.specs.declared.contract.Contract.{Contract}
use Rattle.ds_domain_base.specs.declared.parts.Meter.{Meter}
use Rattle.ds_checker.specs.Acceptance.{Table}
use Rattle.meter_fabric_base.specs.Grounds.{Ground, contract_of, flow_count}
use Rattle.meter_fabric_base.specs.declared.site.Opening.{Opening}

-- inside the domain an aware meter with full buckets at its origin
abbrev pub meter_opening : Meter → Opening
meter_opening m = record { meter = opening_of m.parameters Aware m.origin; skew = m.skew }

-- at the edge of a policed contract its own meter, and the skew of its port
abbrev pub edge_opening : Domain → Contract → Option Opening
edge_opening d c =
    option_map (λ m. record { meter = m; skew = skew_of (port_of d c.port) }) (edge_of c.terms c.lifetime.since)

-- what stands at the site of a number, if there is anything: first the meters, then the edges by their flows
abbrev pub opening_at : Ground → ℕ → Option Opening
opening_at g site =
    if nat_lt site (length g.domain.meters) then
    option_map (λ entry. meter_opening entry.1) (slice_get g.domain.meters site)
    else
    option_and_then (edge_opening g.domain) (contract_of g (site - length g.domain.meters))

-- a book of what stands at a site, before any arrival, with room for so many open rows
abbrev pub book_with : ℕ → Opening → Book
book_with capacity o = record { opening = fresh o.meter o.skew; capacity = capacity; arrivals = []; shut = None }

-- how many numbers the sites of a table have: one for each meter, then one for each contract that packets can be of
abbrev pub site_count : Table → ℕ
site_count t = length t.domain.meters + flow_count t
