-- A visit of a traveller to what stands at its next site.
use Rattle.std.specs.Prelude.{◌≡◌, ℕ, ◌<◌, ◌≤◌, Option, None, Some, IsSome, IsSomeAnd, MatchOption, Result, Ok, Err, length}
use Rattle.meter_book.specs.Replay.{Book}
use Rattle.meter_book.specs.declared.row.Row.{Row}
use Rattle.meter_fabric_base.specs.Trails.{arrival_at, arrival_of}
use Rattle.meter_fabric_base.specs.Travels.{Traveller, comes_as, last_moment, next_hop, next_site, received, visit}
use Rattle.meter_fabric_base.specs.declared.fault.VisitFault.{VisitFault}
use Rattle.meter_fabric_base.specs.declared.fault.VisitFault.TheVariants as faults
use Rattle.meter_fabric_base.specs.declared.hop.Hop.{Hop}
use Rattle.meter_fabric.specs.Fabrics.{Fabric, sites_of}
use Rattle.meter_fabric.specs.declared.visit.Visit.{Visit}

-- the traveller and what stands at the site behind a visit
abbrev pub standing_with : Result (Traveller × Book) VisitFault → Result (Traveller × Option Book) VisitFault
standing_with (Ok done) = Ok (done.0, Some done.1)
standing_with (Err fault) = Err fault

-- a visit to what stands at a site, or what stands against it
abbrev pub visit_here : Traveller → Option Book → ℕ → Result (Traveller × Option Book) VisitFault
visit_here t None moment = Err faults.NoEdge
visit_here t (Some b) moment = standing_with (visit t b moment)

-- what is answered where there was no visit: what stands against it, and where nothing does, that memory ran out
abbrev pub refusal_here : Result (Traveller × Option Book) VisitFault → VisitFault
refusal_here (Ok done) = faults.NoMemory
refusal_here (Err fault) = fault

-- a traveller with one receipt more: of its next hop, and of the arrival that was asked for
pub record IsVisited (f : Fabric) (t : Traveller) (moment : ℕ) (after : Traveller) : Type 0 where
  pub hop : Hop
  pub row : Row
  pub next : next_hop t ≡ Some hop
  pub there : hop.site < sites_of f
  pub in_time : last_moment t ≤ moment
  pub arrival : arrival_of row ≡ arrival_at t.packet hop moment (comes_as t)
  pub receipt : after ≡ received t hop row

-- a traveller that comes next, and in time, to a site of which something holds
abbrev pub ComesTo : (ℕ → Type 0) → Traveller → ℕ → Type 0
ComesTo Holds t moment = IsSomeAnd (next_site t) Holds × (last_moment t ≤ moment)

-- When each fault comes: at the end of a way, else before the last moment, else by what stands at the site. No meter
-- stands where there is no site, and in a slot that was not fitted; only an edge is shut.
abbrev pub IsRefusedFor : Fabric → Traveller → ℕ → VisitFault → Type 0
IsRefusedFor f t moment faults.PathEnded = next_hop t ≡ None
IsRefusedFor f t moment faults.BeforeLast = IsSome (next_hop t) × (moment < last_moment t)
IsRefusedFor f t moment faults.NoEdge = ComesTo (λ site. length f.domain.meters ≤ site) t moment
IsRefusedFor f t moment faults.Shut =
    ComesTo (λ site. (length f.domain.meters ≤ site) × (site < sites_of f)) t moment
IsRefusedFor f t moment faults.JournalFull = ComesTo (λ site. site < sites_of f) t moment
IsRefusedFor f t moment faults.NoMemory = ComesTo (λ site. site < sites_of f) t moment

-- A visit that was asked for, and as it was answered: made, or refused and then the traveller is as it was.
abbrev pub IsAnswered : Fabric → Visit → Visit → Type 0
IsAnswered f asked done = (done.moment ≡ asked.moment) × MatchOption done.fault
    (IsVisited f asked.traveller asked.moment done.traveller)
    (λ fault. IsRefusedFor f asked.traveller asked.moment fault × (done.traveller ≡ asked.traveller))
