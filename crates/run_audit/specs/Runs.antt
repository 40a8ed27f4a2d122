-- A run of contracts over a domain: journals of sites and packets with their receipts, which tell the same rows.
-- There is no order over a whole run.
use Rattle.std.specs.Prelude.{◌≡◌, ℕ, nat_eq, List, map, filter, flat_map, All, AllPairs, Contains, IsPermutation, Some, IsSome}
use Rattle.meter_book.specs.Replay.{Journal, journal_rows}
use Rattle.meter_book.specs.declared.row.Row.{Row}
use Rattle.ds_domain_base.specs.Sent.{came}
use Rattle.ds_domain_base.specs.declared.contract.Contract.{Contract}
use Rattle.meter_fabric_base.specs.Grounds.{Ground, contract_of}
use Rattle.meter_fabric_base.specs.Openings.{opening_at}
use Rattle.meter_fabric_base.specs.Sites.{hops_of}
use Rattle.meter_fabric_base.specs.Trails.{IsTrail, Packet}
use Rattle.meter_fabric_base.specs.declared.trail.Receipt.{Receipt}

-- a packet, and a receipt of each hop that it has visited, in order
pub record Passage : Type 0 where
  pub packet : Packet
  pub receipts : List Receipt

pub record Run : Type 0 where
  pub journals : List Journal
  pub passages : List Passage

-- one journal for each site, which opens with what stands there
pub record AreJournals (g : Ground) (journals : List Journal) : Type 0 where
  pub own : All (λ j. opening_at g j.site ≡ Some (record { meter = j.opening; skew = j.skew })) journals
  pub once : AllPairs (λ j k. ¬ (j.site ≡ k.site)) journals
  pub each : (site : ℕ) → IsSome (opening_at g site) → Contains (map (λ j. j.site) journals) site

-- A packet of a contract that is there, with receipts of the first hops of its way. It comes in at the first with the
-- colour that its code point shows.
abbrev pub IsPassage : Ground → Passage → Type 0
IsPassage g p =
    (c : Contract)
    × (contract_of g p.packet.flow ≡ Some c)
    × IsTrail p.packet p.packet.begun (came c p.packet.dscp) (hops_of g.domain p.packet.flow c) p.receipts

-- what packets tell of a site: the rows of their receipts from there
abbrev pub told_by : ℕ → Passage → List Row
told_by site p = map (λ r. r.row) (filter (λ r. nat_eq r.site site) p.receipts)

abbrev pub told : ℕ → List Passage → List Row
told site passages = flat_map (told_by site) passages

-- A run: each row of a journal is told by one receipt of one packet, and no other row is told of its site.
pub record IsRun (g : Ground) (run : Run) : Type 0 where
  pub journals : AreJournals g run.journals
  pub passages : All (IsPassage g) run.passages
  pub numbers : AllPairs (λ p q. ¬ (p.packet.number ≡ q.packet.number)) run.passages
  pub rows : All (λ j. IsPermutation (told j.site run.passages) (journal_rows j)) run.journals
