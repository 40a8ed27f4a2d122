-- What holds of packets on their way and of the books of the sites, after any steps.
use Rattle.std.specs.Prelude.{◌≡◌, ℕ, length, map, All, AllPairs, IsPermutation, Some, option_map}
use Rattle.meter_book.specs.Replay.{Book, fresh, rows_of}
use Rattle.meter_book.specs.declared.standing.Standing.{Standing}
use Rattle.ds_domain_base.specs.Sent.{came}
use Rattle.ds_domain_base.specs.declared.contract.Contract.{Contract}
use Rattle.ds_checker.specs.Acceptance.{Table}
use Rattle.meter_fabric_base.specs.Grounds.{contract_of, ground_of}
use Rattle.meter_fabric_base.specs.Sites.{hops_of}
use Rattle.meter_fabric_base.specs.Trails.{IsTrail}
use Rattle.meter_fabric_base.specs.Travels.{Traveller}
use Rattle.run_audit.specs.Runs.{told}
use Rattle.meter_fabric_base.specs.Openings.{opening_at, site_count}
use Rattle.meter_fabric_base.specs.declared.site.Opening.{Opening}
use Rattle.ds_runs.specs.Conducting.{passage_of}
use Rattle.ds_runs.specs.Steps.{Stage, book_at}

-- where a book stands before any arrival, by what opens it
abbrev pub opened_by : Opening → Standing
opened_by o = fresh o.meter o.skew

-- a packet is on the way of its contract, and carries what it carries away from its first hops
abbrev pub IsOnItsWay : Table → Traveller → Type 0
IsOnItsWay t p =
    (c : Contract)
    × (contract_of (ground_of t) p.packet.flow ≡ Some c)
    × (p.came ≡ came c p.packet.dscp)
    × (p.hops ≡ hops_of t.domain p.packet.flow c)
    × IsTrail p.packet p.packet.begun p.came p.hops p.receipts

pub record IsUnderWay (t : Table) (g : Stage) : Type 0 where
  pub count : length g.books ≡ site_count t
  pub openings : (site : ℕ)
      → option_map (λ b. b.opening) (book_at g site) ≡ option_map opened_by (opening_at (ground_of t) site)
  pub travellers : All (IsOnItsWay t) g.travellers
  pub numbers : AllPairs (λ p q. ¬ (p.packet.number ≡ q.packet.number)) g.travellers
  pub rows : (site : ℕ) (b : Book) → book_at g site ≡ Some b
      → IsPermutation (told site (map passage_of g.travellers)) (rows_of b)
