-- What is promised of a run: colours are kept.
use Rattle.std.specs.Prelude.{◌≡◌, ℕ, All, Some, option_map, slice_get}
use Rattle.ds_domain_base.specs.declared.contract.Contract.{Contract}
use Rattle.ds_checker.specs.Acceptance.{IsAcceptable, Table}
use Rattle.ds_timeline.specs.Timelines.{AreRated, IsCovered, Timeline, reservation_of}
use Rattle.meter_fabric_base.specs.Grounds.{Ground, contract_of}
use Rattle.run_audit.specs.Premises.{Premises}
use Rattle.run_audit.specs.Runs.{IsRun, Run}
use Rattle.run_audit.specs.Sendings.{ForSent}

-- each packet left each meter with the colour that it was sent with
abbrev pub ColoursKept : Ground → Run → Type 0
ColoursKept g run = ForSent g run (λ c s. All (λ r. r.row.left ≡ s.colour) s.receipts)

-- the contracts of a ground all stand in a table of its domain, each at the place of its flow
pub record StandsIn (t : Table) (g : Ground) : Type 0 where
  pub domain : t.domain ≡ g.domain
  pub contracts : (flow : ℕ) (c : Contract) → contract_of g flow ≡ Some c → slice_get t.contracts flow ≡ Some c

-- Where a table is acceptable, each run of contracts that stand in it that meets the premises keeps the colours.
abbrev pub EveryRunKeepsColours : Type 0
EveryRunKeepsColours =
    (t : Table) (g : Ground) (run : Run) → IsAcceptable t → StandsIn t g → IsRun g run → Premises g run
    → ColoursKept g run

-- the contracts of a ground were all granted in a timeline of its domain, each with its flow
pub record WasGranted (t : Timeline) (g : Ground) : Type 0 where
  pub domain : t.domain ≡ g.domain
  pub contracts : (flow : ℕ) (c : Contract) → contract_of g flow ≡ Some c
      → option_map (λ r. r.contract) (reservation_of t flow) ≡ Some c

-- Where a timeline is covered and what was retired had rates, each run of contracts that were granted in it that meets
-- the premises keeps the colours.
abbrev pub EveryRunOverATimelineKeepsColours : Type 0
EveryRunOverATimelineKeepsColours =
    (t : Timeline) (g : Ground) (run : Run) → IsCovered t → AreRated t → WasGranted t g → IsRun g run → Premises g run
    → ColoursKept g run
