-- What a run is taken to keep: contracts their time, trusted sources their buckets, links their jitter, and meters
-- their skew.
use Rattle.std.specs.Prelude.{◌≡◌, ℕ, ◌+◌, ◌<◌, ◌≤◌, ⊤, List, [], ◌∷◌, All, Option, Some}
use Rattle.std.specs.Option.{ForSome}
use Rattle.moment_core.specs.Columns.{counts}
use Rattle.moment_core.specs.declared.column.Column.{Column}
use Rattle.envelope_core.specs.Curve.{KeepsCurve}
use Rattle.meter_book.specs.Replay.{journal_rows}
use Rattle.ds_domain_base.specs.Domains.{Domain, floor_of, jitter_of, link_of}
use Rattle.ds_domain_base.specs.declared.contract.Contract.{Contract}
use Rattle.ds_domain_base.specs.declared.parts.Link.{Link}
use Rattle.ds_domain_base.specs.declared.terms.Terms.{Terms}
use Rattle.ds_domain_base.specs.declared.terms.Terms.TheVariants.{Trusted, Policed}
use Rattle.ds_certificate.specs.Columns.{InEach, envelope_in}
use Rattle.ds_certificate.specs.Sources.{source_of}
use Rattle.meter_fabric_base.specs.Grounds.{Ground, contract_of}
use Rattle.meter_fabric_base.specs.declared.trail.Receipt.{Receipt}
use Rattle.run_audit.specs.Runs.{Passage, Run}
use Rattle.run_audit.specs.Sendings.{ForSent, Sending, passages_of, sent_items}

-- a packet is sent when its contract may send
abbrev pub IsInTime : Contract → Sending → Type 0
IsInTime c s = (c.lifetime.since ≤ s.moment) × ForSome c.lifetime.until (λ until. s.moment < until)

abbrev pub IsTrusted : Terms → Type 0
IsTrusted (Trusted committed peak) = ⊤
IsTrusted (Policed parameters mode) = ⊥

-- what a column counts of packets of a contract keeps the envelope of that column
abbrev pub KeepsIn : Ground → Contract → List Passage → Column → Type 0
KeepsIn g c passages column =
    KeepsCurve (envelope_in column (source_of g.domain c)) (sent_items (counts column) c passages)

-- what a contract's packets were sent with keeps its envelopes, in each column
abbrev pub KeepsSource : Ground → Run → ℕ → Contract → Type 0
KeepsSource g run flow c = InEach (KeepsIn g c (passages_of flow run))

-- what left at a moment arrives over a link after its floor at the least, and by its jitter later at the most
abbrev pub IsOver : Option Link → ℕ → ℕ → Type 0
IsOver link moment arrival = (moment + floor_of link ≤ arrival) × (arrival ≤ moment + floor_of link + jitter_of link)

-- a packet at a name at a moment goes on from there along a path, over each link in its time
unfoldable pub IsTimely : Domain → List ℕ → List (List ℕ) → ℕ → List Receipt → Type 0
IsTimely d from path moment [] = ⊤
IsTimely d from [] moment (r ∷ receipts) = ⊤
IsTimely d from (to ∷ path) moment (r ∷ receipts) =
    IsOver (link_of d from to) moment r.row.arrival × IsTimely d to path r.row.arrival receipts

-- contracts keep their time: each packet is sent when its contract may send
abbrev pub KeepsTime : Ground → Run → Type 0
KeepsTime g run = ForSent g run IsInTime

-- trusted sources keep their envelopes
abbrev pub KeepsSources : Ground → Run → Type 0
KeepsSources g run =
    (flow : ℕ) (c : Contract) → contract_of g flow ≡ Some c → IsTrusted c.terms → KeepsSource g run flow c

-- links keep their floors and jitters
abbrev pub KeepsLinks : Ground → Run → Type 0
KeepsLinks g run = ForSent g run (λ c s. IsTimely g.domain c.port c.path s.moment s.receipts)

-- meters keep their skews: none meters a packet later than that
abbrev pub KeepsSkews : Run → Type 0
KeepsSkews run = All (λ j. All (λ r. r.late ≤ j.skew) (journal_rows j)) run.journals

pub record Premises (g : Ground) (run : Run) : Type 0 where
  pub time : KeepsTime g run
  pub source : KeepsSources g run
  pub link : KeepsLinks g run
  pub skew : KeepsSkews run
