-- The least domain once more, with a contract that is policed. Its edge and the meter are of the single rate
-- (RFC 2697). The packet comes to the edge and then to the meter, green at moment 0.
use Rattle.std.specs.Prelude.{[], ◌∷◌}
use Rattle.moment_core.specs.declared.colour.Mode.TheVariants.{Aware, Blind}
use Rattle.meter_book_base.specs.AnyMeter.{opening_of}
use Rattle.meter_book.specs.Replay.{Journal, row_of}
use Rattle.meter_book_base.specs.declared.any_meter.AnyMeter.{AnyMeter}
use Rattle.meter_book_base.specs.declared.any_meter.Parameters.{Parameters}
use Rattle.meter_book_base.specs.declared.any_meter.Parameters.TheVariants.{SrTcm}
use Rattle.ds_domain_base.specs.declared.terms.Terms.{Terms}
use Rattle.ds_domain_base.specs.declared.terms.Terms.TheVariants.{Policed}
use Rattle.ds_certificate.specs.Columns.{Bound}
use Rattle.ds_checker.specs.Acceptance.{IsAcceptable, Table}
use Rattle.meter_fabric_base.specs.Grounds.{ground_of}
use Rattle.meter_fabric_base.specs.declared.trail.Receipt.{Receipt}
use Rattle.run_audit.specs.Examples.{arrival_as_hop, small_packet, table_with}
use Rattle.run_audit.specs.Premises.{Premises}
use Rattle.run_audit.specs.Runs.{IsRun, Passage, Run}

-- the edge polices to a committed and an excess burst of 1500 bytes each
abbrev pub edge_parameters : Parameters
edge_parameters = SrTcm (record { committed_rate = 8000; committed_burst = 1500; excess_burst = 1500 })

abbrev pub policed_terms : Terms
policed_terms = Policed edge_parameters Blind

-- The meter has just enough for what leaves the edge: in the committed bucket a byte more than the edge's committed
-- burst, for green packets, and in the excess bucket a byte more than both its bursts, for green and yellow ones.
abbrev pub policed_parameters : Parameters
policed_parameters = SrTcm (record { committed_rate = 8000; committed_burst = 1501; excess_burst = 3001 })

-- what leaves the edge
abbrev pub policed_bound : Bound
policed_bound = record { green = 1501; all = 3001; excess = 3001 }

abbrev pub policed_table : Table
policed_table = table_with policed_parameters policed_terms policed_bound

abbrev pub edge_meter : AnyMeter
edge_meter = opening_of edge_parameters Blind 0

abbrev pub policed_meter : AnyMeter
policed_meter = opening_of policed_parameters Aware 0

-- what the packet carries away from the edge, whose site stands behind that of the meter, and from the meter
abbrev pub edge_receipt : Receipt
edge_receipt = record { site = 1; row = row_of edge_meter 0 (arrival_as_hop 0) }

abbrev pub meter_receipt : Receipt
meter_receipt = record { site = 0; row = row_of policed_meter 0 (arrival_as_hop 1) }

abbrev pub policed_passage : Passage
policed_passage = record { packet = small_packet; receipts = edge_receipt ∷ meter_receipt ∷ [] }

abbrev pub edge_journal : Journal
edge_journal = record { site = 1; opening = edge_meter; skew = 0; arrivals = arrival_as_hop 0 ∷ [] }

abbrev pub meter_journal : Journal
meter_journal = record { site = 0; opening = policed_meter; skew = 0; arrivals = arrival_as_hop 1 ∷ [] }

abbrev pub policed_run : Run
policed_run = record { journals = meter_journal ∷ edge_journal ∷ []; passages = policed_passage ∷ [] }

-- it meets all that is asked of a run
abbrev pub PolicedRunIsKept : Type 0
PolicedRunIsKept =
    IsAcceptable policed_table
    × IsRun (ground_of policed_table) policed_run
    × Premises (ground_of policed_table) policed_run
