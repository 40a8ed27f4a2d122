-- The least domain with a packet: a port, a link, a meter and a contract. Its one packet of 100 bytes, sent green at
-- moment 0, is all that it ever carries. Here the contract is trusted.
use Rattle.std.specs.Prelude.{ℕ, List, [], ◌∷◌, None}
use Rattle.moment_core.specs.declared.colour.Colour.TheVariants.{Green}
use Rattle.moment_core.specs.declared.colour.Mode.TheVariants.{Aware}
use Rattle.meter_book_base.specs.AnyMeter.{opening_of}
use Rattle.meter_book.specs.Replay.{Journal, row_of}
use Rattle.meter_book_base.specs.declared.any_meter.AnyMeter.{AnyMeter}
use Rattle.meter_book_base.specs.declared.any_meter.Parameters.{Parameters}
use Rattle.meter_book_base.specs.declared.any_meter.Parameters.TheVariants.{TrTcm}
use Rattle.meter_book.specs.declared.row.Arrival.{Arrival}
use Rattle.ds_domain_base.specs.Domains.{Domain}
use Rattle.ds_domain_base.specs.declared.contract.Contract.{Contract}
use Rattle.ds_domain_base.specs.declared.parts.Version.TheVariants.{One}
use Rattle.ds_domain_base.specs.declared.terms.Terms.{Terms}
use Rattle.ds_domain_base.specs.declared.terms.Terms.TheVariants.{Trusted}
use Rattle.ds_certificate.specs.Columns.{Bound}
use Rattle.ds_checker.specs.Acceptance.{IsAcceptable, Table}
use Rattle.meter_fabric_base.specs.Grounds.{ground_of}
use Rattle.meter_fabric_base.specs.Trails.{Packet}
use Rattle.run_audit.specs.Premises.{Premises}
use Rattle.run_audit.specs.Runs.{IsRun, Passage, Run}

-- names are bytes: the port is p, the meter m, the contract c
abbrev pub port_name : List ℕ
port_name = 112 ∷ []

abbrev pub meter_name : List ℕ
meter_name = 109 ∷ []

-- the domain, whose meter has these parameters
abbrev pub domain_with : Parameters → Domain
domain_with parameters = record {
  version = One;
  meters = (meter_name, record { parameters = parameters; skew = 0; origin = 0 }) ∷ [];
  ports = (port_name, record { skew = 0 }) ∷ [];
  links = ((port_name, meter_name), record { floor = 0; jitter = 0 }) ∷ [];
}

-- the contract, from the port to the meter, on these terms
abbrev pub contract_on : Terms → Contract
contract_on terms = record {
  name = 99 ∷ [];
  terms = terms;
  port = port_name;
  path = meter_name ∷ [];
  class = 1;
  lifetime = record { since = 0; until = None };
  rule = record {
    source = None;
    target = None;
    protocol = None;
    source_ports = None;
    target_ports = None;
    dscp = None;
  };
}

-- the domain and the contract, with one bound for the port and for the meter
abbrev pub table_with : Parameters → Terms → Bound → Table
table_with parameters terms bound = record {
  domain = domain_with parameters;
  contracts = contract_on terms ∷ [];
  certificate = (bound ∷ bound ∷ []) ∷ [];
}

-- the packet, with code point AF11
abbrev pub small_packet : Packet
small_packet = record { flow = 0; number = 0; size = 100; dscp = 10; begun = 0 }

-- it comes green to the hop of a number
abbrev pub arrival_as_hop : ℕ → Arrival
arrival_as_hop number = record { flow = 0; packet = 0; hop = number; moment = 0; size = 100; came = Green }

abbrev pub small_parameters : Parameters
small_parameters = TrTcm (record { committed_rate = 8000; committed_burst = 1500; peak_rate = 8000; peak_burst = 1500 })

abbrev pub small_terms : Terms
small_terms = Trusted (record { rate = 8000; burst = 1500 }) None

abbrev pub small_bound : Bound
small_bound = record { green = 1500; all = 1500; excess = 1500 }

abbrev pub small_table : Table
small_table = table_with small_parameters small_terms small_bound

abbrev pub small_meter : AnyMeter
small_meter = opening_of small_parameters Aware 0

-- the packet and its receipt of the meter
abbrev pub small_passage : Passage
small_passage = record {
  packet = small_packet;
  receipts = record { site = 0; row = row_of small_meter 0 (arrival_as_hop 1) } ∷ [];
}

abbrev pub small_journal : Journal
small_journal = record { site = 0; opening = small_meter; skew = 0; arrivals = arrival_as_hop 1 ∷ [] }

abbrev pub small_run : Run
small_run = record { journals = small_journal ∷ []; passages = small_passage ∷ [] }

-- it meets all that is asked of a run
abbrev pub SmallRunIsKept : Type 0
SmallRunIsKept =
    IsAcceptable small_table × IsRun (ground_of small_table) small_run × Premises (ground_of small_table) small_run
