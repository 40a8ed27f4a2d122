-- A share that is sold twice, one time after the other. The least domain's meter has enough for one contract at a time.
-- Its first contract ends at moment 1, and its share is held for the 1.5 seconds in which its rate gives its burst.
-- From the moment on at which it is retired, a second contract has the share. Each sends its whole burst as one packet,
-- the first at its last moment, the second at its first one.
use Rattle.std.specs.Prelude.{ℕ, [], ◌∷◌, None, Some}
use Rattle.moment_core.specs.declared.colour.Colour.TheVariants.{Green}
use Rattle.meter_book_base.specs.AnyMeter.{after_any}
use Rattle.meter_book.specs.Replay.{Journal, offer_of, row_of}
use Rattle.meter_book.specs.declared.row.Arrival.{Arrival}
use Rattle.meter_book_base.specs.declared.any_meter.AnyMeter.{AnyMeter}
use Rattle.ds_domain_base.specs.Lifetimes.{Span}
use Rattle.ds_domain_base.specs.declared.contract.Contract.{Contract}
use Rattle.ds_checker.specs.Acceptance.{IsAcceptable}
use Rattle.ds_timeline.specs.Timelines.{AreRated, IsCovered, Timeline, table_by}
use Rattle.ds_timeline.specs.declared.reservation.Reservation.{Reservation}
use Rattle.meter_fabric_base.specs.Grounds.{Ground}
use Rattle.meter_fabric_base.specs.Trails.{Packet}
use Rattle.run_audit.specs.Examples.{contract_on, domain_with, small_bound, small_meter, small_parameters, small_terms}
use Rattle.run_audit.specs.KeptColours.{WasGranted}
use Rattle.run_audit.specs.Premises.{Premises}
use Rattle.run_audit.specs.Runs.{IsRun, Passage, Run}

-- when the share is sold again: 1500 bytes at 8000 bits per second are 1 500 000 000 nanoseconds
abbrev pub resale : ℕ
resale = 1500000001

-- the contract of the least domain, for a time
abbrev pub contract_for : Span → Contract
contract_for lifetime = record (contract_on small_terms) { lifetime = lifetime }

abbrev pub first_contract : Contract
first_contract = contract_for (record { since = 0; until = Some 1 })

abbrev pub second_contract : Contract
second_contract = contract_for (record { since = resale; until = None })

abbrev pub first_reservation : Reservation
first_reservation = record {
  flow = 0;
  contract = first_contract;
  bounds = small_bound ∷ small_bound ∷ [];
  from = 0;
  retirement = Some resale;
}

abbrev pub second_reservation : Reservation
second_reservation = record {
  flow = 1;
  contract = second_contract;
  bounds = small_bound ∷ small_bound ∷ [];
  from = resale;
  retirement = None;
}

abbrev pub resold : Timeline
resold = record {
  domain = domain_with small_parameters;
  reservations = first_reservation ∷ second_reservation ∷ [];
}

abbrev pub resold_ground : Ground
resold_ground = record {
  domain = domain_with small_parameters;
  contracts = (0, first_contract) ∷ (1, second_contract) ∷ [];
}

-- a whole burst of a flow as one packet, with code point AF11, and how it comes to the meter
abbrev pub burst_at : ℕ → ℕ → Packet
burst_at flow moment = record { flow = flow; number = flow; size = 1500; dscp = 10; begun = moment }

abbrev pub burst_arrival : ℕ → ℕ → Arrival
burst_arrival flow moment =
    record { flow = flow; packet = flow; hop = 1; moment = moment; size = 1500; came = Green }

abbrev pub first_passage : Passage
first_passage = record {
  packet = burst_at 0 0;
  receipts = record { site = 0; row = row_of small_meter 0 (burst_arrival 0 0) } ∷ [];
}

-- the meter behind the first packet
abbrev pub used_meter : AnyMeter
used_meter = after_any small_meter (offer_of (burst_arrival 0 0))

abbrev pub second_passage : Passage
second_passage = record {
  packet = burst_at 1 resale;
  receipts = record { site = 0; row = row_of used_meter 1 (burst_arrival 1 resale) } ∷ [];
}

abbrev pub resold_journal : Journal
resold_journal = record {
  site = 0;
  opening = small_meter;
  skew = 0;
  arrivals = burst_arrival 0 0 ∷ burst_arrival 1 resale ∷ [];
}

abbrev pub resold_run : Run
resold_run = record { journals = resold_journal ∷ []; passages = first_passage ∷ second_passage ∷ [] }

-- The meter cannot carry both at once; and all is met that is asked of a timeline and of a run over it.
abbrev pub ShareSoldTwiceIsKept : Type 0
ShareSoldTwiceIsKept =
    ¬ IsAcceptable (table_by resold.domain resold.reservations)
    × IsCovered resold
    × AreRated resold
    × WasGranted resold resold_ground
    × IsRun resold_ground resold_run
    × Premises resold_ground resold_run
