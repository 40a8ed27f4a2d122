-- What contracts take at a meter and what it has, for each of the checker's four tests in their order.
use Rattle.std.specs.Prelude.{ℕ, ◌≤◌, List, option_map, Option}
use Rattle.envelope_core.specs.Curve.{Curve}
use Rattle.ds_domain_base.specs.Domains.{meter_of}
use Rattle.ds_domain_base.specs.Limits.{all_limit, green_limit}
use Rattle.ds_domain_base.specs.declared.parts.Meter.{Meter}
use Rattle.ds_checker.specs.Acceptance.{Table}
use Rattle.ds_checker.specs.Loads.{shares_at}
use Rattle.ds_checker.specs.TableTests.{all_load, green_load}
use Rattle.ds_checker.specs.declared.headroom.Headroom.{Headroom}
use Rattle.ds_checker.specs.declared.headroom.Utilization.{Utilization}

-- so much is taken of so much
abbrev pub utilized : ℕ → ℕ → Utilization
utilized taken available = record { taken = taken; available = available }

-- by what is held against a meter's limit of green packets, and against that of green and yellow ones
abbrev pub headroom_by : Meter → Curve → Curve → Headroom
headroom_by m green all = record {
  green_rate = utilized green.rate (green_limit m.parameters).rate;
  green_burst = utilized green.burst (green_limit m.parameters).burst;
  all_rate = utilized all.rate (all_limit m.parameters).rate;
  all_burst = utilized all.burst (all_limit m.parameters).burst;
}

-- at a meter of a name, by what all contracts of a table bring there
abbrev pub headroom_at : Table → List ℕ → Meter → Headroom
headroom_at t name m = headroom_by m
    (green_load m (shares_at t.domain name t.contracts t.certificate))
    (all_load m (shares_at t.domain name t.contracts t.certificate))

-- at the meter of a name, if there is one
abbrev pub headroom_of : Table → List ℕ → Option Headroom
headroom_of t name = option_map (headroom_at t name) (meter_of t.domain name)

-- no more is taken than there is
abbrev pub IsCovered : Utilization → Type 0
IsCovered u = u.taken ≤ u.available

abbrev pub AreCovered : Headroom → Type 0
AreCovered h = IsCovered h.green_rate × IsCovered h.green_burst × IsCovered h.all_rate × IsCovered h.all_burst
