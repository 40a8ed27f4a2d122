-- The hops of a packet along its contract's route, and the first to which it did not come in time, as its receipts have it.
use Rattle.std.specs.Prelude.{ℕ, suc, ◌+◌, ◌&&◌, nat_le, Bool, List, [], ◌∷◌, option_map, Option, None, Some, if◌then◌else◌}
use Rattle.ds_domain_base.specs.Domains.{Domain}
use Rattle.ds_domain_base.specs.Routes.{Route, route_of}
use Rattle.ds_domain_base.specs.declared.contract.Contract.{Contract}
use Rattle.ds_domain_base.specs.declared.route.Leg.{Leg}
use Rattle.meter_fabric_base.specs.declared.hop.Hop.{Hop}
use Rattle.meter_fabric_base.specs.declared.trail.Receipt.{Receipt}
use Rattle.run_audit.specs.Sendings.{Sending}
use Rattle.run_audit.specs.declared.verdict.Verdict.{Verdict}
use Rattle.run_audit.specs.declared.verdict.Verdict.TheVariants.{DelayOver}

-- the hops of some legs, of which the first has this number
unfoldable pub hops_on : ℕ → List Leg → List Hop
hops_on number [] = []
hops_on number (leg ∷ legs) = record { number = number; site = leg.place } ∷ hops_on (suc number) legs

-- whether what left at a moment arrives over the link of a leg in its time
abbrev pub is_over_leg : Leg → ℕ → ℕ → Bool
is_over_leg leg moment arrival =
    nat_le (moment + leg.floor) arrival && nat_le arrival (moment + leg.floor + leg.jitter)

-- of a packet that left at a moment
unfoldable pub untimely_on : List Leg → ℕ → List Receipt → Option ℕ
untimely_on legs moment [] = None
untimely_on [] moment (r ∷ receipts) = None
untimely_on (leg ∷ legs) moment (r ∷ receipts) =
    if is_over_leg leg moment r.row.arrival then untimely_on legs r.row.arrival receipts else Some r.row.hop

-- what is found against a packet that was sent, on a route, and on that of its contract
abbrev pub delayed_on : Route → ℕ → Sending → Option Verdict
delayed_on route packet s = option_map (λ hop. DelayOver packet hop) (untimely_on route.legs s.moment s.receipts)

abbrev pub delayed_hop : Domain → ℕ → Contract → Sending → Option Verdict
delayed_hop d packet c s = delayed_on (route_of d c) packet s
