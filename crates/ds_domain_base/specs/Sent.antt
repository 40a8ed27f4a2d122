-- What a contract says of its packets and of its edge.
use Rattle.std.specs.Prelude.{ℕ, Bool, true, false, ◌&&◌, not, Option, None, Some, unwrap_or, if◌then◌else◌}
use Rattle.moment_core.specs.declared.colour.Colour.{Colour}
use Rattle.moment_core.specs.declared.colour.Colour.TheVariants.{Red}
use Rattle.moment_core.specs.Colours.{is_yellow}
use Rattle.meter_book_base.specs.declared.any_meter.AnyMeter.{AnyMeter}
use Rattle.meter_book_base.specs.AnyMeter.{opening_of}
use Rattle.af_marker.specs.CodePoints.{colour_at}
use Rattle.ds_domain_base.specs.declared.terms.Terms.{Terms}
use Rattle.ds_domain_base.specs.declared.terms.Terms.TheVariants.{Trusted, Policed}
use Rattle.ds_domain_base.specs.declared.contract.Contract.{Contract}

-- whether yellow packets may be sent: a policed contract counts as having a peak
abbrev pub has_peak : Terms → Bool
has_peak (Trusted committed None) = false
has_peak (Trusted committed (Some peak)) = true
has_peak (Policed parameters mode) = true

-- the colour that a code point shows in a class; any other code point is red
abbrev pub shown : ℕ → ℕ → Colour
shown class dscp = unwrap_or (colour_at class dscp) Red

-- the colour that a packet with a code point comes in with: yellow is red where there is no peak
unfoldable pub came : Contract → ℕ → Colour
came c dscp = if is_yellow (shown c.class dscp) && not (has_peak c.terms) then Red else shown c.class dscp

-- the meter at the edge, with full buckets when the contract begins; a trusted contract has none
abbrev pub edge_of : Terms → ℕ → Option AnyMeter
edge_of (Trusted committed peak) since = None
edge_of (Policed parameters mode) since = Some (opening_of parameters mode since)
