-- Packets on their way, as they are kept.
use Rattle.std.proofs.Common.{◌≡◌, ◌<◌, ◌-◌, ℕ, zero, suc, List, [], ◌∷◌, length, get_or, Some, refl, sym, ap, ◌∙◌, Option, arith, option_map, slice_get, slice_index, slice_set}
use Rattle.std.proofs.lemmas.Option.{slice_get-map, slice_get_read}
use Rattle.moment_core.specs.declared.colour.Colour.{Colour}
use Rattle.meter_book_base.specs.declared.any_meter.AnyMeter.{AnyMeter}
use Rattle.ds_conductor_base.proofs.PassLaws.{map_set, passed_found}
use Rattle.ds_conductor_base.specs.Packets.{carried_in, carried_of, lefts_of}
use Rattle.ds_conductor_base.specs.Passing.{Carried, Traffic, met, meter_in, passed}
use Rattle.ds_conductor_base.specs.declared.passing.OnTheWay.{OnTheWay}
use Rattle.ds_conductor_base.specs.declared.visit.Visit.{Visit}

module _ (meters : List (Option AnyMeter)) (first : ℕ) (packets : List OnTheWay) (v : Visit) (q : OnTheWay) (short : v.place - first < length packets)
    (is : q ≡ get_or packets (v.place - first) q) where
  abbrev kept : Traffic
  kept = record { meters = meters; first = first; packets = carried_in packets }

  found : slice_get (carried_in packets) (v.place - first) ≡ Some (carried_of q)
  found =
      slice_get-map carried_of packets (v.place - first)
      ∙ ap (option_map carried_of) (slice_get_read packets (length packets) (v.place - first) q refl short is)

  pub pass_made : (after : List (Option AnyMeter)) (colour : Colour) (left : ℕ) → after ≡ slice_set meters v.hop.site (met (meter_in meters v.hop.site) v (carried_of q)).0
      → colour ≡ (met (meter_in meters v.hop.site) v (carried_of q)).1
      → passed (record { meters = meters; first = first; packets = carried_in packets }) v
      ≡ record { meters = after; first = first; packets = carried_in (slice_set packets (v.place - first) (record { size = q.size; colour = colour; left = left })) }
  pass_made after colour left own_meters own_colour =
      let put : OnTheWay = record { size = q.size; colour = colour; left = left } in
      passed_found kept v (carried_of q) found
      ∙ ap (λ (ms : List (Option AnyMeter)). let h : Traffic = record {
        meters = ms;
        first = first;
        packets = slice_set (carried_in packets) (v.place - first) (record { size = q.size; colour = (met (meter_in meters v.hop.site) v (carried_of q)).1 });
      } in h) (sym own_meters)
      ∙ ap (λ (c : Colour). let h : Traffic = record {
        meters = after;
        first = first;
        packets = slice_set (carried_in packets) (v.place - first) (record { size = q.size; colour = c });
      } in h) (sym own_colour)
      ∙ ap (λ (ps : List Carried). let h : Traffic = record { meters = after; first = first; packets = ps } in h) (sym (map_set carried_of packets (v.place - first) put))

left_at : (packets : List OnTheWay) (i : ℕ) (q : OnTheWay) → i < length packets → q ≡ get_or packets i q → slice_index (lefts_of packets) i ≡ q.left
left_at [] i q short is = absurd (omega (arith, short))
left_at (p ∷ packets) zero q short is = ap (λ (r : OnTheWay). r.left) (sym is)
left_at (p ∷ packets) (suc i) q short is = left_at packets i q (omega (arith, short)) is

pub lefts_made : (packets : List OnTheWay) (i : ℕ) (q put : OnTheWay) → i < length packets → q ≡ get_or packets i q → put.left ≡ q.left - 1
    → lefts_of (slice_set packets i put) ≡ slice_set (lefts_of packets) i (slice_index (lefts_of packets) i - 1)
lefts_made packets i q put short is one_less =
    map_set (λ (p : OnTheWay). p.left) packets i put
    ∙ ap (λ n. slice_set (lefts_of packets) i n) (one_less ∙ ap (λ n. n - 1) (sym (left_at packets i q short is)))
