-- A visit makes of the meters and of the colours that packets carry what its step makes of books and of packets on their
-- way.
use Rattle.std.proofs.Common.{◌≡◌, ◌-◌, ℕ, List, map, Option, Some, sym, ap, ◌∙◌, arith, option_map, slice_get, slice_set, unwrap_or}
use Rattle.std.specs.Option.{option_flatten}
use Rattle.std.proofs.lemmas.Option.{slice_get-map}
use Rattle.meter_book_base.specs.AnyMeter.{after_any, left_of}
use Rattle.meter_book_base.specs.declared.any_meter.AnyMeter.{AnyMeter}
use Rattle.meter_book.specs.Replay.{Book, meter_after, next_row, noted}
use Rattle.meter_book.proofs.ReplayLaws.{meter_after-push}
use Rattle.meter_fabric_base.specs.Travels.{Traveller, comes_as}
use Rattle.meter_fabric_base.specs.declared.trail.Receipt.{Receipt}
use Rattle.ds_runs.specs.Steps.{Stage}
use Rattle.ds_runs.proofs.ListLaws.{some_of-some, last_pushed}
use Rattle.ds_runs.proofs.VisitingLaws.{Visits, behind, coming, stage_behind}
use Rattle.ds_conductor_base.specs.Passing.{Carried, Traffic, met, meter_in, offer_of, passed}
use Rattle.ds_conductor_base.specs.declared.visit.Visit.{Visit}
use Rattle.ds_conductor_base.proofs.PassLaws.{map_set, passed_found}

-- the meter of a book as it stands behind its arrivals
abbrev pub meter_now : Book → AnyMeter
meter_now b = meter_after b.opening.meter b.arrivals

-- a packet on its way, as it comes to its next hop
abbrev pub carried_by : Traveller → Carried
carried_by p = record { size = p.packet.size; colour = comes_as p }

-- the meters and the packets of a stage
abbrev pub traffic_of : Stage → Traffic
traffic_of g =
    record { meters = map (option_map meter_now) g.books; first = 0; packets = map carried_by g.travellers }

module _ (g : Stage) (v : Visit) (p : Traveller) (b : Book) (visits : Visits g v.place p v.hop b v.moment) where
  abbrev carried : Carried
  carried = carried_by p

  abbrev after : Stage
  after = stage_behind g v.place p v.hop b v.moment

  -- what a visit makes at a meter, of the packet of a place
  abbrev built : Option AnyMeter → ℕ → Traffic
  built m place = record {
    meters = slice_set (map (option_map meter_now) g.books) v.hop.site (met m v carried).0;
    first = 0;
    packets = slice_set (map carried_by g.travellers) place (record carried { colour = (met m v carried).1 });
  }

  -- the packet comes as it left
  left : comes_as (behind p v.hop b v.moment) ≡ left_of (meter_now b) (offer_of v carried)
  left =
      let receipt : Receipt = record { site = v.hop.site; row = next_row b (coming p v.hop v.moment) } in
      ap (λ (found : Option Receipt). unwrap_or (option_map (λ r. r.row.left) found) p.came) (last_pushed p.receipts receipt)

  meters_met : slice_set (map (option_map meter_now) g.books) v.hop.site (Some (after_any (meter_now b) (offer_of v carried)))
      ≡ map (option_map meter_now) after.books
  meters_met =
      ap (λ (m : AnyMeter). slice_set (map (option_map meter_now) g.books) v.hop.site (Some m)) (sym (meter_after-push b.opening.meter b.arrivals (coming p v.hop v.moment)))
      ∙ sym (map_set (option_map meter_now) g.books v.hop.site (Some (noted b (coming p v.hop v.moment))))

  packets_met : slice_set (map carried_by g.travellers) v.place (record carried { colour = left_of (meter_now b) (offer_of v carried) })
      ≡ map carried_by after.travellers
  packets_met =
      let size : ℕ = p.packet.size in
      ap (λ colour. let c : Carried = record { size = size; colour = colour } in slice_set (map carried_by g.travellers) v.place c) (sym left)
      ∙ sym (map_set carried_by g.travellers v.place (behind p v.hop b v.moment))

  found : slice_get (map carried_by g.travellers) (v.place - 0) ≡ Some carried
  found =
      let place : v.place - 0 ≡ v.place = omega arith in
      ap (slice_get (map carried_by g.travellers)) place ∙ slice_get-map carried_by g.travellers v.place ∙ ap (option_map carried_by) visits.packet

  meter_found : meter_in (map (option_map meter_now) g.books) v.hop.site ≡ Some (meter_now b)
  meter_found =
      ap option_flatten
      (slice_get-map (option_map meter_now) g.books v.hop.site
      ∙ ap (option_map (option_map meter_now)) (some_of-some (slice_get g.books v.hop.site) b visits.book))

  pub passes : passed (traffic_of g) v ≡ traffic_of after
  passes =
      let place : v.place - 0 ≡ v.place = omega arith in
      let ms = map (option_map meter_now) after.books in
      passed_found (traffic_of g) v carried found
      ∙ ap (λ m. built m (v.place - 0)) meter_found
      ∙ ap (built (Some (meter_now b))) place
      ∙ ap (λ (meters : List (Option AnyMeter)). let f : Traffic = record {
        meters = meters;
        first = 0;
        packets = slice_set (map carried_by g.travellers) v.place (record carried { colour = left_of (meter_now b) (offer_of v carried) });
      } in f) meters_met
      ∙ ap (λ (packets : List Carried). let f : Traffic = record { meters = ms; first = 0; packets = packets } in f) packets_met
