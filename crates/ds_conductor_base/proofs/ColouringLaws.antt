-- The colours of packets that are all sent, and then handed out one by one.
use Rattle.std.proofs.Common.{◌≡◌, ℕ, List, [], ◌∷◌, ◌++◌, append-nil, None, refl, sym, ap, ◌∙◌, arith}
use Rattle.std.proofs.lemmas.Option.{none-some}
use Rattle.moment_core.specs.declared.colour.Colour.{Colour}
use Rattle.meter_fabric_base.specs.Orders.{in_order}
use Rattle.ds_checker.specs.Acceptance.{Table}
use Rattle.ds_conductor_base.proofs.PassLaws.{passed_all-count, passed_all-first}
use Rattle.ds_conductor_base.proofs.StreamLaws.{all_come}
use Rattle.ds_conductor_base.specs.Laws.{NoColourIsLeft}
use Rattle.ds_conductor_base.specs.Passing.{Carried, colours_of, passed_all}
use Rattle.ds_conductor_base.specs.Streams.{Stream, begun, colours_left, decided, decided_by, due, made_due, next_place}
use Rattle.ds_conductor_base.specs.Visits.{visits_from}
use Rattle.ds_conductor_base.specs.declared.sent.Sent.{Sent}
use Rattle.ds_conductor_base.specs.declared.visit.Visit.{Visit}

-- before the first packet
pub sent_first : (t : Table) (sent : List Sent) (u : Stream) → u ≡ begun t → colours_left u sent ≡ colours_of t sent
sent_first t sent u is = ap (λ w. colours_left w sent) is ∙ all_come t sent

no_packets : (first : ℕ) (waiting : List Visit) (packets : List Carried) → waiting ≡ [] → decided_by first waiting packets ≡ None → packets ≡ []
no_packets first waiting [] none undecided = refl
no_packets first waiting (p ∷ packets) none undecided =
    absurd (none-some p.colour (sym undecided ∙ ap (λ vs. decided_by first vs (p ∷ packets)) none))

left_none : (u : Stream) → u.waiting ≡ [] → u.traffic.packets ≡ [] → colours_left u [] ≡ []
unfolding colours_left passed_all in_order visits_from
left_none u none nobody = rw none (rw nobody refl)

-- where all visits are made and the next packet is not decided, none is left
pub no_colour_left : NoColourIsLeft
no_colour_left u none undecided = left_none u none (no_packets u.traffic.first u.waiting u.traffic.packets none undecided)

-- behind the last
pub handed_out : (u : Stream) (colours all : List Colour) → u.waiting ≡ [] → None ≡ decided u → colours ++ colours_left u [] ≡ all → colours ≡ all
handed_out u colours all none undecided kept =
    sym (append-nil colours) ∙ ap (λ rest. colours ++ rest) (sym (no_colour_left u none (sym undecided))) ∙ kept

-- ---- what visits leave

pub made-place : (moment : ℕ) (u after : Stream) → after ≡ made_due moment u → next_place after ≡ next_place u
made-place moment u after is =
    let first = passed_all-first u.traffic (due moment u.waiting) in
    let count = passed_all-count u.traffic (due moment u.waiting) in
    let told = ap next_place is in
    omega (arith, first, count, told)
