-- Where the verdict on a run behind packets is Kept, each is marked with the colour that it was sent with.
use Rattle.std.proofs.Common.{◌≡◌, ◌-◌, ℕ, List, [], ◌∷◌, length, Option, None, Some, refl, sym, ap, ◌∙◌, option_map, slice_get, All}
use Rattle.std.proofs.lemmas.List.{length-map}
use Rattle.std.proofs.lemmas.List.Elements.{All-cons}
use Rattle.std.proofs.lemmas.Option.{none-some, same_Some}
use Rattle.moment_core.specs.declared.colour.Colour.{Colour}
use Rattle.ds_domain_base.specs.Sent.{came}
use Rattle.ds_domain_base.specs.declared.contract.Contract.{Contract}
use Rattle.ds_domain_base.specs.declared.terms.Terms.{Terms}
use Rattle.ds_domain_base.specs.declared.terms.Terms.TheVariants.{Trusted, Policed}
use Rattle.ds_checker.specs.Acceptance.{Table}
use Rattle.meter_fabric_base.specs.Grounds.{contract_of, ground_of}
use Rattle.meter_fabric_base.specs.Trails.{Packet}
use Rattle.meter_fabric_base.specs.Travels.{last_receipt}
use Rattle.meter_fabric_base.specs.declared.trail.Receipt.{Receipt}
use Rattle.run_audit.specs.KeptColours.{ColoursKept}
use Rattle.run_audit.specs.Premises.{IsTrusted}
use Rattle.run_audit.specs.Runs.{Passage, Run}
use Rattle.run_audit.specs.Sendings.{Sending, sending_by, sending_of}
use Rattle.run_audit.proofs.ColourLaws.{colours_kept, stands_in_own}
use Rattle.run_audit.proofs.PremiseLaws.{kept_is_premises}
use Rattle.ds_runs.proofs.VisitingLaws.{at_place}
use Rattle.ds_conductor_base.specs.Passing.{colours_of}
use Rattle.ds_conductor_base.specs.declared.sent.Sent.{Sent}
use Rattle.ds_runs.specs.Behind.{IsBehind, left_last, packet_sent}
use Rattle.ds_runs.specs.Laws.{KeptMarksAreSentColours}
use Rattle.ds_runs.proofs.ListLaws.{there_too, told_same}

abbrev HasLeft : Colour → Receipt → Type 0
HasLeft colour r = r.row.left ≡ colour

-- the last of receipts that were all left with a colour
last_left : (colour marked : Colour) (receipts : List Receipt) → All (HasLeft colour) receipts
    → option_map (λ (r : Receipt). r.row.left) (last_receipt receipts) ≡ Some marked → marked ≡ colour
last_left colour marked receipts all last = by (last_receipt receipts) refl last
  where
    by : (found : Option Receipt) → last_receipt receipts ≡ found → option_map (λ (r : Receipt). r.row.left) found ≡ Some marked → marked ≡ colour
    by None none is = absurd (none-some marked is)
    by (Some r) there is = sym (same_Some r.row.left marked is) ∙ at_place (HasLeft colour) receipts (length receipts - 1) r all there

-- it is the colour of the sending
sent_as : (terms : Terms) (colour marked : Colour) (begun : ℕ) (receipts : List Receipt)
    → ((s : Sending) → sending_by terms colour begun receipts ≡ Some s → All (HasLeft s.colour) s.receipts)
    → option_map (λ (r : Receipt). r.row.left) (last_receipt receipts) ≡ Some marked
    → Some marked ≡ option_map (λ (s : Sending). s.colour) (sending_by terms colour begun receipts)
sent_as (Trusted committed peak) colour marked begun receipts kept last =
    let s : Sending = record { moment = begun; colour = colour; receipts = receipts } in
    ap Some (last_left colour marked receipts (kept s refl) last)
sent_as (Policed parameters mode) colour marked begun [] kept last = absurd (none-some marked last)
sent_as (Policed parameters mode) colour marked begun (edge ∷ receipts) kept last =
    let s : Sending = record { moment = edge.row.arrival; colour = edge.row.left; receipts = receipts } in
    ap Some (last_left edge.row.left marked (edge ∷ receipts) (All-cons (HasLeft edge.row.left) edge receipts refl (kept s refl)) last)

-- what is trusted is sent with its own colour
sent_trusted : (terms : Terms) (colour : Colour) (begun : ℕ) (receipts : List Receipt) → IsTrusted terms
    → option_map (λ (s : Sending). s.colour) (sending_by terms colour begun receipts) ≡ Some colour
sent_trusted (Trusted committed peak) colour begun receipts trusted = refl
sent_trusted (Policed parameters mode) colour begun receipts trusted = absurd trusted

module _ (t : Table) (sent : List Sent) (run : Run) (behind : IsBehind t sent run) (kept : ColoursKept (ground_of t) run) where
  marked_at : (place : ℕ) (p : Passage) → slice_get run.passages place ≡ Some p → (colour : Colour) × (slice_get (colours_of t sent) place ≡ Some colour) × (left_last p ≡ Some colour)
  marked_at place p there =
      let count : length run.passages ≡ length (colours_of t sent) =
      sym (length-map run.passages left_last) ∙ ap length behind.colours ∙ length-map (colours_of t sent) (λ (c : Colour). Some c) in
      let (colour, is) = there_too run.passages (colours_of t sent) place p count there in
      (colour, is, told_same left_last (λ (c : Colour). Some c) run.passages (colours_of t sent) place p colour behind.colours there is)

  each_marked : (place : ℕ) (p : Passage) (c : Contract) → slice_get run.passages place ≡ Some p → contract_of (ground_of t) p.packet.flow ≡ Some c
      → slice_get (colours_of t sent) place ≡ option_map (λ (s : Sending). s.colour) (sending_of c p)
  each_marked place p c there is =
      let (colour, marked, left) = marked_at place p there in
      let own = at_place (λ (p : Passage). (c : Contract) → contract_of (ground_of t) p.packet.flow ≡ Some c → (s : Sending) → sending_of c p ≡ Some s → All (HasLeft s.colour) s.receipts)
      run.passages place p kept there in
      marked ∙ sent_as c.terms (came c p.packet.dscp) colour p.packet.begun p.receipts (own c is) left

  trusted_marked : (place : ℕ) (s : Sent) (c : Contract) → slice_get sent place ≡ Some s → contract_of (ground_of t) s.flow ≡ Some c → IsTrusted c.terms
      → slice_get (colours_of t sent) place ≡ Some (came c s.dscp)
  trusted_marked place s c was_sent is trusted =
      let count : length sent ≡ length run.passages =
      sym (length-map sent packet_sent) ∙ sym (ap length behind.packets) ∙ length-map run.passages (λ (p : Passage). p.packet) in
      let (p, there) = there_too sent run.passages place s count was_sent in
      let same : p.packet ≡ packet_sent s = told_same (λ (p : Passage). p.packet) packet_sent run.passages sent place p s behind.packets there was_sent in
      each_marked place p c there (ap (λ (q : Packet). contract_of (ground_of t) q.flow) same ∙ is)
      ∙ sent_trusted c.terms (came c p.packet.dscp) p.packet.begun p.receipts trusted
      ∙ ap (λ (q : Packet). Some (came c q.dscp)) same

pub kept_marks : KeptMarksAreSentColours
kept_marks t sent run good behind verdict =
    let premises = (kept_is_premises (ground_of t) run behind.run).0 verdict in
    let kept = colours_kept t (ground_of t) run good (stands_in_own t) behind.run premises in
    record { each = each_marked t sent run behind kept; trusted = trusted_marked t sent run behind kept }
