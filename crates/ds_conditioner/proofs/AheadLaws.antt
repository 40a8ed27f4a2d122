-- What frames send at a port comes to no stop before a head start of the port.
use Rattle.std.proofs.Common.{◌≡◌, ◌≤◌, ◌+◌, ℕ, Bool, true, false, cond, List, [], ◌∷◌, take, get_or, Option, None, Some, refl, sym, ap, ◌∙◌, subst, arith, position, slice_get, IfSome, bytes_eq}
use Rattle.std.proofs.lemmas.Bool.{and_parts}
use Rattle.std.proofs.lemmas.List.Elements.{All-cons, All-nil}
use Rattle.std.proofs.lemmas.List.Quantifiers.{position-Some}
use Rattle.std.proofs.lemmas.Option.{slice_get-get_or}
use Rattle.std.proofs.lemmas.Slice.Eq.{bytes_eq-Decides}
use Rattle.af_marker.specs.Summaries.{summary_of}
use Rattle.af_marker.specs.declared.packet.Header.{Header}
use Rattle.pcap_capture.specs.Frames.{FrameValue, has_packet, link_in}
use Rattle.pcap_capture.specs.declared.heading.LinkType.{LinkType}
use Rattle.ds_domain_base.specs.declared.contract.Contract.{Contract}
use Rattle.ds_domain_base.specs.declared.parts.Version.{Version}
use Rattle.ds_checker.specs.Acceptance.{Table}
use Rattle.meter_fabric_base.specs.Grounds.{contract_of, ground_of, most_flows}
use Rattle.meter_fabric_base.proofs.GroundLaws.{found_at}
use Rattle.flow_classifier.specs.Keys.{key_of}
use Rattle.ds_domain_base.specs.Versions.{has_ipv6}
use Rattle.frame_marker.specs.Frames.{header_in}
use Rattle.frame_marker.specs.Ports.{PortRules, sight_at, sight_in}
use Rattle.frame_marker.specs.Sights.{flow_of, heeded, sight_by, sight_for, sight_of, takes}
use Rattle.frame_marker.specs.declared.sight.Sight.{Sight}
use Rattle.frame_marker.specs.declared.sight.Sight.TheVariants.{Carried}
use Rattle.ds_conductor_base.proofs.HeadStartLaws.{head_starts_hold}
use Rattle.ds_conductor_base.specs.Streams.{AreSentAt, ComeFrom}
use Rattle.ds_conductor_base.specs.Ways.{IsHeadStart}
use Rattle.ds_conductor_base.specs.declared.sent.Sent.{Sent}
use Rattle.ds_conditioner.specs.Sendings.{AreAhead, see, sent_by}

module _ (t : Table) (port : List ℕ) where
  abbrev IsOfPort : ℕ → Type 0
  IsOfPort flow = IfSome (contract_of (ground_of t) flow) (λ c. c.port ≡ port)

  -- the contract that takes a frame is of the port
  of_port : (header : Header) (flow : ℕ) → flow_of t.contracts port (key_of header) ≡ Some flow → IsOfPort flow
  unfolding flow_of
  of_port header flow found = by_contracts (take most_flows t.contracts) found (found_at t flow)
    where
      by_contracts : (contracts : List Contract) → position (takes port (key_of header)) contracts ≡ Some flow → contract_of (ground_of t) flow ≡ slice_get contracts flow → IsOfPort flow
      by_contracts [] place at = absurd cc
      by_contracts (c ∷ contracts) place at =
          let there = position-Some (takes port (key_of header)) (c ∷ contracts) flow c place in
          let own = get_or (c ∷ contracts) flow c in
          let named : bytes_eq port own.port ≡ true = (and_parts (bytes_eq port own.port) _ there.1).0 in
          subst (λ (found : Option Contract). IfSome found (λ x. x.port ≡ port)) (sym (at ∙ slice_get-get_or (c ∷ contracts) flow c there.0))
          (sym ((bytes_eq-Decides port own.port).0 named))

  by_flow : (header : Header) (found : Option ℕ) (number moment : ℕ) → flow_of t.contracts port (key_of header) ≡ found → AreSentAt t port moment (sent_by (sight_for header found) number moment)
  by_flow header None number moment none = All-nil (λ (s : Sent). (moment ≤ s.moment) × IsOfPort s.flow)
  by_flow header (Some flow) number moment found =
      let s : Sent = record { flow = flow; packet = number; size = (summary_of header).total; dscp = (summary_of header).dscp; moment = moment } in
      All-cons (λ (s : Sent). (moment ≤ s.moment) × IsOfPort s.flow) s [] (omega arith, of_port header flow found) (All-nil (λ (s : Sent). (moment ≤ s.moment) × IsOfPort s.flow))

  by_header : (found : Option Header) (number moment : ℕ) → AreSentAt t port moment (sent_by (sight_by t.contracts port found) number moment)
  by_header None number moment = All-nil (λ (s : Sent). (moment ≤ s.moment) × IsOfPort s.flow)
  by_header (Some header) number moment = by_flow header (flow_of t.contracts port (key_of header)) number moment refl

  by_bytes : (link : LinkType) (bytes : List ℕ) (number moment : ℕ) → AreSentAt t port moment (sent_by (sight_of t.domain.version t.contracts port link bytes) number moment)
  unfolding sight_of
  by_bytes link bytes number moment = by_header (heeded (has_ipv6 t.domain.version) (header_in link bytes)) number moment

  sent_at : (f : FrameValue) (number moment : ℕ) → AreSentAt t port moment (sent_by (see t port f) number moment)
  sent_at f number moment = by (has_packet f.content)
    where
      by : (is : Bool) → AreSentAt t port moment (sent_by (cond is (sight_of t.domain.version t.contracts port (link_in f.content) f.bytes) Carried) number moment)
      by true = by_bytes (link_in f.content) f.bytes number moment
      by false = All-nil (λ (s : Sent). (moment ≤ s.moment) × IsOfPort s.flow)

-- what is seen of a frame by the rules of a port's contracts
pub rules_see : (t : Table) (version : Version) (contracts : List Contract) (port : List ℕ) (rules : PortRules) → version ≡ t.domain.version → contracts ≡ t.contracts
    → ((link : LinkType) (bytes : List ℕ) → sight_at rules link bytes ≡ sight_of version contracts port link bytes) → (f : FrameValue) → sight_in rules f ≡ see t port f
rules_see t version contracts port rules of own sees f =
    ap (λ seen. cond (has_packet f.content) seen Carried)
    (sees (link_in f.content) f.bytes ∙ ap (λ v. sight_of v contracts port (link_in f.content) f.bytes) of ∙ ap (λ cs. sight_of t.domain.version cs port (link_in f.content) f.bytes) own)

-- and a head start of the port
pub rules_ahead : (t : Table) (port : List ℕ) (view : FrameValue → Sight) (delay : ℕ) → ((f : FrameValue) → view f ≡ see t port f) → IsHeadStart t port delay → AreAhead t view delay
rules_ahead t port view delay sees ahead f number moment =
    subst (λ (sight : Sight). ComeFrom t (moment + delay) (sent_by sight number moment)) (sym (sees f))
    (head_starts_hold t port delay moment (sent_by (see t port f) number moment) ahead (sent_at t port f number moment))
