-- When and with what colour packets are sent into a domain.
use Rattle.std.specs.Prelude.{ℕ, Bool, List, [], ◌∷◌, All, filter, flat_map, nat_eq, Option, None, Some, if◌then◌else◌}
use Rattle.std.specs.Option.{ForSome}
use Rattle.moment_core.specs.declared.colour.Colour.{Colour}
use Rattle.ds_domain_base.specs.Sent.{came}
use Rattle.ds_domain_base.specs.declared.contract.Contract.{Contract}
use Rattle.ds_domain_base.specs.declared.terms.Terms.{Terms}
use Rattle.ds_domain_base.specs.declared.terms.Terms.TheVariants.{Trusted, Policed}
use Rattle.meter_fabric_base.specs.Grounds.{Ground, contract_of}
use Rattle.meter_fabric_base.specs.declared.trail.Receipt.{Receipt}
use Rattle.run_audit.specs.Runs.{Passage, Run}

-- a packet as it is sent: when, with what colour, and its receipts of the meters that it has visited since
pub record Sending : Type 0 where
  pub moment : ℕ
  pub colour : Colour
  pub receipts : List Receipt

-- What is trusted is sent as it begins. What is policed is sent by its edge: at its arrival there, with the colour that
-- it left with. Before that it has not been sent.
abbrev pub sending_by : Terms → Colour → ℕ → List Receipt → Option Sending
sending_by (Trusted committed peak) colour begun receipts =
    Some (record { moment = begun; colour = colour; receipts = receipts })
sending_by (Policed parameters mode) colour begun [] = None
sending_by (Policed parameters mode) colour begun (edge ∷ receipts) =
    Some (record { moment = edge.row.arrival; colour = edge.row.left; receipts = receipts })

abbrev pub sending_of : Contract → Passage → Option Sending
sending_of c p = sending_by c.terms (came c p.packet.dscp) p.packet.begun p.receipts

-- what holds of each packet that has been sent, with its contract
abbrev pub ForSent : Ground → Run → (Contract → Sending → Type 0) → Type 0
ForSent g run P = All (λ p. ForSome (contract_of g p.packet.flow) (λ c. ForSome (sending_of c p) (P c))) run.passages

-- the packets of a contract
abbrev pub passages_of : ℕ → Run → List Passage
passages_of flow run = filter (λ p. nat_eq p.packet.flow flow) run.passages

-- the sized moment at which a packet was sent with a colour that a test picks
abbrev pub sent_item : (Colour → Bool) → ℕ → Option Sending → List (ℕ × ℕ)
sent_item picked size None = []
sent_item picked size (Some s) = if picked s.colour then (s.moment, size) ∷ [] else []

abbrev pub sent_items : (Colour → Bool) → Contract → List Passage → List (ℕ × ℕ)
sent_items picked c passages = flat_map (λ p. sent_item picked p.packet.size (sending_of c p)) passages
