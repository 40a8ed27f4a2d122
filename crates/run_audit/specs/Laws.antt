-- What the verdict on a run says of the premises, in plain words.
use Rattle.std.specs.Prelude.{◌≡◌, ◌↔◌, ◌<◌, ℕ, List, [], ◌∷◌, ◌++◌, All, Contains, Some}
use Rattle.std.specs.Map.{keys_of}
use Rattle.std.specs.Option.{ForSome}
use Rattle.moment_core.specs.Columns.{each_column}
use Rattle.moment_core.specs.declared.column.Column.{Column}
use Rattle.ds_domain_base.specs.declared.contract.Contract.{Contract}
use Rattle.meter_fabric_base.specs.Grounds.{Ground, contract_of}
use Rattle.run_audit.specs.Premises.{IsInTime, IsTimely, IsTrusted, KeepsIn, KeepsSource, Premises}
use Rattle.run_audit.specs.Runs.{IsRun, Passage, Run}
use Rattle.run_audit.specs.Sendings.{Sending, passages_of, sending_of}
use Rattle.run_audit.specs.Verdicts.{sent_in, verdict_of}
use Rattle.run_audit.specs.declared.verdict.Verdict.TheVariants.{DelayOver, Kept, OutsideContract, SourceOver}

-- a run is found kept exactly where it meets the premises
abbrev pub KeptIsWhatPremisesSay : Type 0
KeptIsWhatPremisesSay = (g : Ground) (run : Run) → IsRun g run → (verdict_of g run ≡ Kept) ↔ Premises g run

-- what holds of a packet with its contract, if it has been sent
abbrev pub IsSentSo : Ground → (Contract → Sending → Type 0) → Passage → Type 0
IsSentSo g P p = ForSome (contract_of g p.packet.flow) (λ c. ForSome (sending_of c p) (P c))

-- it does not hold of the packet of this number, and holds of all that have lesser numbers
pub record IsLeastWithout (run : Run) (Holds : Passage → Type 0) (number : ℕ) : Type 0 where
  pub passage : Passage
  pub there : Contains run.passages passage
  pub named : passage.packet.number ≡ number
  pub broken : ¬ Holds passage
  pub least : (p : Passage) → Contains run.passages p → p.packet.number < number → Holds p

-- The packet that is told to be outside its contract is the least that was sent when its contract may not send, and the
-- packet that is told to be delayed is the least that a link did not carry in its time.
abbrev pub TheLeastPacketIsTold : Type 0
TheLeastPacketIsTold = (g : Ground) (run : Run) (number : ℕ) → IsRun g run
    → (verdict_of g run ≡ OutsideContract number → IsLeastWithout run (IsSentSo g IsInTime) number)
    × ((hop : ℕ) → verdict_of g run ≡ DelayOver number hop
    → IsLeastWithout run (IsSentSo g (λ c s. IsTimely g.domain c.port c.path s.moment s.receipts)) number)

-- it stands in a list, behind others of each of which this holds
abbrev pub StandsBehind : {A : Type 0} → (A → Type 0) → List A → A → Type 0
StandsBehind {A} Holds xs x = (front rest : List A) × (xs ≡ front ++ x ∷ rest) × All Holds front

-- The packets of a trusted contract, in the order in which they were sent, keep the envelope of a column up to the one
-- of this number, and with that one no more. All of them keep the envelopes of the columns before, and those of each
-- trusted contract before keep all of theirs.
pub record IsFirstOver (g : Ground) (run : Run) (flow : ℕ) (column : Column) (number : ℕ) : Type 0 where
  pub contract : Contract
  pub agreed : contract_of g flow ≡ Some contract
  pub trusted : IsTrusted contract.terms
  pub flows : StandsBehind (λ f. ForSome (contract_of g f) (λ c. IsTrusted c.terms → KeepsSource g run f c))
      (keys_of g.contracts) flow
  pub columns : StandsBehind (KeepsIn g contract (passages_of flow run)) each_column column
  pub front : List Passage
  pub passage : Passage
  pub rest : List Passage
  pub sent : sent_in column contract (passages_of flow run) ≡ front ++ passage ∷ rest
  pub named : passage.packet.number ≡ number
  pub kept : KeepsIn g contract front column
  pub broken : ¬ KeepsIn g contract (front ++ passage ∷ []) column

-- The source that is told to be over its envelope is the first that is, in the first column in which it is, with the
-- packet with which it is for the first time.
abbrev pub TheFirstOverIsTold : Type 0
TheFirstOverIsTold = (g : Ground) (run : Run) (flow : ℕ) (column : Column) (number : ℕ) → IsRun g run
    → verdict_of g run ≡ SourceOver flow column number → IsFirstOver g run flow column number
