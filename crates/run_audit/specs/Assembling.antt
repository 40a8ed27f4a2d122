-- What stands against journals and trails: in this order, a mismatch of the journals, then the first trail that is
-- wrong, then rows that no trail tells.
use Rattle.std.specs.Prelude.{◌≡◌, ◌⊎◌, ℕ, List, ◌∷◌, ◌++◌, All, AllPairs, Contains, IsPermutation, Option, Some, IfSome, slice_get}
use Rattle.indexmap.specs.IndexSet.{IndexSet}
use Rattle.meter_book.specs.Replay.{Journal, journal_rows}
use Rattle.meter_fabric_base.specs.Grounds.{Ground}
use Rattle.meter_fabric_base.specs.declared.trail.Receipt.{Receipt}
use Rattle.run_audit.specs.Runs.{AreJournals, IsPassage, Passage, Run, told}
use Rattle.run_audit.specs.declared.fault.AssembleFault.{AssembleFault}
use Rattle.run_audit.specs.declared.fault.AssembleFault.TheVariants.{Mismatch, Untold, Doubled, NoMemory}

-- a receipt's row stands in a journal of its site, at its place
abbrev pub IsNoted : List Journal → Receipt → Type 0
IsNoted journals r =
    (j : Journal) × Contains journals j × (j.site ≡ r.site) × (slice_get (journal_rows j) r.row.place ≡ Some r.row)

-- what a packet carries is what its contract has it carry, and what the journals noted
abbrev pub IsSound : Ground → List Journal → Passage → Type 0
IsSound g journals p = IsPassage g p × All (IsNoted journals) p.receipts

-- no packet of a list has the number of this one
abbrev pub IsNew : List Passage → Passage → Type 0
IsNew front p = All (λ q. ¬ (q.packet.number ≡ p.packet.number)) front

-- each packet is sound, and has a number of its own
abbrev pub AreSound : Ground → List Journal → List Passage → Type 0
AreSound g journals passages =
    All (IsSound g journals) passages × AllPairs (λ p q. ¬ (p.packet.number ≡ q.packet.number)) passages

-- the first packet of a run that is not sound or not new, and those in front of it
pub record IsFirstWrong (g : Ground) (run : Run) (Wrong : List Passage → Passage → Type 0) : Type 0 where
  pub front : List Passage
  pub passage : Passage
  pub rest : List Passage
  pub stands : run.passages ≡ front ++ passage ∷ rest
  pub sound : AreSound g run.journals front
  pub wrong : Wrong front passage

-- the receipts from each site are the rows of its journal
abbrev pub AreTold : Run → Type 0
AreTold run = All (λ j. IsPermutation (told j.site run.passages) (journal_rows j)) run.journals

-- What is answered where journals and trails are no run. A number that stood before counts first. Want of memory refuses
-- nothing.
abbrev pub IsRefusal : Ground → Run → AssembleFault → Type 0
IsRefusal g run Mismatch =
    (¬ AreJournals g run.journals)
    ⊎ (AreJournals g run.journals × IsFirstWrong g run (λ front p. IsNew front p × ¬ IsSound g run.journals p))
IsRefusal g run Doubled = AreJournals g run.journals × IsFirstWrong g run (λ front p. ¬ IsNew front p)
IsRefusal g run Untold = AreJournals g run.journals × AreSound g run.journals run.passages × ¬ AreTold run
IsRefusal g run NoMemory = ⊥

-- a set of numbers, if there is one, is of these in their order
abbrev pub Knows : {S : Type 0} → Option (IndexSet ℕ S) → List ℕ → Type 0
Knows numbers keys = IfSome numbers (λ set. set.keys ≡ keys)
