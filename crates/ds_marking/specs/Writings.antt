-- What is written of a text to a device.
use Rattle.std.specs.Prelude.{◌≡◌, ◌⊎◌, ℕ, Bool, true, false, List, ◌++◌, Result, Err, MatchResult, if◌then◌else◌}
use Rattle.pcap_capture.specs.Counts.{next_count}
use Rattle.pcap_capture.specs.Fronts.{IsFrontOf}
use Rattle.pcap_capture.specs.declared.fault.PcapFault.{PcapFault}
use Rattle.pcap_capture.specs.declared.fault.PcapFault.TheVariants as pcap
use Rattle.ds_marking.specs.declared.fault.MarkFault.{MarkFault}
use Rattle.ds_marking.specs.declared.fault.MarkFault.TheVariants.{Capture, NoMemory}

-- A front of a text is written behind what stood before, and the rest of it is left.
pub record IsWrittenTo (left before text after : List ℕ) : Type 0 where
  pub front : List ℕ
  pub whole : text ≡ front ++ left
  pub written : after ≡ before ++ front

-- what handing over a text comes to: it is written behind what stood before, or a front of it is
abbrev pub IsHandedOver : {T E : Type 0} → Result T E → List ℕ → List ℕ → List ℕ → Type 0
IsHandedOver result before text after =
    MatchResult result (λ _. after ≡ before ++ text) (λ _. IsFrontOf before text after)

-- whether a device that takes bytes failed
abbrev pub is_write : PcapFault → Bool
is_write pcap.WriteFault = true
is_write _ = false

-- whether the marked capture could not be written
abbrev pub is_write_fault : {T : Type 0} → Result T MarkFault → Bool
is_write_fault (Err (Capture fault)) = is_write fault
is_write_fault _ = false

-- how often a device failed by now, which fails once more, or not
abbrev pub failures_with : Bool → ℕ → ℕ
failures_with fails before = if fails then next_count before else before

abbrev pub failures_unless : Bool → ℕ → ℕ
failures_unless well before = if well then before else next_count before

-- what breaks the marking off: the marked capture could not be written, or memory ran out
abbrev pub IsBreak : MarkFault → Type 0
IsBreak fault = (fault ≡ Capture pcap.WriteFault) ⊎ (fault ≡ NoMemory)
