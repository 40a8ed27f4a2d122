-- What is written and told where a capture is marked by several workers.
use Rattle.std.specs.Prelude.{◌≡◌, ◌⊎◌, ℕ, Bool, true, false, List, ◌++◌, Some, Result, Ok, Err}
use Rattle.capture_reader.specs.Formats.{bytes_before}
use Rattle.pcap_capture.specs.Counts.{next_count}
use Rattle.pcap_capture.specs.Frames.{FrameValue}
use Rattle.pcap_capture.specs.Fronts.{IsFrontOf}
use Rattle.pcap_capture.specs.declared.fault.PcapFault.{PcapFault}
use Rattle.pcap_capture.specs.declared.fault.PcapFault.TheVariants as pcaps
use Rattle.ds_checker.specs.Acceptance.{Table}
use Rattle.ds_conditioner.specs.Conditionings.{IsConditioned}
use Rattle.capture_reader.specs.Readings.{IsReadOn}
use Rattle.ds_marking.specs.Markings.{IsMarked}
use Rattle.ds_marking.specs.Passings.{IsBrokenOff}
use Rattle.ds_marking.specs.Writings.{failures_with, is_write_fault}
use Rattle.ds_marking.specs.declared.fault.MarkFault.{MarkFault}
use Rattle.ds_marking.specs.declared.fault.MarkFault.TheVariants as marks
use Rattle.ds_marking.specs.declared.marking.Passage.{Passage}
use Rattle.ds_conditioner.specs.declared.report.Report.{Report}
use Rattle.ds_conditioner.specs.declared.rule.RedRule.{RedRule}

-- what is told in the place of a fault where that of the device that takes bytes was lost, or not
abbrev pub fault_with : Bool → MarkFault → MarkFault
fault_with false fault = fault
fault_with true marks.NoMemory = marks.Capture pcaps.WriteFault
fault_with true fault = fault

-- What is answered then: that fault, in the place of want of memory.
abbrev pub answer_with : Bool → Result Report (Report × MarkFault) → Result Report (Report × MarkFault)
answer_with lost (Ok report) = Ok report
answer_with lost (Err (report, fault)) = Err (report, fault_with lost fault)

-- What was written and answered where more goes on while it is written: as always; or, where the device that takes
-- bytes failed and memory ran out as well, that it failed, with the report that is told where memory ran out.
abbrev pub IsMarkedBeside : Table → List ℕ → RedRule → List ℕ → List ℕ → List ℕ → List ℕ
    → Result Report (Report × MarkFault) → Type 0
IsMarkedBeside t port red bytes more before after answer =
    IsMarked t port red bytes more before after answer
    ⊎ ((report : Report) × (answer ≡ Err (report, marks.Capture pcaps.WriteFault))
    × IsMarked t port red bytes more before after (Err (report, marks.NoMemory)))

-- What was written and answered by so many workers: one of them does nothing while it writes.
abbrev pub IsMarkedBy : Bool → Table → List ℕ → RedRule → List ℕ → List ℕ → List ℕ → List ℕ
    → Result Report (Report × MarkFault) → Type 0
IsMarkedBy true t port red bytes more before after answer = IsMarked t port red bytes more before after answer
IsMarkedBy false t port red bytes more before after answer = IsMarkedBeside t port red bytes more before after answer

-- whether memory ran out
abbrev pub is_memory : {T : Type 0} → Result T MarkFault → Bool
is_memory (Err marks.NoMemory) = true
is_memory _ = false

-- What a device that takes bytes counted, by what turns came to: that it failed once more exactly where that is told.
-- Where more goes on while it is written to, want of memory can break the turns off as well, and its fault is lost: it
-- failed once more.
abbrev pub AreFailures : {T : Type 0} → Bool → Result T MarkFault → ℕ → ℕ → Type 0
AreFailures false result before now = now ≡ failures_with (is_write_fault result) before
AreFailures true result before now = (is_memory result ≡ true) × (now ≡ next_count before)

-- whether the fault of a device that takes bytes is lost: it failed, and told is that memory ran out
abbrev pub is_lost : {T : Type 0} → Result (Unit {0}) MarkFault → Result T MarkFault → Bool
is_lost (Err (marks.Capture pcaps.WriteFault)) result = is_memory result
is_lost _ result = false

-- A passage whose frames that were read are taken in, where nothing can be written any more: it is broken off.
abbrev pub IsUnwrittenOff : Passage → Passage → Result Bool PcapFault → MarkFault → Type 0
IsUnwrittenOff old new read fault = (bytes more before now text : List ℕ) (gone : List FrameValue)
    → old.progress.opening ≡ Some old.port.opening → IsReadOn gone bytes more old.progress read
    → IsConditioned old.port true gone text old.conditioner → IsFrontOf before (bytes_before old.port.opening ++ text) now
    → IsBrokenOff old.port bytes more before now new.conditioner fault
