-- What `mark` writes and tells.
use Rattle.std.specs.Prelude.{◌≡◌, ◌⊎◌, ℕ, Bool, true, false, List, [], ◌++◌, nat_lt, Option, None, Some, IfSome, Result, Ok, Err, option_map, unwrap_or}
use Rattle.pcap_capture.specs.declared.fault.PcapFault.{PcapFault}
use Rattle.pcap_capture.specs.declared.fault.PcapFault.TheVariants as pcaps
use Rattle.ds_conductor.specs.Workings.{IsMarkedBy}
use Rattle.ds_marking.specs.declared.fault.MarkFault.{MarkFault}
use Rattle.ds_marking.specs.declared.fault.MarkFault.TheVariants as marks
use Rattle.ds_conditioner.specs.declared.report.Report.{Report}
use Rattle.ds_conditioner.specs.declared.rule.RedRule.{RedRule}
use Rattle.ds_conditioner.specs.declared.rule.RedRule.TheVariants.{Drop, Keep}
use Rattle.run_audit.specs.declared.verdict.Verdict.{Verdict}
use Rattle.dsedge_audit.specs.Audited.{verdict_line}
use Rattle.json_lines.specs.JsonLines.{line_of}
use Rattle.dsedge_json_faults.specs.FaultObjects.{IsFaultTold, IsObjectOf}
use Rattle.dsedge_report.specs.ReportObjects.{report_data}
use Rattle.dsedge_report.specs.Reports.{report_text}
use Rattle.dsedge_serve.specs.declared.outcome.ReportText.{ReportText}
use Rattle.dsedge_serve.specs.declared.outcome.ReportText.TheVariants.{Lines, Object}
use Rattle.ds_checker.specs.Acceptance.{Table}
use Rattle.dsedge_lines.specs.declared.fault.PumpFault.{PumpFault}
use Rattle.dsedge_lines.specs.declared.fault.PumpFault.TheVariants as pump_faults
use Rattle.dsedge_texts.specs.declared.accepting.TableFault.{TableFault}
use Rattle.dsedge_faults.specs.Faults.{fault_text, status_of}
use Rattle.dsedge_answers.specs.Replies.{refusal_outcome}
use Rattle.dsedge_answers.specs.declared.conclusion.Conclusion.{Conclusion}
use Rattle.dsedge_faults.specs.declared.fault.Fault.{Fault}
use Rattle.dsedge_faults.specs.declared.fault.Fault.TheVariants as faults

-- what is told of a fault of a capture: a device's by its own line, the others by their number and kind
abbrev pub capture_fault : PcapFault → Fault
capture_fault pcaps.ReadFault = faults.Read
capture_fault pcaps.WriteFault = faults.Write
capture_fault pcaps.NoMemory = faults.Memory
capture_fault fault = faults.Capture fault

-- what is told where a capture was not marked to its end at the port of a name
abbrev pub marking_fault : List ℕ → MarkFault → Fault
marking_fault port (marks.Capture fault) = capture_fault fault
marking_fault port marks.UnknownPort = faults.Port port
marking_fault port marks.JournalFull = faults.Full
marking_fault port marks.NoMemory = faults.Memory

abbrev pub marking_fault_text : List ℕ → Option MarkFault → List ℕ
marking_fault_text port None = []
marking_fault_text port (Some fault) = fault_text (marking_fault port fault)

-- the line of a verdict, where it is asked for and there is one
abbrev pub judged : Option Verdict → Bool → Result Table TableFault → Option (List ℕ)
judged None has_verdict found = None
judged (Some verdict) true (Ok table) = Some (verdict_line table verdict)
judged (Some verdict) has_verdict found = None

-- a report, and the line of the verdict behind it, if there is one
abbrev pub judged_text : Report → Option (List ℕ) → List ℕ
judged_text report line = report_text report ++ unwrap_or line []

-- the report of a marking over a table was made: its lines, with that of the verdict where it is asked for; or its object
abbrev pub IsReportLine : Result Table TableFault → Report → List ℕ → Type 0
IsReportLine (Ok t) report line = line ≡ line_of (report_data t report)
IsReportLine (Err fault) report line = ⊥

abbrev pub IsReportFor : Bool → Bool → Result Table TableFault → Report → ReportText → Type 0
IsReportFor in_json has_verdict found report (Lines line) =
    (in_json ≡ false) × (line ≡ judged report.verdict has_verdict found)
IsReportFor in_json has_verdict found report (Object line) =
    (in_json ≡ true) × IfSome line (λ text. IsReportLine found report text.items)

-- whether a report is told by an object
abbrev pub is_object : ReportText → Bool
is_object (Lines line) = false
is_object (Object line) = true

-- a text is the line of an object; where memory ran out for it, that
abbrev pub IsObjectText : Option (List ℕ) → List ℕ → Type 0
IsObjectText (Some line) text = text ≡ line
IsObjectText None text = IsObjectOf faults.Memory text

-- a text tells a report
abbrev pub IsReportTold : Report → ReportText → List ℕ → Type 0
IsReportTold report (Lines line) text = text ≡ judged_text report line
IsReportTold report (Object line) text = IsObjectText (option_map (λ l. l.items) line) text

-- a text tells the fault of a marking, if any
abbrev pub IsMarkFaultTold : Bool → List ℕ → Option MarkFault → List ℕ → Type 0
IsMarkFaultTold in_json port None text = text ≡ []
IsMarkFaultTold in_json port (Some fault) text = IsFaultTold in_json (marking_fault port fault) text

-- a text is the line of an object, and behind it that of the fault of a marking, if any
pub record IsObjectsText (line : Option (List ℕ)) (fault : Option MarkFault) (port text : List ℕ) : Type 0 where
  pub front : List ℕ
  pub back : List ℕ
  pub both : text ≡ front ++ back
  pub reported : IsObjectText line front
  pub faulted : IsMarkFaultTold true port fault back

-- what is told of a marked capture: its report with the verdict, and behind them the fault
pub record IsMarkingTold (report : Report) (told : ReportText) (fault : Option MarkFault) (port text : List ℕ) : Type 0 where
  pub front : List ℕ
  pub back : List ℕ
  pub both : text ≡ front ++ back
  pub reported : IsReportTold report told front
  pub faulted : IsMarkFaultTold (is_object told) port fault back

-- its lines
abbrev pub marking_told : Report → Option (List ℕ) → Option MarkFault → List ℕ → List ℕ
marking_told report line fault port = judged_text report line ++ marking_fault_text port fault

abbrev pub marking_status : Option MarkFault → List ℕ → ℕ
marking_status None port = 0
marking_status (Some fault) port = status_of (marking_fault port fault)

-- the rule that a word says
abbrev pub rule_said : Bool → RedRule
rule_said true = Keep
rule_said false = Drop

-- what the marking of a capture answered
abbrev pub marking_answer : Report → Option MarkFault → Result Report (Report × MarkFault)
marking_answer report None = Ok report
marking_answer report (Some fault) = Err (report, fault)

-- Whether one worker is asked for. Where it is left to the program how many mark, several may.
abbrev pub is_sole : Option ℕ → Bool
is_sole None = false
is_sole (Some workers) = nat_lt workers 2

-- The capture of an accepted table was marked, by one worker or by several, with this report and this fault.
abbrev pub IsMarkedOver : Bool → Result Table TableFault → List ℕ → RedRule → List ℕ → List ℕ → Report
    → Option MarkFault → List ℕ → List ℕ → Type 0
IsMarkedOver sole found port red bytes more report fault before after =
    (table : Table) × (found ≡ Ok table)
    × IsMarkedBy sole table port red bytes more before after (marking_answer report fault)

-- Nothing was written: no table is accepted, for what stands against it; or memory ran out.
abbrev pub IsUnmarked : Result Table TableFault → Result Conclusion PumpFault → List ℕ → List ℕ → Type 0
IsUnmarked found outcome before after =
    (after ≡ before) × ((outcome ≡ Err pump_faults.NoMemory)
    ⊎ ((fault : TableFault) × (found ≡ Err fault) × (outcome ≡ refusal_outcome fault)))
