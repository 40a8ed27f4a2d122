-- What is told of a marking: its report, and behind it the fault, if any.
use Rattle.std.proofs.Common.{◌≡◌, ℕ, Bool, List, [], ◌++◌, Option, None, Some, Result, Ok, Err, MatchResult, Vec, Global, ap, false, inl, inr, option_map, refl, subst, true, ◌⊎◌, ◌∙◌}
use Rattle.json_lines.specs.JsonLines.{line_of}
use Rattle.pcap_capture.specs.Fronts.{IsFrontOf}
use Rattle.pcap_capture.proofs.FrontLaws.{IsFrontOf-first}
use Rattle.ds_checker.specs.Acceptance.{Table}
use Rattle.ds_conditioner.specs.Reports.{nothing_read}
use Rattle.ds_conditioner.specs.declared.report.Report.{Report}
use Rattle.ds_marking.specs.declared.fault.MarkFault.{MarkFault}
use Rattle.ds_marking.specs.declared.fault.MarkFault.TheVariants as marks
use Rattle.dsedge_answers.specs.Replies.{refusal_outcome}
use Rattle.dsedge_answers.specs.declared.conclusion.Conclusion.{Conclusion}
use Rattle.dsedge_lines.specs.declared.fault.PumpFault.{PumpFault}
use Rattle.dsedge_texts.specs.declared.accepting.TableFault.{TableFault}
use Rattle.dsedge_texts.specs.declared.accepting.TableFault.TheVariants as tables
use Rattle.dsedge_faults.proofs.FrontLemmas.{behind_told}
use Rattle.dsedge_json_faults.specs.FaultObjects.{fault_data}
use Rattle.dsedge_serve.specs.Marked.{IsMarkFaultTold, IsMarkingTold, IsObjectText, IsObjectsText, IsReportFor, judged, judged_text, marking_fault, marking_fault_text, marking_told}
use Rattle.dsedge_serve.specs.Served.{IsPortlessBefore}
use Rattle.dsedge_serve.specs.declared.outcome.Outcome.TheVariants.{Answered, Marked}
use Rattle.dsedge_serve.specs.declared.outcome.ReportText.{ReportText}
use Rattle.dsedge_serve.specs.declared.outcome.ReportText.TheVariants.{Lines, Object}

-- how the report of an unknown port is told
pub unknown_told : (in_json has_verdict : Bool) (t : Table) (report : Report) (fault : MarkFault) (told : ReportText)
    → ◌≡◌ {A = Result Report (Report × MarkFault)} (Err (report, fault)) (Err (nothing_read, marks.UnknownPort)) → IsReportFor in_json has_verdict (Ok t) report told
    → (other : ReportText) × IsReportFor in_json has_verdict (Ok t) nothing_read other
    × (Marked report (Some fault) told ≡ Marked nothing_read (Some marks.UnknownPort) other)
unknown_told in_json has_verdict t report fault told same is =
    let both : ◌≡◌ {A = Report × MarkFault} (report, fault) (nothing_read, marks.UnknownPort) = cc in
    let reports : report ≡ nothing_read = ap (λ (p : Report × MarkFault). p.0) both in
    let faults : fault ≡ marks.UnknownPort = ap (λ (p : Report × MarkFault). p.1) both in (
      told,
      subst (λ (r : Report). IsReportFor in_json has_verdict (Ok t) r told) reports is,
      ap (λ (p : Report × MarkFault). Marked p.0 (Some p.1) told) both,
    )

-- some text would tell the report of an unknown port
some_report : (in_json has_verdict : Bool) (t : Table) → (told : ReportText) × IsReportFor in_json has_verdict (Ok t) nothing_read told
some_report false has_verdict t = (Lines (judged nothing_read.verdict has_verdict (Ok t)), (refl, refl))
some_report true has_verdict t = (Object None, (refl, tt))

-- where a table is refused that has no such port, memory ran out
pub refused_portless : (in_json has_verdict : Bool) (found : Result Table TableFault) (port : List ℕ) (fault : TableFault)
    (outcome : Result Conclusion PumpFault) → (fault ≡ tables.NoMemory) ⊎ (found ≡ Err fault) → outcome ≡ refusal_outcome fault
    → IsPortlessBefore in_json has_verdict found port (Answered outcome)
refused_portless in_json has_verdict (Ok t) port fault outcome (inl memory) is = λ unknown.
    let some = some_report in_json has_verdict t in
    (some.0, some.1, inr (ap (λ (o : Result Conclusion PumpFault). Answered o) (is ∙ ap refusal_outcome memory)))
refused_portless in_json has_verdict (Ok t) port fault outcome (inr refused) is = absurd (let e = refused in cc)
refused_portless in_json has_verdict (Err other) port fault outcome refused is = tt

-- some text tells the fault of a marking by its object
some_fault_text : (port : List ℕ) (fault : Option MarkFault) → (text : List ℕ) × IsMarkFaultTold true port fault text
some_fault_text port None = ([], refl)
some_fault_text port (Some fault) = (line_of (fault_data (marking_fault port fault)), inl refl)

-- the line of a fault tells it
fault_by_line : (port : List ℕ) (fault : Option MarkFault) → IsMarkFaultTold false port fault (marking_fault_text port fault)
fault_by_line port None = refl
fault_by_line port (Some fault) = refl

-- the lines of a marking tell it
pub told_by_lines : (report : Report) (line : Option (List ℕ)) (fault : Option MarkFault) (port : List ℕ)
    → IsMarkingTold report (Lines line) fault port (marking_told report line fault port)
told_by_lines report line fault port = record {
  front = judged_text report line;
  back = marking_fault_text port fault;
  both = refl;
  reported = refl;
  faulted = fault_by_line port fault;
}

-- its objects tell it
pub told_by_objects : (report : Report) (line : Option (Vec ℕ Global)) (fault : Option MarkFault) (port text : List ℕ)
    → IsObjectsText (option_map (λ (l : Vec ℕ Global). l.items) line) fault port text → IsMarkingTold report (Object line) fault port text
told_by_objects report line fault port text told =
    record { front = told.front; back = told.back; both = told.both; reported = told.reported; faulted = told.faulted }

-- two objects that were told one behind the other
pub objects_told : {E : Type 0} (result : Result (Unit {0}) E) (line : Option (List ℕ)) (fault : Option MarkFault) (port before mid after : List ℕ)
    → ((text : List ℕ) × IsObjectText line text × (mid ≡ before ++ text))
    → ((text : List ℕ) × IsMarkFaultTold true port fault text × MatchResult result (λ _. after ≡ mid ++ text) (λ _. IsFrontOf mid text after))
    → (text : List ℕ) × IsObjectsText line fault port text × MatchResult result (λ _. after ≡ before ++ text) (λ _. IsFrontOf before text after)
objects_told result line fault port before mid after first second = (
  first.0 ++ second.0,
  record { front = first.0; back = second.0; both = refl; reported = first.1; faulted = second.1 },
  behind_told result before mid after first.0 second.0 first.2 second.2,
)

-- a front of the first
pub front_told : (line : Option (List ℕ)) (fault : Option MarkFault) (port before after : List ℕ)
    → ((text : List ℕ) × IsObjectText line text × IsFrontOf before text after)
    → (text : List ℕ) × IsObjectsText line fault port text × IsFrontOf before text after
front_told line fault port before after first =
    let second = some_fault_text port fault in (
      first.0 ++ second.0,
      record { front = first.0; back = second.0; both = refl; reported = first.1; faulted = second.1 },
      IsFrontOf-first before after first.0 second.0 first.2,
    )
