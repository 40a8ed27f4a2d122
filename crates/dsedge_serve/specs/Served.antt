-- What the program does for a plan.
use Rattle.std.specs.Prelude.{◌≡◌, ◌⊎◌, ℕ, Bool, true, false, if◌then◌else◌, List, [], ◌∷◌, Option, None, ⊤, Some, Result, Ok, Err, IfErr, IfOk, IfSome, string_bytes}
use Rattle.line_text.specs.Lines.{lines_of}
use Rattle.dsedge_arrivals.specs.Tellings.{is_broken_off as is_telling_broken_off, is_unwritten as is_telling_unwritten}
use Rattle.dsedge_arrivals.specs.declared.asking.ArrivalsFault.{ArrivalsFault}
use Rattle.dsedge_base.specs.Files.{Names}
use Rattle.dsedge_base.specs.declared.work.Plan.{Plan}
use Rattle.dsedge_base.specs.declared.work.Plan.TheVariants.{Arrivals, Audit, Book as BookPlan, Certify, Check, Draw, Drive, Envelope, Export, Headroom, Mark, Meter, Quote, Show}
use Rattle.dsedge_draw.specs.Drawings.{drawn_in}
use Rattle.dsedge_export.specs.Exported.{export_in}
use Rattle.ds_domain.specs.DomainTexts.{parse_of}
use Rattle.ds_domain_base.specs.Domains.{Domain, is_port}
use Rattle.ds_domain_base.specs.declared.contract.Contract.{Contract}
use Rattle.ds_domain_base.specs.declared.fault.DomainFault.{DomainFault}
use Rattle.ds_marking.specs.Markings.{is_broken_off as is_marking_broken_off, is_unread, is_unwritten}
use Rattle.ds_conditioner.specs.Reports.{nothing_read}
use Rattle.ds_marking.specs.declared.fault.MarkFault.TheVariants as marks
use Rattle.ds_conditioner.specs.declared.rule.RedRule.{RedRule}
use Rattle.dsedge_lines.specs.declared.command.Ending.TheVariants as endings
use Rattle.dsedge_lines.specs.declared.fault.PumpFault.{PumpFault}
use Rattle.dsedge_lines.specs.declared.fault.PumpFault.TheVariants as pump_faults
use Rattle.dsedge_lines.specs.Faults.{is_read_fault, is_write_fault}
use Rattle.dsedge_meter.specs.Metered.{answer_of, fresh_meter}
use Rattle.dsedge_meter.specs.Verdicts.{envelope_for, verdict_on}
use Rattle.ds_checker.specs.Acceptance.{Table}
use Rattle.ds_conductor.specs.Steps.{opened}
use Rattle.dsedge_audit.specs.Audited.{audit_from}
use Rattle.ds_broker.specs.Books.{Limits}
use Rattle.ds_broker.specs.declared.command.Command.{Command}
use Rattle.ds_ledger_base.specs.declared.fault.LedgerFault.{LedgerFault}
use Rattle.dsedge_book.specs.Held.{domain_in}
use Rattle.dsedge_book.specs.Told.{IsBookTold}
use Rattle.dsedge_book.specs.declared.held.HeldForm.{HeldForm}
use Rattle.dsedge_book.specs.declared.held.HeldForm.TheVariants as forms
use Rattle.dsedge_texts.specs.Accepted.{accepted_in}
use Rattle.dsedge_json.specs.Quotations.{quote_said}
use Rattle.dsedge_texts.specs.Quoted.{Told, quote_in}
use Rattle.dsedge_texts.specs.declared.quoting.QuoteFault.{QuoteFault}
use Rattle.dsedge_texts.specs.declared.quoting.QuoteFault.TheVariants as quotes
use Rattle.dsedge_texts.specs.declared.accepting.TableFault.{TableFault}
use Rattle.dsedge_texts.specs.declared.accepting.TableFault.TheVariants as tables
use Rattle.pcap_capture.specs.Takings.{is_read_fault as is_telling_unread}
use Rattle.dsedge_serve.specs.Told.{AreToldFor, outcome_of, refusal_for, IsTellingTold, telling_answer, telling_status}
use Rattle.dsedge_answers.specs.Replies.{IsOutcomeTold, IsServed, Reply, refusal_outcome, reply_by, reply_certified, reply_checked, reply_headed, reply_of, status_for, whole_text}
use Rattle.dsedge_answers.specs.declared.conclusion.Conclusion.{Conclusion}
use Rattle.dsedge_answers.specs.declared.conclusion.Conclusion.TheVariants.{Ended, Unaccepted, Uncertified, Unsound}
use Rattle.dsedge_faults.specs.declared.fault.Fault.TheVariants as faults
use Rattle.dsedge_faults.specs.Faults.{status_of}
use Rattle.dsedge_json_faults.specs.FaultObjects.{IsFaultTold}
use Rattle.dsedge_selling.specs.Sold.{IsSoldFrom, reply_sold}
use Rattle.dsedge_serve.specs.Marked.{IsMarkedOver, IsMarkingTold, IsReportFor, IsUnmarked, is_sole, marking_answer, marking_status, rule_said}
use Rattle.dsedge_serve.specs.declared.outcome.Outcome.{Outcome}
use Rattle.dsedge_serve.specs.declared.outcome.ReportText.{ReportText}
use Rattle.dsedge_serve.specs.declared.outcome.Outcome.TheVariants.{Answered, Marked, Misused, Portless, Told as ToldTo, Unnamed}

-- The run that lines say is judged over an accepted table; where the checker refuses the table, or a text has a fault,
-- that ends it before anything is written. Want of memory stands in no text.
abbrev pub reply_over : Bool → Result Table TableFault → List (List ℕ) → Reply
reply_over in_json (Ok table) lines = reply_of (audit_from in_json table (opened table) 1 lines)
reply_over in_json (Err (tables.Refused line)) lines = record { text = []; conclusion = Unaccepted line }
reply_over in_json (Err (tables.Domain fault)) lines = record { text = []; conclusion = Unsound fault }
reply_over in_json (Err (tables.Certificate fault)) lines = record { text = []; conclusion = Uncertified fault }
reply_over in_json (Err tables.NoMemory) lines = whole_text []

-- lines that tell a value, or `none` with the checker's line, which answers with no
abbrev pub reply_quoted : Told → Reply
reply_quoted told =
    record { text = told.0; conclusion = Ended (if told.1 then endings.Whole else endings.Refused) }

-- the text of the first file, and of the second
abbrev pub first_text : List (List ℕ) → List ℕ
first_text [] = []
first_text (text ∷ texts) = text

abbrev pub second_text : List (List ℕ) → List ℕ
second_text [] = []
second_text (text ∷ texts) = first_text texts

-- a reply was given, and not the marking of a capture
abbrev pub IsReplied : Reply → Outcome → List ℕ → List ℕ → Type 0
IsReplied reply (Answered outcome) before after = IsServed reply outcome before after
IsReplied reply Unnamed before after = ⊥
IsReplied reply Misused before after = ⊥
IsReplied reply (Marked report fault line) before after = ⊥
IsReplied reply Portless before after = ⊥
IsReplied reply (ToldTo fault) before after = ⊥

-- Contracts were sold: from the first command on, or where a file keeps the book, from those on that it keeps, as files
-- stand by their names.
abbrev pub IsSold : (List ℕ → Result (List Command) LedgerFault → Type 0) → Option (List ℕ) → Bool → Limits
    → Result (Domain × List Contract) DomainFault → List (List ℕ) → Outcome → List ℕ → List ℕ → Type 0
IsSold stands None in_json limits found lines outcome before after =
    IsReplied (reply_sold in_json limits found lines) outcome before after
IsSold stands (Some name) in_json limits found lines (Answered outcome) before after =
    IsSoldFrom (stands name) in_json limits found lines outcome before after
IsSold stands (Some name) in_json limits found lines Unnamed before after = ⊥
IsSold stands (Some name) in_json limits found lines Misused before after = ⊥
IsSold stands (Some name) in_json limits found lines (Marked report fault line) before after = ⊥
IsSold stands (Some name) in_json limits found lines Portless before after = ⊥
IsSold stands (Some name) in_json limits found lines (ToldTo fault) before after = ⊥

-- how what a book holds is told, by whether that is asked for as a domain text
abbrev pub form_said : Bool → HeldForm
form_said false = forms.List
form_said true = forms.Domain

-- what a book holds was told, and no capture was marked
abbrev pub IsHeld : (Result (List Command) LedgerFault → Type 0) → Result Domain DomainFault → HeldForm → Outcome → List ℕ → List ℕ → Type 0
IsHeld stands found form (Answered outcome) before after = IsBookTold stands found form outcome before after
IsHeld stands found form Unnamed before after = ⊥
IsHeld stands found form Misused before after = ⊥
IsHeld stands found form (Marked report fault line) before after = ⊥
IsHeld stands found form Portless before after = ⊥
IsHeld stands found form (ToldTo fault) before after = ⊥

-- a capture was marked at this port of a table, if that is accepted, by one worker or by several, and the report is told
-- by an object, or by lines, with the verdict or without
abbrev pub IsMarkedAt : Bool → Bool → Bool → Result Table TableFault → List ℕ → RedRule → List ℕ → List ℕ → Outcome → List ℕ
    → List ℕ → Type 0
IsMarkedAt in_json has_verdict sole found port red bytes more (Answered outcome) before after = IsUnmarked found outcome before after
IsMarkedAt in_json has_verdict sole found port red bytes more Unnamed before after = ⊥
IsMarkedAt in_json has_verdict sole found port red bytes more Misused before after = ⊥
IsMarkedAt in_json has_verdict sole found port red bytes more (Marked report fault told) before after =
    IsMarkedOver sole found port red bytes more report fault before after × IsReportFor in_json has_verdict found report told
IsMarkedAt in_json has_verdict sole found port red bytes more Portless before after = ⊥
IsMarkedAt in_json has_verdict sole found port red bytes more (ToldTo fault) before after = ⊥

-- a quote was answered, or the fault of the domain's text ended it before anything was written; for another fault memory
-- ran out before it was found
abbrev pub IsQuoteReplied : Result Told QuoteFault → Result Conclusion PumpFault → List ℕ → List ℕ → Type 0
IsQuoteReplied (Ok told) outcome before after = IsServed (reply_quoted told) outcome before after
IsQuoteReplied (Err (quotes.Domain fault)) outcome before after =
    IsServed (record { text = []; conclusion = Unsound fault }) outcome before after
IsQuoteReplied (Err fault) outcome before after = (outcome ≡ Err pump_faults.NoMemory) × (after ≡ before)

-- a quote or an export was answered, or nothing was written since there is no contract of the name, or no such field or
-- meter
abbrev pub IsQuoted : Result Told QuoteFault → Outcome → List ℕ → List ℕ → Type 0
IsQuoted found (Answered outcome) before after = IsQuoteReplied found outcome before after
IsQuoted found Unnamed before after = (found ≡ Err quotes.Unnamed) × (after ≡ before)
IsQuoted found Misused before after = (found ≡ Err quotes.NoField) × (after ≡ before)
IsQuoted found (Marked report fault line) before after = ⊥
IsQuoted found Portless before after = ⊥
IsQuoted found (ToldTo fault) before after = ⊥

-- What a plan asks for was written, for the texts of its files and the bytes that the input had, of which it still has
-- more.
abbrev pub IsAnswered : (List ℕ → Result (List Command) LedgerFault → Type 0) → Plan → List (List ℕ) → List ℕ → List ℕ → Outcome
    → List ℕ → List ℕ → Type 0
IsAnswered stands (Show text) texts bytes more outcome before after =
    IsReplied (whole_text (string_bytes text)) outcome before after
IsAnswered stands (Meter meter has_levels in_json) texts bytes more outcome before after =
    IsReplied (reply_of (answer_of (fresh_meter meter has_levels in_json) 1 (lines_of bytes))) outcome before after
IsAnswered stands (Envelope rate burst in_json) texts bytes more outcome before after =
    IsReplied (reply_of (verdict_on (envelope_for rate burst) in_json (lines_of bytes))) outcome before after
IsAnswered stands (Certify domain in_json) texts bytes more outcome before after =
    IsReplied (reply_certified in_json (first_text texts)) outcome before after
IsAnswered stands (Check domain certificate in_json) texts bytes more outcome before after =
    IsReplied (reply_checked in_json (first_text texts) (second_text texts)) outcome before after
IsAnswered stands (Headroom domain in_json) texts bytes more outcome before after =
    IsReplied (reply_headed in_json (first_text texts)) outcome before after
IsAnswered stands (Draw domain) texts bytes more outcome before after =
    IsReplied (reply_by (drawn_in (first_text texts))) outcome before after
IsAnswered stands (Quote domain contract asked in_json) texts bytes more outcome before after =
    IsQuoted (quote_said in_json (quote_in (first_text texts) contract asked)) outcome before after
IsAnswered stands (Export domain meter device) texts bytes more outcome before after =
    IsQuoted (export_in (first_text texts) meter device) outcome before after
IsAnswered stands (Audit domain certificate in_json) texts bytes more outcome before after =
    IsReplied (reply_over in_json (accepted_in (first_text texts) (second_text texts)) (lines_of bytes)) outcome before after
IsAnswered stands (Drive domain limits book in_json) texts bytes more outcome before after =
    IsSold stands book in_json limits (parse_of (first_text texts)) (lines_of bytes) outcome before after
IsAnswered stands (BookPlan domain book to_domain) texts bytes more outcome before after =
    IsHeld (stands book) (domain_in (parse_of (first_text texts))) (form_said to_domain) outcome before after
IsAnswered stands (Mark domain certificate port workers keeps_red has_verdict in_json) texts bytes more outcome before after =
    IsMarkedAt in_json has_verdict (is_sole workers) (accepted_in (first_text texts) (second_text texts)) port
    (rule_said keeps_red) bytes more outcome before after
IsAnswered stands (Arrivals place has_colours) texts bytes more outcome before after =
    AreToldFor place has_colours (first_text texts) bytes more outcome before after

-- the outcome that is known before a device is touched, or want of memory
abbrev pub IsSettled : Outcome → Outcome → Type 0
IsSettled known outcome = (outcome ≡ known) ⊎ (outcome ≡ Answered (Err pump_faults.NoMemory))

-- Where a run's or a marking's table is not accepted, the outcome is settled whatever the devices do; and so it is where
-- the table has no port of the name.
abbrev pub IsRefusedBefore : Result Table TableFault → Outcome → Type 0
IsRefusedBefore found outcome = IfErr found (λ fault. IsSettled (Answered (refusal_outcome fault)) outcome)

abbrev pub IsPortlessBefore : Bool → Bool → Result Table TableFault → List ℕ → Outcome → Type 0
IsPortlessBefore in_json has_verdict found port outcome = IfOk found
    (λ t. is_port t.domain port ≡ false → (told : ReportText)
    × IsReportFor in_json has_verdict (Ok t) nothing_read told
    × IsSettled (Marked nothing_read (Some marks.UnknownPort) told) outcome)

-- Where a domain's text has a fault, the outcome is settled whatever the devices do.
abbrev pub IsUnsoundBefore : Result (Domain × List Contract) DomainFault → Outcome → Type 0
IsUnsoundBefore found outcome = IfErr found (λ fault. IsSettled (Answered (Ok (Unsound fault))) outcome)

-- Where something stands against arrivals before anything is read, the outcome is settled whatever the devices do.
abbrev pub IsRefusedAhead : Option ArrivalsFault → Outcome → Type 0
IsRefusedAhead refusal outcome = IfSome refusal (λ fault. IsSettled (outcome_of (Err fault)) outcome)

-- what is settled of a plan's outcome, for the texts of its files
abbrev pub IsForeseen : Plan → List (List ℕ) → Outcome → Type 0
IsForeseen (Show text) texts outcome = ⊤
IsForeseen (Meter meter has_levels in_json) texts outcome = ⊤
IsForeseen (Envelope rate burst in_json) texts outcome = ⊤
IsForeseen (Certify domain in_json) texts outcome = ⊤
IsForeseen (Check domain certificate in_json) texts outcome = ⊤
IsForeseen (Headroom domain in_json) texts outcome = ⊤
IsForeseen (Draw domain) texts outcome = ⊤
IsForeseen (Quote domain contract asked in_json) texts outcome = ⊤
IsForeseen (Export domain meter device) texts outcome = ⊤
IsForeseen (Audit domain certificate in_json) texts outcome =
    IsRefusedBefore (accepted_in (first_text texts) (second_text texts)) outcome
IsForeseen (Drive domain limits book in_json) texts outcome = IsUnsoundBefore (parse_of (first_text texts)) outcome
IsForeseen (BookPlan domain book to_domain) texts outcome = IsUnsoundBefore (parse_of (first_text texts)) outcome
IsForeseen (Mark domain certificate port workers keeps_red has_verdict in_json) texts outcome =
    IsRefusedBefore (accepted_in (first_text texts) (second_text texts)) outcome
    × IsPortlessBefore in_json has_verdict (accepted_in (first_text texts) (second_text texts)) port outcome
IsForeseen (Arrivals place has_colours) texts outcome = IsRefusedAhead (refusal_for place has_colours (first_text texts)) outcome

-- whether the output could not be written
abbrev pub is_output_fault : Outcome → Bool
is_output_fault (Answered outcome) = is_write_fault outcome
is_output_fault Unnamed = false
is_output_fault Misused = false
is_output_fault (Marked report fault line) = is_unwritten (marking_answer report fault)
is_output_fault Portless = false
is_output_fault (ToldTo fault) = is_telling_unwritten (telling_answer fault)

-- whether the input could not be read
abbrev pub is_input_fault : Outcome → Bool
is_input_fault (Answered outcome) = is_read_fault outcome
is_input_fault Unnamed = false
is_input_fault Misused = false
is_input_fault (Marked report fault line) = is_unread (marking_answer report fault)
is_input_fault Portless = false
is_input_fault (ToldTo fault) = is_telling_unread (telling_answer fault)

-- whether the outcome is that of a marking that was broken off, which tells nothing of the input
abbrev pub is_broken_off : Outcome → Bool
is_broken_off (Answered outcome) = false
is_broken_off Unnamed = false
is_broken_off Misused = false
is_broken_off (Marked report fault line) = is_marking_broken_off (marking_answer report fault)
is_broken_off Portless = false
is_broken_off (ToldTo fault) = is_telling_broken_off (telling_answer fault)

-- whether a field was asked for that its contract has not
abbrev pub is_misused : Outcome → Bool
is_misused Misused = true
is_misused _ = false

-- the exit status of a plan that went so, by the names that it gives of a port and of a contract
abbrev pub status_after : Names → Outcome → ℕ
status_after names (Answered outcome) = status_for outcome
status_after names Unnamed = status_of (faults.Contract names.contract)
status_after names Misused = status_of faults.Usage
status_after names (Marked report fault line) = marking_status fault names.port
status_after names Portless = status_of (faults.Port names.port)
status_after names (ToldTo fault) = telling_status fault

-- a text tells that on standard error, by lines or by objects
abbrev pub IsToldAfter : Bool → Names → Outcome → List ℕ → Type 0
IsToldAfter in_json names (Answered outcome) text = IsOutcomeTold in_json outcome text
IsToldAfter in_json names Unnamed text = IsFaultTold in_json (faults.Contract names.contract) text
IsToldAfter in_json names Misused text = IsFaultTold in_json faults.Usage text
IsToldAfter in_json names (Marked report fault told) text = IsMarkingTold report told fault names.port text
IsToldAfter in_json names Portless text = IsFaultTold in_json (faults.Port names.port) text
IsToldAfter in_json names (ToldTo fault) text = IsTellingTold in_json fault text
