-- The faults of the program: their lines on standard error and its exit statuses.
use Rattle.std.specs.Prelude.{◌≡◌, ◌⊎◌, ℕ, ◌==◌, ◌||◌, nat_lt, if◌then◌else◌, List, [], ◌∷◌, ◌++◌, flat_map, codes, decimal}
use Rattle.ds_domain_base.specs.Faults.{field_text, kind_code, section_text}
use Rattle.ds_domain_base.specs.declared.fault.DomainFault.{DomainFault}
use Rattle.ds_certificate.specs.Faults.{fault_code}
use Rattle.ds_certificate.specs.declared.fault.CertificateFault.{CertificateFault}
use Rattle.ds_certificate.specs.declared.fault.CertificateFault.TheVariants as certificates
use Rattle.ds_broker.specs.declared.refusal.BrokerRefusal.{BrokerRefusal}
use Rattle.ds_broker.specs.declared.refusal.BrokerRefusal.TheVariants as refusals
use Rattle.ds_ledger_base.specs.declared.fault.BookFault.{BookFault}
use Rattle.ds_ledger_base.specs.declared.fault.BookFault.TheVariants as books
use Rattle.ds_ledger_base.specs.declared.fault.LedgerFault.{LedgerFault}
use Rattle.ds_ledger_base.specs.declared.fault.LedgerFault.TheVariants as ledgers
use Rattle.dsedge_texts.specs.Wording.{kind_text, text_or_dash}
use Rattle.pcap_capture.specs.Codes.{code_of}
use Rattle.pcap_capture.specs.Counts.{next_count}
use Rattle.pcap_capture.specs.Fronts.{IsFrontOf}
use Rattle.pcap_capture.specs.declared.fault.PcapFault.{PcapFault}
use Rattle.pcap_capture.specs.declared.fault.PcapFault.TheVariants as pcaps
use Rattle.dsedge_faults.specs.declared.fault.Fault.{Fault}
use Rattle.dsedge_faults.specs.declared.fault.Fault.TheVariants.{Usage, Line, Domain, Certificate, Capture, Port, Contract, File, Book, Read, Write, Memory, Full}
use Rattle.dsedge_faults.specs.declared.notice.Notice.{Notice}
use Rattle.dsedge_faults.specs.declared.notice.Notice.TheVariants as notices

-- a control character of ASCII is shown as `?`, so that a name stays on one line
abbrev pub shown_byte : ℕ → ℕ
shown_byte byte = if nat_lt byte 32 || byte == 127 then 63 else byte

-- how a name is shown
abbrev pub shown : List ℕ → List ℕ
shown name = flat_map (λ byte. shown_byte byte ∷ []) name

-- what is wrong with a domain, and where: CODE KIND SECTION INDEX FIELD
abbrev pub domain_fault_text : DomainFault → List ℕ
domain_fault_text fault =
    decimal (kind_code fault.kind) ++ codes " " ++ kind_text fault.kind ++ codes " " ++ section_text fault.section
    ++ codes " "
    ++ decimal fault.index ++ codes " " ++ text_or_dash (field_text fault.field)

-- the kind of what is wrong with a certificate
abbrev pub certificate_kind_text : CertificateFault → List ℕ
certificate_kind_text certificates.Text = codes "Text"
certificate_kind_text certificates.Shape = codes "Shape"
certificate_kind_text certificates.Range = codes "Range"
certificate_kind_text certificates.NoMemory = codes "NoMemory"

-- the kind of what is wrong with a capture
abbrev pub capture_kind_text : PcapFault → List ℕ
capture_kind_text pcaps.NotPcap = codes "NotPcap"
capture_kind_text pcaps.IsPcapng = codes "IsPcapng"
capture_kind_text pcaps.BadVersion = codes "BadVersion"
capture_kind_text (pcaps.LinkType number) = codes "LinkType"
capture_kind_text (pcaps.RecordTooLong count) = codes "RecordTooLong"
capture_kind_text pcaps.Truncated = codes "Truncated"
capture_kind_text pcaps.ReadFault = codes "ReadFault"
capture_kind_text pcaps.WriteFault = codes "WriteFault"
capture_kind_text pcaps.NoMemory = codes "NoMemory"
capture_kind_text pcaps.Failed = codes "Failed"
capture_kind_text pcaps.BadMagic = codes "BadMagic"
capture_kind_text (pcaps.BadLength size) = codes "BadLength"
capture_kind_text (pcaps.BlockTooLong size) = codes "BlockTooLong"
capture_kind_text pcaps.LengthsDiffer = codes "LengthsDiffer"
capture_kind_text (pcaps.UnknownInterface number) = codes "UnknownInterface"

-- CODE KIND
abbrev pub coded_text : ℕ → List ℕ → List ℕ
coded_text code kind = decimal code ++ codes " " ++ kind

-- what is wrong with a certificate, and with a capture
abbrev pub certificate_fault_text : CertificateFault → List ℕ
certificate_fault_text fault = coded_text (fault_code fault) (certificate_kind_text fault)

abbrev pub capture_fault_text : PcapFault → List ℕ
capture_fault_text fault = coded_text (code_of fault) (capture_kind_text fault)

-- what is wrong with the file of a book
abbrev pub ledger_fault_text : LedgerFault → List ℕ
ledger_fault_text ledgers.NoDatabase = codes "NoDatabase"
ledger_fault_text ledgers.Damaged = codes "Damaged"
ledger_fault_text ledgers.Form = codes "Form"
ledger_fault_text ledgers.Busy = codes "Busy"
ledger_fault_text ledgers.Open = codes "Open"
ledger_fault_text ledgers.Write = codes "Write"
ledger_fault_text ledgers.NoMemory = codes "NoMemory"

-- why a book refuses a command that it sold before
abbrev pub broker_refusal_text : BrokerRefusal → List ℕ
broker_refusal_text (refusals.Contract fault) = kind_text fault.kind
broker_refusal_text refusals.TableFull = codes "TableFull"
broker_refusal_text (refusals.Checker refusal) = codes "Checker"
broker_refusal_text refusals.UnknownId = codes "UnknownId"
broker_refusal_text refusals.AlreadyReleased = codes "AlreadyReleased"
broker_refusal_text refusals.HistoryFull = codes "HistoryFull"
broker_refusal_text refusals.NoMemory = codes "NoMemory"
broker_refusal_text refusals.NotReleased = codes "NotReleased"
broker_refusal_text (refusals.HoldLeft nanoseconds) = codes "HoldLeft"

-- KIND, or SERIAL REFUSAL
abbrev pub book_fault_text : BookFault → List ℕ
book_fault_text (books.Ledger fault) = ledger_fault_text fault
book_fault_text (books.Command refused) = decimal refused.serial ++ codes " " ++ broker_refusal_text refused.refusal

-- 3 where the file is none of a book that the domain can go on from, 4 where it is taken or fails, 5 for memory
abbrev pub ledger_status : LedgerFault → ℕ
ledger_status ledgers.NoDatabase = 3
ledger_status ledgers.Damaged = 3
ledger_status ledgers.Form = 3
ledger_status ledgers.Busy = 4
ledger_status ledgers.Open = 4
ledger_status ledgers.Write = 4
ledger_status ledgers.NoMemory = 5

abbrev pub book_status : BookFault → ℕ
book_status (books.Ledger fault) = ledger_status fault
book_status (books.Command refused) = 3

-- the line of a fault
abbrev pub fault_text : Fault → List ℕ
fault_text Usage = codes "dsedge: usage\n"
fault_text (Line number) = codes "dsedge: line " ++ decimal number ++ codes "\n"
fault_text (Domain fault) = codes "dsedge: domain " ++ domain_fault_text fault ++ codes "\n"
fault_text (Certificate place) = codes "dsedge: certificate " ++ certificate_fault_text place.fault ++ codes "\n"
fault_text (Capture fault) = codes "dsedge: capture " ++ capture_fault_text fault ++ codes "\n"
fault_text (Port name) = codes "dsedge: port " ++ shown name ++ codes "\n"
fault_text (Contract name) = codes "dsedge: contract " ++ shown name ++ codes "\n"
fault_text (File name reason) = codes "dsedge: file " ++ shown name ++ codes "\n"
fault_text (Book fault) = codes "dsedge: book " ++ book_fault_text fault ++ codes "\n"
fault_text Read = codes "dsedge: read\n"
fault_text Write = codes "dsedge: write\n"
fault_text Memory = codes "dsedge: memory\n"
fault_text Full = codes "dsedge: full\n"

-- the exit status of a fault: 2 usage, 3 input, 4 device, 5 memory or a full journal
abbrev pub status_of : Fault → ℕ
status_of Usage = 2
status_of (Line number) = 3
status_of (Domain fault) = 3
status_of (Certificate place) = 3
status_of (Capture fault) = 3
status_of (Port name) = 3
status_of (Contract name) = 3
status_of (File name reason) = 4
status_of (Book fault) = book_status fault
status_of Read = 4
status_of Write = 4
status_of Memory = 5
status_of Full = 5

-- what is told of a fault is its line, and of a table that the checker refuses, the checker's line as it is
abbrev pub notice_text : Notice → List ℕ
notice_text (notices.Fault fault) = fault_text fault
notice_text (notices.Refusal line) = line

-- A text was written behind what stood; or a front of it, where the device failed.
abbrev pub IsTold : List ℕ → List ℕ → List ℕ → ℕ → ℕ → Type 0
IsTold text before after failed now =
    (after ≡ before ++ text) ⊎ (IsFrontOf before text after × (now ≡ next_count failed))
