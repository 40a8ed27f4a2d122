-- The objects of JSON that say what the lines of faults say, and how these lines are made of them. Members stand in the
-- order of their keys.
use Rattle.std.specs.Prelude.{◌≡◌, ◌⊎◌, ℕ, ℤ, Bool, true, false, List, [], ◌∷◌, ◌++◌, codes, Option, None, Some}
use Rattle.serde_json.specs.Data.{Data, member, no_members, number, object, string, unsigned}
use Rattle.serde_json.specs.Find.{get, of_integer}
use Rattle.json_lines.specs.JsonLines.{line_of, word_in, words_before}
use Rattle.ds_certificate.specs.Faults.{fault_code}
use Rattle.ds_domain_base.specs.Faults.{field_text, kind_code, section_text}
use Rattle.ds_domain_base.specs.declared.fault.DomainFault.{DomainFault}
use Rattle.ds_ledger_base.specs.declared.fault.BookFault.{BookFault}
use Rattle.ds_ledger_base.specs.declared.fault.BookFault.TheVariants as books
use Rattle.ds_ledger_base.specs.declared.fault.LedgerFault.{LedgerFault}
use Rattle.ds_ledger_base.specs.declared.fault.RefusedReplay.{RefusedReplay}
use Rattle.pcap_capture.specs.Codes.{code_of}
use Rattle.pcap_capture.specs.declared.fault.PcapFault.{PcapFault}
use Rattle.pcap_capture.specs.declared.fault.PcapFault.TheVariants as pcaps
use Rattle.dsedge_json.specs.Blanks.{dash_before, text_or_null}
use Rattle.dsedge_faults.specs.Faults.{IsTold, broker_refusal_text, capture_kind_text, certificate_kind_text, fault_text, ledger_fault_text, shown}
use Rattle.dsedge_faults.specs.declared.advice.Advice.{Advice}
use Rattle.dsedge_faults.specs.declared.fault.Fault.{Fault}
use Rattle.dsedge_faults.specs.declared.fault.Fault.TheVariants.{Usage, Line, Domain, Certificate, Capture, Port, Contract, File, Book, Read, Write, Memory, Full}
use Rattle.dsedge_faults.specs.declared.notice.Notice.{Notice}
use Rattle.dsedge_faults.specs.declared.notice.Notice.TheVariants as notices
use Rattle.dsedge_texts.specs.Wording.{kind_text}
use Rattle.dsedge_texts.specs.declared.accepting.FaultyLine.{FaultyLine}
use Rattle.dsedge_texts.specs.declared.fault.Reason.{Reason}
use Rattle.dsedge_texts.specs.declared.fault.Reason.TheVariants.{Absent, Failed, System, TooLong}

-- the member by which faults differ
abbrev pub fault_key : List ℕ
fault_key = codes "fault"

-- a fault that one word tells
abbrev pub word_data : List ℕ → Data
word_data word = object (member fault_key (string word) no_members)

-- the line of a number is bad
abbrev pub line_data : ℕ → Data
line_data place = object
    (member fault_key (string (codes "line"))
    (member (codes "line") (number (unsigned place)) no_members))

-- the first fault of a domain's text, and where it stands; no field is told where none is meant
abbrev pub domain_data : DomainFault → Data
domain_data fault = object
    (member (codes "code") (number (unsigned (kind_code fault.kind)))
    (member fault_key (string (codes "domain"))
    (member (codes "field") (text_or_null (field_text fault.field))
    (member (codes "index") (number (unsigned fault.index))
    (member (codes "kind") (string (kind_text fault.kind))
    (member (codes "section") (string (section_text fault.section)) no_members))))))

-- the fault of a certificate's text, in the line of a number
abbrev pub certificate_data : FaultyLine → Data
certificate_data place = object
    (member (codes "code") (number (unsigned (fault_code place.fault)))
    (member fault_key (string (codes "certificate"))
    (member (codes "kind") (string (certificate_kind_text place.fault))
    (member (codes "line") (number (unsigned place.line)) no_members))))

-- the fault of a capture; and with it which interface is unknown, how long a record or a block is said to be, or which
-- link type the capture has
abbrev pub plain_data : PcapFault → Data
plain_data fault = object
    (member (codes "code") (number (unsigned (code_of fault)))
    (member fault_key (string (codes "capture"))
    (member (codes "kind") (string (capture_kind_text fault)) no_members)))

abbrev pub interface_data : PcapFault → ℕ → Data
interface_data fault place = object
    (member (codes "code") (number (unsigned (code_of fault)))
    (member fault_key (string (codes "capture"))
    (member (codes "interface") (number (unsigned place))
    (member (codes "kind") (string (capture_kind_text fault)) no_members))))

abbrev pub length_data : PcapFault → ℕ → Data
length_data fault size = object
    (member (codes "code") (number (unsigned (code_of fault)))
    (member fault_key (string (codes "capture"))
    (member (codes "kind") (string (capture_kind_text fault))
    (member (codes "length") (number (unsigned size)) no_members))))

abbrev pub link_type_data : PcapFault → ℕ → Data
link_type_data fault link_type = object
    (member (codes "code") (number (unsigned (code_of fault)))
    (member fault_key (string (codes "capture"))
    (member (codes "kind") (string (capture_kind_text fault))
    (member (codes "link_type") (number (unsigned link_type)) no_members))))

abbrev pub capture_data : PcapFault → Data
capture_data (pcaps.LinkType link_type) = link_type_data (pcaps.LinkType link_type) link_type
capture_data (pcaps.RecordTooLong count) = length_data (pcaps.RecordTooLong count) count
capture_data (pcaps.BadLength size) = length_data (pcaps.BadLength size) size
capture_data (pcaps.BlockTooLong size) = length_data (pcaps.BlockTooLong size) size
capture_data (pcaps.UnknownInterface place) = interface_data (pcaps.UnknownInterface place) place
capture_data fault = plain_data fault

-- there is no port or no contract of a name
abbrev pub name_data : List ℕ → List ℕ → Data
name_data word name = object
    (member fault_key (string word)
    (member (codes "name") (string name) no_members))

-- a file cannot be read, for a reason; and where the system refuses it, by the error of a number
abbrev pub reason_data : List ℕ → List ℕ → Data
reason_data name reason = object
    (member fault_key (string (codes "file"))
    (member (codes "name") (string name)
    (member (codes "reason") (string reason) no_members)))

abbrev pub error_data : List ℕ → ℤ → Data
error_data name error = object
    (member (codes "error") (number (of_integer error))
    (member fault_key (string (codes "file"))
    (member (codes "name") (string name)
    (member (codes "reason") (string (codes "System")) no_members))))

abbrev pub file_data : List ℕ → Reason → Data
file_data name Absent = reason_data name (codes "Absent")
file_data name (System error) = error_data name error
file_data name Failed = reason_data name (codes "Failed")
file_data name TooLong = reason_data name (codes "TooLong")

-- the file of a book is at fault, or the command of a serial is refused now that it keeps
abbrev pub ledger_data : LedgerFault → Data
ledger_data fault = object
    (member fault_key (string (codes "book"))
    (member (codes "kind") (string (ledger_fault_text fault)) no_members))

abbrev pub refused_data : RefusedReplay → Data
refused_data refused = object
    (member fault_key (string (codes "book"))
    (member (codes "refusal") (string (broker_refusal_text refused.refusal))
    (member (codes "serial") (number (unsigned refused.serial)) no_members)))

abbrev pub book_data : BookFault → Data
book_data (books.Ledger fault) = ledger_data fault
book_data (books.Command refused) = refused_data refused

abbrev pub fault_data : Fault → Data
fault_data Usage = word_data (codes "usage")
fault_data (Line place) = line_data place
fault_data (Domain fault) = domain_data fault
fault_data (Certificate place) = certificate_data place
fault_data (Capture fault) = capture_data fault
fault_data (Port name) = name_data (codes "port") name
fault_data (Contract name) = name_data (codes "contract") name
fault_data (File name reason) = file_data name reason
fault_data (Book fault) = book_data fault
fault_data Read = word_data (codes "read")
fault_data Write = word_data (codes "write")
fault_data Memory = word_data (codes "memory")
fault_data Full = word_data (codes "full")

-- ---- the line that it says

-- the keys of a fault, in the order of its line: those of one that has a number, and of the others
abbrev pub fault_keys : Option Data → List (List ℕ)
fault_keys (Some code) = fault_key ∷ codes "code" ∷ codes "kind" ∷ codes "section" ∷ codes "index" ∷ []
fault_keys None = fault_key ∷ codes "line" ∷ codes "serial" ∷ codes "refusal" ∷ codes "kind" ∷ []

-- a name, behind a space, as it is shown
abbrev pub name_before : Option Data → List ℕ → List ℕ
name_before None rest = rest
name_before (Some name) rest = codes " " ++ shown (word_in name) ++ rest

-- what stands on a line behind the words at the keys
abbrev pub fault_end : Data → List ℕ
fault_end content =
    name_before (get (codes "name") content) (dash_before (get (codes "field") content) (codes "\n"))

-- the line that the object of a fault is made of
abbrev pub fault_line_in : Data → List ℕ
fault_line_in content =
    codes "dsedge:" ++ words_before (fault_keys (get (codes "code") content)) content (fault_end content)

-- a text tells a fault by its object, or that memory ran out for that
abbrev pub IsObjectOf : Fault → List ℕ → Type 0
IsObjectOf fault text = (text ≡ line_of (fault_data fault)) ⊎ (text ≡ line_of (fault_data Memory))

-- a text tells a fault by its line, or where that is asked for, by its object
abbrev pub IsFaultTold : Bool → Fault → List ℕ → Type 0
IsFaultTold false fault text = text ≡ fault_text fault
IsFaultTold true fault text = IsObjectOf fault text

-- a text that is so was written behind what stood; or a front of it, where the device failed
abbrev pub IsToldBy : (List ℕ → Type 0) → List ℕ → List ℕ → ℕ → ℕ → Type 0
IsToldBy is before after failed now = (text : List ℕ) × is text × IsTold text before after failed now

-- behind an object there is nothing to say
abbrev pub advice_as : Bool → Option Advice → Option Advice
advice_as false advice = advice
advice_as true advice = None

-- a text tells what there is to tell of an outcome: a fault, or the checker's line as it is
abbrev pub IsNoticeTold : Bool → Notice → List ℕ → Type 0
IsNoticeTold in_json (notices.Fault fault) text = IsFaultTold in_json fault text
IsNoticeTold in_json (notices.Refusal line) text = text ≡ line
