-- The object of a fault has no float, nests nothing, and its line is made of it.
use Rattle.std.proofs.Common.{◌≡◌, ℕ, ◌≤◌, false, List, [], ◌∷◌, ◌++◌, codes, decimal, pos, negsuc, append_assoc, refl, ap, arith}
use Rattle.serde_json.specs.Data.{depth}
use Rattle.serde_json.specs.Read.{max_depth}
use Rattle.serde_json.specs.Written.{has_float}
use Rattle.ds_domain_base.specs.Faults.{field_text, kind_code, section_text}
use Rattle.ds_domain_base.specs.declared.fault.DomainFault.{DomainFault}
use Rattle.ds_ledger_base.specs.declared.fault.BookFault.{BookFault}
use Rattle.ds_ledger_base.specs.declared.fault.BookFault.TheVariants as books
use Rattle.pcap_capture.specs.Codes.{code_of}
use Rattle.pcap_capture.specs.declared.fault.PcapFault.{PcapFault}
use Rattle.pcap_capture.specs.declared.fault.PcapFault.TheVariants as pcaps
use Rattle.dsedge_json.proofs.BlankLaws.{text_flat, text_plain, text_said}
use Rattle.ds_certificate.specs.Faults.{fault_code}
use Rattle.dsedge_faults.specs.Faults.{broker_refusal_text, capture_kind_text, certificate_kind_text, coded_text, fault_text}
use Rattle.dsedge_faults.specs.declared.fault.Fault.{Fault}
use Rattle.dsedge_faults.specs.declared.fault.Fault.TheVariants.{Usage, Line, Domain, Certificate, Capture, Port, Contract, File, Book, Read, Write, Memory, Full}
use Rattle.dsedge_texts.specs.Wording.{kind_text, text_or_dash}
use Rattle.dsedge_texts.specs.declared.fault.Reason.{Reason}
use Rattle.dsedge_texts.specs.declared.fault.Reason.TheVariants.{Absent, Failed, System, TooLong}
use Rattle.dsedge_json_faults.specs.FaultObjects.{capture_data, fault_data, fault_line_in, file_data}

-- ---- no float

capture_plain : (fault : PcapFault) → has_float (capture_data fault) ≡ false
capture_plain pcaps.NotPcap = refl
capture_plain pcaps.IsPcapng = refl
capture_plain pcaps.BadVersion = refl
capture_plain (pcaps.LinkType number) = refl
capture_plain (pcaps.RecordTooLong count) = refl
capture_plain pcaps.Truncated = refl
capture_plain pcaps.ReadFault = refl
capture_plain pcaps.WriteFault = refl
capture_plain pcaps.NoMemory = refl
capture_plain pcaps.Failed = refl
capture_plain pcaps.BadMagic = refl
capture_plain (pcaps.BadLength size) = refl
capture_plain (pcaps.BlockTooLong size) = refl
capture_plain pcaps.LengthsDiffer = refl
capture_plain (pcaps.UnknownInterface number) = refl

file_plain : (name : List ℕ) (reason : Reason) → has_float (file_data name reason) ≡ false
file_plain name Absent = refl
file_plain name (System (pos n)) = refl
file_plain name (System (negsuc n)) = refl
file_plain name Failed = refl
file_plain name TooLong = refl

pub fault_plain : (fault : Fault) → has_float (fault_data fault) ≡ false
fault_plain Usage = refl
fault_plain (Line place) = refl
fault_plain (Domain fault) = rw (text_plain (field_text fault.field)) refl
fault_plain (Certificate place) = refl
fault_plain (Capture fault) = capture_plain fault
fault_plain (Port name) = refl
fault_plain (Contract name) = refl
fault_plain (File name reason) = file_plain name reason
fault_plain (Book (books.Ledger fault)) = refl
fault_plain (Book (books.Command refused)) = refl
fault_plain Read = refl
fault_plain Write = refl
fault_plain Memory = refl
fault_plain Full = refl

-- ---- nothing within

capture_flat : (fault : PcapFault) → depth (capture_data fault) ≡ 1
capture_flat pcaps.NotPcap = refl
capture_flat pcaps.IsPcapng = refl
capture_flat pcaps.BadVersion = refl
capture_flat (pcaps.LinkType number) = refl
capture_flat (pcaps.RecordTooLong count) = refl
capture_flat pcaps.Truncated = refl
capture_flat pcaps.ReadFault = refl
capture_flat pcaps.WriteFault = refl
capture_flat pcaps.NoMemory = refl
capture_flat pcaps.Failed = refl
capture_flat pcaps.BadMagic = refl
capture_flat (pcaps.BadLength size) = refl
capture_flat (pcaps.BlockTooLong size) = refl
capture_flat pcaps.LengthsDiffer = refl
capture_flat (pcaps.UnknownInterface number) = refl

file_flat : (name : List ℕ) (reason : Reason) → depth (file_data name reason) ≡ 1
file_flat name Absent = refl
file_flat name (System error) = refl
file_flat name Failed = refl
file_flat name TooLong = refl

book_flat : (fault : BookFault) → depth (fault_data (Book fault)) ≡ 1
book_flat (books.Ledger fault) = refl
book_flat (books.Command refused) = refl

fault_flat : (fault : Fault) → depth (fault_data fault) ≡ 1
fault_flat Usage = refl
fault_flat (Line place) = refl
fault_flat (Domain fault) = rw (text_flat (field_text fault.field)) refl
fault_flat (Certificate place) = refl
fault_flat (Capture fault) = capture_flat fault
fault_flat (Port name) = refl
fault_flat (Contract name) = refl
fault_flat (File name reason) = file_flat name reason
fault_flat (Book fault) = book_flat fault
fault_flat Read = refl
fault_flat Write = refl
fault_flat Memory = refl
fault_flat Full = refl

pub fault_shallow : (fault : Fault) → depth (fault_data fault) ≤ max_depth
fault_shallow fault = rw (fault_flat fault) (omega arith)

-- ---- the line

parts_joined : (a b c d e : List ℕ) → a ++ (32 ∷ (b ++ (32 ∷ (c ++ (32 ∷ (d ++ (32 ∷ (e ++ (10 ∷ []))))))))) ≡ (a ++ codes " " ++ b ++ codes " " ++ c ++ codes " " ++ d ++ codes " " ++ e) ++ codes "\n"
parts_joined a b c d e = simp append_assoc

domain_says : (fault : DomainFault) → fault_line_in (fault_data (Domain fault)) ≡ fault_text (Domain fault)
domain_says fault = rw (text_said (field_text fault.field))
    (ap (λ text. codes "dsedge: domain " ++ text)
    (parts_joined (decimal (kind_code fault.kind)) (kind_text fault.kind) (section_text fault.section) (decimal fault.index)
    (text_or_dash (field_text fault.field))))

coded_joined : (code kind : List ℕ) → code ++ (32 ∷ (kind ++ (10 ∷ []))) ≡ (code ++ codes " " ++ kind) ++ codes "\n"
coded_joined code kind = simp append_assoc

coded_said : (front : List ℕ) (code : ℕ) (kind : List ℕ) → front ++ (decimal code ++ (32 ∷ (kind ++ (10 ∷ [])))) ≡ front ++ (coded_text code kind ++ codes "\n")
coded_said front code kind = ap (λ text. front ++ text) (coded_joined (decimal code) kind)

capture_said : (fault : PcapFault) → codes "dsedge: capture " ++ (decimal (code_of fault) ++ (32 ∷ (capture_kind_text fault ++ (10 ∷ []))))
    ≡ fault_text (Capture fault)
capture_said fault = coded_said (codes "dsedge: capture ") (code_of fault) (capture_kind_text fault)

capture_says : (fault : PcapFault) → fault_line_in (capture_data fault) ≡ fault_text (Capture fault)
capture_says pcaps.NotPcap = capture_said pcaps.NotPcap
capture_says pcaps.IsPcapng = capture_said pcaps.IsPcapng
capture_says pcaps.BadVersion = capture_said pcaps.BadVersion
capture_says (pcaps.LinkType number) = capture_said (pcaps.LinkType number)
capture_says (pcaps.RecordTooLong count) = capture_said (pcaps.RecordTooLong count)
capture_says pcaps.Truncated = capture_said pcaps.Truncated
capture_says pcaps.ReadFault = capture_said pcaps.ReadFault
capture_says pcaps.WriteFault = capture_said pcaps.WriteFault
capture_says pcaps.NoMemory = capture_said pcaps.NoMemory
capture_says pcaps.Failed = capture_said pcaps.Failed
capture_says pcaps.BadMagic = capture_said pcaps.BadMagic
capture_says (pcaps.BadLength size) = capture_said (pcaps.BadLength size)
capture_says (pcaps.BlockTooLong size) = capture_said (pcaps.BlockTooLong size)
capture_says pcaps.LengthsDiffer = capture_said pcaps.LengthsDiffer
capture_says (pcaps.UnknownInterface number) = capture_said (pcaps.UnknownInterface number)

file_says : (name : List ℕ) (reason : Reason) → fault_line_in (file_data name reason) ≡ fault_text (File name reason)
file_says name Absent = refl
file_says name (System error) = refl
file_says name Failed = refl
file_says name TooLong = refl

pub fault_says : (fault : Fault) → fault_line_in (fault_data fault) ≡ fault_text fault
fault_says Usage = refl
fault_says (Line place) = refl
fault_says (Domain fault) = domain_says fault
fault_says (Certificate place) = coded_said (codes "dsedge: certificate ") (fault_code place.fault) (certificate_kind_text place.fault)
fault_says (Capture fault) = capture_says fault
fault_says (Port name) = refl
fault_says (Contract name) = refl
fault_says (File name reason) = file_says name reason
fault_says (Book (books.Ledger fault)) = refl
fault_says (Book (books.Command refused)) = coded_said (codes "dsedge: book ") refused.serial (broker_refusal_text refused.refusal)
fault_says Read = refl
fault_says Write = refl
fault_says Memory = refl
fault_says Full = refl
