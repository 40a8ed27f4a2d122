-- What there is to say behind the line of a fault, where it is read at a terminal.
use Rattle.std.specs.Prelude.{◌≡◌, ◌⊎◌, Bool, true, false, List, [], ◌∷◌, ◌++◌, ℕ, Option, None, Some, codes, decimal, string_bytes}
use Rattle.ds_certificate.specs.declared.fault.CertificateFault.{CertificateFault}
use Rattle.ds_certificate.specs.declared.fault.CertificateFault.TheVariants as certificates
use Rattle.dsedge_base.specs.Plans.{IsExplanationOf}
use Rattle.dsedge_base.specs.declared.explanation.Explanation.{Explanation}
use Rattle.dsedge_base.specs.declared.explanation.Explanation.TheVariants.{Form, Value, Workers}
use Rattle.dsedge_texts.specs.declared.accepting.FaultyLine.{FaultyLine}
use Rattle.dsedge_texts.specs.declared.fault.Reason.{Reason}
use Rattle.dsedge_texts.specs.declared.fault.Reason.TheVariants.{Absent, Failed, System, TooLong}
use Rattle.pcap_capture.specs.declared.fault.PcapFault.{PcapFault}
use Rattle.pcap_capture.specs.declared.fault.PcapFault.TheVariants as pcaps
use Rattle.dsedge_faults.specs.Faults.{IsTold}
use Rattle.dsedge_faults.specs.declared.advice.Advice.{Advice}
use Rattle.dsedge_faults.specs.declared.advice.Advice.TheVariants as advices
use Rattle.dsedge_faults.specs.declared.fault.Fault.{Fault}
use Rattle.dsedge_faults.specs.declared.fault.Fault.TheVariants.{Usage, Certificate, Capture, File}
use Rattle.dsedge_faults.specs.declared.notice.Notice.{Notice}
use Rattle.dsedge_faults.specs.declared.notice.Notice.TheVariants as notices

-- which link type a capture has, how long a record is said to be
abbrev pub advice_of_capture : PcapFault → Option Advice
advice_of_capture (pcaps.LinkType number) = Some (advices.LinkType number)
advice_of_capture (pcaps.RecordTooLong count) = Some (advices.RecordTooLong count)
advice_of_capture _ = None

-- which word is wrong, why a file cannot be read, which line of a certificate is at fault, what is wrong with a capture
abbrev pub advice_on : Fault → Option Advice
advice_on Usage = Some advices.Words
advice_on (File name reason) = Some (advices.File reason)
advice_on (Certificate place) = Some (advices.Certificate place)
advice_on (Capture fault) = advice_of_capture fault
advice_on _ = None

abbrev pub advice_behind : Notice → Option Advice
advice_behind (notices.Fault fault) = advice_on fault
advice_behind (notices.Refusal line) = None

-- what is wrong with a value of a command, and where help is
abbrev pub value_text : List ℕ → List ℕ → List ℕ
value_text fault command =
    codes "error: " ++ fault ++ codes "\n\nFor more information, try 'dsedge " ++ command ++ codes " --help'.\n"

-- why the words of a command give no plan: what the parser of command lines says of their form, or what of a value
abbrev pub explanation_text : Explanation → List ℕ → List ℕ
explanation_text (Form text) command = string_bytes text
explanation_text Workers command = value_text (codes "a capture is marked by 1 to 64 workers, as --workers 4") command
explanation_text Value command =
    value_text (codes "a value is none that its option takes, or an option goes with another kind of meter") command

-- Words are explained that are there, by what explains them. Memory may run out at any words.
abbrev pub IsExplanationText : List (List ℕ) → List ℕ → Type 0
IsExplanationText [] text = text ≡ []
IsExplanationText (command ∷ words) text = (text ≡ []) ⊎ ((explanation : Explanation)
    × IsExplanationOf (command ∷ words) explanation × (text ≡ explanation_text explanation command))

-- why a file cannot be read; what the system says is in its own words
abbrev pub IsReasonText : Reason → List ℕ → Type 0
IsReasonText Absent text = text ≡ codes "there is no such file\n"
IsReasonText (System number) text = Unit {0}
IsReasonText Failed text = text ≡ codes "it failed while it was read\n"
IsReasonText TooLong text = text ≡ codes "it has more than 16 MiB\n"

-- how a line of a certificate is at fault
abbrev pub certificate_advice : CertificateFault → List ℕ
certificate_advice certificates.Text = codes "a line is not one of a certificate"
certificate_advice certificates.Shape = codes "the certificate is not of these contracts"
certificate_advice certificates.Range = codes "a bound is out of range"
certificate_advice certificates.NoMemory = codes "out of memory"

abbrev pub place_advice : FaultyLine → List ℕ
place_advice place =
    codes "line " ++ decimal place.line ++ codes ": " ++ certificate_advice place.fault ++ codes "\n"

-- which link type a capture has, which are read, and what makes a capture of one
abbrev pub link_type_advice : ℕ → List ℕ
link_type_advice number = codes "link type " ++ decimal number
    ++ codes " is none of those that are read: 0, 1 (Ethernet), 12, 14, 101 (raw IP), 108, 113, 228, 229 and 276\n"
    ++ codes "Ethernet is captured by: tcpdump -i DEVICE -y EN10MB -w OUT.pcap\n"
    ++ codes "where frames are of one of these, say so by: editcap -T ether|rawip|rawip4 IN.pcap OUT.pcap\n"

-- how many bytes a record is said to have, and how many are read
abbrev pub record_advice : ℕ → List ℕ
record_advice count = codes "a record says that it has " ++ decimal count
    ++ codes " bytes, and 262144 are the most: the capture is damaged there\n"

-- what an advice says
abbrev pub IsAdviceText : List (List ℕ) → Advice → List ℕ → Type 0
IsAdviceText words advices.Words text = IsExplanationText words text
IsAdviceText words (advices.File reason) text = IsReasonText reason text
IsAdviceText words (advices.Certificate place) text = text ≡ place_advice place
IsAdviceText words (advices.LinkType number) text = text ≡ link_type_advice number
IsAdviceText words (advices.RecordTooLong count) text = text ≡ record_advice count

-- What there is to say was said, if anything, at a terminal and there alone.
abbrev pub IsAdvised : Bool → List (List ℕ) → Option Advice → List ℕ → List ℕ → ℕ → ℕ → Type 0
IsAdvised true words (Some advice) before after failed now =
    (text : List ℕ) × IsAdviceText words advice text × IsTold text before after failed now
IsAdvised true words None before after failed now = (after ≡ before) × (now ≡ failed)
IsAdvised false words advice before after failed now = (after ≡ before) × (now ≡ failed)

-- A line was told, and behind it, at a terminal and there alone, what there is to say.
pub record IsToldAt (at_terminal : Bool) (words : List (List ℕ)) (advice : Option Advice) (line before after : List ℕ)
    (failed now : ℕ) : Type 0 where
  pub between : List ℕ
  pub failures : ℕ
  pub told : IsTold line before between failed failures
  pub advised : IsAdvised at_terminal words advice between after failures now
