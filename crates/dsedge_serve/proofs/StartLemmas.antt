-- What becomes of a start.
use Rattle.std.proofs.Common.{◌≡◌, ◌≢◌, ℕ, List, [], ◌∷◌, None, Some, Result, Ok, Err, refl, arith, inr, subst, sym, true, false, map, length, ◌==◌, ◌||◌, ap, bytes_eq, codes}
use Rattle.std.specs.List.{list_any}
use Rattle.pcap_capture.specs.Counts.{IsOfReads}
use Rattle.pcap_capture.proofs.CountLaws.{reads_from}
use Rattle.pcap_capture.specs.declared.fault.PcapFault.TheVariants as pcaps
use Rattle.dsedge_base.specs.declared.fault.UsageFault.{UsageFault}
use Rattle.dsedge_base.specs.declared.fault.UsageFault.TheVariants as usage_faults
use Rattle.dsedge_base.specs.Files.{Names, names_of}
use Rattle.dsedge_base.specs.Plans.{IsPlanOf, IsRefusalOf}
use Rattle.dsedge_base.specs.declared.work.Plan.{Plan}
use Rattle.dsedge_lines.specs.FirstLine.{is_read_fault}
use Rattle.dsedge_lines.specs.declared.words.FirstLineFault.{FirstLineFault}
use Rattle.dsedge_lines.specs.declared.words.FirstLineFault.TheVariants as first_line_faults
use Rattle.dsedge_lines.specs.declared.command.Ending.TheVariants as endings
use Rattle.dsedge_lines.specs.declared.fault.PumpFault.TheVariants as pump_faults
use Rattle.ds_broker.specs.declared.command.Command.{Command}
use Rattle.ds_ledger_base.specs.declared.fault.BookFault.TheVariants as books
use Rattle.ds_ledger_base.specs.declared.fault.LedgerFault.{LedgerFault}
use Rattle.ds_ledger_base.specs.declared.fault.LedgerFault.TheVariants as ledgers
use Rattle.ds_marking.specs.declared.fault.MarkFault.TheVariants as marks
use Rattle.dsedge_answers.specs.declared.conclusion.Conclusion.TheVariants.{Ended, Unaccepted, Uncertified, Unkept, Unsound}
use Rattle.dsedge_serve.specs.declared.outcome.Outcome.{Outcome}
use Rattle.dsedge_serve.specs.declared.outcome.Outcome.TheVariants.{Answered, Marked, Misused, Portless, Told, Unnamed}
use Rattle.dsedge_json_faults.specs.FaultObjects.{IsToldBy}
use Rattle.dsedge_serve.specs.Served.{IsAnswered, is_misused, status_after}
use Rattle.dsedge_serve.specs.Spoken.{IsToldBehind}
use Rattle.dsedge_serve.specs.Started.{Course, HasWords, IsCourseFrom, IsCourseOn, IsCourseWith, IsRefused, IsWordless, IsWritten, LacksWords, asks_json, fault_of_line, fault_of_words, input_from, is_broken_off, is_read, is_unread, status_in, words_from}
use Rattle.dsedge_serve.specs.Started.Course.{Refused, Served, Unread}

-- words that are given are some
pub some_mapped : {X Y : Type 0} (f : X → Y) (xs : List X) → (length xs == 0) ≡ false → map f xs ≢ []
some_mapped f [] some = let none : ⊥ = cc in absurd none
some_mapped f (x ∷ xs) some = λ e. cc

-- words that are not given are none
pub none_mapped : {X Y : Type 0} (f : X → Y) (xs : List X) → (length xs == 0) ≡ true → map f xs ≡ []
none_mapped f [] none = refl
none_mapped f (x ∷ xs) none = let e : length (x ∷ xs) ≡ 0 = grind (arith, none) in absurd (omega (arith, e))

-- words ask for objects as their texts do
pub asks_mapped : {X : Type 0} (text : X → List ℕ) (words : List X)
    → list_any (λ (word : X). bytes_eq (text word) (codes "--json")) words ≡ asks_json (map text words)
asks_mapped text [] = refl
asks_mapped text (word ∷ words) = ap (λ b. bytes_eq (text word) (codes "--json") || b) (asks_mapped text words)

-- words that are refused ask for nothing
pub is_refused : (words : List (List ℕ)) (fault : UsageFault) → IsRefusalOf words fault → IsRefused words (fault_of_words fault)
is_refused words usage_faults.Usage is = is
is_refused words usage_faults.NoMemory is = tt

-- their fault is none of the input
pub refused_unread : (fault : UsageFault) (failed calls : ℕ) → IsOfReads (is_read (fault_of_words fault)) failed failed calls
refused_unread usage_faults.Usage failed calls = refl
refused_unread usage_faults.NoMemory failed calls = refl

-- a first line that is refused gives no words
pub is_wordless : (bytes : List ℕ) (fault : FirstLineFault) → (fault ≡ first_line_faults.Usage → LacksWords [] bytes)
    → IsWordless [] bytes (fault_of_line fault)
is_wordless bytes first_line_faults.Usage lacks = lacks refl
is_wordless bytes first_line_faults.Read lacks = refl
is_wordless bytes first_line_faults.NoMemory lacks = tt

-- its fault is the input's
pub unread_line : (fault : FirstLineFault) (failed now calls : ℕ) → IsOfReads (is_read_fault {T = Unit {0}} (Err fault)) failed now calls
    → IsOfReads (is_read (fault_of_line fault)) failed now calls
unread_line first_line_faults.Usage failed now calls reads = reads
unread_line first_line_faults.Read failed now calls reads = reads
unread_line first_line_faults.NoMemory failed now calls reads = reads

-- no plan that was served ends as usage does, but one of a field that its contract has not
served_is_no_usage : (port : Names) (outcome : Outcome) → status_after port outcome ≡ 2 → is_misused outcome ≡ true
served_is_no_usage port Unnamed e = absurd (omega (arith, e))
served_is_no_usage port Misused e = refl
served_is_no_usage port (Answered (Ok (Ended endings.Whole))) e = absurd (omega (arith, e))
served_is_no_usage port (Answered (Ok (Ended endings.Refused))) e = absurd (omega (arith, e))
served_is_no_usage port (Answered (Ok (Ended (endings.BadLine number)))) e = absurd (omega (arith, e))
served_is_no_usage port (Answered (Ok (Ended endings.Full))) e = absurd (omega (arith, e))
served_is_no_usage port (Answered (Ok (Unsound fault))) e = absurd (omega (arith, e))
served_is_no_usage port (Answered (Ok (Uncertified fault))) e = absurd (omega (arith, e))
served_is_no_usage port (Answered (Ok (Unaccepted line))) e = absurd (omega (arith, e))
served_is_no_usage port (Answered (Ok (Unkept (books.Ledger ledgers.NoDatabase)))) e = absurd (omega (arith, e))
served_is_no_usage port (Answered (Ok (Unkept (books.Ledger ledgers.Damaged)))) e = absurd (omega (arith, e))
served_is_no_usage port (Answered (Ok (Unkept (books.Ledger ledgers.Form)))) e = absurd (omega (arith, e))
served_is_no_usage port (Answered (Ok (Unkept (books.Ledger ledgers.Busy)))) e = absurd (omega (arith, e))
served_is_no_usage port (Answered (Ok (Unkept (books.Ledger ledgers.Open)))) e = absurd (omega (arith, e))
served_is_no_usage port (Answered (Ok (Unkept (books.Ledger ledgers.Write)))) e = absurd (omega (arith, e))
served_is_no_usage port (Answered (Ok (Unkept (books.Ledger ledgers.NoMemory)))) e = absurd (omega (arith, e))
served_is_no_usage port (Answered (Ok (Unkept (books.Command refused)))) e = absurd (omega (arith, e))
served_is_no_usage port (Answered (Err pump_faults.Read)) e = absurd (omega (arith, e))
served_is_no_usage port (Answered (Err pump_faults.Write)) e = absurd (omega (arith, e))
served_is_no_usage port (Answered (Err pump_faults.NoMemory)) e = absurd (omega (arith, e))
served_is_no_usage port (Marked report None line) e = absurd (omega (arith, e))
served_is_no_usage port (Marked report (Some (marks.Capture pcaps.NotPcap)) line) e = absurd (omega (arith, e))
served_is_no_usage port (Marked report (Some (marks.Capture pcaps.IsPcapng)) line) e = absurd (omega (arith, e))
served_is_no_usage port (Marked report (Some (marks.Capture pcaps.BadVersion)) line) e = absurd (omega (arith, e))
served_is_no_usage port (Marked report (Some (marks.Capture (pcaps.LinkType number))) line) e = absurd (omega (arith, e))
served_is_no_usage port (Marked report (Some (marks.Capture (pcaps.RecordTooLong count))) line) e = absurd (omega (arith, e))
served_is_no_usage port (Marked report (Some (marks.Capture pcaps.Truncated)) line) e = absurd (omega (arith, e))
served_is_no_usage port (Marked report (Some (marks.Capture pcaps.ReadFault)) line) e = absurd (omega (arith, e))
served_is_no_usage port (Marked report (Some (marks.Capture pcaps.WriteFault)) line) e = absurd (omega (arith, e))
served_is_no_usage port (Marked report (Some (marks.Capture pcaps.NoMemory)) line) e = absurd (omega (arith, e))
served_is_no_usage port (Marked report (Some (marks.Capture pcaps.Failed)) line) e = absurd (omega (arith, e))
served_is_no_usage port (Marked report (Some (marks.Capture pcaps.BadMagic)) line) e = absurd (omega (arith, e))
served_is_no_usage port (Marked report (Some (marks.Capture (pcaps.BadLength size))) line) e = absurd (omega (arith, e))
served_is_no_usage port (Marked report (Some (marks.Capture (pcaps.BlockTooLong size))) line) e = absurd (omega (arith, e))
served_is_no_usage port (Marked report (Some (marks.Capture pcaps.LengthsDiffer)) line) e = absurd (omega (arith, e))
served_is_no_usage port (Marked report (Some (marks.Capture (pcaps.UnknownInterface number))) line) e = absurd (omega (arith, e))
served_is_no_usage port (Marked report (Some marks.UnknownPort) line) e = absurd (omega (arith, e))
served_is_no_usage port (Marked report (Some marks.JournalFull) line) e = absurd (omega (arith, e))
served_is_no_usage port (Marked report (Some marks.NoMemory) line) e = absurd (omega (arith, e))
served_is_no_usage port Portless e = absurd (omega (arith, e))
served_is_no_usage port (Told None) e = absurd (omega (arith, e))
served_is_no_usage port (Told (Some pcaps.NotPcap)) e = absurd (omega (arith, e))
served_is_no_usage port (Told (Some pcaps.IsPcapng)) e = absurd (omega (arith, e))
served_is_no_usage port (Told (Some pcaps.BadVersion)) e = absurd (omega (arith, e))
served_is_no_usage port (Told (Some (pcaps.LinkType number))) e = absurd (omega (arith, e))
served_is_no_usage port (Told (Some (pcaps.RecordTooLong count))) e = absurd (omega (arith, e))
served_is_no_usage port (Told (Some pcaps.Truncated)) e = absurd (omega (arith, e))
served_is_no_usage port (Told (Some pcaps.ReadFault)) e = absurd (omega (arith, e))
served_is_no_usage port (Told (Some pcaps.WriteFault)) e = absurd (omega (arith, e))
served_is_no_usage port (Told (Some pcaps.NoMemory)) e = absurd (omega (arith, e))
served_is_no_usage port (Told (Some pcaps.Failed)) e = absurd (omega (arith, e))
served_is_no_usage port (Told (Some pcaps.BadMagic)) e = absurd (omega (arith, e))
served_is_no_usage port (Told (Some (pcaps.BadLength size))) e = absurd (omega (arith, e))
served_is_no_usage port (Told (Some (pcaps.BlockTooLong size))) e = absurd (omega (arith, e))
served_is_no_usage port (Told (Some pcaps.LengthsDiffer)) e = absurd (omega (arith, e))
served_is_no_usage port (Told (Some (pcaps.UnknownInterface number))) e = absurd (omega (arith, e))

-- a course that ends as usage does writes nothing
pub usage_unwritten : (stands : List ℕ → Result (List Command) LedgerFault → Type 0) (course : Course) (tells : Type 0) (input more before after : List ℕ) → status_in course ≡ 2
    → IsWritten stands course tells input more before after → after ≡ before
usage_unwritten stands (Refused in_json fault) tells input more before after usage is = is
usage_unwritten stands (Unread plan fault) tells input more before after usage is = is
usage_unwritten stands (Served plan texts outcome) tells input more before after usage is =
    is.1 (served_is_no_usage (names_of plan) outcome usage)

-- a course with the plan that words ask for is one on them
pub on_plan : (words : List (List ℕ)) (plan : Plan) (course : Course) → IsPlanOf words plan → IsCourseWith plan course → IsCourseOn words course
on_plan words plan (Refused in_json fault) asked with = absurd with
on_plan words plan (Unread other fault) asked with = let P : Plan → Type 0 = IsPlanOf words in subst P (sym with) asked
on_plan words plan (Served other texts outcome) asked with = let P : Plan → Type 0 = IsPlanOf words in subst P (sym with) asked

-- a course on the words that there are
pub from_words : (given : List (List ℕ)) (bytes : List ℕ) (course : Course) → HasWords given bytes → IsCourseOn (words_from given bytes) course
    → IsCourseFrom given bytes course
from_words given bytes (Refused in_json fault) has is = inr (has, is.0, is.1)
from_words given bytes (Unread plan fault) has is = (has, is)
from_words given bytes (Served plan texts outcome) has is = (has, is)

-- a course on words that are given
pub from_given : (given : List (List ℕ)) (bytes : List ℕ) (course : Course) → given ≢ [] → IsCourseOn given course → IsCourseFrom given bytes course
from_given [] bytes course some is = absurd (some refl)
from_given (word ∷ words) bytes course some is = from_words (word ∷ words) bytes course tt is

-- the input of words that are given is all
pub input_given : (given : List (List ℕ)) (bytes : List ℕ) → given ≢ [] → bytes ≡ input_from given bytes
input_given [] bytes some = absurd (some refl)
input_given (word ∷ words) bytes some = refl

-- what was written for what an input has left is what was written for the input
pub written_behind : (stands : List ℕ → Result (List Command) LedgerFault → Type 0) (course : Course) (T U : Type 0) (left input more before after : List ℕ) → (T → U) → (T → left ≡ input)
    → IsWritten stands course U left more before after → IsWritten stands course T input more before after
written_behind stands (Refused in_json fault) T U left input more before after tells behind is = is
written_behind stands (Unread plan fault) T U left input more before after tells behind is = is
written_behind stands (Served plan texts outcome) T U left input more before after tells behind is =
    let P : List ℕ → Type 0 = λ bytes. IsAnswered stands plan texts bytes more outcome before after in
    (λ told. subst P (behind told) (is.0 (tells told)), is.1)

-- the count that stands before a course is that which the words left
pub reads_behind : (course : Course) (failed first now calls : ℕ) → first ≡ failed → (is_broken_off course ≡ false → IsOfReads (is_unread course) first now calls)
    → is_broken_off course ≡ false → IsOfReads (is_unread course) failed now calls
reads_behind course failed first now calls same reads whole = reads_from (is_unread course) first failed now calls same (reads whole)

-- where nothing is said beside an answer, what is told stands behind what stood
pub told_alone : (is : List ℕ → Type 0) (before after : List ℕ) (failed now : ℕ) → IsToldBy is before after failed now
    → IsToldBehind false is before after failed now
told_alone is before after failed now told = record { behind_words = before; words_failures = failed; said = (refl, refl); told = told }
