-- How the program starts: the words of its command, its input, and what becomes of them.
use Rattle.std.specs.Prelude.{◌≡◌, ℕ, ◌<◌, ◌≤◌, ◌⊎◌, Bool, true, false, List, [], ◌∷◌, length, Option, Result, Ok, Err, Contains, IsUtf8, bytes_eq, codes}
use Rattle.std.specs.List.{list_any}
use Rattle.std.specs.declared.io.ErrorKind.{ErrorKind}
use Rattle.std.specs.declared.io.ErrorKind.TheVariants.{OutOfMemory}
use Rattle.line_text.specs.Lines.{fields_of}
use Rattle.ds_broker.specs.declared.command.Command.{Command}
use Rattle.ds_ledger_base.specs.declared.fault.LedgerFault.{LedgerFault}
use Rattle.dsedge_base.specs.Files.{files_of, in_json_of, names_of}
use Rattle.dsedge_base.specs.Plans.{IsPlanOf, IsRefusalOf}
use Rattle.dsedge_base.specs.declared.fault.UsageFault.{UsageFault}
use Rattle.dsedge_base.specs.declared.fault.UsageFault.TheVariants as usage_faults
use Rattle.dsedge_base.specs.declared.work.Plan.{Plan}
use Rattle.dsedge_texts.specs.Readable.{texts_of}
use Rattle.dsedge_lines.specs.FirstLine.{after_first_line, first_line_of}
use Rattle.dsedge_lines.specs.declared.words.FirstLineFault.{FirstLineFault}
use Rattle.dsedge_lines.specs.declared.words.FirstLineFault.TheVariants as first_line_faults
use Rattle.dsedge_faults.specs.declared.advice.Advice.{Advice}
use Rattle.dsedge_faults.specs.declared.fault.Fault.{Fault}
use Rattle.dsedge_faults.specs.declared.fault.Fault.TheVariants.{File, Memory, Read, Usage}
use Rattle.dsedge_serve.specs.declared.outcome.Outcome.{Outcome}
use Rattle.dsedge_faults.specs.Advised.{advice_on}
use Rattle.dsedge_serve.specs.Advised.{advice_after}
use Rattle.dsedge_faults.specs.Faults.{status_of}
use Rattle.dsedge_json_faults.specs.FaultObjects.{IsFaultTold, advice_as}
use Rattle.dsedge_serve.specs.Served.{IsAnswered, IsForeseen, IsToldAfter, is_broken_off as is_outcome_broken_off, is_input_fault, is_misused, is_output_fault, status_after}

-- the words of a command: those given, or where there are none, those of the first line of the input
abbrev pub words_from : List (List ℕ) → List ℕ → List (List ℕ)
words_from [] bytes = fields_of (first_line_of bytes)
words_from (word ∷ words) bytes = word ∷ words

-- the input of a command: what stands behind the first line where that gave the words, else all
abbrev pub input_from : List (List ℕ) → List ℕ → List ℕ
input_from [] bytes = after_first_line bytes
input_from (word ∷ words) bytes = bytes

-- Which words a command has is known where they are given, or where the device tells its bytes.
abbrev pub AreKnown : List (List ℕ) → Type 0 → Type 0
AreKnown [] tells = tells
AreKnown (word ∷ words) tells = Unit {0}

-- Words are given, or the first line is UTF-8 of at most 65,536 bytes.
abbrev pub HasWords : List (List ℕ) → List ℕ → Type 0
HasWords [] bytes = (length (first_line_of bytes) ≤ 65536) × IsUtf8 (first_line_of bytes)
HasWords (word ∷ words) bytes = Unit {0}

-- No words are given, and the first line is longer or not UTF-8.
abbrev pub LacksWords : List (List ℕ) → List ℕ → Type 0
LacksWords [] bytes = (65536 < length (first_line_of bytes)) ⊎ (¬ IsUtf8 (first_line_of bytes))
LacksWords (word ∷ words) bytes = ⊥

-- A plan is what the words of the command ask for.
abbrev pub IsPlanFrom : List (List ℕ) → List ℕ → Plan → Type 0
IsPlanFrom given bytes plan = HasWords given bytes × IsPlanOf (words_from given bytes) plan

-- the words behind the program's own name
abbrev pub behind_name : List (List ℕ) → List (List ℕ)
behind_name [] = []
behind_name (name ∷ words) = words

-- Why there are no words at all, by why the command line could not be had: memory ran out, or one of them is not UTF-8.
abbrev pub wordless : ErrorKind → Fault
wordless OutOfMemory = Memory
wordless _ = Usage

-- the fault that a first line is refused with
abbrev pub fault_of_line : FirstLineFault → Fault
fault_of_line first_line_faults.Usage = Usage
fault_of_line first_line_faults.Read = Read
fault_of_line first_line_faults.NoMemory = Memory

-- the fault that words are refused with
abbrev pub fault_of_words : UsageFault → Fault
fault_of_words usage_faults.Usage = Usage
fault_of_words usage_faults.NoMemory = Memory

-- Why there are no words: the first line gives none, or where it is wanted, it could not be read; memory may run out.
abbrev pub IsWordless : List (List ℕ) → List ℕ → Fault → Type 0
IsWordless given bytes Usage = LacksWords given bytes
IsWordless given bytes Read = given ≡ []
IsWordless given bytes Memory = Unit {0}
IsWordless given bytes _ = ⊥

-- Why words have no plan: they ask for nothing that there is; memory may run out.
abbrev pub IsRefused : List (List ℕ) → Fault → Type 0
IsRefused words Usage = IsRefusalOf words usage_faults.Usage
IsRefused words Memory = Unit {0}
IsRefused words _ = ⊥

-- whether objects are asked for by words, whatever else they ask for
abbrev pub asks_json : List (List ℕ) → Bool
asks_json words = list_any (λ word. bytes_eq word (codes "--json")) words

-- Why there is no plan, and whether that is told by an object: there are no words, or those that there are have none.
abbrev pub IsRefusalFrom : List (List ℕ) → List ℕ → Bool → Fault → Type 0
IsRefusalFrom given bytes in_json fault =
    ((in_json ≡ false) × IsWordless given bytes fault) ⊎ (HasWords given bytes
    × (in_json ≡ asks_json (words_from given bytes)) × IsRefused (words_from given bytes) fault)

-- whether a fault says that the input could not be read
abbrev pub is_read : Fault → Bool
is_read Read = true
is_read _ = false

-- Why not all files of a plan were read: the first of them that cannot be, which is known where they tell what they
-- hold; memory may run out.
abbrev pub IsUnreadable : Type 0 → (List ℕ → Option (List ℕ)) → List (List ℕ) → Fault → Type 0
IsUnreadable tells holds names (File name reason) = Contains names name × (tells → texts_of holds names ≡ Err name)
IsUnreadable tells holds names Memory = Unit {0}
IsUnreadable tells holds names _ = ⊥

-- how a start went: refused with a fault before anything was read but the words, which is told by an object or not, or a
-- plan with a fault of its files, or a plan was served with the texts of its files, with an outcome
pub data Course : Type 0 where
  Refused : Bool → Fault → Course
  Unread : Plan → Fault → Course
  Served : Plan → List (List ℕ) → Outcome → Course

-- the exit status of a start
abbrev pub status_in : Course → ℕ
status_in (Refused in_json fault) = status_of fault
status_in (Unread plan fault) = status_of fault
status_in (Served plan texts outcome) = status_after (names_of plan) outcome

-- what there is to say behind what is told of a start
abbrev pub advice_in : Course → Option Advice
advice_in (Refused in_json fault) = advice_as in_json (advice_on fault)
advice_in (Unread plan fault) = advice_as (in_json_of plan) (advice_on fault)
advice_in (Served plan texts outcome) = advice_after (in_json_of plan) (names_of plan) outcome

-- a text tells a start on standard error
abbrev pub IsToldIn : Course → List ℕ → Type 0
IsToldIn (Refused in_json fault) text = IsFaultTold in_json fault text
IsToldIn (Unread plan fault) text = IsFaultTold (in_json_of plan) fault text
IsToldIn (Served plan texts outcome) text = IsToldAfter (in_json_of plan) (names_of plan) outcome text

-- A plan is served, or its files refuse it.
abbrev pub IsCourseWith : Plan → Course → Type 0
IsCourseWith given (Refused in_json fault) = ⊥
IsCourseWith given (Unread plan fault) = plan ≡ given
IsCourseWith given (Served plan texts outcome) = plan ≡ given

-- A plan is what the words ask for, and a refusal why they ask for nothing.
abbrev pub IsCourseOn : List (List ℕ) → Course → Type 0
IsCourseOn words (Refused in_json fault) = (in_json ≡ asks_json words) × IsRefused words fault
IsCourseOn words (Unread plan fault) = IsPlanOf words plan
IsCourseOn words (Served plan texts outcome) = IsPlanOf words plan

-- A start goes as the words and the input have it.
abbrev pub IsCourseFrom : List (List ℕ) → List ℕ → Course → Type 0
IsCourseFrom given bytes (Refused in_json fault) = IsRefusalFrom given bytes in_json fault
IsCourseFrom given bytes (Unread plan fault) = IsPlanFrom given bytes plan
IsCourseFrom given bytes (Served plan texts outcome) = IsPlanFrom given bytes plan

-- A plan is served with the texts of its files, as many as it names, and with no others where the files tell what they
-- hold. What its files settle of its outcome is so whatever the devices do.
abbrev pub IsCourseOf : Type 0 → (List ℕ → Option (List ℕ)) → Course → Type 0
IsCourseOf tells holds (Refused in_json fault) = Unit {0}
IsCourseOf tells holds (Unread plan fault) = IsUnreadable tells holds (files_of plan) fault
IsCourseOf tells holds (Served plan texts outcome) =
    (length texts ≡ length (files_of plan))
    × (tells → texts_of holds (files_of plan) ≡ Ok texts)
    × IsForeseen plan texts outcome

-- What was written, where the devices tell their bytes: the answer to the input, which still has more, or a front of
-- it; a refusal writes nothing, and so does a field that its contract has not.
abbrev pub IsWritten : (List ℕ → Result (List Command) LedgerFault → Type 0) → Course → Type 0 → List ℕ → List ℕ → List ℕ → List ℕ → Type 0
IsWritten stands (Refused in_json fault) tells input more before after = after ≡ before
IsWritten stands (Unread plan fault) tells input more before after = after ≡ before
IsWritten stands (Served plan texts outcome) tells input more before after =
    (tells → IsAnswered stands plan texts input more outcome before after)
    × (is_misused outcome ≡ true → after ≡ before)

-- whether a start went so that the output could not be written
abbrev pub is_unwritten : Course → Bool
is_unwritten (Served plan texts outcome) = is_output_fault outcome
is_unwritten _ = false

-- whether it went so that the input could not be read
abbrev pub is_unread : Course → Bool
is_unread (Refused in_json fault) = is_read fault
is_unread (Unread plan fault) = false
is_unread (Served plan texts outcome) = is_input_fault outcome

-- whether it went so that a marking was broken off, which tells nothing of the input
abbrev pub is_broken_off : Course → Bool
is_broken_off (Served plan texts outcome) = is_outcome_broken_off outcome
is_broken_off _ = false
