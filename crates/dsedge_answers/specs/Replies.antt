-- What is answered of texts, how an answer ends, and what is told of that.
use Rattle.std.specs.Prelude.{◌≡◌, ℕ, Bool, true, false, if◌then◌else◌, List, [], ◌++◌, Option, None, Some, Result, Ok, Err, IfOk, OnErr, codes, option_and_then}
use Rattle.pcap_capture.specs.Counts.{next_count}
use Rattle.pcap_capture.specs.Fronts.{IsFrontOf}
use Rattle.ds_checker.specs.Acceptance.{Table}
use Rattle.ds_domain_base.specs.declared.fault.DomainFault.{DomainFault}
use Rattle.dsedge_lines.specs.Answers.{Answer}
use Rattle.dsedge_lines.specs.declared.command.Ending.TheVariants as endings
use Rattle.dsedge_lines.specs.declared.fault.PumpFault.{PumpFault}
use Rattle.dsedge_lines.specs.declared.fault.PumpFault.TheVariants as pump_faults
use Rattle.dsedge_texts.specs.declared.accepting.TableFault.{TableFault}
use Rattle.dsedge_texts.specs.declared.accepting.TableFault.TheVariants as tables
use Rattle.dsedge_texts.specs.Accepted.{accepted_in}
use Rattle.dsedge_texts.specs.Certified.{certified}
use Rattle.dsedge_texts.specs.Headed.{headroom_in}
use Rattle.dsedge_json.specs.Told.{Told, certified_in, checked_in, headed_in}
use Rattle.dsedge_faults.specs.Advised.{advice_behind}
use Rattle.dsedge_faults.specs.Faults.{status_of}
use Rattle.dsedge_faults.specs.declared.advice.Advice.{Advice}
use Rattle.dsedge_faults.specs.declared.fault.Fault.TheVariants as faults
use Rattle.dsedge_faults.specs.declared.notice.Notice.{Notice}
use Rattle.dsedge_faults.specs.declared.notice.Notice.TheVariants as notices
use Rattle.dsedge_json_faults.specs.FaultObjects.{IsNoticeTold}
use Rattle.dsedge_answers.specs.declared.conclusion.Conclusion.{Conclusion}
use Rattle.dsedge_answers.specs.declared.conclusion.Conclusion.TheVariants.{Ended, Unaccepted, Uncertified, Unkept, Unsound}

-- a text on standard output, and how it ends
pub record Reply : Type 0 where
  pub text : List ℕ
  pub conclusion : Conclusion

-- a text that is the whole reply
abbrev pub whole_text : List ℕ → Reply
whole_text text = record { text = text; conclusion = Ended endings.Whole }

-- an answer to lines is the reply
abbrev pub reply_of : Answer → Reply
reply_of answer = record { text = answer.text; conclusion = Ended answer.ending }

-- a text that is made of a domain is the reply, or the fault of the domain ends it before anything is written
abbrev pub reply_by : Result (List ℕ) DomainFault → Reply
reply_by (Ok text) = whole_text text
reply_by (Err fault) = record { text = []; conclusion = Unsound fault }

-- The checker's line is the reply where it refuses a table; the fault of a text ends it before anything is written. Want
-- of memory stands in no text.
abbrev pub reply_against : TableFault → Reply
reply_against (tables.Refused line) = record { text = line; conclusion = Ended endings.Refused }
reply_against (tables.Domain fault) = record { text = []; conclusion = Unsound fault }
reply_against (tables.Certificate fault) = record { text = []; conclusion = Uncertified fault }
reply_against tables.NoMemory = whole_text []

-- a table is accepted, or what stands against it is the reply
abbrev pub reply_on : Result Table TableFault → Reply
reply_on (Ok table) = whole_text (codes "accepted\n")
reply_on (Err fault) = reply_against fault

-- a text that is made of an accepted table is the reply, or what stands against the table
abbrev pub reply_told : Result (List ℕ) TableFault → Reply
reply_told (Ok text) = whole_text text
reply_told (Err fault) = reply_against fault

-- a line that answers with yes or with no, or what stands against it, is the reply
abbrev pub reply_of_object : Result Told TableFault → Reply
reply_of_object (Ok told) =
    record { text = told.0; conclusion = Ended (if told.1 then endings.Whole else endings.Refused) }
reply_of_object (Err fault) = reply_against fault

-- the least certificate of the domain that a text says, by its text or by an object
abbrev pub reply_certified : Bool → List ℕ → Reply
reply_certified false domain = reply_by (certified domain)
reply_certified true domain = reply_of_object (certified_in domain)

-- whether the table that two texts say is accepted, by a line or by an object
abbrev pub reply_checked : Bool → List ℕ → List ℕ → Reply
reply_checked false domain certificate = reply_on (accepted_in domain certificate)
reply_checked true domain certificate = reply_of_object (checked_in domain certificate)

-- what there is at the meters of the domain that a text says, by lines or by an object
abbrev pub reply_headed : Bool → List ℕ → Reply
reply_headed false domain = reply_told (headroom_in domain)
reply_headed true domain = reply_of_object (headed_in domain)

-- a reply was written behind what stood, to its end; or a front of it, where a device failed or memory ran out
pub record IsServed (reply : Reply) (outcome : Result Conclusion PumpFault) (before after : List ℕ) : Type 0 where
  pub whole : IfOk outcome (λ conclusion. (after ≡ before ++ reply.text) × (conclusion ≡ reply.conclusion))
  pub front : OnErr outcome (IsFrontOf before reply.text after)

-- what there is to tell of an outcome
abbrev pub notice_of : Result Conclusion PumpFault → Option Notice
notice_of (Ok (Ended endings.Whole)) = None
notice_of (Ok (Ended endings.Refused)) = None
notice_of (Ok (Ended (endings.BadLine number))) = Some (notices.Fault (faults.Line number))
notice_of (Ok (Ended endings.Full)) = Some (notices.Fault faults.Full)
notice_of (Ok (Unsound fault)) = Some (notices.Fault (faults.Domain fault))
notice_of (Ok (Uncertified fault)) = Some (notices.Fault (faults.Certificate fault))
notice_of (Ok (Unaccepted line)) = Some (notices.Refusal line)
notice_of (Ok (Unkept fault)) = Some (notices.Fault (faults.Book fault))
notice_of (Err pump_faults.Read) = Some (notices.Fault faults.Read)
notice_of (Err pump_faults.Write) = Some (notices.Fault faults.Write)
notice_of (Err pump_faults.NoMemory) = Some (notices.Fault faults.Memory)

-- the exit status of an outcome: 0 done, 1 answered with no, else that of the fault
abbrev pub status_for : Result Conclusion PumpFault → ℕ
status_for (Ok (Ended endings.Whole)) = 0
status_for (Ok (Ended endings.Refused)) = 1
status_for (Ok (Ended (endings.BadLine number))) = status_of (faults.Line number)
status_for (Ok (Ended endings.Full)) = status_of faults.Full
status_for (Ok (Unsound fault)) = status_of (faults.Domain fault)
status_for (Ok (Uncertified fault)) = status_of (faults.Certificate fault)
status_for (Ok (Unaccepted line)) = 1
status_for (Ok (Unkept fault)) = status_of (faults.Book fault)
status_for (Err pump_faults.Read) = status_of faults.Read
status_for (Err pump_faults.Write) = status_of faults.Write
status_for (Err pump_faults.NoMemory) = status_of faults.Memory

-- a text tells what there is to tell, by lines or by objects; nothing is told where there is nothing
abbrev pub IsNoticeIn : Bool → Option Notice → List ℕ → Type 0
IsNoticeIn in_json None text = text ≡ []
IsNoticeIn in_json (Some notice) text = IsNoticeTold in_json notice text

-- what is told of an outcome on standard error
abbrev pub IsOutcomeTold : Bool → Result Conclusion PumpFault → List ℕ → Type 0
IsOutcomeTold in_json outcome text = IsNoticeIn in_json (notice_of outcome) text

-- a write fault is an outcome where the output failed once, and no other outcome is one where it failed
abbrev pub IsOfWrites : Bool → ℕ → ℕ → Type 0
IsOfWrites fault failed now = now ≡ (if fault then next_count failed else failed)

-- what there is to say behind what is told, where it is read at a terminal
abbrev pub advice_for : Result Conclusion PumpFault → Option Advice
advice_for outcome = option_and_then advice_behind (notice_of outcome)

-- how a plan ends whose table is not accepted, by what stands against it
abbrev pub refusal_outcome : TableFault → Result Conclusion PumpFault
refusal_outcome (tables.Refused line) = Ok (Unaccepted line)
refusal_outcome (tables.Domain fault) = Ok (Unsound fault)
refusal_outcome (tables.Certificate fault) = Ok (Uncertified fault)
refusal_outcome tables.NoMemory = Err pump_faults.NoMemory
