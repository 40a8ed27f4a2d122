-- Lemmas about what several workers write and tell.
use Rattle.std.proofs.Common.{◌≡◌, inl, inr, ℕ, Bool, true, false, List, Option, Result, Ok, Err, IfErr, IfOk, ◌≤◌, ◌^◌, if◌then◌else◌, is_ok, refl, sym, subst, ◌∙◌}
use Rattle.pcap_capture.specs.Counts.{next_count}
use Rattle.pcap_capture.specs.declared.fault.PcapFault.{PcapFault}
use Rattle.ds_checker.specs.Acceptance.{Table}
use Rattle.ds_marking.specs.Markings.{IsMarked, is_broken_off, is_unread, is_unwritten}
use Rattle.ds_marking.specs.Passings.{IsToldBy}
use Rattle.ds_marking.specs.Writings.{failures_with}
use Rattle.ds_marking.specs.declared.fault.MarkFault.{MarkFault}
use Rattle.ds_marking.specs.declared.fault.MarkFault.TheVariants as marks
use Rattle.ds_marking.specs.declared.marking.Turn.TheVariants.{More}
use Rattle.ds_marking.proofs.PassingLaws.{ended_writes}
use Rattle.ds_conditioner.specs.declared.report.Report.{Report}
use Rattle.ds_conditioner.specs.declared.rule.RedRule.{RedRule}
use Rattle.ds_conductor.specs.Workings.{AreFailures, IsMarkedBeside, IsMarkedBy, answer_with, is_memory}

-- ---- what is written

beside : (lost : Bool) (t : Table) (port : List ℕ) (red : RedRule) (bytes more before after : List ℕ) (answer : Result Report (Report × MarkFault)) → IsMarked t port red bytes more before after answer
    → IsMarkedBeside t port red bytes more before after (answer_with lost answer)
beside false t port red bytes more before after (Ok report) at = inl at
beside false t port red bytes more before after (Err (report, fault)) at = inl at
beside true t port red bytes more before after (Ok report) at = inl at
beside true t port red bytes more before after (Err (report, marks.Capture fault)) at = inl at
beside true t port red bytes more before after (Err (report, marks.UnknownPort)) at = inl at
beside true t port red bytes more before after (Err (report, marks.JournalFull)) at = inl at
beside true t port red bytes more before after (Err (report, marks.NoMemory)) at = inr (report, refl, at)

pub marked_beside : (sole lost : Bool) (t : Table) (port : List ℕ) (red : RedRule) (bytes more before after : List ℕ) (answer : Result Report (Report × MarkFault)) → sole ≡ false
    → IsMarked t port red bytes more before after answer → IsMarkedBy sole t port red bytes more before after (answer_with lost answer)
marked_beside true lost t port red bytes more before after answer wrong at = absurd cc
marked_beside false lost t port red bytes more before after answer is at = beside lost t port red bytes more before after answer at

pub marked_alone : (sole : Bool) (t : Table) (port : List ℕ) (red : RedRule) (bytes more before after : List ℕ) (answer : Result Report (Report × MarkFault))
    → IsMarked t port red bytes more before after answer → IsMarkedBy sole t port red bytes more before after answer
marked_alone true t port red bytes more before after answer at = at
marked_alone false t port red bytes more before after answer at = inl at

-- where a turn was taken to its end, the device that takes bytes did not fail
pub more_failures : (lost : Bool) (before now : ℕ) → AreFailures lost (Ok More) before now → now ≡ before
more_failures false before now same = same
more_failures true before now starved = let no = starved.0 in absurd cc

pub ended_failures : (lost : Bool) (fault : Option PcapFault) (before now : ℕ) → AreFailures lost (Ok fault) before now → now ≡ before
ended_failures false fault before now same = same
ended_failures true fault before now starved = let no = starved.0 in absurd cc

lost_writes : (fault : MarkFault) (report : Report) (before middle now : ℕ) → let unturned : Result (Option PcapFault) MarkFault = Err fault in is_memory unturned ≡ true → middle ≡ next_count before → now ≡ middle
    → now ≡ failures_with (is_unwritten (answer_with true (Err (report, fault)))) before
lost_writes (marks.Capture fault) report before middle now wrong counted last = absurd cc
lost_writes marks.UnknownPort report before middle now wrong counted last = absurd cc
lost_writes marks.JournalFull report before middle now wrong counted last = absurd cc
lost_writes marks.NoMemory report before middle now is counted last = last ∙ counted

-- and where it may be
pub writes_with : (lost : Bool) (turned : Result (Option PcapFault) MarkFault) (answer : Result Report (Report × MarkFault)) (before middle now : ℕ) → AreFailures lost turned before middle
    → now ≡ (if is_ok turned then failures_with (is_unwritten answer) middle else middle) → IsToldBy turned answer → now ≡ failures_with (is_unwritten (answer_with lost answer)) before
writes_with false turned (Ok report) before middle now failures last told = ended_writes turned (Ok report) before middle now failures last told
writes_with false turned (Err (report, fault)) before middle now failures last told = ended_writes turned (Err (report, fault)) before middle now failures last told
writes_with true (Ok fault) answer before middle now starved last told = let no = starved.0 in absurd cc
writes_with true (Err fault) answer before middle now starved last told =
    subst (λ (a : Result Report (Report × MarkFault)). now ≡ failures_with (is_unwritten (answer_with true a)) before) (sym told.1)
    (lost_writes fault told.0 before middle now starved.0 starved.1 last)

-- What is answered where a fault is lost says as much of the reading.
pub off_with : (lost : Bool) (answer : Result Report (Report × MarkFault)) → is_broken_off (answer_with lost answer) ≡ is_broken_off answer
off_with false (Ok report) = refl
off_with false (Err (report, fault)) = refl
off_with true (Ok report) = refl
off_with true (Err (report, marks.Capture fault)) = refl
off_with true (Err (report, marks.UnknownPort)) = refl
off_with true (Err (report, marks.JournalFull)) = refl
off_with true (Err (report, marks.NoMemory)) = refl

pub unread_with : (lost : Bool) (answer : Result Report (Report × MarkFault)) → is_unread (answer_with lost answer) ≡ is_unread answer
unread_with false (Ok report) = refl
unread_with false (Err (report, fault)) = refl
unread_with true (Ok report) = refl
unread_with true (Err (report, marks.Capture fault)) = refl
unread_with true (Err (report, marks.UnknownPort)) = refl
unread_with true (Err (report, marks.JournalFull)) = refl
unread_with true (Err (report, marks.NoMemory)) = refl

pub known_with : (lost : Bool) (answer : Result Report (Report × MarkFault)) → IfErr answer (λ refused. ¬ (refused.1 ≡ marks.UnknownPort))
    → IfErr (answer_with lost answer) (λ refused. ¬ (refused.1 ≡ marks.UnknownPort))
known_with false (Ok report) known = known
known_with false (Err (report, fault)) known = known
known_with true (Ok report) known = known
known_with true (Err (report, marks.Capture fault)) known = known
known_with true (Err (report, marks.UnknownPort)) known = known
known_with true (Err (report, marks.JournalFull)) known = known
known_with true (Err (report, marks.NoMemory)) known = λ no. absurd cc

pub few_with : (lost : Bool) (answer : Result Report (Report × MarkFault)) → IfOk answer (λ report. report.records ≤ 2 ^ 44) → IfOk (answer_with lost answer) (λ report. report.records ≤ 2 ^ 44)
few_with false (Ok report) few = few
few_with false (Err (report, fault)) few = few
few_with true (Ok report) few = few
few_with true (Err (report, marks.Capture fault)) few = few
few_with true (Err (report, marks.UnknownPort)) few = few
few_with true (Err (report, marks.JournalFull)) few = few
few_with true (Err (report, marks.NoMemory)) few = few
