-- What a sale wrote whose book a ledger keeps, by how it ends.
use Rattle.std.proofs.Common.{◌≡◌, ◌⊎◌, ℕ, List, [], ◌++◌, Bool, false, Option, None, Some, Result, Ok, Err, IfOk, OnErr, refl, sym, ap, ◌∙◌, inl, inr}
use Rattle.ds_broker.specs.Books.{Book, Limits}
use Rattle.ds_broker.specs.declared.command.Command.{Command}
use Rattle.ds_broker.specs.declared.refusal.BrokerRefusal.{BrokerRefusal}
use Rattle.ds_broker.specs.declared.refusal.BrokerRefusal.TheVariants as refusals
use Rattle.ds_domain_base.specs.Domains.{Domain}
use Rattle.ds_domain_base.specs.declared.contract.Contract.{Contract}
use Rattle.ds_domain_base.specs.declared.fault.DomainFault.{DomainFault}
use Rattle.ds_ledger_base.specs.Replays.{replay}
use Rattle.ds_ledger_base.specs.declared.fault.BookFault.{BookFault}
use Rattle.ds_ledger_base.specs.declared.fault.BookFault.TheVariants as books
use Rattle.ds_ledger_base.specs.declared.fault.LedgerFault.{LedgerFault}
use Rattle.ds_ledger_base.specs.declared.fault.LedgerFault.TheVariants as ledgers
use Rattle.ds_ledger_base.specs.declared.fault.RefusedReplay.{RefusedReplay}
use Rattle.dsedge_lines.specs.Answers.{Answer, BeginsWith, behind}
use Rattle.dsedge_lines.specs.Faults.{is_read_fault, is_write_fault}
use Rattle.dsedge_lines.specs.declared.command.Ending.{Ending}
use Rattle.dsedge_lines.specs.declared.fault.PumpFault.{PumpFault}
use Rattle.dsedge_lines.specs.declared.fault.PumpFault.TheVariants as pump_faults
use Rattle.dsedge_drive.specs.Driven.{drive_from, opening_book}
use Rattle.dsedge_drive.specs.Opened.{IsUnopened}
use Rattle.dsedge_drive.specs.declared.command.Sale.{Sale}
use Rattle.pcap_capture.specs.Fronts.{IsFrontOf}
use Rattle.pcap_capture.proofs.FrontLaws.{IsFrontOf-none}
use Rattle.dsedge_selling.specs.Sales.{concluded_as, refused_as, unkept_as, unledgered_as, unopened_as}
use Rattle.dsedge_answers.specs.Replies.{IsServed, Reply, reply_of}
use Rattle.dsedge_selling.specs.Sold.{IsKeptServed, IsSoldBehind, IsSoldFrom, IsSoldOn, IsUnshelved}
use Rattle.dsedge_answers.specs.declared.conclusion.Conclusion.{Conclusion}
use Rattle.dsedge_answers.specs.declared.conclusion.Conclusion.TheVariants.{Ended, Unaccepted, Uncertified, Unkept, Unsound}

-- a front was written, where a fault ends the sale
failed : (reply : Reply) (fault : PumpFault) (before after : List ℕ) → IsFrontOf before reply.text after → IsServed reply (Err fault) before after
failed reply fault before after front = record { whole = tt; front = front }

-- a fault of the ledger ends it
pub unkept_served : (reply : Reply) (fault : LedgerFault) (before after : List ℕ) → IsFrontOf before reply.text after
    → IsKeptServed reply (unkept_as fault) before after
unkept_served reply ledgers.NoMemory before after front = failed reply pump_faults.NoMemory before after front
unkept_served reply ledgers.NoDatabase before after front = front
unkept_served reply ledgers.Damaged before after front = front
unkept_served reply ledgers.Form before after front = front
unkept_served reply ledgers.Busy before after front = front
unkept_served reply ledgers.Open before after front = front
unkept_served reply ledgers.Write before after front = front

begun : (answer : Answer) (unsaid before after : List ℕ) → unsaid ≡ [] → (front : List ℕ) × BeginsWith (behind unsaid answer) front × (after ≡ before ++ front)
    → IsFrontOf before answer.text after
begun answer unsaid before after none f =
    (f.0, f.1.more, ap (λ (u : List ℕ). u ++ answer.text) (sym none) ∙ f.1.whole, f.2)

-- the answer to its lines ends it, or a fault does
pub concluded_served : (answer : Answer) (unsaid : List ℕ) (answered : Result Ending PumpFault) (fault : Option LedgerFault) (before after : List ℕ) → unsaid ≡ []
    → IfOk answered (λ ending. (after ≡ before ++ (behind unsaid answer).text) × (ending ≡ answer.ending))
    → OnErr answered ((front : List ℕ) × BeginsWith (behind unsaid answer) front × (after ≡ before ++ front))
    → IsKeptServed (reply_of answer) (concluded_as answered fault) before after
concluded_served answer unsaid (Ok ending) fault before after none whole front =
    record { whole = (whole.0 ∙ ap (λ (u : List ℕ). before ++ (u ++ answer.text)) none, ap Ended whole.1); front = tt }
concluded_served answer unsaid (Err pump_faults.Read) fault before after none whole front = failed (reply_of answer) pump_faults.Read before after (begun answer unsaid before after none front)
concluded_served answer unsaid (Err pump_faults.Write) fault before after none whole front = failed (reply_of answer) pump_faults.Write before after (begun answer unsaid before after none front)
concluded_served answer unsaid (Err pump_faults.NoMemory) None before after none whole front = failed (reply_of answer) pump_faults.NoMemory before after (begun answer unsaid before after none front)
concluded_served answer unsaid (Err pump_faults.NoMemory) (Some fault) before after none whole front =
    unkept_served (reply_of answer) fault before after (begun answer unsaid before after none front)

unkept_faults : (fault : LedgerFault) → (is_write_fault (unkept_as fault) ≡ false) × (is_read_fault (unkept_as fault) ≡ false)
unkept_faults ledgers.NoMemory = (refl, refl)
unkept_faults ledgers.NoDatabase = (refl, refl)
unkept_faults ledgers.Damaged = (refl, refl)
unkept_faults ledgers.Form = (refl, refl)
unkept_faults ledgers.Busy = (refl, refl)
unkept_faults ledgers.Open = (refl, refl)
unkept_faults ledgers.Write = (refl, refl)

-- the faults of the devices stay what they are
pub concluded_faults : (answered : Result Ending PumpFault) (fault : Option LedgerFault)
    → (is_write_fault (concluded_as answered fault) ≡ is_write_fault answered) × (is_read_fault (concluded_as answered fault) ≡ is_read_fault answered)
concluded_faults (Ok ending) fault = (refl, refl)
concluded_faults (Err pump_faults.Read) fault = (refl, refl)
concluded_faults (Err pump_faults.Write) fault = (refl, refl)
concluded_faults (Err pump_faults.NoMemory) None = (refl, refl)
concluded_faults (Err pump_faults.NoMemory) (Some fault) = unkept_faults fault

refused_faults : (refused : RefusedReplay) (refusal : BrokerRefusal) → (is_write_fault (refused_as refused refusal) ≡ false) × (is_read_fault (refused_as refused refusal) ≡ false)
refused_faults refused (refusals.Contract fault) = (refl, refl)
refused_faults refused refusals.TableFull = (refl, refl)
refused_faults refused (refusals.Checker refusal) = (refl, refl)
refused_faults refused refusals.UnknownId = (refl, refl)
refused_faults refused refusals.AlreadyReleased = (refl, refl)
refused_faults refused refusals.HistoryFull = (refl, refl)
refused_faults refused refusals.NoMemory = (refl, refl)
refused_faults refused refusals.NotReleased = (refl, refl)
refused_faults refused (refusals.HoldLeft nanoseconds) = (refl, refl)

-- and a book that does not go on is none of them
pub unopened_faults : (fault : BookFault) → (is_write_fault (unopened_as fault) ≡ false) × (is_read_fault (unopened_as fault) ≡ false)
unopened_faults (books.Ledger fault) = unkept_faults fault
unopened_faults (books.Command refused) = refused_faults refused refused.refusal

-- want of memory ends a sale before its first line
starved : (in_json : Bool) (led : Result Book (ℕ × BrokerRefusal)) (offered : List Contract) (lines : List (List ℕ)) (before : List ℕ)
    → IsSoldBehind in_json led offered lines (Err pump_faults.NoMemory) before before
starved in_json (Ok b) offered lines before =
    failed (reply_of (drive_from in_json offered b 1 lines)) pump_faults.NoMemory before before (IsFrontOf-none before (drive_from in_json offered b 1 lines).text)
starved in_json (Err refused) offered lines before = (refl, inl refl)

refused_sold : (in_json : Bool) (led : Result Book (ℕ × BrokerRefusal)) (offered : List Contract) (lines : List (List ℕ)) (before : List ℕ) (refused : RefusedReplay) (refusal : BrokerRefusal)
    → refused.refusal ≡ refusal → (refusal ≡ refusals.NoMemory) ⊎ (led ≡ Err (refused.serial, refusal)) → IsSoldBehind in_json led offered lines (refused_as refused refusal) before before
refused_sold in_json led offered lines before refused refusals.NoMemory is told = starved in_json led offered lines before
refused_sold in_json led offered lines before refused (refusals.Contract fault) is (inr told) = rw told (refl, inr (rw (← is) refl))
refused_sold in_json led offered lines before refused refusals.TableFull is (inr told) = rw told (refl, inr (rw (← is) refl))
refused_sold in_json led offered lines before refused (refusals.Checker refusal) is (inr told) = rw told (refl, inr (rw (← is) refl))
refused_sold in_json led offered lines before refused refusals.UnknownId is (inr told) = rw told (refl, inr (rw (← is) refl))
refused_sold in_json led offered lines before refused refusals.AlreadyReleased is (inr told) = rw told (refl, inr (rw (← is) refl))
refused_sold in_json led offered lines before refused refusals.HistoryFull is (inr told) = rw told (refl, inr (rw (← is) refl))
refused_sold in_json led offered lines before refused refusals.NotReleased is (inr told) = rw told (refl, inr (rw (← is) refl))
refused_sold in_json led offered lines before refused (refusals.HoldLeft nanoseconds) is (inr told) = rw told (refl, inr (rw (← is) refl))
refused_sold in_json led offered lines before refused (refusals.Contract fault) is (inl memory) = absurd (let e = memory in cc)
refused_sold in_json led offered lines before refused refusals.TableFull is (inl memory) = absurd (let e = memory in cc)
refused_sold in_json led offered lines before refused (refusals.Checker refusal) is (inl memory) = absurd (let e = memory in cc)
refused_sold in_json led offered lines before refused refusals.UnknownId is (inl memory) = absurd (let e = memory in cc)
refused_sold in_json led offered lines before refused refusals.AlreadyReleased is (inl memory) = absurd (let e = memory in cc)
refused_sold in_json led offered lines before refused refusals.HistoryFull is (inl memory) = absurd (let e = memory in cc)
refused_sold in_json led offered lines before refused refusals.NotReleased is (inl memory) = absurd (let e = memory in cc)
refused_sold in_json led offered lines before refused (refusals.HoldLeft nanoseconds) is (inl memory) = absurd (let e = memory in cc)

-- a book that does not go on ends a sale before its first line
pub unopened_sold : (sale : Sale) (history : List Command) (fault : BookFault) (offered : List Contract) (lines : List (List ℕ)) (before : List ℕ)
    → IsUnopened sale history fault → IsSoldBehind sale.in_json (replay (opening_book sale.domain sale.limits) history) offered lines (unopened_as fault) before before
unopened_sold sale history (books.Ledger fault) offered lines before is =
    rw is (starved sale.in_json (replay (opening_book sale.domain sale.limits) history) offered lines before)
unopened_sold sale history (books.Command refused) offered lines before is =
    refused_sold sale.in_json (replay (opening_book sale.domain sale.limits) history) offered lines before refused refused.refusal refl is

-- where no ledger keeps the book, the sale is from its first command on
pub unledgered_served : (in_json : Bool) (b : Book) (offered : List Contract) (lines : List (List ℕ)) (outcome : Result Conclusion PumpFault) (before after : List ℕ)
    → IsSoldBehind in_json (replay b []) offered lines outcome before after
    → IsServed (reply_of (drive_from in_json offered b 1 lines)) (unledgered_as outcome) before after
unfolding replay
unledgered_served in_json b offered lines (Err fault) before after sold = sold
unledgered_served in_json b offered lines (Ok (Ended ending)) before after sold = sold
unledgered_served in_json b offered lines (Ok (Unsound fault)) before after sold = sold
unledgered_served in_json b offered lines (Ok (Uncertified fault)) before after sold = sold
unledgered_served in_json b offered lines (Ok (Unaccepted line)) before after sold = sold
unledgered_served in_json b offered lines (Ok (Unkept fault)) before after sold =
    failed (reply_of (drive_from in_json offered b 1 lines)) pump_faults.NoMemory before after sold

pub unledgered_faults : (outcome : Result Conclusion PumpFault)
    → (is_write_fault (unledgered_as outcome) ≡ is_write_fault outcome) × (is_read_fault (unledgered_as outcome) ≡ is_read_fault outcome)
unledgered_faults (Err fault) = (refl, refl)
unledgered_faults (Ok (Ended ending)) = (refl, refl)
unledgered_faults (Ok (Unsound fault)) = (refl, refl)
unledgered_faults (Ok (Uncertified fault)) = (refl, refl)
unledgered_faults (Ok (Unaccepted line)) = (refl, refl)
unledgered_faults (Ok (Unkept fault)) = (refl, refl)

-- a ledger that cannot be had ends a sale before its first line
pub unshelved : (stands : Result (List Command) LedgerFault → Type 0) (fault : LedgerFault) (before : List ℕ) → stands (Err fault) → IsUnshelved stands (unkept_as fault) before before
unshelved stands fault before why = (refl, inr (fault, why, refl))

-- a sale goes on from the commands of a ledger
pub sold_on : (stands : Result (List Command) LedgerFault → Type 0) (in_json : Bool) (limits : Limits) (parsed : Domain × List Contract) (lines : List (List ℕ)) (outcome : Result Conclusion PumpFault)
    (before after : List ℕ) (history : List Command) → stands (Ok history)
    → IsSoldBehind in_json (replay (opening_book parsed.0 limits) history) parsed.1 lines outcome before after
    → IsSoldOn stands in_json limits parsed lines outcome before after
sold_on stands in_json limits parsed lines outcome before after history stood sold = record { history = history; stood = stood; sold = sold }

-- want of memory ends a sale before its first line, whatever the text says
pub starved_from : (stands : Result (List Command) LedgerFault → Type 0) (in_json : Bool) (limits : Limits) (found : Result (Domain × List Contract) DomainFault) (lines : List (List ℕ)) (before : List ℕ)
    → IsSoldFrom stands in_json limits found lines (Err pump_faults.NoMemory) before before
starved_from stands in_json limits (Ok parsed) lines before = inl (refl, inl refl)
starved_from stands in_json limits (Err fault) lines before =
    failed (record { text = []; conclusion = Unsound fault }) pump_faults.NoMemory before before (IsFrontOf-none before [])
