-- A contract that the checker refuses beside the others cannot be carried by any certificate.
use Rattle.std.proofs.Common.{◌≡◌, Bool, true, false, List, Option, None, Some, option_map, if◌then◌else◌}
use Rattle.ds_domain_base.specs.declared.contract.Contract.{Contract}
use Rattle.ds_domain_base.specs.declared.fault.DomainFault.{DomainFault}
use Rattle.ds_certificate.specs.Columns.{Bound}
use Rattle.ds_checker.specs.Acceptance.{IsAcceptable, refusal_of}
use Rattle.ds_checker.specs.declared.refusal.Refusal.{Refusal}
use Rattle.ds_checker.proofs.AcceptanceLaws.{unrefused}
use Rattle.ds_checker.proofs.LeastTableLaws.{least_accepted}
use Rattle.ds_broker.specs.Books.{Book, is_history_full, is_table_full, table_of, with_command}
use Rattle.ds_broker.specs.Refusals.{contract_fault, fault_or, refusal_or_checked, reserve_refusal, room_refusal}
use Rattle.ds_broker.specs.declared.command.Command.TheVariants.{Reserve}
use Rattle.ds_broker.specs.declared.refusal.BrokerRefusal.{BrokerRefusal}
use Rattle.ds_broker.specs.declared.refusal.BrokerRefusal.TheVariants.{Checker, HistoryFull, TableFull}

-- a refusal by the checker is that of the larger table
checked : (o : Option Refusal) (refusal : Refusal) → option_map Checker o ≡ Some (Checker refusal) → o ≡ Some refusal
checked None refusal is = cc
checked (Some other) refusal is = cc

-- what stands against a contract before the checker is asked is no refusal by the checker
no_checker : (o : Option DomainFault) (full long : Bool) (refusal : Refusal)
    → fault_or o (if full then Some TableFull else if long then Some HistoryFull else None) ≡ Some (Checker refusal) → ⊥
no_checker (Some fault) full long refusal is = cc
no_checker None true long refusal is = cc
no_checker None false true refusal is = cc
no_checker None false false refusal is = cc

of_checker : (b : Book) (c : Contract) (o : Option BrokerRefusal) (refusal : Refusal) → (o ≡ Some (Checker refusal) → ⊥) → refusal_or_checked o b c ≡ Some (Checker refusal)
    → refusal_of (table_of (with_command b (Reserve c))) ≡ Some refusal
of_checker b c None refusal other is = checked (refusal_of (table_of (with_command b (Reserve c)))) refusal is
of_checker b c (Some before) refusal other is = absurd (other is)

unlike : (o : Option Refusal) (refusal : Refusal) → o ≡ None → o ≡ Some refusal → ⊥
unlike None refusal none some = cc
unlike (Some other) refusal none some = cc

pub hopeless : (b : Book) (c : Contract) (refusal : Refusal) → reserve_refusal b c ≡ Some (Checker refusal) → (rows : List (List Bound))
    → IsAcceptable (record (table_of (with_command b (Reserve c))) { certificate = rows }) → ⊥
hopeless b c refusal is rows met =
    let t = table_of (with_command b (Reserve c)) in
    let no = no_checker (contract_fault b c) (is_table_full b) (is_history_full b) refusal in
    unlike (refusal_of t) refusal (unrefused t (least_accepted t.domain t.contracts rows met)) (of_checker b c (room_refusal b c) refusal no is)
