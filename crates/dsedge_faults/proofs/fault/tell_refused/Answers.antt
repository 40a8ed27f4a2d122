use Rattle.dsedge_faults.specs.Faults.{fault_text}
use Rattle.dsedge_faults.specs.declared.fault.Fault.TheVariants.{Book}
use Rattle.ds_ledger_base.specs.declared.fault.BookFault.TheVariants as books
use Rattle.dsedge_faults.proofs.FrontLemmas.{given_as, refused_line}
use Rattle.dsedge_faults.proofs.fault.tell_refused.Goals as goal

pub returns-clause-line : goal.returns-clause-line
returns-clause-line g c told =
    given_as c.give_parts.result (g.F.Outlet.held c.args.faults.now) (g.F.Outlet.held c.give_parts.new.outlet) _ (fault_text (Book (books.Command c.args.refused.now)))
    (refused_line c.args.refused.now c.format.result.now c.refusal_text.result.now c.format.ensures.text c.refusal_text.ensures) (c.give_parts.ensures.bytes told)
