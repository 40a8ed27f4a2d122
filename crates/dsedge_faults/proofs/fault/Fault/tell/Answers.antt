use Rattle.std.proofs.Common.{◌++◌, ap, codes}
use Rattle.dsedge_faults.specs.Faults.{fault_text, shown}
use Rattle.dsedge_faults.specs.declared.fault.Fault.TheVariants.{Capture, Certificate, Line, Port}
use Rattle.dsedge_faults.proofs.FrontLemmas.{given_as, given_or_front, kind_told}
use Rattle.dsedge_faults.proofs.fault.Fault.tell.Goals as goal

pub returns-in-Usage-clause-line : goal.returns-in-Usage-clause-line
returns-in-Usage-clause-line g c told =
    rw c.in-Usage.is (given_or_front c.give_all.result (g.F.Outlet.held c.args.faults.now) (g.F.Outlet.held c.give_all.new.outlet) _ (c.give_all.ensures.bytes told))

pub returns-in-Read-clause-line : goal.returns-in-Read-clause-line
returns-in-Read-clause-line g c told =
    rw c.in-Read.is (given_or_front c.give_all-in-Read.result (g.F.Outlet.held c.args.faults.now) (g.F.Outlet.held c.give_all-in-Read.new.outlet) _ (c.give_all-in-Read.ensures.bytes told))

pub returns-in-Write-clause-line : goal.returns-in-Write-clause-line
returns-in-Write-clause-line g c told =
    rw c.in-Write.is (given_or_front c.give_all-in-Write.result (g.F.Outlet.held c.args.faults.now) (g.F.Outlet.held c.give_all-in-Write.new.outlet) _ (c.give_all-in-Write.ensures.bytes told))

pub returns-in-Memory-clause-line : goal.returns-in-Memory-clause-line
returns-in-Memory-clause-line g c told =
    rw c.in-Memory.is (given_or_front c.give_all-in-Memory.result (g.F.Outlet.held c.args.faults.now) (g.F.Outlet.held c.give_all-in-Memory.new.outlet) _ (c.give_all-in-Memory.ensures.bytes told))

pub returns-in-Full-clause-line : goal.returns-in-Full-clause-line
returns-in-Full-clause-line g c told =
    rw c.in-Full.is (given_or_front c.give_all-in-Full.result (g.F.Outlet.held c.args.faults.now) (g.F.Outlet.held c.give_all-in-Full.new.outlet) _ (c.give_all-in-Full.ensures.bytes told))

pub returns-in-Line-clause-line : goal.returns-in-Line-clause-line
returns-in-Line-clause-line g c told =
    rw c.in-Line.is (given_as c.tell_line.result (g.F.Outlet.held c.args.faults.now) (g.F.Outlet.held c.tell_line.new.faults) _ (fault_text (Line c.in-Line.number))
    (ap (λ text. codes "dsedge: line " ++ text ++ codes "\n") c.format.ensures.text) (c.tell_line.ensures.line told))

pub returns-in-Domain-clause-line : goal.returns-in-Domain-clause-line
returns-in-Domain-clause-line g c told = rw c.in-Domain.is (c.tell_domain.ensures.line told)

pub returns-in-File-clause-line : goal.returns-in-File-clause-line
returns-in-File-clause-line g c told =
    rw c.in-File.is (given_as c.tell_name-in-File.result (g.F.Outlet.held c.args.faults.now) (g.F.Outlet.held c.tell_name-in-File.new.faults) _ (codes "dsedge: file " ++ shown c.in-File.name ++ codes "\n")
    (ap (λ text. codes "dsedge: file " ++ shown text ++ codes "\n") c.text-in-File.ensures) (c.tell_name-in-File.ensures.line told))

pub returns-in-Certificate-clause-line : goal.returns-in-Certificate-clause-line
returns-in-Certificate-clause-line g c told =
    rw c.in-Certificate.is (given_as c.tell_kind.result (g.F.Outlet.held c.args.faults.now) (g.F.Outlet.held c.tell_kind.new.faults) _ (fault_text (Certificate c.in-Certificate.place))
    (kind_told (codes "dsedge: certificate ") _ _ _ _ c.code.ensures c.certificate_kind.ensures) (c.tell_kind.ensures.line told))

pub returns-in-Capture-clause-line : goal.returns-in-Capture-clause-line
returns-in-Capture-clause-line g c told =
    rw c.in-Capture.is (given_as c.tell_kind-in-Capture.result (g.F.Outlet.held c.args.faults.now) (g.F.Outlet.held c.tell_kind-in-Capture.new.faults) _ (fault_text (Capture c.in-Capture.fault))
    (kind_told (codes "dsedge: capture ") _ _ _ _ c.code-in-Capture.ensures c.capture_kind.ensures) (c.tell_kind-in-Capture.ensures.line told))

pub returns-in-Port-clause-line : goal.returns-in-Port-clause-line
returns-in-Port-clause-line g c told =
    rw c.in-Port.is (given_as c.tell_name.result (g.F.Outlet.held c.args.faults.now) (g.F.Outlet.held c.tell_name.new.faults) _ (fault_text (Port c.in-Port.name))
    (ap (λ text. codes "dsedge: port " ++ shown text ++ codes "\n") c.text.ensures) (c.tell_name.ensures.line told))

pub returns-in-Contract-clause-line : goal.returns-in-Contract-clause-line
returns-in-Contract-clause-line g c told =
    rw c.in-Contract.is (given_as c.tell_name-in-Contract.result (g.F.Outlet.held c.args.faults.now) (g.F.Outlet.held c.tell_name-in-Contract.new.faults) _ (codes "dsedge: contract " ++ shown c.in-Contract.name ++ codes "\n")
    (ap (λ text. codes "dsedge: contract " ++ shown text ++ codes "\n") c.text-in-Contract.ensures) (c.tell_name-in-Contract.ensures.line told))
