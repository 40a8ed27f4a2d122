use Rattle.pcap_capture.proofs.FrontLaws.{IsFrontOf-given}
use Rattle.ds_marking.proofs.writing.write_out.Goals as goal

pub returns-in-Err-clause-bytes : goal.returns-in-Err-clause-bytes
returns-in-Err-clause-bytes g c = λ tells.
    let given = c.in-Err.ensures.bytes tells in
    IsFrontOf-given (g.O.Outlet.held c.args.outlet.now) c.args.out.now.items (g.O.Outlet.held c.hand_over.new.outlet) given.0 given.1
