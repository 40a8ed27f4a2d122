use Rattle.pcap_capture.proofs.FrontLaws.{IsFrontOf-given}
use Rattle.dsedge_answers.proofs.answering.answer_text.Goals as goal

pub returns-in-Err-clause-served : goal.returns-in-Err-clause-served
returns-in-Err-clause-served g c told = record {
  whole = tt;
  front = IsFrontOf-given (g.O.Outlet.held c.args.output.now) c.args.text.now (g.O.Outlet.held c.give_all.new.outlet) (c.in-Err.ensures.bytes told).0 (c.in-Err.ensures.bytes told).1;
}
