use Rattle.std.proofs.Common.{◌++◌, List, ℕ, subst}
use Rattle.std.proofs.lemmas.Result.{err_from_is_err_and}
use Rattle.capture_reader.specs.Formats.{bytes_before}
use Rattle.pcap_capture.specs.Fronts.{IsFrontOf}
use Rattle.pcap_capture.proofs.FrontLaws.{IsFrontOf-none}
use Rattle.ds_marking.specs.Writings.{IsWrittenTo}
use Rattle.ds_marking.proofs.WritingLaws.{broken_on, written_on}
use Rattle.ds_marking.proofs.writing.write_first.Goals as goal

pub returns-in_err-write_out_full-in-Ok-true-clause-bytes : goal.returns-in_err-write_out_full-in-Ok-true-clause-bytes
returns-in_err-write_out_full-in-Ok-true-clause-bytes g c = λ tells more frames text before at written.
    let p = c.args.port.now in
    let held = g.O.Outlet.held c.args.outlet.now in
    let own = c.in-Ok-true.ensures.handed more frames text at in
    let over = subst (λ (t : List ℕ). IsFrontOf held t (g.O.Outlet.held c.write_out_full.new.outlet)) own.1 (c.in_err-write_out_full-in-Ok-true.ensures.bytes tells) in
    let q = err_from_is_err_and c.from_residual.result c.from_residual.ensures.1 in
    rw q.1 (text ++ own.0, own.2, broken_on (bytes_before p.opening) text own.0 c.args.out.now.items before held _ written over)

pub returns-in_ok-write_out_full-in-Ok-true-clause-bytes : goal.returns-in_ok-write_out_full-in-Ok-true-clause-bytes
returns-in_ok-write_out_full-in-Ok-true-clause-bytes g c = λ tells more frames text before at written.
    let p = c.args.port.now in
    let held = g.O.Outlet.held c.args.outlet.now in
    let own = c.in-Ok-true.ensures.handed more frames text at in
    let over = subst (λ (t : List ℕ). IsWrittenTo c.write_out_full.new.out.items held t (g.O.Outlet.held c.write_out_full.new.outlet)) own.1
    (c.in_ok-write_out_full-in-Ok-true.ensures.bytes tells) in
    (text ++ own.0, own.2, written_on (bytes_before p.opening) text own.0 c.args.out.now.items c.write_out_full.new.out.items before held _ written over)

pub returns-in-Err-clause-bytes : goal.returns-in-Err-clause-bytes
returns-in-Err-clause-bytes g c = λ tells more frames text before at written.
    let p = c.args.port.now in
    let held = g.O.Outlet.held c.args.outlet.now in
    let own = c.in-Err.ensures.handed more frames text at in
    (text ++ own.0, own.1, broken_on (bytes_before p.opening) text own.0 c.args.out.now.items before held held written (IsFrontOf-none held (c.args.out.now.items ++ own.0)))
