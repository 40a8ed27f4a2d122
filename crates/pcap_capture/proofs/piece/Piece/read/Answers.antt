use Rattle.std.proofs.Common.{◌≡◌, ℕ, List, ap, arith, drop, length, refl, subst, sym, take, ◌∙◌}
use Rattle.std.proofs.lemmas.Result.{err_from_is_err_and}
use Rattle.pcap_capture.specs.Grammar.{Stops, prepend, record_size, records}
use Rattle.pcap_capture.specs.Pieces.{frames_between}
use Rattle.pcap_capture.specs.declared.fault.PcapFault.TheVariants.{NoMemory}
use Rattle.pcap_capture.specs.declared.stage.Stage.TheVariants.{Records}
use Rattle.pcap_capture.proofs.GrammarLaws.{records_partial, size_partial}
use Rattle.pcap_capture.proofs.HeadingLaws.{kept_waiting}
use Rattle.pcap_capture.proofs.PieceLaws.{cut_here, cut_within}
use Rattle.pcap_capture.proofs.ReadingLaws.{cut_behind, read_behind, starved_behind, stopped_behind}
use Rattle.pcap_capture.proofs.RecordLaws.{stops_long}
use Rattle.pcap_capture.proofs.piece.Piece.read.Goals as goal

pub returns-in_err-size_of_record-clause-err : goal.returns-in_err-size_of_record-clause-err
returns-in_err-size_of_record-clause-err c =
    let p = err_from_is_err_and c.from_residual.result c.from_residual.ensures.1 in
    rw (p.1, p.2) (stops_long c.args.heading.now c.args.rest.now c.args.self.now c.in_err-size_of_record.field-0.0 (prepend c.args.self.now (records c.args.heading.now c.args.rest.now))
    (c.in_err-size_of_record.ensures ∙ ap (record_size c.args.heading.now) c.as_slice.ensures) refl)

pub returns-then-branch-clause-settled : goal.returns-then-branch-clause-settled
returns-then-branch-clause-settled c =
    let short = c.if-branch.true in
    size_partial c.args.heading.now c.args.rest.now c.in_ok-size_of_record.field-0
    (sym (c.in_ok-size_of_record.ensures ∙ ap (record_size c.args.heading.now) c.as_slice.ensures)) (omega (arith, short, c.len.ensures))

pub returns-then-branch-clause-ok : goal.returns-then-branch-clause-ok
returns-then-branch-clause-ok c =
    let heading = c.args.heading.now in
    let rest = c.args.rest.now in
    let short = c.if-branch.true in
    let waits = size_partial heading rest c.in_ok-size_of_record.field-0
    (sym (c.in_ok-size_of_record.ensures ∙ ap (record_size heading) c.as_slice.ensures)) (omega (arith, short, c.len.ensures)) in
    kept_waiting (Records heading) rest c.args.self.now (records heading rest) (prepend c.args.self.now (records heading rest)) (records_partial heading rest waits) refl

pub read_records-done-requires : goal.read_records-done-requires
read_records-done-requires c =
    let went = c.in_ok-end.ensures in
    cut_behind c.self.inside.text c.args.rest.now c.as_slice-2.result.now c.self.inside.entries.items c.args.self.now c.in_ok-end.end
    (record { frames = c.self.view_is; cut = c.self.invariant; start_is = went.0; all_is = c.as_slice-2.ensures ∙ went.1 })

pub split_at-requires : goal.split_at-requires
split_at-requires c =
    let same = c.as_slice-3.ensures ∙ sym c.as_slice-2.ensures in
    omega (arith, ap length same, (cut_within c.as_slice-2.result.now 0 c.read_records-done.new.entries.items c.read_records-done.new.end c.read_records-done.ensures.cut).1)

pub invariant_of-self-in_err-done : goal.invariant_of-self-in_err-done
invariant_of-self-in_err-done c =
    rw (c.truncate.ensures, ← c.as_slice-2.ensures) (cut_here c.as_slice-2.result.now c.read_records-done.new.entries.items c.read_records-done.new.end c.read_records-done.ensures.cut)

pub returns-in_err-done-clause-err : goal.returns-in_err-done-clause-err
returns-in_err-done-clause-err c =
    let heading = c.args.heading.now in
    let rest = c.args.rest.now in
    let all = c.as_slice-2.result.now in
    let now = c.read_records-done.new.entries.items in
    let end = c.read_records-done.new.end in
    let fault = c.in_err-done.field-0.0 in
    let went = c.in_ok-end.ensures in
    let stops : Stops (prepend c.args.self.now (records heading rest)) (frames_between (take end all) 0 now) fault =
    stopped_behind heading c.self.inside.text rest all c.self.inside.entries.items now c.args.self.now c.in_ok-end.end end fault
    (record { frames = c.self.view_is; cut = c.self.invariant; start_is = went.0; all_is = c.as_slice-2.ensures ∙ went.1 })
    c.read_records-done.ensures.cut c.in_err-done.ensures.err in
    let text : c.truncate.new.self ≡ take end all = c.truncate.ensures ∙ ap (take end) (sym c.as_slice-2.ensures) in
    let p = err_from_is_err_and c.from_residual-in_err-done.result c.from_residual-in_err-done.ensures.1 in
    rw (p.1, p.2) (subst (λ (t : List ℕ). Stops (prepend c.args.self.now (records heading rest)) (frames_between t 0 now) fault) (sym text) stops)

pub invariant_of-self-2 : goal.invariant_of-self-2
invariant_of-self-2 c =
    rw (c.truncate.ensures, ← c.as_slice-2.ensures) (cut_here c.as_slice-2.result.now c.read_records-done.new.entries.items c.read_records-done.new.end c.read_records-done.ensures.cut)

pub returns-clause-ok : goal.returns-clause-ok
returns-clause-ok c =
    let heading = c.args.heading.now in
    let rest = c.args.rest.now in
    let all = c.as_slice-2.result.now in
    let now = c.read_records-done.new.entries.items in
    let end = c.read_records-done.new.end in
    let went = c.in_ok-end.ensures in
    let same : c.as_slice-3.result.now ≡ all = c.as_slice-3.ensures ∙ sym c.as_slice-2.ensures in
    let kept : c.replace-kept.new.self ≡ drop end all = c.in-Ok.ensures ∙ c.split_at.ensures.back ∙ ap (drop end) same in
    let read = read_behind heading c.self.inside.text rest all c.replace-kept.new.self c.self.inside.entries.items now c.args.self.now c.in_ok-end.end end
    (record { frames = c.self.view_is; cut = c.self.invariant; start_is = went.0; all_is = c.as_slice-2.ensures ∙ went.1 })
    c.read_records-done.ensures.cut kept c.in_ok-done.ensures.settled c.in_ok-done.ensures.ok in
    let text : c.truncate.new.self ≡ take end all = c.truncate.ensures ∙ ap (take end) (sym c.as_slice-2.ensures) in
    rw text read

pub returns-clause-settled : goal.returns-clause-settled
returns-clause-settled c =
    let all = c.as_slice-2.result.now in
    let end = c.read_records-done.new.end in
    let same : c.as_slice-3.result.now ≡ all = c.as_slice-3.ensures ∙ sym c.as_slice-2.ensures in
    let kept : c.replace-kept.new.self ≡ drop end all = c.in-Ok.ensures ∙ c.split_at.ensures.back ∙ ap (drop end) same in
    rw kept c.in_ok-done.ensures.settled

pub invariant_of-self-in_default : goal.invariant_of-self-in_default
invariant_of-self-in_default c =
    rw (c.truncate.ensures, ← c.as_slice-2.ensures) (cut_here c.as_slice-2.result.now c.read_records-done.new.entries.items c.read_records-done.new.end c.read_records-done.ensures.cut)

pub returns-in_default-clause-err : goal.returns-in_default-clause-err
returns-in_default-clause-err c =
    let heading = c.args.heading.now in
    let rest = c.args.rest.now in
    let all = c.as_slice-2.result.now in
    let now = c.read_records-done.new.entries.items in
    let end = c.read_records-done.new.end in
    let went = c.in_ok-end.ensures in
    let stops : Stops (prepend c.args.self.now (records heading rest)) (frames_between (take end all) 0 now) NoMemory =
    starved_behind heading c.self.inside.text rest all c.self.inside.entries.items now c.args.self.now c.in_ok-end.end end
    (record { frames = c.self.view_is; cut = c.self.invariant; start_is = went.0; all_is = c.as_slice-2.ensures ∙ went.1 })
    c.read_records-done.ensures.cut c.in_ok-done.ensures.ok in
    let text : c.truncate.new.self ≡ take end all = c.truncate.ensures ∙ ap (take end) (sym c.as_slice-2.ensures) in
    rw text stops
