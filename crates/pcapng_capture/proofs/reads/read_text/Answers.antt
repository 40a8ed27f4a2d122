use Rattle.std.proofs.Common.{◌≡◌, ℕ, List, ap, arith, drop, length, refl, subst, sym, take, ◌∙◌}
use Rattle.std.proofs.lemmas.Result.{err_from_is_err_and}
use Rattle.pcapng_capture.specs.Grammar.{blocks, prepend}
use Rattle.pcap_capture.specs.Pieces.{frames_between}
use Rattle.pcapng_capture.specs.Readings.{Stops}
use Rattle.pcap_capture.specs.declared.fault.PcapFault.TheVariants.{NoMemory}
use Rattle.pcap_capture.proofs.PieceLaws.{cut_here, cut_within}
use Rattle.pcapng_capture.proofs.ReadingLaws.{cut_behind, read_behind, starved_behind, stopped_behind}
use Rattle.pcapng_capture.proofs.reads.read_text.Goals as goal

pub read_blocks-done-requires : goal.read_blocks-done-requires
read_blocks-done-requires c =
    let went = c.in-Ok.ensures in
    cut_behind c.args.text.now c.args.rest.now c.as_slice.result.now c.args.entries.now.items (frames_between c.args.text.now 0 c.args.entries.now.items) c.in-Ok.end
    (record { blocks_are = refl; cut = c.requires; start_is = went.0; all_is = c.as_slice.ensures ∙ went.1 })

pub split_at-requires : goal.split_at-requires
split_at-requires c =
    let same = c.as_slice-2.ensures ∙ sym c.as_slice.ensures in
    omega (arith, ap length same, (cut_within c.as_slice.result.now 0 c.read_blocks-done.new.entries.items c.read_blocks-done.new.end c.read_blocks-done.ensures.cut).1)

pub returns-in_err-done-clause-cut : goal.returns-in_err-done-clause-cut
returns-in_err-done-clause-cut c =
    rw (c.truncate.ensures, ← c.as_slice.ensures) (cut_here c.as_slice.result.now c.read_blocks-done.new.entries.items c.read_blocks-done.new.end c.read_blocks-done.ensures.cut)

pub returns-in_err-done-clause-err : goal.returns-in_err-done-clause-err
returns-in_err-done-clause-err c =
    let section = c.args.section.now in
    let rest = c.args.rest.now in
    let all = c.as_slice.result.now in
    let now = c.read_blocks-done.new.entries.items in
    let end = c.read_blocks-done.new.end in
    let fault = c.in_err-done.field-0.0 in
    let went = c.in-Ok.ensures in
    let stops : Stops (prepend (frames_between c.args.text.now 0 c.args.entries.now.items) (blocks section rest)) (frames_between (take end all) 0 now) fault =
    stopped_behind section c.args.text.now rest all c.args.entries.now.items now (frames_between c.args.text.now 0 c.args.entries.now.items) c.in-Ok.end end fault
    (record { blocks_are = refl; cut = c.requires; start_is = went.0; all_is = c.as_slice.ensures ∙ went.1 })
    c.read_blocks-done.ensures.cut c.in_err-done.ensures.err in
    let text : c.truncate.new.self ≡ take end all = c.truncate.ensures ∙ ap (take end) (sym c.as_slice.ensures) in
    let p = err_from_is_err_and c.from_residual.result c.from_residual.ensures.1 in
    rw (p.1, p.2) (subst (λ (t : List ℕ). Stops (prepend (frames_between c.args.text.now 0 c.args.entries.now.items) (blocks section rest)) (frames_between t 0 now) fault) (sym text) stops)

pub returns-clause-cut : goal.returns-clause-cut
returns-clause-cut c =
    rw (c.truncate.ensures, ← c.as_slice.ensures) (cut_here c.as_slice.result.now c.read_blocks-done.new.entries.items c.read_blocks-done.new.end c.read_blocks-done.ensures.cut)

pub returns-clause-ok : goal.returns-clause-ok
returns-clause-ok c =
    let section = c.args.section.now in
    let rest = c.args.rest.now in
    let all = c.as_slice.result.now in
    let now = c.read_blocks-done.new.entries.items in
    let end = c.read_blocks-done.new.end in
    let went = c.in-Ok.ensures in
    let same : c.as_slice-2.result.now ≡ all = c.as_slice-2.ensures ∙ sym c.as_slice.ensures in
    let kept : c.replace-kept.new.self ≡ drop end all = c.in-Ok-kept.ensures ∙ c.split_at.ensures.back ∙ ap (drop end) same in
    let read = read_behind section c.read_blocks-done.new.section c.args.text.now rest all c.replace-kept.new.self c.args.entries.now.items now (frames_between c.args.text.now 0 c.args.entries.now.items) c.in-Ok.end end
    (record { blocks_are = refl; cut = c.requires; start_is = went.0; all_is = c.as_slice.ensures ∙ went.1 })
    c.read_blocks-done.ensures.cut kept c.in_ok-done.ensures.settled c.in_ok-done.ensures.ok in
    let text : c.truncate.new.self ≡ take end all = c.truncate.ensures ∙ ap (take end) (sym c.as_slice.ensures) in
    rw text read

pub returns-in_default-kept-clause-cut : goal.returns-in_default-kept-clause-cut
returns-in_default-kept-clause-cut c =
    rw (c.truncate.ensures, ← c.as_slice.ensures) (cut_here c.as_slice.result.now c.read_blocks-done.new.entries.items c.read_blocks-done.new.end c.read_blocks-done.ensures.cut)

pub returns-in_default-kept-clause-err : goal.returns-in_default-kept-clause-err
returns-in_default-kept-clause-err c =
    let section = c.args.section.now in
    let rest = c.args.rest.now in
    let all = c.as_slice.result.now in
    let now = c.read_blocks-done.new.entries.items in
    let end = c.read_blocks-done.new.end in
    let went = c.in-Ok.ensures in
    let stops : Stops (prepend (frames_between c.args.text.now 0 c.args.entries.now.items) (blocks section rest)) (frames_between (take end all) 0 now) NoMemory =
    starved_behind section c.read_blocks-done.new.section c.args.text.now rest all c.args.entries.now.items now (frames_between c.args.text.now 0 c.args.entries.now.items) c.in-Ok.end end
    (record { blocks_are = refl; cut = c.requires; start_is = went.0; all_is = c.as_slice.ensures ∙ went.1 })
    c.read_blocks-done.ensures.cut c.in_ok-done.ensures.ok in
    let text : c.truncate.new.self ≡ take end all = c.truncate.ensures ∙ ap (take end) (sym c.as_slice.ensures) in
    rw text stops
