use Rattle.std.proofs.Common.{refl}
use Rattle.ds_marking.proofs.MarkingLaws.{broken_marked, finished_marked}
use Rattle.ds_marking.proofs.marking.end.Goals as goal

pub returns-in-Ok-clause-marked : goal.returns-in-Ok-clause-marked
returns-in-Ok-clause-marked g c = λ tells was name bytes more before is made at.
    let p = c.args.passage.now.port in
    let turned = rw c.in-Ok.is at at in
    let done = c.finish.ensures.marked tells turned.frames turned.text before (made turned.frames turned.text turned.conditioned) turned.written in
    finished_marked p p.accepted.now name p.red p.opening bytes _ before _ turned.frames c.in-Ok.fault c.finish.result refl refl refl is turned.well turned.writable turned.ended done

pub returns-in-Err-clause-marked : goal.returns-in-Err-clause-marked
returns-in-Err-clause-marked g c = λ tells was name bytes more before is made at.
    let p = c.args.passage.now.port in
    let off = rw c.in-Err.is at at in
    let why = rw c.in-Err.is at c.requires.fault in
    broken_marked p p.accepted.now name p.red p.opening bytes _ before _ was c.in-Err.fault c.report.result refl refl refl is why off
    (c.report.ensures.told off.frames off.text (made off.frames off.text off.conditioned))
