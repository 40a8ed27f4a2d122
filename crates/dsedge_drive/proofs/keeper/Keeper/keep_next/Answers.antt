use Rattle.std.proofs.Common.{◌<◌, ◌≤◌, arith, length}
use Rattle.dsedge_drive.proofs.KeepLaws.{kept-more, kept-same, some-taken}
use Rattle.dsedge_drive.proofs.keeper.Keeper.keep_next.Goals as goal

pub returns-in-Ok-clause-kept : goal.returns-in-Ok-clause-kept
returns-in-Ok-clause-kept g c =
    let old = c.args.self.now in
    let end = c.min-end.result in
    let some : old.kept < end = omega (arith, c.min-end.ensures, c.requires.some) in
    let within : end ≤ length c.args.history.now = omega (arith, c.min-end.ensures) in
    let took = c.append.ensures in
    let kept = kept-more g.L.Ledger old.ledger c.append.new.self old.kept end c.args.history.now c.requires.kept some within took.truthful
    took.told c.in-Ok.ensures.appended c.in-Ok.ensures.lasting took.recovers (some-taken c.args.history.now old.kept end some within) in
    rw (c.locate.ensures.same) (c.locate.ensures.kept c.args.history.now kept)

pub returns-in-Err-clause-kept : goal.returns-in-Err-clause-kept
returns-in-Err-clause-kept g c =
    let old = c.args.self.now in
    let end = c.min-end.result in
    let some : old.kept < end = omega (arith, c.min-end.ensures, c.requires.some) in
    let within : end ≤ length c.args.history.now = omega (arith, c.min-end.ensures) in
    let took = c.append.ensures in
    kept-same g.L.Ledger old.ledger c.append.new.self old.kept end c.args.history.now c.requires.kept some within took.truthful
    took.told c.in-Err.ensures.unchanged took.crash took.recovers
