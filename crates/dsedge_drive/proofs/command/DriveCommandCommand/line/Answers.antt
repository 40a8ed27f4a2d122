use Rattle.std.proofs.Common.{refl}
use Rattle.std.proofs.lemmas.Result.{err_from_is_err_and}
use Rattle.dsedge_drive.proofs.AgainLaws.{follows_bad_line, follows_given, further_by, stands_by_line, stays_ungiven, stays_unsaid, stopped_by}
use Rattle.dsedge_drive.proofs.command.DriveCommandCommand.line.Goals as goal

pub returns-in_err-is_known-clause-follows : goal.returns-in_err-is_known-clause-follows
returns-in_err-is_known-clause-follows g c =
    let p = err_from_is_err_and c.from_residual.result c.from_residual.ensures.1 in
    rw p.1 (stays_unsaid c.args.self.now c.reply.new.self c.args.out.now.items c.args.out.now.items c.reply.ensures.grown refl)

pub returns-in_err-give-clause-follows : goal.returns-in_err-give-clause-follows
returns-in_err-give-clause-follows g c =
    let p = err_from_is_err_and c.from_residual-in_err-give.result c.from_residual-in_err-give.ensures.1 in
    rw p.1 (stays_ungiven c.args.self.now c.reply.new.self c.give.new.self c.args.out.now.items c.give.new.out.items c.reply.ensures.grown c.in_err-give.ensures.further c.in_err-give.ensures.back)

pub returns-then-is_known-clause-follows : goal.returns-then-is_known-clause-follows
returns-then-is_known-clause-follows g c =
    follows_given c.in_ok-is_known.is_known c.args.self.now c.reply.new.self c.give.new.self c.args.line.now c.args.out.now.items c.give.new.out.items
    c.in_ok-is_known.ensures.known c.if-is_known.true c.in_ok-is_known.ensures.said c.reply.ensures.grown c.in_ok-give.ensures.given c.in_ok-give.ensures.kept

pub returns-else-is_known-clause-follows : goal.returns-else-is_known-clause-follows
returns-else-is_known-clause-follows g c =
    follows_bad_line c.in_ok-is_known.is_known c.args.self.now c.reply.new.self c.give.new.self c.args.line.now c.args.out.now.items c.give.new.out.items
    c.in_ok-is_known.ensures.known c.if-is_known.false c.in_ok-is_known.ensures.said c.in_ok-give.ensures.given c.in_ok-give.ensures.kept

pub returns-in_err-is_known-clause-stands : goal.returns-in_err-is_known-clause-stands
returns-in_err-is_known-clause-stands g c later =
    stands_by_line c.args.self.now c.reply.new.self c.args.out.now.items c.args.out.now.items c.from_residual.result c.args.line.now later (returns-in_err-is_known-clause-follows g c)

pub returns-in_err-give-clause-stands : goal.returns-in_err-give-clause-stands
returns-in_err-give-clause-stands g c later =
    stands_by_line c.args.self.now c.give.new.self c.args.out.now.items c.give.new.out.items c.from_residual-in_err-give.result c.args.line.now later (returns-in_err-give-clause-follows g c)

pub returns-then-is_known-clause-stands : goal.returns-then-is_known-clause-stands
returns-then-is_known-clause-stands g c later =
    further_by c.args.self.now c.give.new.self c.args.out.now.items c.give.new.out.items c.args.line.now later (returns-then-is_known-clause-follows g c)

pub returns-else-is_known-clause-stands : goal.returns-else-is_known-clause-stands
returns-else-is_known-clause-stands g c later =
    stopped_by c.args.self.now c.give.new.self c.args.out.now.items c.give.new.out.items (returns-else-is_known-clause-follows g c)
