use Rattle.dsedge_drive.proofs.AgainLaws.{follows_end, stopped_by}
use Rattle.dsedge_drive.proofs.command.DriveCommandCommand.end.Goals as goal

pub returns-clause-follows : goal.returns-clause-follows
returns-clause-follows g c =
    follows_end c.args.self.now c.give.new.self c.args.out.now.items c.give.new.out.items c.in_ok-give.ensures.given c.in_ok-give.ensures.kept

pub returns-clause-stands : goal.returns-clause-stands
returns-clause-stands g c =
    stopped_by c.args.self.now c.give.new.self c.args.out.now.items c.give.new.out.items (returns-clause-follows g c)
