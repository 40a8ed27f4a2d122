use Rattle.std.proofs.Common.{ap, refl, sym, subst, ◌∙◌}
use Rattle.std.proofs.lemmas.Result.{err_from_is_err_and}
use Rattle.dsedge_lines.specs.Fronts.{IsFirstLine}
use Rattle.dsedge_drive.specs.Opened.{IsGrown}
use Rattle.dsedge_drive.proofs.AgainLaws.{follows_given, follows_held, further_by_front, stands_by_front, stays_ungiven, stays_unsaid}
use Rattle.dsedge_drive.proofs.command.DriveCommandCommand.front_line.Goals as goal
use Rattle.dsedge_drive.proofs.command.DriveCommandCommand.front_line.Goals.{then-is_due+in_ok-give, else-is_due}

pub returns-in_err-reply-clause-follows : goal.returns-in_err-reply-clause-follows
returns-in_err-reply-clause-follows g c =
    let p = err_from_is_err_and c.from_residual.result c.from_residual.ensures.1 in
    rw p.1 (stays_unsaid c.args.self.now c.reply.new.self c.args.out.now.items c.args.out.now.items c.reply.ensures.grown refl)

pub returns-in_err-give-clause-follows : goal.returns-in_err-give-clause-follows
returns-in_err-give-clause-follows g c =
    let p = err_from_is_err_and c.from_residual-in_err-give.result c.from_residual-in_err-give.ensures.1 in
    rw p.1 (stays_ungiven c.args.self.now c.reply.new.self c.give.new.self c.args.out.now.items c.give.new.out.items c.reply.ensures.grown c.in_err-give.ensures.further c.in_err-give.ensures.back)

pub returns-clause-follows : goal.returns-clause-follows
returns-clause-follows g c =
    let s = c.args.self.now in
    let line = c.in-Some.line.now in
    let known = c.in_ok-reply.field-0 in
    let told = c.in_ok-reply.ensures.known in
    let first : IsFirstLine c.args.text.now line c.in-Some.rest.now = record { whole = c.in-Some.ensures.1; unended = c.in-Some.ensures.0 } in (
      line,
      first,
      elim c.if-is_due.branch [
        | then-is_due+in_ok-give w ↦ follows_given known s c.reply.new.self c.if-is_due.self line c.args.out.now.items c.if-is_due.out.items told c.if-not-branch.false c.in_ok-reply.ensures.said
            c.reply.ensures.grown (ap (λ o. o.items) w.out-is ∙ w.in_ok-give.ensures.given) (w.self-is ∙ w.in_ok-give.ensures.kept)
        | else-is_due w ↦ follows_held known s c.if-is_due.self line c.args.out.now.items c.if-is_due.out.items told c.if-not-branch.false (w.self-is ∙ c.in_ok-reply.ensures.said)
            (subst (IsGrown s) (sym w.self-is) c.reply.ensures.grown) (ap (λ o. o.items) w.out-is)
      ],
    )

pub returns-in_err-reply-clause-stands : goal.returns-in_err-reply-clause-stands
returns-in_err-reply-clause-stands g c later =
    stands_by_front c.args.self.now c.reply.new.self c.args.out.now.items c.args.out.now.items c.from_residual.result c.args.text.now later (λ it. it.now) (returns-in_err-reply-clause-follows g c)

pub returns-in_err-give-clause-stands : goal.returns-in_err-give-clause-stands
returns-in_err-give-clause-stands g c later =
    stands_by_front c.args.self.now c.give.new.self c.args.out.now.items c.give.new.out.items c.from_residual-in_err-give.result c.args.text.now later (λ it. it.now) (returns-in_err-give-clause-follows g c)

pub returns-clause-stands : goal.returns-clause-stands
returns-clause-stands g c later =
    let follows = returns-clause-follows g c in
    further_by_front c.args.self.now c.if-is_due.self c.args.out.now.items c.if-is_due.out.items c.args.text.now follows.0 c.in-Some.rest.now later follows.1 follows.2
