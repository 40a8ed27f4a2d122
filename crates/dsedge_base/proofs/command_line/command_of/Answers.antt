use Rattle.std.proofs.Common.{ap, ◌≡◌, ◌∙◌, false}
use Rattle.clap.specs.Simple.{app_of_fields}
use Rattle.clap.specs.Words.{app_of, new_app}
use Rattle.clap.specs.declared.builder.command.Command.TheViews.{out-Command as fields_of}
use Rattle.dsedge_base.specs.CommandTable.{with_arguments}
use Rattle.dsedge_base.proofs.CommandLemmas.{left_from, with_argument, with_every_argument}
use Rattle.dsedge_base.proofs.command_line.command_of.Goals as goal

pub loop-argument-init : goal.loop-argument-init
loop-argument-init c =
    let named : app_of c.about.result ≡ new_app c.args.entry.now.name.now = ap app_of_fields c.about.ensures ∙ c.new.ensures.app in
    let alone : (fields_of c.about.result).has_globals ≡ false = rw c.about.ensures c.new.ensures.local in
    let helped : app_of c.after_help-command.result ≡ new_app c.args.entry.now.name.now = ap app_of_fields c.after_help-command.ensures ∙ named in
    let local : (fields_of c.after_help-command.result).has_globals ≡ false = rw c.after_help-command.ensures alone in
    (ap (λ app. with_arguments app c.args.entry.now.arguments.now) helped, local)

pub loop-argument-preserved : goal.loop-argument-preserved
loop-argument-preserved c =
    with_argument _ _ _ _ _ _ _ c.loop-argument.invariant (left_from c.args.entry.now.arguments.now c.loop-argument.argument-index _ c.loop-argument-test.true)
    c.argument_of.ensures.rule c.argument_of.ensures.local c.in_ok-command.ensures

pub returns-clause-shape : goal.returns-clause-shape
returns-clause-shape c =
    with_every_argument _ c.args.entry.now.arguments.now c.loop-argument.argument-index _ c.loop-argument.invariant c.loop-argument-test.false
