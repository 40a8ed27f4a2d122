use Rattle.std.proofs.Common.{◌≡◌, true, ap, ◌∙◌, codes}
use Rattle.std.proofs.lemmas.Result.{IfOk-weaker}
use Rattle.clap.specs.Simple.{app_of_fields}
use Rattle.clap.specs.Words.{App, app_of, new_app}
use Rattle.dsedge_base.specs.CommandLine.{program}
use Rattle.dsedge_base.proofs.command_line.program.Goals as goal

pub returns : goal.returns
returns c =
    let named : app_of c.about.result ≡ new_app (codes "dsedge") = ap app_of_fields c.about.ensures ∙ c.new.ensures.app in
    let helped : app_of c.after_help.result ≡ new_app (codes "dsedge") = ap app_of_fields c.after_help.ensures ∙ named in
    let dated = ap app_of_fields c.version.ensures ∙ ap (λ (a : App). record a { top = record a.top { has_version = true } }) helped in
    let alone = ap app_of_fields c.no_binary_name.ensures ∙ ap (λ (a : App). record a { top = record a.top { no_binary_name = true } }) dated in
    let whole : app_of c.subcommand_required.result ≡ program =
    ap app_of_fields c.subcommand_required.ensures ∙ ap (λ (a : App). record a { top = record a.top { subcommand_required = true } }) alone in
    IfOk-weaker c.bin_name.result _ _ (λ command named. ap app_of_fields named.0 ∙ whole) c.bin_name.ensures
