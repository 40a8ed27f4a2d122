-- How a command gains its words and options, and a program its commands.
use Rattle.std.proofs.Common.{◌≡◌, ◌||◌, ◌∷◌, ℕ, ◌+◌, ◌<◌, ◌≤◌, add-one, List, length, get_or, drop, false, ap, ap₂, sym, ◌∙◌, drop-cons}
use Rattle.std.proofs.lemmas.List.{drop_all}
use Rattle.clap.specs.Words.{AddsArg, AddsSubcommand, App, app_of, rule_of, with_rule, with_subcommand}
use Rattle.clap.specs.declared.builder.arg.Arg.{Arg}
use Rattle.clap.specs.declared.builder.command.Command.{Command}
use Rattle.clap.specs.declared.builder.command.Command.TheViews.{out-Command as fields_of}
use Rattle.dsedge_base.specs.CommandTable.{app_in, rule_in, with_arguments, with_commands}
use Rattle.dsedge_base.specs.declared.command_table.ArgumentEntry.{ArgumentEntry}
use Rattle.dsedge_base.specs.declared.command_table.CommandEntry.{CommandEntry}

-- what is left from a place begins with what stands there
pub left_from : {A : Type 0} (xs : List A) (index : ℕ) (otherwise : A) → index < length xs
    → drop index xs ≡ get_or xs index otherwise ∷ drop (index + 1) xs
left_from xs index otherwise within = rw add-one (drop-cons xs index otherwise within)

-- with these arguments the command is the whole, and no argument of it is global
abbrev pub Lacks : App → List ArgumentEntry → Command → Type 0
Lacks whole arguments command = (with_arguments (app_of command) arguments ≡ whole) × ((fields_of command).has_globals ≡ false)

-- with one more argument it lacks the others
pub with_argument : (whole : App) (argument : ArgumentEntry) (arguments left : List ArgumentEntry) (old : Command) (arg : Arg) (new : Command)
    → Lacks whole arguments old → arguments ≡ argument ∷ left → rule_of arg ≡ rule_in argument → arg.global ≡ false
    → AddsArg old arg new → Lacks whole left new
with_argument whole argument arguments left old arg new lacks begins is_rule local adds =
    let added = adds.shape local ∙ ap (with_rule (app_of old)) is_rule in (
      ap (λ app. with_arguments app left) added ∙ (ap (with_arguments (app_of old)) (sym begins) ∙ lacks.0),
      adds.globals ∙ ap₂ ◌||◌ lacks.1 local,
    )

-- with all of them it is the whole
pub with_every_argument : (whole : App) (arguments : List ArgumentEntry) (index : ℕ) (command : Command)
    → Lacks whole (drop index arguments) command → length arguments ≤ index → app_of command ≡ whole
with_every_argument whole arguments index command lacks is_last =
    ap (with_arguments (app_of command)) (sym (drop_all index arguments is_last)) ∙ lacks.0

-- a program with one more command
pub with_command : (program : App) (entry : CommandEntry) (old command new : Command) → app_of old ≡ program
    → app_of command ≡ app_in entry → (fields_of command).has_globals ≡ false → AddsSubcommand old command new
    → app_of new ≡ with_subcommand program (app_in entry).top
with_command program entry old command new is_program is_part local adds =
    adds.shape local ∙ ap₂ with_subcommand is_program (ap (λ (app : App). app.top) is_part)

-- with one more command it lacks the others
pub with_next_command : (whole : App) (entry : CommandEntry) (entries left : List CommandEntry) (old new : Command)
    → with_commands (app_of old) entries ≡ whole → entries ≡ entry ∷ left
    → app_of new ≡ with_subcommand (app_of old) (app_in entry).top → with_commands (app_of new) left ≡ whole
with_next_command whole entry entries left old new lacks begins added =
    ap (λ app. with_commands app left) added ∙ (ap (with_commands (app_of old)) (sym begins) ∙ lacks)

-- with all of them it is the whole
pub with_every_command : (whole : App) (entries : List CommandEntry) (index : ℕ) (command : Command)
    → with_commands (app_of command) (drop index entries) ≡ whole → length entries ≤ index → app_of command ≡ whole
with_every_command whole entries index command lacks is_last =
    ap (with_commands (app_of command)) (sym (drop_all index entries is_last)) ∙ lacks
