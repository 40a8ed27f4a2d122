-- A command line that is written as a table, as the parser of command lines reads it.
use Rattle.std.specs.Prelude.{ℕ, List, [], ◌∷◌}
use Rattle.clap.specs.Words.{App, Rule, new_app, with_rule, with_subcommand}
use Rattle.dsedge_base.specs.CommandLine.{flag, optional, optional_word, positional, required}
use Rattle.dsedge_base.specs.declared.command_table.ArgumentEntry.{ArgumentEntry}
use Rattle.dsedge_base.specs.declared.command_table.CommandEntry.{CommandEntry}
use Rattle.dsedge_base.specs.declared.command_table.Form.{Form}
use Rattle.dsedge_base.specs.declared.command_table.Form.TheVariants.{Choice, Flag, Maybe, Needed, Word}

abbrev pub rule_of_form : Form → List ℕ → Rule
rule_of_form Word name = positional name
rule_of_form Needed name = required name
rule_of_form Choice name = optional name
rule_of_form Maybe name = optional_word name
rule_of_form Flag name = flag name

-- what a word or an option is to the parser
abbrev pub rule_in : ArgumentEntry → Rule
rule_in argument = rule_of_form argument.form argument.name.now

-- a command with more words and options
abbrev pub with_arguments : App → List ArgumentEntry → App
with_arguments app [] = app
with_arguments app (argument ∷ arguments) = with_arguments (with_rule app (rule_in argument)) arguments

-- what a command of the table is to the parser
abbrev pub app_in : CommandEntry → App
app_in entry = with_arguments (new_app entry.name.now) entry.arguments.now

-- a program with more commands
abbrev pub with_commands : App → List CommandEntry → App
with_commands app [] = app
with_commands app (entry ∷ entries) = with_commands (with_subcommand app (app_in entry).top) entries
