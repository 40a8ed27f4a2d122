-- The command line of the program, as the parser of command lines reads it.
use Rattle.std.specs.Prelude.{true, codes, Some}
use Rattle.clap.specs.Words.{App, Rule, Text, new_app, new_rule, with_rule, with_subcommand}
use Rattle.clap.specs.declared.builder.action.ArgAction.TheVariants.{SetTrue}

-- an option with one value, `--name VALUE`
abbrev pub optional : Text → Rule
optional name = record (new_rule name) { long = Some name; value_names = 1 }

-- an option that has to be given
abbrev pub required : Text → Rule
required name = record (optional name) { required = true }

-- a word that has to be given
abbrev pub positional : Text → Rule
positional name = record (new_rule name) { value_names = 1; required = true }

-- a word that may be given
abbrev pub optional_word : Text → Rule
optional_word name = record (new_rule name) { value_names = 1 }

-- an option without a value, `--name`
abbrev pub flag : Text → Rule
flag name = record (new_rule name) { long = Some name; action = Some SetTrue }

-- an answer is an object of JSON where that is asked for
abbrev pub in_json : Rule
in_json = flag (codes "json")

-- the parameters of a meter, of which each kind has its own, and what every meter has; levels are told where asked for
abbrev pub meter : App
meter = with_rule (with_rule (with_rule (with_rule (with_rule (with_rule (with_rule (with_rule (with_rule (with_rule (with_rule (new_app (codes "meter"))
    (required (codes "kind")))
    (required (codes "mode")))
    (required (codes "cir")))
    (required (codes "cbs")))
    (optional (codes "pir")))
    (optional (codes "pbs")))
    (optional (codes "eir")))
    (optional (codes "ebs")))
    (optional (codes "origin")))
    (flag (codes "levels")))
    in_json

-- the words stand alone, with no name of the program before them, and name a command, or ask for the version
abbrev pub program : App
program = let a = new_app (codes "dsedge") in
    record a { top = record a.top { has_version = true; no_binary_name = true; subcommand_required = true } }

-- an envelope has a rate and a burst
abbrev pub envelope : App
envelope = with_rule (with_rule (with_rule (new_app (codes "envelope"))
    (required (codes "rate")))
    (required (codes "burst")))
    in_json

-- a certificate is that of a domain
abbrev pub certify : App
certify = with_rule (with_rule (new_app (codes "certify")) (positional (codes "domain"))) in_json

-- a command on a domain and a certificate
abbrev pub on_table : Text → App
on_table name = with_rule (with_rule (new_app name)
    (positional (codes "domain")))
    (positional (codes "certificate"))

-- a check is of a domain and a certificate
abbrev pub check : App
check = with_rule (on_table (codes "check")) in_json

-- what is left at the meters is that of a domain
abbrev pub headroom : App
headroom = with_rule (with_rule (new_app (codes "headroom")) (positional (codes "domain"))) in_json

-- a picture is that of a domain
abbrev pub draw : App
draw = with_rule (new_app (codes "draw")) (positional (codes "domain"))

-- a quote is of a contract of a domain, and of a field of it, or of how many fit
abbrev pub quote : App
quote = with_rule (with_rule (with_rule (with_rule (with_rule (new_app (codes "quote"))
    (positional (codes "domain")))
    (required (codes "contract")))
    (optional (codes "most")))
    (flag (codes "count")))
    in_json

-- an export is of a meter of a domain, to a device
abbrev pub export_to : App
export_to = with_rule (with_rule (with_rule (new_app (codes "export"))
    (positional (codes "domain")))
    (required (codes "meter")))
    (required (codes "to"))

-- an audit is of a run over a domain with a certificate
abbrev pub audit : App
audit = with_rule (on_table (codes "audit")) in_json

-- contracts are sold of a domain, by a book that a file keeps and that takes so much where these are said
abbrev pub drive : App
drive = with_rule (with_rule (with_rule (with_rule (with_rule (new_app (codes "drive"))
    (positional (codes "domain")))
    (optional (codes "book")))
    (optional (codes "contracts")))
    (optional (codes "commands")))
    in_json

-- what a book of a domain holds that a file keeps is told, as a domain text where that is asked for
abbrev pub book : App
book = with_rule (with_rule (with_rule (new_app (codes "book"))
    (positional (codes "domain")))
    (positional (codes "file")))
    (flag (codes "to-domain"))

-- a capture is marked at a port, by workers where it is said by how many, with a rule for red frames, and the verdict is
-- told where asked for
abbrev pub mark : App
mark = with_rule (with_rule (with_rule (with_rule (with_rule (on_table (codes "mark"))
    (required (codes "port")))
    (optional (codes "workers")))
    (required (codes "red")))
    (flag (codes "verdict")))
    in_json

-- the packets of a capture are told, of a port of a domain, of one contract there, or of all, with colours or without
abbrev pub arrivals : App
arrivals = with_rule (with_rule (with_rule (with_rule (new_app (codes "arrivals"))
    (optional_word (codes "domain")))
    (optional (codes "port")))
    (optional (codes "contract")))
    (flag (codes "colours"))

abbrev pub dsedge : App
dsedge = with_subcommand (with_subcommand (with_subcommand (with_subcommand (with_subcommand (with_subcommand (with_subcommand (with_subcommand (with_subcommand (with_subcommand (with_subcommand (with_subcommand (with_subcommand program meter.top) envelope.top) certify.top) check.top) headroom.top) draw.top) quote.top) export_to.top) audit.top) drive.top) book.top) mark.top) arrivals.top
