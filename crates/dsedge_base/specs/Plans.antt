-- What words ask for.
use Rattle.std.specs.Prelude.{◌≡◌, ◌⊎◌, List, [], codes, Bool, true, false, ◌&&◌, Option, None, Some, is_none, option_and_then, if◌then◌else◌, bytes_eq}
use Rattle.std.specs.Option.{option_map_or}
use Rattle.clap.specs.Words.{IsAmong, Row, Text, fault_of, first_of, subcommand_of}
use Rattle.clap.specs.declared.error.kind.ErrorKind.{ErrorKind}
use Rattle.clap.specs.declared.error.kind.ErrorKind.TheVariants.{DisplayHelp, DisplayVersion}
use Rattle.dsedge_base.specs.CommandLine.{dsedge}
use Rattle.dsedge_base.specs.Options.{Given, drive_given, envelope_given, export_given, is_set, marking_given, meter_given, place_given, quote_given, table_given, workers_given, ◌>>=◌}
use Rattle.dsedge_base.specs.declared.explanation.Explanation.{Explanation}
use Rattle.dsedge_base.specs.declared.explanation.Explanation.TheVariants.{Form, Value, Workers}
use Rattle.dsedge_base.specs.declared.fault.UsageFault.{UsageFault}
use Rattle.dsedge_base.specs.declared.fault.UsageFault.TheVariants.{Usage, NoMemory}
use Rattle.dsedge_base.specs.declared.work.Plan.{Plan}
use Rattle.dsedge_base.specs.declared.work.Plan.TheVariants.{Arrivals, Audit, Book, Certify, Check, Draw, Drive, Envelope, Export, Headroom, Mark, Meter, Quote, Show}

-- the texts that the options of a command were given
abbrev pub given_by : List Row → Given
given_by rows name = first_of name rows

-- what `book` asks for with its words
unfoldable pub book_given : Given → Option Plan
book_given given = do
  domain ← given (codes "domain")
  book ← given (codes "file")
  Some (Book domain book (is_set (given (codes "to-domain"))))

-- what `check` and `audit` ask for with their words
abbrev pub check_given : Given → Option Plan
check_given given = table_given given >>= (λ files. Some (Check files.0 files.1 (is_set (given (codes "json")))))

abbrev pub audit_given : Given → Option Plan
audit_given given = table_given given >>= (λ files. Some (Audit files.0 files.1 (is_set (given (codes "json")))))

-- what `meter` asks for with its options
abbrev pub meter_asked : Given → Option Plan
meter_asked given =
    meter_given given >>= (λ m. Some (Meter m (is_set (given (codes "levels"))) (is_set (given (codes "json")))))

-- what `envelope` asks for with its options
abbrev pub envelope_asked : Given → Option Plan
envelope_asked given =
    envelope_given given >>= (λ e. Some (Envelope e.0 e.1 (is_set (given (codes "json")))))

-- what `certify` asks for with its words
abbrev pub certify_given : Given → Option Plan
certify_given given =
    given (codes "domain") >>= (λ domain. Some (Certify domain (is_set (given (codes "json")))))

-- what `quote` asks for with its words
abbrev pub quote_asked : Given → Option Plan
quote_asked given = quote_given given >>= (λ q. Some (Quote q.0 q.1 q.2 (is_set (given (codes "json")))))

-- what `headroom` asks for with its words
abbrev pub headroom_given : Given → Option Plan
headroom_given given =
    given (codes "domain") >>= (λ domain. Some (Headroom domain (is_set (given (codes "json")))))

-- what `mark` asks for with its options
unfoldable pub mark_given : Given → Option Plan
mark_given given = do
  files ← table_given given
  marking ← marking_given given
  Some (Mark files.0 files.1 marking.0 marking.1 marking.2 (is_set (given (codes "verdict")))
      (is_set (given (codes "json"))))

-- what `drive` asks for with its words
abbrev pub drive_asked : Given → Option Plan
drive_asked given = drive_given given >>= (λ d. Some (Drive d.0 d.1 d.2 (is_set (given (codes "json")))))

-- what `arrivals` asks for with its words
abbrev pub arrivals_given : Given → Option Plan
arrivals_given given = place_given given >>= (λ place. Some (Arrivals place (is_set (given (codes "colours")))))

-- what a command and its options ask for
abbrev pub plan_of : Text × List Row → Option Plan
plan_of c =
    if bytes_eq c.0 (codes "meter") then meter_asked (given_by c.1)
    else if bytes_eq c.0 (codes "envelope") then envelope_asked (given_by c.1)
    else if bytes_eq c.0 (codes "certify") then certify_given (given_by c.1)
    else if bytes_eq c.0 (codes "headroom") then headroom_given (given_by c.1)
    else if bytes_eq c.0 (codes "draw") then given_by c.1 (codes "domain") >>= (λ domain. Some (Draw domain))
    else if bytes_eq c.0 (codes "quote") then quote_asked (given_by c.1)
    else if bytes_eq c.0 (codes "export") then export_given (given_by c.1) >>= (λ e. Some (Export e.0 e.1 e.2))
    else if bytes_eq c.0 (codes "drive") then drive_asked (given_by c.1)
    else if bytes_eq c.0 (codes "book") then book_given (given_by c.1)
    else if bytes_eq c.0 (codes "check") then check_given (given_by c.1)
    else if bytes_eq c.0 (codes "audit") then audit_given (given_by c.1)
    else if bytes_eq c.0 (codes "mark") then mark_given (given_by c.1)
    else if bytes_eq c.0 (codes "arrivals") then arrivals_given (given_by c.1)
    else None

-- the words are a command line of the program, with nothing wrong in its form
abbrev pub IsWellFormed : List Text → Type 0
IsWellFormed words = fault_of dsedge words ≡ []

-- what words that are well formed ask for
abbrev pub asked_by : List Text → Option Plan
asked_by words = option_and_then plan_of (subcommand_of dsedge words)

-- the words ask for help, or for the version
abbrev pub IsWish : ErrorKind → Type 0
IsWish kind = (kind ≡ DisplayHelp) ⊎ (kind ≡ DisplayVersion)

-- A text is shown where the words ask for it before anything is found wrong in their form; every other plan is what
-- well formed words ask for.
abbrev pub IsPlanOf : List Text → Plan → Type 0
IsPlanOf words (Show text) = (kind : ErrorKind) × IsAmong kind (fault_of dsedge words) × IsWish kind
IsPlanOf words (Meter m has_levels in_json) =
    IsWellFormed words × (asked_by words ≡ Some (Meter m has_levels in_json))
IsPlanOf words (Envelope rate burst in_json) =
    IsWellFormed words × (asked_by words ≡ Some (Envelope rate burst in_json))
IsPlanOf words (Certify domain in_json) = IsWellFormed words × (asked_by words ≡ Some (Certify domain in_json))
IsPlanOf words (Check domain certificate in_json) =
    IsWellFormed words × (asked_by words ≡ Some (Check domain certificate in_json))
IsPlanOf words (Headroom domain in_json) = IsWellFormed words × (asked_by words ≡ Some (Headroom domain in_json))
IsPlanOf words (Draw domain) = IsWellFormed words × (asked_by words ≡ Some (Draw domain))
IsPlanOf words (Quote domain contract asked in_json) =
    IsWellFormed words × (asked_by words ≡ Some (Quote domain contract asked in_json))
IsPlanOf words (Export domain meter device) = IsWellFormed words × (asked_by words ≡ Some (Export domain meter device))
IsPlanOf words (Audit domain certificate in_json) =
    IsWellFormed words × (asked_by words ≡ Some (Audit domain certificate in_json))
IsPlanOf words (Drive domain limits book in_json) =
    IsWellFormed words × (asked_by words ≡ Some (Drive domain limits book in_json))
IsPlanOf words (Book domain book to_domain) = IsWellFormed words × (asked_by words ≡ Some (Book domain book to_domain))
IsPlanOf words (Mark domain certificate port workers keeps_red has_verdict in_json) =
    IsWellFormed words × (asked_by words ≡ Some (Mark domain certificate port workers keeps_red has_verdict in_json))
IsPlanOf words (Arrivals place has_colours) = IsWellFormed words × (asked_by words ≡ Some (Arrivals place has_colours))

-- something other than a wish for a text stands against the form of the words
abbrev pub IsMalformed : List Text → Type 0
IsMalformed words = (kind : ErrorKind) × IsAmong kind (fault_of dsedge words) × ¬ IsWish kind

-- Words are refused only where their form is wrong, or where they are well formed and ask for nothing that there is;
-- memory may run out at any words.
abbrev pub IsRefusalOf : List Text → UsageFault → Type 0
IsRefusalOf words Usage = IsMalformed words ⊎ (IsWellFormed words × (asked_by words ≡ None))
IsRefusalOf words NoMemory = Unit {0}

-- whether a command is `mark`, and asks for other workers than 1 to 64
abbrev pub has_other_workers : Text × List Row → Bool
has_other_workers c = bytes_eq c.0 (codes "mark") && is_none (workers_given (given_by c.1))

-- whether words ask for that
abbrev pub asks_other_workers : Option (Text × List Row) → Bool
asks_other_workers command = option_map_or has_other_workers command false

-- Why words give no plan: their form is wrong, or `mark` is asked for other workers than 1 to 64, or another value is
-- none.
abbrev pub IsExplanationOf : List Text → Explanation → Type 0
IsExplanationOf words (Form text) = IsMalformed words
IsExplanationOf words Workers =
    IsWellFormed words × (asked_by words ≡ None) × (asks_other_workers (subcommand_of dsedge words) ≡ true)
IsExplanationOf words Value =
    IsWellFormed words × (asked_by words ≡ None) × (asks_other_workers (subcommand_of dsedge words) ≡ false)

-- the form of words is explained
abbrev pub IsOfForm : Explanation → Type 0
IsOfForm (Form text) = Unit {0}
IsOfForm Workers = ⊥
IsOfForm Value = ⊥

abbrev pub IsShown : Plan → Type 0
IsShown (Show text) = Unit {0}
IsShown (Meter m has_levels in_json) = ⊥
IsShown (Envelope rate burst in_json) = ⊥
IsShown (Certify domain in_json) = ⊥
IsShown (Check domain certificate in_json) = ⊥
IsShown (Headroom domain in_json) = ⊥
IsShown (Draw domain) = ⊥
IsShown (Quote domain contract asked in_json) = ⊥
IsShown (Export domain meter device) = ⊥
IsShown (Audit domain certificate in_json) = ⊥
IsShown (Drive domain limits book in_json) = ⊥
IsShown (Book domain book to_domain) = ⊥
IsShown (Mark domain certificate port workers keeps_red has_verdict in_json) = ⊥
IsShown (Arrivals place has_colours) = ⊥
