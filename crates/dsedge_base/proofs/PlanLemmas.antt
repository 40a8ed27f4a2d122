-- What words are answered with, from what the parser of command lines says of them.
use Rattle.std.proofs.Common.{◌≡◌, ◌≢◌, ◌⊎◌, ℕ, codes, inl, inr, refl, ap, sym, subst, ◌∙◌, Bool, true, false, if◌then◌else◌, List, [], Option, None, Some, option_and_then, String, IfOk, IfErr, IfSome, IsSome, Global, ok_or, bytes_eq}
use Rattle.meter_book_base.specs.declared.any_meter.AnyMeter.{AnyMeter}
use Rattle.clap.specs.Words.{App, HasKind, HasMatchesOf, IsAmong, Row, Text, fault_of, is_simple, is_simple_and_free, kind_of, subcommand_of, subcommand_rows_of}
use Rattle.clap.specs.declared.error.Error.{Error}
use Rattle.clap.specs.declared.parser.matches.ArgMatches.{ArgMatches}
use Rattle.clap.specs.declared.error.kind.ErrorKind.{ErrorKind}
use Rattle.clap.specs.declared.error.kind.ErrorKind.TheVariants.{DisplayHelp, DisplayVersion, OutOfMemory}
use Rattle.clap.proofs.OnLiterals.{clap_on_literals}
use Rattle.dsedge_base.specs.CommandLine.{dsedge}
use Rattle.ds_broker.specs.Books.{Limits}
use Rattle.device_core.specs.declared.device.Device.{Device}
use Rattle.ds_quotes.specs.declared.asked.Asked.{Asked}
use Rattle.dsedge_base.specs.Options.{Given, drive_given, envelope_given, export_given, is_set, marking_given, meter_given, place_given, quote_given, table_given, ◌>>=◌}
use Rattle.dsedge_base.specs.Plans.{IsExplanationOf, IsMalformed, IsOfForm, IsPlanOf, IsRefusalOf, IsShown, IsWellFormed, IsWish, asked_by, asks_other_workers, book_given, given_by, mark_given, plan_of}
use Rattle.dsedge_base.specs.declared.explanation.Explanation.{Explanation}
use Rattle.dsedge_base.specs.declared.explanation.Explanation.TheVariants.{Form, Value, Workers}
use Rattle.dsedge_base.specs.declared.fault.UsageFault.{UsageFault}
use Rattle.dsedge_base.specs.declared.fault.UsageFault.TheVariants.{Usage, NoMemory}
use Rattle.dsedge_base.specs.declared.work.GivenPort.{GivenPort}
use Rattle.dsedge_base.specs.declared.work.Plan.{Plan}
use Rattle.dsedge_base.specs.declared.work.Plan.TheVariants.{Arrivals, Audit, Book, Certify, Check, Draw, Drive, Envelope, Export, Headroom, Mark, Meter, Quote, Show}

-- the parser says exactly what it makes of a command line such as the program's
pub dsedge-simple : is_simple dsedge ≡ true
unfolding clap_on_literals
dsedge-simple = refl

pub dsedge-simple_and_free : is_simple_and_free dsedge ≡ true
unfolding clap_on_literals
dsedge-simple_and_free = refl

meter-no_text : (meter : Option AnyMeter) (has_levels in_json : Bool) (text : String Global)
    → (meter >>= (λ m. Some (Meter m has_levels in_json))) ≡ Some (Show text) → ⊥
meter-no_text None has_levels in_json text e = cc
meter-no_text (Some m) has_levels in_json text e = cc

envelope-no_text : (envelope : Option (ℕ × ℕ)) (in_json : Bool) (text : String Global)
    → (envelope >>= (λ e. Some (Envelope e.0 e.1 in_json))) ≡ Some (Show text) → ⊥
envelope-no_text None in_json text e = cc
envelope-no_text (Some c) in_json text e = cc

certify-no_text : (domain : Option (List ℕ)) (in_json : Bool) (text : String Global)
    → (domain >>= (λ d. Some (Certify d in_json))) ≡ Some (Show text) → ⊥
certify-no_text None in_json text e = cc
certify-no_text (Some d) in_json text e = cc

headroom-no_text : (domain : Option (List ℕ)) (in_json : Bool) (text : String Global)
    → (domain >>= (λ d. Some (Headroom d in_json))) ≡ Some (Show text) → ⊥
headroom-no_text None in_json text e = cc
headroom-no_text (Some d) in_json text e = cc

draw-no_text : (domain : Option (List ℕ)) (text : String Global) → (domain >>= (λ d. Some (Draw d))) ≡ Some (Show text) → ⊥
draw-no_text None text e = cc
draw-no_text (Some d) text e = cc

quote-no_text : (quote : Option (List ℕ × List ℕ × Asked)) (in_json : Bool) (text : String Global)
    → (quote >>= (λ q. Some (Quote q.0 q.1 q.2 in_json))) ≡ Some (Show text) → ⊥
quote-no_text None in_json text e = cc
quote-no_text (Some q) in_json text e = cc

export-no_text : (export : Option (List ℕ × List ℕ × Device)) (text : String Global)
    → (export >>= (λ e. Some (Export e.0 e.1 e.2))) ≡ Some (Show text) → ⊥
export-no_text None text e = cc
export-no_text (Some x) text e = cc

drive-no_text : (drive : Option (List ℕ × Limits × Option (List ℕ))) (in_json : Bool) (text : String Global)
    → (drive >>= (λ d. Some (Drive d.0 d.1 d.2 in_json))) ≡ Some (Show text) → ⊥
drive-no_text None in_json text e = cc
drive-no_text (Some d) in_json text e = cc

check-no_text : (files : Option (List ℕ × List ℕ)) (in_json : Bool) (text : String Global)
    → (files >>= (λ f. Some (Check f.0 f.1 in_json))) ≡ Some (Show text) → ⊥
check-no_text None in_json text e = cc
check-no_text (Some f) in_json text e = cc

audit-no_text : (files : Option (List ℕ × List ℕ)) (in_json : Bool) (text : String Global)
    → (files >>= (λ f. Some (Audit f.0 f.1 in_json))) ≡ Some (Show text) → ⊥
audit-no_text None in_json text e = cc
audit-no_text (Some f) in_json text e = cc

mark_with-no_text : (files : Option (List ℕ × List ℕ)) (marking : Option (List ℕ × Option ℕ × Bool)) (has_verdict in_json : Bool) (text : String Global)
    → (files >>= (λ f. marking >>= (λ m. Some (Mark f.0 f.1 m.0 m.1 m.2 has_verdict in_json)))) ≡ Some (Show text) → ⊥
mark_with-no_text None marking has_verdict in_json text e = cc
mark_with-no_text (Some f) None has_verdict in_json text e = cc
mark_with-no_text (Some f) (Some m) has_verdict in_json text e = cc

mark-no_text : (given : Given) (text : String Global) → mark_given given ≡ Some (Show text) → ⊥
unfolding mark_given
mark-no_text given text e =
    mark_with-no_text (table_given given) (marking_given given) (is_set (given (codes "verdict"))) (is_set (given (codes "json"))) text e

arrivals-no_text : (place : Option (Option GivenPort)) (has_colours : Bool) (text : String Global) → (place >>= (λ p. Some (Arrivals p has_colours))) ≡ Some (Show text) → ⊥
arrivals-no_text None has_colours text e = cc
arrivals-no_text (Some p) has_colours text e = cc

book_with-no_text : (domain book : Option (List ℕ)) (to_domain : Bool) (text : String Global)
    → (domain >>= (λ d. book >>= (λ b. Some (Book d b to_domain)))) ≡ Some (Show text) → ⊥
book_with-no_text None book to_domain text e = cc
book_with-no_text (Some d) None to_domain text e = cc
book_with-no_text (Some d) (Some b) to_domain text e = cc

book-no_text : (given : Given) (text : String Global) → book_given given ≡ Some (Show text) → ⊥
unfolding book_given
book-no_text given text e =
    book_with-no_text (given (codes "domain")) (given (codes "file")) (is_set (given (codes "to-domain"))) text e

-- one of two is no text where neither is
either-no_text : (is : Bool) (first others : Option Plan) (text : String Global) → (first ≡ Some (Show text) → ⊥)
    → (others ≡ Some (Show text) → ⊥) → (if is then first else others) ≡ Some (Show text) → ⊥
either-no_text true first others text a b e = a e
either-no_text false first others text a b e = b e

-- what a command asks for is no text
command-no_text : (c : Text × List Row) (text : String Global) → plan_of c ≡ Some (Show text) → ⊥
command-no_text c text =
    let given = given_by c.1 in
    either-no_text (bytes_eq c.0 (codes "meter")) _ _ text (meter-no_text (meter_given given) (is_set (given (codes "levels"))) (is_set (given (codes "json"))) text)
    (either-no_text (bytes_eq c.0 (codes "envelope")) _ _ text (envelope-no_text (envelope_given given) (is_set (given (codes "json"))) text)
    (either-no_text (bytes_eq c.0 (codes "certify")) _ _ text (certify-no_text (given (codes "domain")) (is_set (given (codes "json"))) text)
    (either-no_text (bytes_eq c.0 (codes "headroom")) _ _ text (headroom-no_text (given (codes "domain")) (is_set (given (codes "json"))) text)
    (either-no_text (bytes_eq c.0 (codes "draw")) _ _ text (draw-no_text (given (codes "domain")) text)
    (either-no_text (bytes_eq c.0 (codes "quote")) _ _ text (quote-no_text (quote_given given) (is_set (given (codes "json"))) text)
    (either-no_text (bytes_eq c.0 (codes "export")) _ _ text (export-no_text (export_given given) text)
    (either-no_text (bytes_eq c.0 (codes "drive")) _ _ text (drive-no_text (drive_given given) (is_set (given (codes "json"))) text)
    (either-no_text (bytes_eq c.0 (codes "book")) _ _ text (book-no_text given text)
    (either-no_text (bytes_eq c.0 (codes "check")) _ _ text (check-no_text (table_given given) (is_set (given (codes "json"))) text)
    (either-no_text (bytes_eq c.0 (codes "audit")) _ _ text (audit-no_text (table_given given) (is_set (given (codes "json"))) text)
    (either-no_text (bytes_eq c.0 (codes "mark")) _ _ text (mark-no_text given text)
    (either-no_text (bytes_eq c.0 (codes "arrivals")) _ _ text
    (arrivals-no_text (place_given given) (is_set (given (codes "colours"))) text) (λ e. cc)))))))))))))

plan_of-no_text : (command : Option (Text × List Row)) (text : String Global) → option_and_then plan_of command ≡ Some (Show text) → ⊥
plan_of-no_text None text e = cc
plan_of-no_text (Some c) text e = command-no_text c text e

-- well formed words are answered with what they ask for, or refused where they ask for nothing
pub asked_by-answers : (words : List Text) (asked : Option Plan) → IsWellFormed words → asked ≡ asked_by words
    → IfOk (ok_or asked Usage) (IsPlanOf words) × IfErr (ok_or asked Usage) (IsRefusalOf words)
asked_by-answers words None formed e = (tt, inr (formed, sym e))
asked_by-answers words (Some (Meter m has_levels in_json)) formed e = ((formed, sym e), tt)
asked_by-answers words (Some (Envelope rate burst in_json)) formed e = ((formed, sym e), tt)
asked_by-answers words (Some (Certify domain in_json)) formed e = ((formed, sym e), tt)
asked_by-answers words (Some (Check domain certificate in_json)) formed e = ((formed, sym e), tt)
asked_by-answers words (Some (Headroom domain in_json)) formed e = ((formed, sym e), tt)
asked_by-answers words (Some (Draw domain)) formed e = ((formed, sym e), tt)
asked_by-answers words (Some (Quote domain contract asked in_json)) formed e = ((formed, sym e), tt)
asked_by-answers words (Some (Export domain meter device)) formed e = ((formed, sym e), tt)
asked_by-answers words (Some (Audit domain certificate in_json)) formed e = ((formed, sym e), tt)
asked_by-answers words (Some (Drive domain limits book in_json)) formed e = ((formed, sym e), tt)
asked_by-answers words (Some (Book domain book to_domain)) formed e = ((formed, sym e), tt)
asked_by-answers words (Some (Mark domain certificate port workers keeps_red has_verdict in_json)) formed e = ((formed, sym e), tt)
asked_by-answers words (Some (Arrivals place has_colours)) formed e = ((formed, sym e), tt)
asked_by-answers words (Some (Show text)) formed e = absurd (plan_of-no_text (subcommand_of dsedge words) text (sym e))

-- the program's command line that was parsed is well formed, and asks for what its words do
pub parsed-asks : (app : App) (words : List Text) (matches : ArgMatches) → app ≡ dsedge → (is_simple_and_free app ≡ true → fault_of app words ≡ [])
    → HasMatchesOf app words matches → IsWellFormed words × (subcommand_rows_of matches ≡ subcommand_of dsedge words)
parsed-asks app words matches is_dsedge formed has = (
  ap (λ a. fault_of a words) (sym is_dsedge) ∙ formed (ap is_simple_and_free is_dsedge ∙ dsedge-simple_and_free),
  (has (ap is_simple is_dsedge ∙ dsedge-simple)).1 ∙ ap (λ (a : App). subcommand_of a words) is_dsedge,
)

-- the same of a command line that is the program's and was parsed
pub parsed-answers : (app : App) (words : List Text) (matches : ArgMatches) (asked : Option Plan) → app ≡ dsedge
    → (is_simple_and_free app ≡ true → fault_of app words ≡ []) → HasMatchesOf app words matches
    → asked ≡ option_and_then plan_of (subcommand_rows_of matches)
    → IfOk (ok_or asked Usage) (IsPlanOf words) × IfErr (ok_or asked Usage) (IsRefusalOf words)
parsed-answers app words matches asked is_dsedge formed has is_asked =
    let asks = parsed-asks app words matches is_dsedge formed has in
    asked_by-answers words asked asks.0 (is_asked ∙ ap (option_and_then plan_of) asks.1)

-- which value is none is told of words that are well formed and ask for nothing, whether for other workers than 1 to 64 or not
value-explains-by : (words : List Text) (command : Option (Text × List Row)) (explanation : Explanation) → IsWellFormed words
    → command ≡ subcommand_of dsedge words → option_and_then plan_of command ≡ None → (others : Bool) → asks_other_workers command ≡ others
    → explanation ≡ (if others then Workers else Value) → IsExplanationOf words explanation
value-explains-by words command explanation formed is nothing true others told =
    rw told (formed, ap (option_and_then plan_of) (sym is) ∙ nothing, ap asks_other_workers (sym is) ∙ others)
value-explains-by words command explanation formed is nothing false others told =
    rw told (formed, ap (option_and_then plan_of) (sym is) ∙ nothing, ap asks_other_workers (sym is) ∙ others)

-- the same, by what is told
pub value-explains : (words : List Text) (command : Option (Text × List Row)) (explanation : Explanation) → IsWellFormed words
    → command ≡ subcommand_of dsedge words → option_and_then plan_of command ≡ None
    → explanation ≡ (if asks_other_workers command then Workers else Value) → IsExplanationOf words explanation
value-explains words command explanation formed is nothing told =
    value-explains-by words command explanation formed is nothing (asks_other_workers command) refl told

-- the parser may fail in this way
abbrev pub MayFail : List Text → ErrorKind → Type 0
MayFail words kind = (kind ≡ OutOfMemory) ⊎ IsAmong kind (fault_of dsedge words)

-- the parser fails so at a command line that is the program's
pub parse-may_fail : (app : App) (words : List Text) (error : Error) → app ≡ dsedge
    → (is_simple_and_free app ≡ true → HasKind (fault_of app words) error) → MayFail words (kind_of error)
parse-may_fail app words error is_dsedge fails =
    let P : App → Type 0 = λ a. HasKind (fault_of a words) error in
    subst P is_dsedge (fails (ap is_simple_and_free is_dsedge ∙ dsedge-simple_and_free))

-- want of memory is no wish
no_memory : (kind : ErrorKind) → IsWish kind → kind ≡ OutOfMemory → ⊥
no_memory kind (inl help) memory = let apart : DisplayHelp ≡ OutOfMemory → ⊥ = λ e. cc in apart (sym help ∙ memory)
no_memory kind (inr version) memory = let apart : DisplayVersion ≡ OutOfMemory → ⊥ = λ e. cc in apart (sym version ∙ memory)

-- a wish for a text is answered with one
pub wish-answers : (words : List Text) (kind : ErrorKind) (plan : Plan) → MayFail words kind → IsWish kind × IsShown plan
    → IsPlanOf words plan
wish-answers words kind (Meter m has_levels in_json) fails help = absurd help.1
wish-answers words kind (Envelope rate burst in_json) fails help = absurd help.1
wish-answers words kind (Certify domain in_json) fails help = absurd help.1
wish-answers words kind (Check domain certificate in_json) fails help = absurd help.1
wish-answers words kind (Headroom domain in_json) fails help = absurd help.1
wish-answers words kind (Draw domain) fails help = absurd help.1
wish-answers words kind (Quote domain contract asked in_json) fails help = absurd help.1
wish-answers words kind (Export domain meter device) fails help = absurd help.1
wish-answers words kind (Audit domain certificate in_json) fails help = absurd help.1
wish-answers words kind (Drive domain limits book in_json) fails help = absurd help.1
wish-answers words kind (Book domain book to_domain) fails help = absurd help.1
wish-answers words kind (Mark domain certificate port workers keeps_red has_verdict in_json) fails help = absurd help.1
wish-answers words kind (Arrivals place has_colours) fails help = absurd help.1
wish-answers words kind (Show text) (inl memory) help = absurd (no_memory kind help.0 memory)
wish-answers words kind (Show text) (inr among) help = (kind, among, help.0)

-- what is neither a wish nor want of memory is malformed
pub malformed : (words : List Text) (kind : ErrorKind) → MayFail words kind → ¬ IsWish kind × (kind ≢ OutOfMemory) → IsMalformed words
malformed words kind (inl memory) is = absurd (is.1 memory)
malformed words kind (inr among) is = (kind, among, is.0)

-- other faults of form are refused
pub fault-answers : (words : List Text) (kind : ErrorKind) (fault : UsageFault) → MayFail words kind
    → (fault ≡ Usage → ¬ IsWish kind × (kind ≢ OutOfMemory)) → IsRefusalOf words fault
fault-answers words kind NoMemory fails is = tt
fault-answers words kind Usage fails is = inl (malformed words kind fails (is refl))

-- what the parser says of malformed words explains them
form-explains : (words : List Text) (explanation : Explanation) → IsOfForm explanation → IsMalformed words → IsExplanationOf words explanation
form-explains words (Form text) is wrong = wrong
form-explains words Workers is wrong = absurd is
form-explains words Value is wrong = absurd is

-- the same of what is said, if anything
pub forms-explain : (words : List Text) (kind : ErrorKind) (told : Option Explanation) → MayFail words kind → IfSome told IsOfForm
    → (IsSome told → ¬ IsWish kind × (kind ≢ OutOfMemory)) → IfSome told (IsExplanationOf words)
forms-explain words kind None fails form wrong = tt
forms-explain words kind (Some explanation) fails form wrong =
    form-explains words explanation form (malformed words kind fails (wrong refl))
