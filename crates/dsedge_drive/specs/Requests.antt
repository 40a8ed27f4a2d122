-- The lines that ask something of a broker: `reserve NAME`, `release ID MOMENT`, `retire ID MOMENT`,
-- `quote NAME FIELD`, `quote NAME count`, `headroom`, `list`, `look`; and `offer CONTRACT`, which offers it something to sell.
use Rattle.std.specs.Prelude.{ℕ, ◌-◌, ◌^◌, List, [], ◌∷◌, codes, drop, take, option_and_then, option_map, Option, None, Some, if◌then◌else◌, bytes_eq}
use Rattle.line_text.specs.Lines.{fields_of, has_byte}
use Rattle.line_text.specs.Numbers.{number_of}
use Rattle.ds_domain_base.specs.declared.contract.Contract.{Contract}
use Rattle.ds_quotes.specs.Words.{asked_named}
use Rattle.dsedge_texts.specs.Wording.{place_named}
use Rattle.dsedge_drive.specs.declared.request.Request.{Request}
use Rattle.dsedge_drive.specs.declared.request.Request.TheVariants as requests

-- a name has no CR (13), and need not be that of a contract that is offered
abbrev pub reserve_of : List Contract → List (List ℕ) → Option Request
reserve_of offered (name ∷ []) = if has_byte 13 name then None else Some (requests.Reserve (place_named offered name))
reserve_of offered _ = None

-- a name, likewise, and the word of a field, or `count`
abbrev pub quote_of : List Contract → List (List ℕ) → Option Request
quote_of offered (name ∷ word ∷ []) =
    if has_byte 13 name then None else
    option_map (λ asked. requests.Quote (place_named offered name) asked) (asked_named word)
quote_of offered _ = None

-- an id, 0 to 2^64 - 1, and a moment, 0 to 2^63 - 1 nanoseconds
abbrev pub timed_of : List (List ℕ) → Option (ℕ × ℕ)
timed_of (id ∷ moment ∷ []) =
    option_and_then (λ n. option_map (λ m. (n, m)) (number_of (2 ^ 63 - 1) moment)) (number_of (2 ^ 64 - 1) id)
timed_of _ = None

-- a word that stands alone
abbrev pub alone : Request → List (List ℕ) → Option Request
alone request [] = Some request
alone request _ = None

abbrev pub request_by : List Contract → List ℕ → List (List ℕ) → Option Request
request_by offered verb fields =
    if bytes_eq verb (codes "reserve") then reserve_of offered fields
    else if bytes_eq verb (codes "release") then option_map (λ t. requests.Release t.0 t.1) (timed_of fields)
    else if bytes_eq verb (codes "retire") then option_map (λ t. requests.Retire t.0 t.1) (timed_of fields)
    else if bytes_eq verb (codes "quote") then quote_of offered fields
    else if bytes_eq verb (codes "headroom") then alone requests.Headroom fields
    else if bytes_eq verb (codes "list") then alone requests.List fields
    else if bytes_eq verb (codes "look") then alone requests.Look fields
    else None

abbrev pub request_of_fields : List Contract → List (List ℕ) → Option Request
request_of_fields offered [] = None
request_of_fields offered (verb ∷ fields) = request_by offered verb fields

-- what a line asks for, with the name of one of the contracts that are offered
unfoldable pub request_in : List Contract → List ℕ → Option Request
request_in offered line = request_of_fields offered (fields_of line)

-- a text that has no CR (13)
abbrev pub without_return : List ℕ → Option (List ℕ)
without_return text = if has_byte 13 text then None else Some text

-- the contract that a line offers: all that stands behind its first word, `offer`
unfoldable pub offer_in : List ℕ → Option (List ℕ)
offer_in line = if bytes_eq (take 6 line) (codes "offer ") then without_return (drop 6 line) else None
