-- What `drive` answers to lines, by lines or by objects: each is asked of the book of all that was accepted before it.
use Rattle.std.specs.Prelude.{ℕ, ◌+◌, Bool, List, [], ◌∷◌, ◌++◌, codes, option_and_then, option_map, length, slice_get, unwrap_or, Option, None, Some, Result, Ok, Err}
use Rattle.ds_domain_base.specs.Domains.{Domain}
use Rattle.ds_domain_base.specs.declared.contract.Contract.{Contract}
use Rattle.ds_domain_base.specs.declared.fault.DomainFault.{DomainFault}
use Rattle.ds_domain_base.specs.declared.fault.Kind.TheVariants as kinds
use Rattle.ds_domain.specs.OfferedTexts.{contract_said}
use Rattle.ds_broker.specs.Books.{Book, Limits, contracts_in, held_of, table_of, with_command}
use Rattle.ds_broker.specs.Entries.{entries_of, grant_of, next_serial}
use Rattle.ds_broker.specs.Refusals.{release_refusal, reserve_refusal, retire_refusal}
use Rattle.ds_broker.specs.declared.command.Command.{Command}
use Rattle.ds_broker.specs.declared.command.Command.TheVariants as commands
use Rattle.ds_broker.specs.declared.refusal.BrokerRefusal.{BrokerRefusal}
use Rattle.dsedge_lines.specs.Answers.{Answer, behind}
use Rattle.dsedge_lines.specs.declared.command.Ending.TheVariants.{BadLine, Whole}
use Rattle.ds_quotes.specs.Quotes.{others_of}
use Rattle.ds_quotes.specs.declared.asked.Asked.{Asked}
use Rattle.dsedge_texts.specs.Wording.{kind_text}
use Rattle.dsedge_drive.specs.Requests.{offer_in, request_in}
use Rattle.dsedge_sold.specs.Said.{asked_said, done_said, fault_said, granted_said, headroom_said, list_said, offered_said, refused_said, sight_said, unoffered_said}
use Rattle.dsedge_drive.specs.declared.request.Request.{Request}
use Rattle.dsedge_drive.specs.declared.request.Request.TheVariants as requests

-- what is answered, and the book from then on
pub record Said : Type 0 where
  pub text : List ℕ
  pub book : Book

-- the book stays as it is
abbrev pub only_said : Book → List ℕ → Said
only_said b text = record { text = text; book = b }

-- a command is accepted, and answered with a line; or what stands against it is, and the book stays as it is
abbrev pub said_of : Bool → Book → Command → List ℕ → Option BrokerRefusal → Said
said_of in_json b command line None = record { text = line; book = with_command b command }
said_of in_json b command line (Some refusal) =
    only_said b (refused_said in_json (contracts_in (held_of b)) refusal)

-- a contract is reserved
abbrev pub sold : Bool → Book → Contract → Said
sold in_json b c =
    said_of in_json b (commands.Reserve c) (granted_said in_json (grant_of b c)) (reserve_refusal b c)

-- a contract that is offered is; a name that none of them has is unknown
abbrev pub reserved : Bool → Book → Option Contract → Said
reserved in_json b None = only_said b (fault_said in_json (kind_text kinds.UnknownName))
reserved in_json b (Some c) = sold in_json b c

-- the contract of an id is released, or its share is given back
abbrev pub released : Bool → Book → ℕ → ℕ → Said
released in_json b id at =
    said_of in_json b (commands.Release id at) (done_said in_json (codes "released") id (next_serial b))
    (release_refusal b id)

abbrev pub retired : Bool → Book → ℕ → ℕ → Said
retired in_json b id moment =
    said_of in_json b (commands.Retire id moment) (done_said in_json (codes "retired") id (next_serial b))
    (retire_refusal b id moment)

-- The greatest value of a field of a contract that is offered, or how many like it fit, beside what is held but the
-- contract of its name; a name that none of them has is unknown.
abbrev pub quoted : Bool → Book → Option Contract → Asked → Said
quoted in_json b None asked = only_said b (fault_said in_json (kind_text kinds.UnknownName))
quoted in_json b (Some c) asked = only_said b (asked_said in_json (others_of (table_of b) c.name) c asked)

-- what a feed sees of a book
abbrev pub look_said : Bool → Book → List ℕ
look_said in_json b = sight_said in_json (length b.history) (length (held_of b))

-- what is asked for is said of the book as it is
abbrev pub said : Bool → List Contract → Book → Request → Said
said in_json offered b (requests.Reserve place) = reserved in_json b (option_and_then (slice_get offered) place)
said in_json offered b (requests.Release id at) = released in_json b id at
said in_json offered b (requests.Retire id moment) = retired in_json b id moment
said in_json offered b (requests.Quote place asked) =
    quoted in_json b (option_and_then (slice_get offered) place) asked
said in_json offered b requests.Headroom = only_said b (headroom_said in_json (table_of b))
said in_json offered b requests.List = only_said b (list_said in_json (entries_of b))
said in_json offered b requests.Look = only_said b (look_said in_json b)

-- what an offer is answered with, and the contracts that are offered from then on
pub record Offering : Type 0 where
  pub text : List ℕ
  pub offered : List Contract

-- a contract is offered behind the others, or its fault is told
abbrev pub offered_as : Bool → List Contract → Result Contract DomainFault → Offering
offered_as in_json offered (Ok c) = record { text = offered_said in_json c.name; offered = offered ++ c ∷ [] }
offered_as in_json offered (Err fault) = record { text = unoffered_said in_json fault; offered = offered }

-- the contract that a line says is offered in a domain as one more entry of its text would be
abbrev pub offered_in : Bool → Domain → List Contract → List ℕ → Offering
offered_in in_json d offered line = offered_as in_json offered (contract_said d offered line)

-- what a line is answered with, and the contracts that are offered and the book from then on
pub record Reply : Type 0 where
  pub text : List ℕ
  pub offered : List Contract
  pub book : Book

-- what is asked of a book leaves what is offered
abbrev pub asked_of : List Contract → Said → Reply
asked_of offered s = record { text = s.text; offered = offered; book = s.book }

-- an offer leaves the book
abbrev pub offer_of : Book → Offering → Reply
offer_of b o = record { text = o.text; offered = o.offered; book = b }

-- by the contract that a line offers, if it offers one
abbrev pub replied_by : Bool → List Contract → Book → List ℕ → Option (List ℕ) → Option Reply
replied_by in_json offered b line (Some contract) = Some (offer_of b (offered_in in_json b.domain offered contract))
replied_by in_json offered b line None =
    option_map (λ r. asked_of offered (said in_json offered b r)) (request_in offered line)

-- a line that offers a contract, or asks for something, is answered
unfoldable pub replied : Bool → List Contract → Book → List ℕ → Option Reply
replied in_json offered b line = replied_by in_json offered b line (offer_in line)

-- a line that asks for nothing ends the answer
abbrev pub stopped : ℕ → Answer
stopped number = record { text = []; ending = BadLine number }

-- The answer to lines from a number on, for contracts that are offered, from a book on: what each line asks for is
-- answered, and the lines behind it are asked of the book, and of the offers, that this left.
unfoldable pub drive_from : Bool → List Contract → Book → ℕ → List (List ℕ) → Answer
drive_from in_json offered b number [] = record { text = []; ending = Whole }
drive_from in_json offered b number (line ∷ lines) =
    unwrap_or
    (option_map (λ r. behind r.text (drive_from in_json r.offered r.book (number + 1) lines))
    (replied in_json offered b line))
    (stopped number)

-- the book that it begins with: that of a domain with no contract in it, for as much as the limits say
abbrev pub opening_book : Domain → Limits → Book
opening_book d limits = record { domain = d; limits = limits; history = [] }

-- the answer to all lines
abbrev pub driven : Bool → Domain → Limits → List Contract → List (List ℕ) → Answer
driven in_json d limits offered lines = drive_from in_json offered (opening_book d limits) 1 lines
