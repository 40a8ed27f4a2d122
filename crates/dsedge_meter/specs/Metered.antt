-- What `meter` answers to lines of arrivals.
use Rattle.std.specs.Prelude.{ℕ, ◌+◌, ◌-◌, ◌^◌, Bool, true, false, nat_lt, None, List, [], ◌∷◌, ◌++◌, length, take, flat_map, codes, decimal, slice_index}
use Rattle.std.specs.Prelude.{if◌then◌else◌}
use Rattle.std.specs.Option.{option_map_or}
use Rattle.serde_json.specs.Data.{Data, member, no_members, object, string}
use Rattle.serde_json.specs.Find.{get}
use Rattle.json_lines.specs.JsonLines.{count_data, count_keys, line_of, words_before}
use Rattle.moment_core.specs.declared.colour.Colour.{Colour}
use Rattle.moment_core.specs.declared.colour.Colour.TheVariants.{Green, Yellow, Red}
use Rattle.meter_book.specs.declared.accounts.Accounts.{Accounts}
use Rattle.meter_book.specs.declared.row.Arrival.{Arrival}
use Rattle.meter_book.specs.declared.row.Row.{Row}
use Rattle.meter_book_base.specs.declared.any_meter.AnyMeter.{AnyMeter}
use Rattle.meter_book_base.specs.declared.any_meter.BucketLevels.{BucketLevels}
use Rattle.meter_book_base.specs.AnyMeter.{after_any, left_of, levels_of}
use Rattle.meter_book.specs.Replay.{fresh, offer_of, rows_from, standing_after}
use Rattle.meter_book.specs.Running.{Running, counted}
use Rattle.dsedge_lines.specs.Answers.{Answer}
use Rattle.dsedge_lines.specs.declared.command.Ending.{Ending}
use Rattle.dsedge_lines.specs.declared.command.Ending.TheVariants.{Whole, BadLine, Full}
use Rattle.dsedge_meter.specs.Arrivals.{arrivals_from}

-- a line with the name of a colour
abbrev pub colour_line_of : Colour → List ℕ
colour_line_of Green = codes "green\n"
colour_line_of Yellow = codes "yellow\n"
colour_line_of Red = codes "red\n"

-- a line for a row: the colour that it left with
abbrev pub colour_line : Row → List ℕ
colour_line row = colour_line_of row.left

-- a colour, behind it a space
abbrev pub colour_word : Colour → List ℕ
colour_word Green = codes "green "
colour_word Yellow = codes "yellow "
colour_word Red = codes "red "

-- the levels of two buckets, the committed one first, with a space between them
abbrev pub figures_of : ℕ → ℕ → List ℕ
figures_of committed second = decimal committed ++ codes " " ++ decimal second

-- a line with a colour and the levels of two buckets: the committed one first
abbrev pub levels_line_of : Colour → BucketLevels → List ℕ
levels_line_of left l =
    colour_word left ++ decimal l.committed ++ codes " " ++ decimal l.second ++ codes "\n"

-- the line of a packet: the colour that it left with, and where that is asked for the levels that it left
abbrev pub packet_line : Bool → Colour → BucketLevels → List ℕ
packet_line false left levels = colour_line_of left
packet_line true left levels = levels_line_of left levels

-- Lines for arrivals, one after the other: the colour that each leaves with, and the levels that it leaves in the
-- buckets, which are those of the token meter of its kind behind it (RFC 2697 section 3, RFC 2698 section 3, RFC 4115).
abbrev pub levels_from : AnyMeter → List Arrival → List ℕ
levels_from m [] = []
levels_from m (a ∷ as_) =
    levels_line_of (left_of m (offer_of a)) (levels_of (after_any m (offer_of a)))
    ++ levels_from (after_any m (offer_of a)) as_

-- The lines for arrivals at a meter: a colour for each row that its book has of them, and where that is asked for the
-- levels behind each.
abbrev pub lines_from : Bool → AnyMeter → ℕ → List Arrival → List ℕ
lines_from false m place arrivals = flat_map colour_line (rows_from m place arrivals)
lines_from true m place arrivals = levels_from m arrivals

-- a line of the accounts: a colour's name, its packets and its bytes
abbrev pub account_line : List ℕ → ℕ → ℕ → List ℕ
account_line name packets bytes = name ++ codes " " ++ decimal packets ++ codes " " ++ decimal bytes ++ codes "\n"

-- the accounts: green, yellow and red
abbrev pub accounts_text_of : Accounts → List ℕ
accounts_text_of a =
    account_line (codes "green") (slice_index a.packets 0) (slice_index a.bytes 0)
    ++ account_line (codes "yellow") (slice_index a.packets 1) (slice_index a.bytes 1)
    ++ account_line (codes "red") (slice_index a.packets 2) (slice_index a.bytes 2)

-- the accounts as an object of JSON
abbrev pub accounts_data : Accounts → Data
accounts_data a = object
    (member (codes "answer") (string (codes "accounts"))
    (member (codes "green") (count_data (slice_index a.packets 0) (slice_index a.bytes 0))
    (member (codes "red") (count_data (slice_index a.packets 2) (slice_index a.bytes 2))
    (member (codes "yellow") (count_data (slice_index a.packets 1) (slice_index a.bytes 1)) no_members))))

-- the line that a colour's member of an object is made of
abbrev pub colour_line_in : List ℕ → Data → List ℕ
colour_line_in name content =
    option_map_or (λ count. name ++ words_before count_keys count (codes "\n")) (get name content) []

-- the lines that the object of accounts is made of
abbrev pub accounts_text_in : Data → List ℕ
accounts_text_in content =
    colour_line_in (codes "green") content ++ colour_line_in (codes "yellow") content ++ colour_line_in (codes "red") content

-- how accounts are written: as lines, or as an object
abbrev pub accounts_said : Bool → Accounts → List ℕ
accounts_said false accounts = accounts_text_of accounts
accounts_said true accounts = line_of (accounts_data accounts)

-- how an answer to so many lines ends that begins at a line's number, where so many of them say arrivals before any
-- says none, and there is room for so many
unfoldable pub ending_of : ℕ → ℕ → ℕ → ℕ → Ending
ending_of number room arrivals lines =
    if nat_lt room arrivals then Full else if nat_lt arrivals lines then BadLine (number + arrivals) else Whole

-- the accounts, where the whole input was answered
abbrev pub closing : Bool → Ending → Accounts → List ℕ
closing in_json Whole accounts = accounts_said in_json accounts
closing in_json _ accounts = []

-- a meter whose answers are told, whether the levels that packets leave are told too, and whether its accounts are an
-- object
pub record Telling : Type 0 where
  pub meter : Running
  pub has_levels : Bool
  pub in_json : Bool

-- a meter before any arrival, which takes 2^44 arrivals
abbrev pub fresh_meter : AnyMeter → Bool → Bool → Telling
fresh_meter meter has_levels in_json =
    record {
      meter = record { standing = fresh meter 0; most = 2 ^ 44 };
      has_levels = has_levels;
      in_json = in_json;
    }

-- how many arrivals a meter still takes
abbrev pub room_of : Running → ℕ
room_of meter = meter.most - meter.standing.place

-- The answer of a meter to so many lines from a number on, which say these arrivals before any says none: a line for each
-- of the arrivals that there is room for, and the accounts of the whole book where every line was answered.
unfoldable pub answer_to : Telling → ℕ → ℕ → List Arrival → Answer
answer_to t number lines arrivals =
    let noted = take (room_of t.meter) arrivals in
    let stood = t.meter.standing in
    let ending = ending_of number (room_of t.meter) (length arrivals) lines in
    record {
      text = lines_from t.has_levels stood.meter stood.place noted
          ++ closing t.in_json ending (standing_after stood noted None).accounts;
      ending = ending;
    }

-- the answer of a meter to lines from a number on
abbrev pub answer_of : Telling → ℕ → List (List ℕ) → Answer
answer_of t number lines = answer_to t number (length lines) (arrivals_from number lines)

-- one arrival further
abbrev pub told_on : Telling → Arrival → Telling
told_on t a = record t { meter = counted t.meter a }

-- the line that an arrival is answered with
abbrev pub line_for : Telling → Arrival → List ℕ
line_for t a =
    packet_line t.has_levels (left_of t.meter.standing.meter (offer_of a))
    (levels_of (after_any t.meter.standing.meter (offer_of a)))
