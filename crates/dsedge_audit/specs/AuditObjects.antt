-- What `audit` answers as an object of JSON, and how its lines are made of it.
use Rattle.std.specs.Prelude.{ℕ, List, [], ◌∷◌, ◌++◌, codes, map, Option, None, Some, slice_index}
use Rattle.std.specs.Option.{option_map_or}
use Rattle.moment_core.specs.declared.column.Column.{Column}
use Rattle.serde_json.specs.Data.{Data, Items, array, boolean, item, member, no_items, no_members, null, number, object, string}
use Rattle.serde_json.specs.Find.{get}
use Rattle.serde_json.specs.View.{items_of}
use Rattle.json_lines.specs.JsonLines.{count_data, count_keys, figure_data, word_in, words_before, words_line}
use Rattle.meter_book.specs.Replay.{Journal, accounts_of, journal_rows}
use Rattle.meter_book.specs.declared.accounts.Accounts.{Accounts}
use Rattle.ds_checker.specs.Acceptance.{Table}
use Rattle.dsedge_texts.specs.Wording.{column_text, name_of}
use Rattle.run_audit.specs.declared.verdict.Verdict.{Verdict}
use Rattle.run_audit.specs.declared.verdict.Verdict.TheVariants.{Kept, OutsideContract, SourceOver, DelayOver, Late}
use Rattle.dsedge_audit.specs.SiteNames.{site_name}

-- a packet is outside its contract
abbrev pub outside_data : ℕ → Data
outside_data packet = object
    (member (codes "kind") (string (codes "outside"))
    (member (codes "packet") (figure_data packet) no_members))

-- a contract's packets in a column are over its envelope, with this packet
abbrev pub source_data : List ℕ → Column → ℕ → Data
source_data contract column packet = object
    (member (codes "column") (string (column_text column))
    (member (codes "contract") (string contract)
    (member (codes "kind") (string (codes "source-over"))
    (member (codes "packet") (figure_data packet) no_members))))

-- a link held a packet too long before a hop
abbrev pub delay_data : ℕ → ℕ → Data
delay_data packet hop = object
    (member (codes "hop") (figure_data hop)
    (member (codes "kind") (string (codes "delay-over"))
    (member (codes "packet") (figure_data packet) no_members)))

-- the row of a site's journal at a place was metered so late
abbrev pub late_data : List ℕ → ℕ → ℕ → Data
late_data site place late = object
    (member (codes "kind") (string (codes "late"))
    (member (codes "late") (figure_data late)
    (member (codes "place") (figure_data place)
    (member (codes "site") (string site) no_members))))

-- a verdict on a run of a table
abbrev pub verdict_data : Table → Verdict → Data
verdict_data t Kept = object (member (codes "kind") (string (codes "kept")) no_members)
verdict_data t (OutsideContract packet) = outside_data packet
verdict_data t (SourceOver flow column packet) = source_data (name_of t.contracts flow) column packet
verdict_data t (DelayOver packet hop) = delay_data packet hop
verdict_data t (Late site place late) = late_data (site_name t site) place late

-- the keys of a verdict, in the order of its line
abbrev pub verdict_keys : List (List ℕ)
verdict_keys =
    codes "kind" ∷ codes "contract" ∷ codes "column" ∷ codes "site" ∷ codes "packet" ∷ codes "hop" ∷ codes "place"
    ∷ codes "late" ∷ []

-- the accounts of a site
abbrev pub site_data : List ℕ → Accounts → Data
site_data name a = object
    (member (codes "green") (count_data (slice_index a.packets 0) (slice_index a.bytes 0))
    (member (codes "red") (count_data (slice_index a.packets 2) (slice_index a.bytes 2))
    (member (codes "site") (string name)
    (member (codes "yellow") (count_data (slice_index a.packets 1) (slice_index a.bytes 1)) no_members))))

abbrev pub site_of : Table → Journal → Data
site_of t j = site_data (site_name t j.site) (accounts_of (journal_rows j))

-- a verdict, and the accounts of each site
abbrev pub audit_data : Table → Verdict → List Journal → Data
audit_data t verdict journals = object
    (member (codes "answer") (string (codes "audit"))
    (member (codes "sites") (array (items_of (map (site_of t) journals)))
    (member (codes "verdict") (verdict_data t verdict) no_members)))

-- ---- the lines that it says

-- what stands on a line for a colour's member
abbrev pub share_in : List ℕ → Data → List ℕ
share_in name content =
    option_map_or (λ count. codes " " ++ name ++ words_before count_keys count []) (get name content) []

abbrev pub site_line_in : Data → List ℕ
site_line_in content =
    option_map_or word_in (get (codes "site") content) []
    ++ share_in (codes "green") content ++ share_in (codes "yellow") content ++ share_in (codes "red") content
    ++ codes "\n"

abbrev pub sites_lines : Items → List ℕ
sites_lines no_items = []
sites_lines (item site sites) = site_line_in site ++ sites_lines sites

abbrev pub lines_of_sites : Option Data → List ℕ
lines_of_sites None = []
lines_of_sites (Some null) = []
lines_of_sites (Some (boolean b)) = []
lines_of_sites (Some (number n)) = []
lines_of_sites (Some (string text)) = []
lines_of_sites (Some (array sites)) = sites_lines sites
lines_of_sites (Some (object entries)) = []

-- the lines that the object is made of
abbrev pub audit_lines_in : Data → List ℕ
audit_lines_in content =
    option_map_or (words_line verdict_keys) (get (codes "verdict") content) [] ++ lines_of_sites (get (codes "sites") content)
