-- The objects of JSON that say what the checker's lines say, and how the lines are made of them. Members stand in the order
-- of their keys.
use Rattle.std.specs.Prelude.{ℕ, List, [], ◌∷◌, ◌++◌, codes, flat_map, Option, None, Some}
use Rattle.std.specs.Option.{option_map_or}
use Rattle.moment_core.specs.declared.column.Column.{Column}
use Rattle.serde_json.specs.Data.{Data, Items, array, item, member, no_items, no_members, null, number, object, string, unsigned, boolean}
use Rattle.serde_json.specs.Find.{get}
use Rattle.serde_json.specs.View.{items_of}
use Rattle.json_lines.specs.JsonLines.{figure_data, words_line}
use Rattle.ds_domain_base.specs.declared.contract.Contract.{Contract}
use Rattle.ds_checker.specs.Acceptance.{Table}
use Rattle.ds_checker.specs.Headrooms.{headroom_of}
use Rattle.ds_checker.specs.declared.headroom.Headroom.{Headroom}
use Rattle.ds_checker.specs.declared.headroom.Utilization.{Utilization}
use Rattle.ds_checker.specs.declared.refusal.Refusal.{Refusal}
use Rattle.ds_checker.specs.declared.refusal.Refusal.TheVariants as refusals
use Rattle.dsedge_texts.specs.Wording.{column_text, name_of}

-- the member by which answers differ
abbrev pub answer_key : List ℕ
answer_key = codes "answer"

-- a table is accepted
abbrev pub accepted_data : Data
accepted_data = object (member answer_key (string (codes "accepted")) no_members)

-- a certificate is not of its contracts, of which the first is at this place
abbrev pub shape_data : ℕ → Data
shape_data place = object
    (member answer_key (string (codes "refused"))
    (member (codes "code") (number (unsigned 1))
    (member (codes "kind") (string (codes "Shape"))
    (member (codes "place") (number (unsigned place)) no_members))))

-- a first bound of a contract is too small
abbrev pub first_bound_data : List ℕ → Column → ℕ → ℕ → Data
first_bound_data name column needed given = object
    (member answer_key (string (codes "refused"))
    (member (codes "code") (number (unsigned 2))
    (member (codes "column") (string (column_text column))
    (member (codes "contract") (string name)
    (member (codes "given") (figure_data given)
    (member (codes "kind") (string (codes "FirstBound"))
    (member (codes "needed") (figure_data needed) no_members)))))))

-- a bound of a contract behind a link is too small
abbrev pub hop_bound_data : List ℕ → ℕ → Column → ℕ → ℕ → Data
hop_bound_data name hop column needed given = object
    (member answer_key (string (codes "refused"))
    (member (codes "code") (number (unsigned 3))
    (member (codes "column") (string (column_text column))
    (member (codes "contract") (string name)
    (member (codes "given") (figure_data given)
    (member (codes "hop") (number (unsigned hop))
    (member (codes "kind") (string (codes "HopBound"))
    (member (codes "needed") (figure_data needed) no_members))))))))

-- more is needed at a meter than it has, by the test of a number and a kind
abbrev pub meter_data : ℕ → List ℕ → List ℕ → ℕ → ℕ → Data
meter_data code kind meter needed available = object
    (member answer_key (string (codes "refused"))
    (member (codes "available") (figure_data available)
    (member (codes "code") (number (unsigned code))
    (member (codes "kind") (string kind)
    (member (codes "meter") (string meter)
    (member (codes "needed") (figure_data needed) no_members))))))

-- memory ran out, which is never told
abbrev pub lacking_data : Data
lacking_data = object
    (member answer_key (string (codes "refused"))
    (member (codes "code") (number (unsigned 8))
    (member (codes "kind") (string (codes "NoMemory")) no_members)))

-- the first test of the checker that fails for some contracts
abbrev pub refusal_data : List Contract → Refusal → Data
refusal_data contracts (refusals.Shape place) = shape_data place
refusal_data contracts (refusals.FirstBound place column needed given) =
    first_bound_data (name_of contracts place) column needed given
refusal_data contracts (refusals.HopBound place hop column needed given) =
    hop_bound_data (name_of contracts place) hop column needed given
refusal_data contracts (refusals.GreenRate meter needed available) =
    meter_data 4 (codes "GreenRate") meter needed available
refusal_data contracts (refusals.GreenBurst meter needed available) =
    meter_data 5 (codes "GreenBurst") meter needed available
refusal_data contracts (refusals.AllRate meter needed available) =
    meter_data 6 (codes "AllRate") meter needed available
refusal_data contracts (refusals.AllBurst meter needed available) =
    meter_data 7 (codes "AllBurst") meter needed available
refusal_data contracts refusals.NoMemory = lacking_data

-- the keys of what the checker answers, in the order of its line
abbrev pub check_keys : List (List ℕ)
check_keys =
    answer_key ∷ codes "code" ∷ codes "kind" ∷ codes "place" ∷ codes "contract" ∷ codes "hop" ∷ codes "column"
    ∷ codes "meter" ∷ codes "needed" ∷ codes "given" ∷ codes "available" ∷ []

-- the line that the object of what the checker answers is made of
abbrev pub check_line_in : Data → List ℕ
check_line_in content = words_line check_keys content

-- what is taken and what there is at a meter, for a kind of test
abbrev pub test_data : List ℕ → List ℕ → Utilization → Data
test_data meter kind u = object
    (member (codes "available") (figure_data u.available)
    (member (codes "kind") (string kind)
    (member (codes "meter") (string meter)
    (member (codes "taken") (figure_data u.taken) no_members))))

-- the checker's tests at a meter, in their order
abbrev pub meter_tests : List ℕ → Headroom → List Data
meter_tests meter h =
    test_data meter (codes "GreenRate") h.green_rate
    ∷ test_data meter (codes "GreenBurst") h.green_burst
    ∷ test_data meter (codes "AllRate") h.all_rate
    ∷ test_data meter (codes "AllBurst") h.all_burst ∷ []

abbrev pub tests_at : Table → List ℕ → List Data
tests_at t meter = option_map_or (meter_tests meter) (headroom_of t meter) []

-- meter by meter, in the order of the text
abbrev pub tests_of : Table → List Data
tests_of t = flat_map (λ entry. tests_at t entry.0) t.domain.meters

abbrev pub headroom_data : Table → Data
headroom_data t = object
    (member answer_key (string (codes "headroom"))
    (member (codes "tests") (array (items_of (tests_of t))) no_members))

-- the keys of a test, in the order of its line
abbrev pub test_keys : List (List ℕ)
test_keys = codes "meter" ∷ codes "kind" ∷ codes "taken" ∷ codes "available" ∷ []

abbrev pub tests_lines : Items → List ℕ
tests_lines no_items = []
tests_lines (item test tests) = words_line test_keys test ++ tests_lines tests

abbrev pub lines_of_tests : Option Data → List ℕ
lines_of_tests None = []
lines_of_tests (Some null) = []
lines_of_tests (Some (boolean b)) = []
lines_of_tests (Some (number n)) = []
lines_of_tests (Some (string text)) = []
lines_of_tests (Some (array tests)) = tests_lines tests
lines_of_tests (Some (object entries)) = []

-- the lines that the object of what there is at meters is made of
abbrev pub headroom_lines_in : Data → List ℕ
headroom_lines_in content = lines_of_tests (get (codes "tests") content)
