-- The expressions of a TOML document, where they stand and how far they go.
use Rattle.std.specs.Prelude.{ℕ, zero, suc, ◌==◌, if◌then◌else◌, List, [], ◌∷◌, length}
use Rattle.std.specs.Option.{option_map_or}
use Rattle.toml_parser.specs.Lexical.{skip_blank}
use Rattle.toml_parser.specs.Reading.{key_view}
use Rattle.toml_parser.specs.Strings.{Key}
use Rattle.toml.specs.Parse.{key_equals, line, skip_bom}
use Rattle.toml.specs.Tables.{Definition, key_value, std_table, array_table, Expression}
use Rattle.toml_places.specs.declared.expressions.Expression as code
use Rattle.toml_places.specs.declared.shape.Shape.{Shape}
use Rattle.toml_places.specs.declared.shape.Shape.TheVariants.{Pair, Table, Entry}

-- an expression: its key and what it is, and the texts that begin with it, with its value, and behind it
pub record Located : Type 0 where
  pub key : Key
  pub shape : Shape
  pub start : List ℕ
  pub value : List ℕ
  pub behind : List ℕ

-- what an expression is: a pair of a key and a value, the header of a table, or of an entry of an array of tables
abbrev pub shape_of : Definition → Shape
shape_of (key_value d) = Pair
shape_of std_table = Table
shape_of array_table = Entry

-- The text that begins with the value of an expression is what follows `=`. A header has no value.
abbrev pub value_in : List ℕ → Definition → List ℕ → List ℕ
value_in start (key_value d) behind = option_map_or (λ read. read.1) (key_equals start) behind
value_in start std_table behind = behind
value_in start array_table behind = behind

-- the expression that a text begins with, as it was read
abbrev pub located : List ℕ → Expression × List ℕ → Located
located text read = record {
  key = read.0.0;
  shape = shape_of read.0.1;
  start = text;
  value = value_in text read.0.1 read.1;
  behind = read.1;
}

-- the same, as the code has it
abbrev pub located_by : List ℕ → code.Expression → Located
located_by text e = record {
  key = key_view e.key;
  shape = e.shape;
  start = text;
  value = e.value.now;
  behind = e.behind.now;
}

-- the expressions of a text, of which there are fewer than n, in their order
unfoldable pub expressions_within : ℕ → List ℕ → List Located
expressions_within zero text = []
expressions_within (suc n) text =
    let start = skip_blank text in
    if length start == 0 then []
    else option_map_or (λ read. located start read ∷ expressions_within n read.1) (line start) []

-- the expressions of a document
abbrev pub expressions_of : List ℕ → List Located
expressions_of text = expressions_within (suc (length text)) (skip_bom text)
