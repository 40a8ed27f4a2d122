-- The form of a ledger's database.
use Rattle.std.specs.Prelude.{true, false, [], ◌∷◌, Some, None, codes, List, ℕ}
use Rattle.sqlite.specs.Collation.TheVariants.{Binary}
use Rattle.sqlite.specs.Kind.{Kind}
use Rattle.sqlite.specs.Kind.TheVariants.{Integer, Text, Any}
use Rattle.sqlite.specs.Table.{Table}
use Rattle.sqlite.specs.Schema.{Schema}
use Rattle.sqlite_schema.specs.declared.schema.Column.{Column}
use Rattle.sqlite_schema.specs.declared.schema.View.{View}
use Rattle.sqlite.specs.declared.types.Value.TheVariants.{Null}

-- a column of a STRICT table that takes NULL
abbrev pub column : List ℕ → Kind → Column
column name kind = record { name = name; kind = kind; is_strict = true; not_null = false; default = Null; collation = Binary }

-- a table with no rule beside its key
abbrev pub free_table : Table → Table
free_table t = record t {
  uniques = [];
  orders = [];
  checks = [];
  references = [];
  computed = [];
  stamps = record { places = []; terms = []; formats = [] };
  is_counted = false;
}

-- a table whose first column is its key, with no other rule
abbrev pub table : List ℕ → ℕ → List Column → Table
table name tree columns = record {
  name = name;
  tree = tree;
  columns = columns;
  key = Some 0;
  primary = 0 ∷ [];
  uniques = [];
  orders = [];
  checks = [];
  references = [];
  computed = [];
  stamps = record { places = []; terms = []; formats = [] };
  is_counted = false;
}

abbrev pub command_columns : List Column
command_columns =
    column (codes "serial") Integer
    ∷ column (codes "done") Text
    ∷ column (codes "id") Integer
    ∷ column (codes "moment") Integer
    ∷ column (codes "name") Text
    ∷ column (codes "port") Text
    ∷ column (codes "path") Text
    ∷ column (codes "class") Integer
    ∷ column (codes "kind") Text
    ∷ column (codes "mode") Text
    ∷ column (codes "cir") Integer
    ∷ column (codes "cbs") Integer
    ∷ column (codes "pir") Integer
    ∷ column (codes "pbs") Integer
    ∷ column (codes "eir") Integer
    ∷ column (codes "ebs") Integer
    ∷ column (codes "since") Integer
    ∷ column (codes "until") Integer
    ∷ column (codes "src") Any
    ∷ column (codes "src_length") Integer
    ∷ column (codes "dst") Any
    ∷ column (codes "dst_length") Integer
    ∷ column (codes "protocol") Integer
    ∷ column (codes "sport_low") Integer
    ∷ column (codes "sport_high") Integer
    ∷ column (codes "dport_low") Integer
    ∷ column (codes "dport_high") Integer
    ∷ column (codes "dscp") Integer ∷ []

abbrev pub command_table : Table
command_table = table (codes "command") 0 command_columns

abbrev pub form_table : Table
form_table = table (codes "form") 1 (column (codes "version") Integer ∷ [])

abbrev pub view_text : List ℕ
view_text = codes "CREATE VIEW held AS SELECT id, name, port, path, class, kind, mode, cir, cbs, pir, pbs, eir, ebs, since, until, (SELECT moment FROM command AS ended WHERE ended.done = 'release' AND ended.id = command.id) AS released FROM command WHERE done = 'reserve' AND id NOT IN (SELECT id FROM command WHERE done = 'retire')"

-- nothing
abbrev pub no_schema : Schema
no_schema = record { tables = []; indexes = []; views = [] }

-- a view with a text of its own
abbrev pub view : List ℕ → ℕ → List ℕ → View
view name tree sql = record { name = name; tree = tree; sql = sql; foreign = None; binds = false; is_bound = false }

abbrev pub held_view : View
held_view = view (codes "held") 2 view_text

abbrev pub ledger_schema : Schema
ledger_schema = record { tables = command_table ∷ form_table ∷ []; indexes = []; views = held_view ∷ [] }

-- what adds a row to the table of commands
abbrev pub insert_text : List ℕ
insert_text = codes "INSERT INTO command VALUES (?1, ?2, ?3, ?4, ?5, ?6, ?7, ?8, ?9, ?10, ?11, ?12, ?13, ?14, ?15, ?16, ?17, ?18, ?19, ?20, ?21, ?22, ?23, ?24, ?25, ?26, ?27, ?28)"

-- what reads its rows
abbrev pub select_text : List ℕ
select_text = codes "SELECT serial, done, id, moment, name, port, path, class, kind, mode, cir, cbs, pir, pbs, eir, ebs, since, until, src, src_length, dst, dst_length, protocol, sport_low, sport_high, dport_low, dport_high, dscp FROM command"

-- what makes the table of commands
abbrev pub table_text : List ℕ
table_text = codes "CREATE TABLE command (serial INTEGER PRIMARY KEY, done TEXT, id INTEGER, moment INTEGER, name TEXT, port TEXT, path TEXT, class INTEGER, kind TEXT, mode TEXT, cir INTEGER, cbs INTEGER, pir INTEGER, pbs INTEGER, eir INTEGER, ebs INTEGER, since INTEGER, until INTEGER, src ANY, src_length INTEGER, dst ANY, dst_length INTEGER, protocol INTEGER, sport_low INTEGER, sport_high INTEGER, dport_low INTEGER, dport_high INTEGER, dscp INTEGER) STRICT"

-- what makes the table with the form's version
abbrev pub form_text : List ℕ
form_text = codes "CREATE TABLE form (version INTEGER PRIMARY KEY) STRICT"

-- what gives the form's version
abbrev pub version_text : List ℕ
version_text = codes "INSERT INTO form VALUES (1)"

-- what reads the form's version
abbrev pub version_query : List ℕ
version_query = codes "SELECT version FROM form"
