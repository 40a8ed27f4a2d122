-- A meter drawn: its name, and a bar for each test of the checker there, as a table of Graphviz (HTML-like labels).
use Rattle.std.specs.Prelude.{ℕ, ◌*◌, ◌-◌, ◌/◌, ◌^◌, min, nat_eq, nat_lt, if◌then◌else◌, List, [], ◌++◌, codes, decimal}
use Rattle.ds_checker.specs.declared.headroom.Headroom.{Headroom}
use Rattle.ds_checker.specs.declared.headroom.Utilization.{Utilization}

-- a name as DOT wants it: in quotes, since it may begin with a digit or hold a dash
unfoldable pub quoted : List ℕ → List ℕ
quoted name = codes "\"" ++ name ++ codes "\""

-- of a bar of 100 the whole part that is full; all of it where no less is taken than there is
unfoldable pub full_of : Utilization → ℕ
full_of u = if nat_lt u.taken u.available then min (u.taken * 100) (2 ^ 128 - 1) / u.available else 100

-- a part of a bar; nothing where it has no width
unfoldable pub part_text : List ℕ → ℕ → List ℕ
part_text colour width =
    if nat_eq width 0 then [] else
    codes "<td fixedsize=\"true\" height=\"8\" bgcolor=\"" ++ colour ++ codes "\" width=\"" ++ decimal width ++ codes "\"></td>"

-- red where the checker refuses
unfoldable pub bar_colour : List ℕ → Utilization → List ℕ
bar_colour colour u = if nat_lt u.available u.taken then codes "#d62728" else colour

-- what is full, and then what is empty
unfoldable pub bar_text : List ℕ → Utilization → List ℕ
bar_text colour u =
    codes "<td><table border=\"1\" color=\"#999999\" cellborder=\"0\" cellspacing=\"0\" cellpadding=\"0\"><tr>"
    ++ part_text (bar_colour colour u) (full_of u) ++ part_text (codes "#ffffff") (100 - full_of u)
    ++ codes "</tr></table></td>"

-- a test: what it is of, its bar of a colour, and TAKEN of AVAILABLE with a unit
unfoldable pub row_text : List ℕ → List ℕ → List ℕ → Utilization → List ℕ
row_text label colour unit u =
    codes "<tr><td align=\"left\">" ++ label ++ codes "</td>" ++ bar_text colour u
    ++ codes "<td align=\"right\">" ++ decimal u.taken ++ codes " of " ++ decimal u.available ++ unit
    ++ codes "</td></tr>\n"

-- the four tests, in their order: those of green packets in green, and those of green and yellow ones in yellow
unfoldable pub rows_text : Headroom → List ℕ
rows_text h =
    row_text (codes "green rate") (codes "#59a14f") (codes " bit/s") h.green_rate
    ++ row_text (codes "green burst") (codes "#59a14f") (codes " bytes") h.green_burst
    ++ row_text (codes "all rate") (codes "#e0b000") (codes " bit/s") h.all_rate
    ++ row_text (codes "all burst") (codes "#e0b000") (codes " bytes") h.all_burst

-- a meter is a node that has its name and its rows
unfoldable pub meter_text : List ℕ → Headroom → List ℕ
meter_text name h =
    quoted name
    ++ codes " [label=<<table border=\"1\" color=\"#666666\" cellborder=\"0\" cellspacing=\"2\" cellpadding=\"2\">\n"
    ++ codes "<tr><td colspan=\"3\"><b>" ++ name ++ codes "</b></td></tr>\n"
    ++ rows_text h ++ codes "</table>>];\n"
